use Rattle.std.proofs.Common.{◌∙◌, sym}
use Rattle.pt_regrouped.proofs.Made.{added_storable, added_valid}
use Rattle.pt_regrouped.proofs.adding.added.Goals as goal

pub returns-in-Ok-Ok-clause-storable : goal.returns-in-Ok-Ok-clause-storable
returns-in-Ok-Ok-clause-storable c =
    added_storable c.args.table.now c.args.items.now c.args.def.now c.in-Ok-Ok.made c.requires.items c.requires.storable c.requires.valid (sym c.in-Ok-Ok.field-0-is ∙ c.in-Ok-Ok.ensures)

pub returns-in-Ok-Ok-clause-valid : goal.returns-in-Ok-Ok-clause-valid
returns-in-Ok-Ok-clause-valid c =
    added_valid c.args.table.now c.args.items.now c.args.def.now c.in-Ok-Ok.made c.requires.items c.requires.storable c.requires.valid (sym c.in-Ok-Ok.field-0-is ∙ c.in-Ok-Ok.ensures)
