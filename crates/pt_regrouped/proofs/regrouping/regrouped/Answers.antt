use Rattle.std.proofs.Common.{◌∙◌, sym}
use Rattle.pt_regrouped.proofs.Made.{regrouped_storable, regrouped_valid}
use Rattle.pt_regrouped.proofs.regrouping.regrouped.Goals as goal

pub returns-in-Ok-Ok-clause-storable : goal.returns-in-Ok-Ok-clause-storable
returns-in-Ok-Ok-clause-storable c =
    regrouped_storable c.args.table.now c.args.items.now c.args.def.now c.in-Ok-Ok.made c.requires.items c.requires.storable c.requires.valid c.args.names.now (sym c.in-Ok-Ok.field-0-is ∙ c.in-Ok-Ok.ensures)

pub returns-in-Ok-Ok-clause-valid : goal.returns-in-Ok-Ok-clause-valid
returns-in-Ok-Ok-clause-valid c =
    regrouped_valid c.args.table.now c.args.items.now c.args.def.now c.in-Ok-Ok.made c.requires.items c.requires.storable c.requires.valid c.args.names.now (sym c.in-Ok-Ok.field-0-is ∙ c.in-Ok-Ok.ensures)
