use Rattle.pt_ast.specs.StorableDef.{IsStorableDef}
use Rattle.pt_place.specs.Valid.{IsValid}
use Rattle.pt_actions.specs.Counted.{bad_more, parts_more}
use Rattle.pt_actions.specs.Named.{with_parts}
use Rattle.pt_actions.proofs.Made.{made_has}
use Rattle.pt_actions.proofs.More.{more_storable, more_valid}
use Rattle.pt_actions.proofs.numbering.with_more.Goals as goal

pub returns-clause-storable : goal.returns-clause-storable
returns-clause-storable c =
    let def = c.args.def.now in
    made_has IsStorableDef c.in_ok-made.made (bad_more c.args.table.now c.args.more def) (with_parts def (parts_more c.args.more def.parts)) c.in_ok-made.ensures
    (λ none. more_storable def c.requires.valid c.requires.storable c.args.table.now c.args.more none)

pub returns-clause-valid : goal.returns-clause-valid
returns-clause-valid c =
    let def = c.args.def.now in
    made_has IsValid c.in_ok-made.made (bad_more c.args.table.now c.args.more def) (with_parts def (parts_more c.args.more def.parts)) c.in_ok-made.ensures
    (λ none. more_valid def c.requires.valid c.requires.storable c.args.table.now c.args.more none)
