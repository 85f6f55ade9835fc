use Rattle.pt_ast.specs.StorableDef.{IsStorableDef}
use Rattle.pt_place.specs.Valid.{IsValid}
use Rattle.pt_actions.specs.Counted.{bad_fewer, parts_fewer}
use Rattle.pt_actions.specs.Named.{with_parts}
use Rattle.pt_actions.proofs.Made.{coalesced_storable, coalesced_valid, made_has}
use Rattle.pt_actions.proofs.counting.coalesced.Goals as goal

pub returns-clause-storable : goal.returns-clause-storable
returns-clause-storable c =
    let def = c.args.def.now in
    made_has IsStorableDef c.in_ok-made.made (bad_fewer c.args.table.now c.args.fewer def) (with_parts def (parts_fewer c.args.fewer def.parts)) c.in_ok-made.ensures
    (λ none. coalesced_storable c.args.table.now c.args.fewer def none c.requires.storable)

pub returns-clause-valid : goal.returns-clause-valid
returns-clause-valid c =
    let def = c.args.def.now in
    made_has IsValid c.in_ok-made.made (bad_fewer c.args.table.now c.args.fewer def) (with_parts def (parts_fewer c.args.fewer def.parts)) c.in_ok-made.ensures
    (λ none. coalesced_valid c.args.table.now c.args.fewer def none c.requires.valid)
