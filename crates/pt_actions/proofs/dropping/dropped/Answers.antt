use Rattle.pt_ast.specs.StorableDef.{IsStorableDef}
use Rattle.pt_place.specs.Valid.{IsValid}
use Rattle.pt_actions.specs.Dropped.{bad_dropped, parts_left}
use Rattle.pt_actions.specs.Named.{with_parts}
use Rattle.pt_actions.proofs.Made.{dropped_storable, dropped_valid, made_has}
use Rattle.pt_actions.proofs.dropping.dropped.Goals as goal

pub returns-clause-storable : goal.returns-clause-storable
returns-clause-storable c =
    let def = c.args.def.now in
    let names = c.args.names.now in
    made_has IsStorableDef c.in_ok-made.made (bad_dropped c.args.table.now names def) (with_parts def (parts_left names def.parts)) c.in_ok-made.ensures
    (λ none. dropped_storable c.args.table.now names def none c.requires.storable)

pub returns-clause-valid : goal.returns-clause-valid
returns-clause-valid c =
    let def = c.args.def.now in
    let names = c.args.names.now in
    made_has IsValid c.in_ok-made.made (bad_dropped c.args.table.now names def) (with_parts def (parts_left names def.parts)) c.in_ok-made.ensures
    (λ none. dropped_valid c.args.table.now names def none c.requires.valid)
