use Rattle.std.proofs.Common.{◌≡◌, rules}
use Rattle.std.specs.Prelude.{Some}
use Rattle.pt_ast.specs.StorableDef.{IsStorableDef}
use Rattle.pt_place.specs.Valid.{IsValid}
use Rattle.pt_written.specs.Complete.{bad_spec, partitioned}
use Rattle.pt_actions.specs.Repartitioned.{repartitioned_of}
use Rattle.pt_actions.proofs.Made.{made_has, repartitioned_storable, repartitioned_valid}
use Rattle.pt_actions.proofs.repartitioning.repartitioned.Goals as goal

pub returns-clause-storable : goal.returns-clause-storable
returns-clause-storable c =
    let def = c.args.def.now in
    let is : c.in_ok-made.made ≡ repartitioned_of c.args.table.now c.args.spec.now def = search rules in
    made_has IsStorableDef c.in_ok-made.made (bad_spec c.args.table.now def.columns def.keys c.args.spec.now) (partitioned def.columns def.keys (Some c.args.spec.now)) is
    (λ none. repartitioned_storable def c.requires.valid c.args.table.now c.args.spec.now c.requires.spec none c.requires.storable)

pub returns-clause-valid : goal.returns-clause-valid
returns-clause-valid c =
    let def = c.args.def.now in
    let is : c.in_ok-made.made ≡ repartitioned_of c.args.table.now c.args.spec.now def = search rules in
    made_has IsValid c.in_ok-made.made (bad_spec c.args.table.now def.columns def.keys c.args.spec.now) (partitioned def.columns def.keys (Some c.args.spec.now)) is
    (λ none. repartitioned_valid def c.requires.valid c.args.table.now c.args.spec.now c.requires.spec none)
