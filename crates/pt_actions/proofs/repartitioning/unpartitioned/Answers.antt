use Rattle.std.specs.Prelude.{None}
use Rattle.pt_place.specs.Valid.{IsValid}
use Rattle.pt_written.specs.Complete.{partitioned}
use Rattle.pt_actions.specs.Named.{not_partitioned}
use Rattle.pt_actions.proofs.Made.{made_has, unpartitioned_valid}
use Rattle.pt_actions.proofs.repartitioning.unpartitioned.Goals as goal

pub returns-clause-valid : goal.returns-clause-valid
returns-clause-valid c =
    let def = c.args.def.now in
    made_has IsValid c.in_ok-made.made (not_partitioned c.args.table.now def.by) (partitioned def.columns def.keys None) c.in_ok-made.ensures (λ none. unpartitioned_valid def c.requires.valid)
