use Rattle.std.proofs.Common.{◌≡◌, map}
use Rattle.std.specs.List.{range_with_len}
use Rattle.pt_gen.specs.Script.{values}
use Rattle.pt_gen.proofs.rows.rows_of.Given as goal

abbrev pub invariant-loop-at : goal.invariant-loop-at
invariant-loop-at l = l.rows ≡ map values (range_with_len l.first l.at)
