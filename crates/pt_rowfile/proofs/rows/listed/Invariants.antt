use Rattle.std.proofs.Common.{◌≡◌, ◌++◌, length}
use Rattle.pt_rowfile.specs.Kept.{rows_in}
use Rattle.pt_rowfile.proofs.rows.listed.Given as goal

abbrev pub invariant-loop-serial : goal.invariant-loop-serial
invariant-loop-serial l = l.list ++ rows_in l.rest.entries ≡ rows_in l.initial.rest.entries

abbrev pub decreases-loop-serial : goal.decreases-loop-serial
decreases-loop-serial l = length l.rest.entries
