use Rattle.std.proofs.Common.{◌≡◌}
use Rattle.pt_holds.proofs.batch.listed.Given as goal

abbrev pub invariant-loop-name : goal.invariant-loop-name
invariant-loop-name l = l.files ≡ l.yielded
