use Rattle.std.proofs.Common.{◌≡◌}
use Rattle.pt_store.proofs.contents.listed.Given as goal

abbrev pub invariant-loop-name : goal.invariant-loop-name
invariant-loop-name l = l.files ≡ l.yielded
