use Rattle.std.proofs.Common.{◌≡◌, drop}
use Rattle.pt_token.specs.Machine.{closing}
use Rattle.pt_token.proofs.Loops.{moved}
use Rattle.pt_token.proofs.comment.closing.Given as goal

abbrev pub invariant-loop-i : goal.invariant-loop-i
invariant-loop-i l = closing l.fn.state l.bytes ≡ moved l.i (closing l.state (drop l.i l.bytes))
