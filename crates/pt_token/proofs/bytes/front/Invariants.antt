use Rattle.std.proofs.Common.{take, All, IsTrue}
use Rattle.pt_token.specs.Bytes.{is_in}
use Rattle.pt_token.proofs.Loops.{IsFront}
use Rattle.pt_token.proofs.bytes.front.Given as goal

abbrev pub invariant-loop-i : goal.invariant-loop-i
invariant-loop-i l = record {
  front : IsFront (is_in l.class) l.bytes l.i;
  each : All (λ b. IsTrue (is_in l.class b)) (take l.i l.bytes);
}
