use Rattle.std.proofs.Common.{arith}
use Rattle.pt_file_cases.proofs.allowed.may_be_done.Goals as goal

pub returns : goal.returns
returns c = λ yes. record {
  few = omega arith;
  fit = c.are_fit.ensures c.if-not-are_fit.false;
  given = c.are_given.ensures c.if-not-are_given.false;
  free = c.are_free.ensures.0 c.if-not-are_free.false;
  short = c.are_short.ensures.0 yes;
}
