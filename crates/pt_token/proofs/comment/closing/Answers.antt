use Rattle.std.proofs.Common.{sym, arith}
use Rattle.pt_token.proofs.Loops.{closing_found, closing_more, closing_end}
use Rattle.pt_token.proofs.comment.closing.Goals as goal

pub returns-then-is_plain-clause-value : goal.returns-then-is_plain-clause-value
returns-then-is_plain-clause-value c = sym (closing_found _ c.loop-i.state c.args.bytes.now c.loop-i.i c.loop-i-test.true c.loop-i.invariant cc)

pub loop-i-preserved : goal.loop-i-preserved
loop-i-preserved c = rw c.step-state.ensures (closing_more _ c.loop-i.state c.args.bytes.now c.loop-i.i c.loop-i-test.true c.loop-i.invariant cc)

pub returns-clause-value : goal.returns-clause-value
returns-clause-value c = sym (closing_end _ c.loop-i.state c.args.bytes.now c.loop-i.i (omega arith) c.loop-i.invariant)
