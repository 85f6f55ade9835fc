use Rattle.std.proofs.Common.{sym, arith}
use Rattle.pt_token.proofs.Loops.{text_found, text_more, text_closed, text_open}
use Rattle.pt_token.proofs.quoting.text_end.Goals as goal

pub returns-then-ends-clause-value : goal.returns-then-ends-clause-value
returns-then-ends-clause-value c = sym (text_found _ c.args.mark c.loop-i.at c.args.bytes.now c.loop-i.i c.loop-i-test.true c.loop-i.invariant.value (cc))

pub loop-i-preserved : goal.loop-i-preserved
loop-i-preserved c = record {
  value = rw c.behind_byte-at.ensures (text_more _ c.args.mark c.loop-i.at c.args.bytes.now c.loop-i.i c.loop-i-test.true c.loop-i.invariant.value (cc));
  some = λ _. omega arith;
}

pub returns-then-is_marked-clause-value : goal.returns-then-is_marked-clause-value
returns-then-is_marked-clause-value c = sym (text_closed _ c.args.mark c.loop-i.at c.args.bytes.now c.loop-i.i (omega arith) (omega arith) c.loop-i.invariant.value (cc))

pub returns-else-is_marked-clause-value : goal.returns-else-is_marked-clause-value
returns-else-is_marked-clause-value c = sym (text_open _ c.args.mark c.loop-i.at c.args.bytes.now c.loop-i.i (omega arith) c.loop-i.invariant.value (cc))
