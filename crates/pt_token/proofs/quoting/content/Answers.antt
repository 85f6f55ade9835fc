use Rattle.std.proofs.Common.{sym, arith}
use Rattle.pt_token.proofs.Loops.{content_more, content_end}
use Rattle.pt_token.proofs.quoting.content.Goals as goal

pub loop-b-preserved : goal.loop-b-preserved
loop-b-preserved c = rw c.behind_byte-at.ensures (content_more _ c.loop-b.text _ c.args.mark c.loop-b.at c.args.bytes.now c.loop-b.b-index c.loop-b-test.true c.loop-b.invariant c.in_ok-add.ensures)

pub returns : goal.returns
returns c = sym (content_end _ c.loop-b.text c.args.mark c.loop-b.at c.args.bytes.now c.loop-b.b-index (omega arith) c.loop-b.invariant)
