use Rattle.std.proofs.Common.{IsTrue}
use Rattle.std.proofs.lemmas.List.Elements.{All-more}
use Rattle.pt_token.specs.Bytes.{is_in}
use Rattle.pt_token.proofs.Loops.{front_more}
use Rattle.pt_token.proofs.bytes.front.Goals as goal

pub loop-i-preserved : goal.loop-i-preserved
loop-i-preserved c = record {
  front = front_more (is_in c.args.class) c.args.bytes.now c.loop-i.i c.loop-i-test.true c.loop-i.invariant.front (cc);
  each = All-more (λ b. IsTrue (is_in c.args.class b)) c.args.bytes.now c.loop-i.i 0 c.loop-i-test.true c.loop-i.invariant.each (cc);
}
