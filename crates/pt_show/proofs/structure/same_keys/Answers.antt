use Rattle.pt_show.proofs.Same.{ended}
use Rattle.pt_show.proofs.structure.same_keys.Goals as goal

pub returns : goal.returns
returns c = ended c.args.wanted c.args.a.now c.args.b.now c.loop-key.key-index c.loop-key.at c.next_key.result c.loop-key-test.false c.next_key.ensures.same c.next_key.ensures.found c.loop-key.invariant
