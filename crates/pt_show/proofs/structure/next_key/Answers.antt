use Rattle.std.proofs.Common.{sym, ◌∙◌}
use Rattle.pt_show.proofs.Same.{passed}
use Rattle.pt_show.proofs.structure.next_key.Goals as goal

pub loop-next-preserved : goal.loop-next-preserved
loop-next-preserved c =
    passed c.args.wanted c.args.b.now c.args.at c.loop-next.next c.index-b-next.result c.loop-next-test.true (λ e. c.if-rank_code.true (c.rank_code.ensures ∙ e ∙ sym c.rank_code-in-loop-next.ensures))
    c.loop-next.invariant
