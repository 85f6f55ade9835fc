use Rattle.std.proofs.Common.{sym, ◌∙◌}
use Rattle.pt_show.proofs.Same.{other_rank, no_key, other_key, equal_key}
use Rattle.pt_show.proofs.structure.behind_equal.Goals as goal

pub returns-then-rank_code-clause-some : goal.returns-then-rank_code-clause-some
returns-then-rank_code-clause-some c = other_rank c.args.wanted c.args.key.now c.args.b.now c.args.at (λ e. c.if-rank_code.true (c.rank_code.ensures ∙ e ∙ sym c.rank_code-2.ensures))

pub returns-then-next-b-clause-none : goal.returns-then-next-b-clause-none
returns-then-next-b-clause-none c =
    no_key c.args.wanted c.args.key.now c.args.b.now c.args.at (sym c.rank_code.ensures ∙ c.if-rank_code.false ∙ c.rank_code-2.ensures) c.next_key-next.result c.next_key-next.ensures.same c.if-next-b.true

pub returns-then-not-same_numbers-clause-none : goal.returns-then-not-same_numbers-clause-none
returns-then-not-same_numbers-clause-none c =
    other_key c.args.wanted c.args.key.now c.args.b.now c.args.at (sym c.rank_code.ensures ∙ c.if-rank_code.false ∙ c.rank_code-2.ensures) c.next_key-next.result c.next_key-next.ensures.same
    c.index-b-next.result c.if-next-b.false (c.next_key-next.ensures.found c.index-b-next.result c.if-next-b.false) (sym c.same_numbers.ensures ∙ c.if-not-same_numbers.true)

pub returns-clause-some : goal.returns-clause-some
returns-clause-some c =
    equal_key c.args.wanted c.args.key.now c.args.b.now c.args.at (sym c.rank_code.ensures ∙ c.if-rank_code.false ∙ c.rank_code-2.ensures) c.next_key-next.result c.next_key-next.ensures.same
    c.index-b-next.result c.if-next-b.false (c.next_key-next.ensures.found c.index-b-next.result c.if-next-b.false) (sym c.same_numbers.ensures ∙ c.if-not-same_numbers.false)
