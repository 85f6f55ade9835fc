use Rattle.std.proofs.Common.{◌≡◌, ◌+◌, ◌*◌, ◌-◌}
use Rattle.pt_defs.specs.Reading.{expr_at, flag_at, many, op_at, pair_at}
use Rattle.pt_defs.specs.Given.{with_front}
use Rattle.pt_defs.proofs.get_expr.+expr_at.Given as goal

abbrev pub decreases-expr_at : goal.decreases-expr_at
decreases-expr_at l = 6 * l.room

abbrev pub decreases-term_at : goal.decreases-term_at
decreases-term_at l = 6 * l.room + 1

abbrev pub decreases-factor_at : goal.decreases-factor_at
decreases-factor_at l = 6 * l.room + 1

abbrev pub decreases-more_terms : goal.decreases-more_terms
decreases-more_terms l = 6 * l.room + 2

abbrev pub decreases-so_many_factors : goal.decreases-so_many_factors
decreases-so_many_factors l = 6 * l.room + 2

abbrev pub decreases-terms_at : goal.decreases-terms_at
decreases-terms_at l = 6 * l.room + 3

abbrev pub decreases-factors_at : goal.decreases-factors_at
decreases-factors_at l = 6 * l.room + 3

abbrev pub decreases-product_at : goal.decreases-product_at
decreases-product_at l = 6 * l.room + 4

abbrev pub decreases-call_at : goal.decreases-call_at
decreases-call_at l = 6 * l.room + 4

abbrev pub decreases-node_behind : goal.decreases-node_behind
decreases-node_behind l = 6 * l.room + 5

abbrev pub invariant-so_many_factors-loop : goal.invariant-so_many_factors-loop
invariant-so_many_factors-loop l = with_front l.items (many (pair_at op_at (expr_at l.columns l.room)) (l.count - l.counter) l.rest) ≡ many (pair_at op_at (expr_at l.columns l.room)) l.count l.bytes

abbrev pub invariant-more_terms-loop : goal.invariant-more_terms-loop
invariant-more_terms-loop l = with_front l.items (many (pair_at flag_at (expr_at l.columns l.room)) (l.count - l.counter) l.rest) ≡ with_front l.fn.first (many (pair_at flag_at (expr_at l.columns l.room)) l.count l.bytes)
