use Rattle.std.proofs.Common.{◌≡◌, ◌++◌, take, map}
use Rattle.std.specs.List.{flat_map}
use Rattle.pt_defs.specs.Spelling.{expr_text, factor_text, term_text}
use Rattle.pt_defs.proofs.put_expr.+put_expr.Given as goal

abbrev pub invariant-put_terms-loop-minus : goal.invariant-put_terms-loop-minus
invariant-put_terms-loop-minus l = l.out.items ≡ l.initial.out.items ++ flat_map term_text (map (λ part. (part.0, expr_text l.columns part.1)) (take l.minus-index l.items))

abbrev pub invariant-put_factors-loop-op : goal.invariant-put_factors-loop-op
invariant-put_factors-loop-op l = l.out.items ≡ l.initial.out.items ++ flat_map factor_text (map (λ part. (part.0, expr_text l.columns part.1)) (take l.op-index l.items))
