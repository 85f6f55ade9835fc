use Rattle.std.proofs.Common.{rules}
use Rattle.std.specs.Cmp.Lexicographic.{slice_cmp}
use Rattle.std.specs.Ordering.{nat_cmp, is_lt}
use Rattle.std.proofs.lemmas.List.Sorted.{answers_always}
use Rattle.pt_plain.proofs.Neighbours.{rising_by}
use Rattle.pt_store.proofs.parse.are_rising.Goals as goal

pub returns : goal.returns
returns c = rising_by (λ e. e.name) c.args.entries.now c.is_sorted_by.result (c.is_sorted_by.ensures.cases (λ x y. is_lt (slice_cmp nat_cmp x.name y.name)) (answers_always _ _ _ (λ f a r g called. search rules)))
