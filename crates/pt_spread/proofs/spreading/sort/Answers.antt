use Rattle.std.proofs.Common.{rules, is_lt}
use Rattle.std.specs.Cmp.{nat_cmp_total, on_total}
use Rattle.std.specs.Ordering.{nat_cmp}
use Rattle.std.proofs.lemmas.Result.{on_ok_weaker}
use Rattle.std.proofs.lemmas.List.Sorted.{ranks_by}
use Rattle.std.proofs.lemmas.Fn.{always_returns_same}
use Rattle.pt_ast.specs.declared.database.Row.{Row}
use Rattle.pt_checks.proofs.Sorting.{sorted_once}
use Rattle.pt_spread.proofs.spreading.sort.Goals as goal

pub returns : goal.returns
returns c =
    let order = λ (a b : Row). nat_cmp a.serial b.serial in
    let total = on_total (λ (row : Row). row.serial) nat_cmp_total in
    let lt = λ (a b : Row). is_lt (nat_cmp a.serial b.serial) in
    on_ok_weaker c.sort_by.result
    (λ sorted. sorted_once order total _ _ (sorted lt (ranks_by total (λ x. x)) (always_returns_same _ _ _ (λ a r f k. search rules))) (c.sort_by.ensures.stable lt (ranks_by total (λ x. x)) (always_returns_same _ _ _ (λ a r f k. search rules))))
    c.sort_by.ensures.sorted
