use Rattle.std.proofs.Common.{rules, is_lt}
use Rattle.std.proofs.lemmas.Result.{on_ok_weaker}
use Rattle.std.proofs.lemmas.List.Sorted.{ranks_by}
use Rattle.std.proofs.lemmas.Fn.{always_returns_same}
use Rattle.pt_ast.specs.declared.database.Row.{Row}
use Rattle.pt_checks.specs.Wanted.{row_cmp}
use Rattle.pt_checks.proofs.Orders.{row_total}
use Rattle.pt_checks.proofs.Sorting.{sorted_once}
use Rattle.pt_checks.proofs.arranging.sort.Goals as goal

pub returns : goal.returns
returns c =
    let order = row_cmp c.args.order.now in
    let total = row_total c.args.order.now in
    let lt = λ (a b : Row). is_lt (order a b) in
    on_ok_weaker c.sort_by.result
    (λ sorted. sorted_once order total _ _ (sorted lt (ranks_by total (λ x. x)) (always_returns_same _ _ _ (λ a r f k. search rules))) (c.sort_by.ensures.stable lt (ranks_by total (λ x. x)) (always_returns_same _ _ _ (λ a r f k. search rules))))
    c.sort_by.ensures.sorted
