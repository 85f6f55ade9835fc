-- A condition may hold where its node does.
use Rattle.std.proofs.Common.{◌≡◌, ℕ, Bool, List, map, sym, ap, ◌∙◌}
use Rattle.std.specs.List.{list_all, list_any}
use Rattle.std.specs.declared.cmp.Ordering.{Ordering}
use Rattle.pt_value.specs.declared.value.Value.{Value}
use Rattle.pt_value.specs.declared.value.Value.TheVariants.{Null}
use Rattle.pt_ast.specs.declared.table.Column.{Column}
use Rattle.pt_ast.specs.declared.tree.Cmp.{Cmp}
use Rattle.pt_ast.specs.declared.tree.Expr.{Expr}
use Rattle.pt_ast.specs.declared.tree.Cond.{Cond}
use Rattle.pt_ast.specs.declared.tree.Cond.TheOpen.{Cond-F}
use Rattle.pt_ast.specs.declared.tree.Cond.TheVariants as tree
use Rattle.pt_ast.specs.declared.tree.Cond.TheVariants.{rolls-And, rolls-Between, rolls-Compare, rolls-In, rolls-IsNull, rolls-Or}
use Rattle.pt_ast.specs.declared.tree.Cond.TheFolds.{fold-roll-Cond}
use Rattle.pt_expr.specs.Truths.{among_truth, between_truth, compare_truth, is_null, negated, truth_of}
use Rattle.pt_expr.specs.Values.{value}
use Rattle.pt_reach.specs.declared.reach.Reach.{Reach}
use Rattle.pt_reach.specs.May.{if_atom, is_between_constants, is_column, is_comparison, is_in_constants, may, may_step, row_at}
use Rattle.pt_reach.specs.Reaching.{IsReach}

module _ {T : Type 0} {order : T → T → Ordering} {is_value : T → Bool} {value_of : T → Value} (columns : List Column) (c : ℕ) (cond : Cond) (reach : Reach T) where
  carried : (test : Value → Bool) → ((w : Value) → may columns c w cond ≡ test w) → IsReach order is_value value_of reach test → IsReach order is_value value_of reach (λ w. may columns c w cond)
  carried test same is = record { null = is.null ∙ sym (same Null); others = λ v value_v. is.others v value_v ∙ sym (same (value_of v)) }

  pub or_reach : (parts : List Cond) → cond ≡ tree.Or parts → IsReach order is_value value_of reach (λ w. list_any (λ part. part) (map (may columns c w) parts)) → IsReach order is_value value_of reach (λ w. may columns c w cond)
  or_reach parts is = carried _ (λ w. ap (may columns c w) is ∙ ap (may columns c w) (sym (rolls-Or parts)) ∙ fold-roll-Cond Bool (may_step columns c w) (Cond-F.Or parts))

  pub and_reach : (parts : List Cond) → cond ≡ tree.And parts → IsReach order is_value value_of reach (λ w. list_all (λ part. part) (map (may columns c w) parts)) → IsReach order is_value value_of reach (λ w. may columns c w cond)
  and_reach parts is = carried _ (λ w. ap (may columns c w) is ∙ ap (may columns c w) (sym (rolls-And parts)) ∙ fold-roll-Cond Bool (may_step columns c w) (Cond-F.And parts))

  pub compare_reach : (sign : Cmp) (left right : Expr) → cond ≡ tree.Compare sign left right
      → IsReach order is_value value_of reach (λ w. if_atom (is_comparison columns c left right) (compare_truth columns (row_at c w) sign left right)) → IsReach order is_value value_of reach (λ w. may columns c w cond)
  compare_reach sign left right is = carried _ (λ w. ap (may columns c w) is ∙ ap (may columns c w) (sym (rolls-Compare sign left right)) ∙ fold-roll-Cond Bool (may_step columns c w) (Cond-F.Compare sign left right))

  pub is_null_reach : (is_not : Bool) (expr : Expr) → cond ≡ tree.IsNull is_not expr
      → IsReach order is_value value_of reach (λ w. if_atom (is_column columns c expr) (negated is_not (truth_of (is_null (value columns (row_at c w) expr))))) → IsReach order is_value value_of reach (λ w. may columns c w cond)
  is_null_reach is_not expr is = carried _ (λ w. ap (may columns c w) is ∙ ap (may columns c w) (sym (rolls-IsNull is_not expr)) ∙ fold-roll-Cond Bool (may_step columns c w) (Cond-F.IsNull is_not expr))

  pub in_reach : (is_not : Bool) (expr : Expr) (list : List Expr) → cond ≡ tree.In is_not expr list
      → IsReach order is_value value_of reach (λ w. if_atom (is_in_constants columns c expr list) (negated is_not (among_truth columns (row_at c w) expr list))) → IsReach order is_value value_of reach (λ w. may columns c w cond)
  in_reach is_not expr list is = carried _ (λ w. ap (may columns c w) is ∙ ap (may columns c w) (sym (rolls-In is_not expr list)) ∙ fold-roll-Cond Bool (may_step columns c w) (Cond-F.In is_not expr list))

  pub between_reach : (is_not : Bool) (expr low high : Expr) → cond ≡ tree.Between is_not expr low high
      → IsReach order is_value value_of reach (λ w. if_atom (is_between_constants columns c expr low high) (negated is_not (between_truth columns (row_at c w) expr low high))) → IsReach order is_value value_of reach (λ w. may columns c w cond)
  between_reach is_not expr low high is = carried _ (λ w. ap (may columns c w) is ∙ ap (may columns c w) (sym (rolls-Between is_not expr low high)) ∙ fold-roll-Cond Bool (may_step columns c w) (Cond-F.Between is_not expr low high))
