-- What passes the checks of a query is well typed.
use Rattle.std.proofs.Common.{◌≡◌, ℕ, false, List, [], ◌∷◌, Option, Some, None, Result, Ok, Err, IsOk, IfSome, refl, sym}
use Rattle.std.specs.Prelude.{IfNone}
use Rattle.std.proofs.lemmas.List.Elements.{All-nil, All-cons}
use Rattle.pt_ast.specs.declared.tree.Expr.{Expr}
use Rattle.pt_ast.specs.declared.tree.Cond.{Cond}
use Rattle.pt_ast.specs.declared.table.Column.{Column}
use Rattle.pt_ast.specs.declared.table.TableDef.{TableDef}
use Rattle.pt_ast.specs.declared.statement.Query.{Query}
use Rattle.pt_ast.specs.declared.refusal.Arg.{Arg}
use Rattle.pt_ast.specs.declared.refusal.Refusal.{Refusal}
use Rattle.pt_expr.specs.declared.kind.CheckFault.{CheckFault}
use Rattle.pt_expr.specs.Found.{checked}
use Rattle.pt_place.specs.First.{first_in}
use Rattle.pt_place.proofs.Firsts.{none_first, none_next}
use Rattle.pt_checks.specs.Faults.{of_finding}
use Rattle.pt_checks.specs.Queries.{AreChecked, IsChecked, IsCheckedCond, bad_cond, bad_item, bad_items, bad_query, bad_tail}

without_fault : {A : Type 0} (arg : Arg) (r : Result A CheckFault) → of_finding arg r ≡ None → IsOk r
without_fault arg (Ok found) e = refl
without_fault arg (Err fault) e = cc

exprs_checked : (table : List ℕ) (columns : List Column) (exprs : List Expr) → first_in (bad_item table columns) exprs ≡ None → AreChecked columns exprs
exprs_checked table columns [] e = All-nil (λ expr. IsOk (checked columns expr false))
exprs_checked table columns (expr ∷ exprs) e =
    All-cons (λ own. IsOk (checked columns own false)) expr exprs (without_fault _ _ (none_first _ _ e)) (exprs_checked table columns exprs (none_next _ _ e))

items_checked : (table : List ℕ) (columns : List Column) (items : Option (List Expr)) → bad_items table columns items ≡ None → IfSome items (AreChecked columns)
items_checked table columns (Some exprs) e = exprs_checked table columns exprs e
items_checked table columns None e = tt

pub cond_checked : (table : List ℕ) (columns : List Column) (cond : Option Cond) → bad_cond table columns cond ≡ None → IsCheckedCond columns cond
cond_checked table columns (Some cond) e = without_fault _ _ e
cond_checked table columns None e = tt

passed : (def : TableDef) (query : Query) → bad_query def query ≡ None → IsChecked def query
passed def query e =
    let tail = none_first (bad_tail def query.table query.tail) None (none_next (bad_items query.table def.columns query.items) _ e) in (
      items_checked query.table def.columns query.items (none_first _ _ e),
      cond_checked query.table def.columns query.tail.cond (none_first _ _ tail),
    )

pub query_checked : (def : TableDef) (query : Query) (r : Option Refusal) → r ≡ bad_query def query → IfNone r (IsChecked def query)
query_checked def query (Some refusal) e = tt
query_checked def query None e = passed def query (sym e)
