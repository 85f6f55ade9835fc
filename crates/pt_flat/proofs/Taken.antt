-- The rows that SELECT takes are rows of the table.
use Rattle.std.proofs.Common.{◌≡◌, ℕ, Bool, true, false, cond, List, [], ◌∷◌, Option, Some, None, ℤ, unsigned_abs, Ordering}
use Rattle.std.specs.List.{All, filter}
use Rattle.std.specs.Ordering.{is_gt}
use Rattle.std.proofs.lemmas.List.Elements.{All-cons, All-filter, All-head, All-tail, All-take, All-weaker}
use Rattle.pt_ast.specs.declared.database.Db.{Db}
use Rattle.pt_ast.specs.declared.database.Row.{Row}
use Rattle.pt_ast.specs.declared.database.Table.{Table}
use Rattle.pt_ast.specs.declared.table.TableDef.{TableDef}
use Rattle.pt_ast.specs.declared.statement.Tail.{Tail}
use Rattle.pt_expr.specs.Columns.{AreFitting}
use Rattle.pt_checks.specs.Ordered.{in_order, put_in}
use Rattle.pt_checks.specs.Wanted.{candidates, cut, is_wanted, order_of, row_cmp}
use Rattle.pt_db.specs.Lookup.{table_of}
use Rattle.pt_db.specs.Sound.{IsSound, IsSoundRow}
use Rattle.pt_db.proofs.Sounds.{sound_table}

pub rows_fit : (db : Db) (name : List ℕ) (table : Table) → IsSound db → table_of db name ≡ Some table → All (λ (row : Row). AreFitting table.def.columns row.cells) table.rows
rows_fit db name table sound at =
    All-weaker (IsSoundRow db.next table.def) (λ (row : Row). AreFitting table.def.columns row.cells) (λ row s. s.fits) table.rows (sound_table db sound name table at).rows.each

module _ {X : Type 0} (P : X → Type 0) where
  put_all : (cmp : X → X → Ordering) (x : X) (ys : List X) → P x → All P ys → All P (put_in cmp x ys)
  put_all cmp x [] here all = All-cons P x [] here all
  put_all cmp x (y ∷ ys) here all = by_test (is_gt (cmp x y)) (put_all cmp x ys here (All-tail P y ys all))
    where
      by_test : (t : Bool) → All P (put_in cmp x ys) → All P (cond t (y ∷ put_in cmp x ys) (x ∷ y ∷ ys))
      by_test true rest = All-cons P y (put_in cmp x ys) (All-head P y ys all) rest
      by_test false rest = All-cons P x (y ∷ ys) here all

  ordered_all : (cmp : X → X → Ordering) (xs : List X) → All P xs → All P (in_order cmp xs)
  ordered_all cmp [] all = all
  ordered_all cmp (x ∷ xs) all = put_all cmp x (in_order cmp xs) (All-head P x xs all) (ordered_all cmp xs (All-tail P x xs all))

  cut_all : (limit : Option ℤ) (xs : List X) → All P xs → All P (cut limit xs)
  cut_all None xs all = all
  cut_all (Some most) xs all = All-take P (unsigned_abs most) xs all

pub candidates_all : (P : Row → Type 0) (def : TableDef) (parts : Option (List (List ℕ))) (tail : Tail) (rows : List Row) → All P rows → All P (candidates def parts tail rows)
candidates_all P def parts tail rows all =
    cut_all P tail.limit (in_order (row_cmp (order_of def.columns tail.order)) (filter (is_wanted def parts tail.cond) rows))
    (ordered_all P (row_cmp (order_of def.columns tail.order)) (filter (is_wanted def parts tail.cond) rows) (All-filter (is_wanted def parts tail.cond) P rows all))
