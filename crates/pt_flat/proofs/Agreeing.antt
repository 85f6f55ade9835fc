-- Cells agree on a unique key where they agree on a key that is unique; and they agree with one of the other rows.
use Rattle.std.proofs.Common.{◌≡◌, Bool, true, false, cond, not, ◌||◌, ◌&&◌, ℕ, List, [], ◌∷◌, map, refl, ap}
use Rattle.std.specs.List.{list_any, filter}
use Rattle.pt_value.specs.declared.value.Value.{Value}
use Rattle.pt_ast.specs.declared.table.KeyDef.{KeyDef}
use Rattle.pt_ast.specs.declared.database.Row.{Row}
use Rattle.pt_ast.specs.declared.table.TableDef.{TableDef}
use Rattle.pt_ast.specs.Keys.{agree, agrees, is_taken, is_unique}
use Rattle.pt_db.specs.Rows.{is_numbered, others}

pub any_unique : (keys : List KeyDef) (a b : List Value)
    → list_any (agree a b) (map (λ (key : KeyDef). key.columns) (filter (λ (key : KeyDef). is_unique key.rank) keys)) ≡ list_any (λ (key : KeyDef). is_unique key.rank && agree a b key.columns) keys
any_unique [] a b = refl
any_unique (key ∷ keys) a b = by_test (is_unique key.rank) (any_unique keys a b)
  where
    by_test : (t : Bool) → list_any (agree a b) (map (λ (key : KeyDef). key.columns) (filter (λ (key : KeyDef). is_unique key.rank) keys)) ≡ list_any (λ (key : KeyDef). is_unique key.rank && agree a b key.columns) keys
        → list_any (agree a b) (map (λ (key : KeyDef). key.columns) (cond t (key ∷ filter (λ (key : KeyDef). is_unique key.rank) keys) (filter (λ (key : KeyDef). is_unique key.rank) keys))) ≡ (t && agree a b key.columns || list_any (λ (key : KeyDef). is_unique key.rank && agree a b key.columns) keys)
    by_test true more = ap (λ t. agree a b key.columns || t) more
    by_test false more = more

pub any_other : (def : TableDef) (serial : ℕ) (cells : List Value) (rows : List Row)
    → is_taken def cells (others serial rows) ≡ list_any (λ (row : Row). not (is_numbered serial row) && agrees def cells row.cells) rows
any_other def serial cells [] = refl
any_other def serial cells (row ∷ rows) = by_test (is_numbered serial row) (any_other def serial cells rows)
  where
    by_test : (t : Bool) → is_taken def cells (others serial rows) ≡ list_any (λ (other : Row). not (is_numbered serial other) && agrees def cells other.cells) rows
        → is_taken def cells (cond (not t) (row ∷ others serial rows) (others serial rows)) ≡ (not t && agrees def cells row.cells || list_any (λ (other : Row). not (is_numbered serial other) && agrees def cells other.cells) rows)
    by_test true more = more
    by_test false more = ap (λ t. agrees def cells row.cells || t) more
