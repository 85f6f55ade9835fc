-- The place of a table, as a search by halves finds it, and changes there.
use Rattle.std.proofs.Common.{◌≡◌, ℕ, List, [], ◌∷◌, length, get_or, set, Some, None, sym, ◌∙◌, subst, arith}
use Rattle.std.specs.Prelude.{Result, Ok, Err}
use Rattle.std.specs.Cmp.Lexicographic.{slice_cmp}
use Rattle.std.specs.List.{remove}
use Rattle.std.specs.List.Sorted.{IsBinarySearchResult, IsSearchInRange}
use Rattle.std.specs.Ordering.{nat_cmp}
use Rattle.std.specs.Result.{MatchResult}
use Rattle.std.specs.Str.{bytes_eq}
use Rattle.pt_ast.specs.declared.database.Row.{Row}
use Rattle.pt_ast.specs.declared.database.Table.{Table}
use Rattle.pt_ast.specs.Rising.{NamesRise}
use Rattle.pt_db.specs.Lookup.{IsPlaceFor, IsPlaceOf, table_in, with_rows, without_table}
use Rattle.pt_db.proofs.Lookups.{by_names, name_of, table_named}
use Rattle.pt_db.proofs.Searched as searched

module _ (tables : List Table) (name : List ℕ) (up : NamesRise tables) where
  pub place_found : (r : Result ℕ ℕ) → IsBinarySearchResult (λ (table : Table). slice_cmp nat_cmp table.name name) tables r → IsSearchInRange r (length tables)
      → MatchResult r (IsPlaceOf tables name) (IsPlaceFor tables name)
  place_found (Ok at) result within = record { within = within; there = searched.sought (slice_cmp nat_cmp) bytes_eq by_names name_of tables name up at result within }
  place_found (Err at) result within = record {
    within = within;
    absent = searched.sought_none (slice_cmp nat_cmp) bytes_eq by_names name_of tables name up at result;
    added = λ table named.
        searched.put_at (slice_cmp nat_cmp) bytes_eq by_names name_of table tables at up within
        (subst (λ query. IsBinarySearchResult (λ (other : Table). slice_cmp nat_cmp other.name query) tables (Err at)) (sym named) result);
  }

  -- ---- at the place of the table

  named_there : (at : ℕ) → IsPlaceOf tables name at → (d : Table) → (get_or tables at d).name ≡ name
  named_there at is d = table_named tables name (get_or tables at d) (is.there d)

  pub removed_there : (at : ℕ) → IsPlaceOf tables name at → without_table name tables ≡ remove tables at
  removed_there at is = searched.removed_at (slice_cmp nat_cmp) bytes_eq by_names name_of name tables at up is.within (named_there at is)

  pub rows_there : (rows : List Row) (at : ℕ) (d : Table) → IsPlaceOf tables name at → with_rows name rows tables ≡ set tables at (record (get_or tables at d) { rows = rows })
  rows_there rows at d is =
      searched.changed_at (slice_cmp nat_cmp) bytes_eq by_names name_of name (λ (table : Table). record table { rows = rows }) tables at d up is.within (named_there at is d)

-- ---- where there is none

module _ (tables : List Table) (name : List ℕ) (none : table_in tables name ≡ None) where
  pub none_removed : without_table name tables ≡ tables
  none_removed = searched.removed_none (slice_cmp nat_cmp) bytes_eq by_names name_of name tables none

  pub no_rows_put : (rows : List Row) → with_rows name rows tables ≡ tables
  no_rows_put rows = searched.changed_none (slice_cmp nat_cmp) bytes_eq by_names name_of name (λ (table : Table). record table { rows = rows }) tables none

-- a place of the table is none where there is no table
pub not_absent : (tables : List Table) (name : List ℕ) (at : ℕ) → IsPlaceOf tables name at → table_in tables name ≡ None → ⊥
not_absent [] name at is none = let within = is.within in absurd (omega (arith, within))
not_absent (table ∷ tables) name at is none = let bad : Some (get_or (table ∷ tables) at table) ≡ None = (sym (is.there table) ∙ none) in cc
