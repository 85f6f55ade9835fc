-- A table with another definition and other rows, at the place where it stands.
use Rattle.std.proofs.Common.{◌≡◌, ℕ, List, get_or, set, None}
use Rattle.std.specs.Cmp.Lexicographic.{slice_cmp}
use Rattle.std.specs.Ordering.{nat_cmp}
use Rattle.std.specs.Str.{bytes_eq}
use Rattle.pt_ast.specs.declared.database.Row.{Row}
use Rattle.pt_ast.specs.declared.database.Table.{Table}
use Rattle.pt_ast.specs.declared.table.TableDef.{TableDef}
use Rattle.pt_ast.specs.Rising.{NamesRise}
use Rattle.pt_db.specs.Lookup.{IsPlaceOf, table_in, with_both}
use Rattle.pt_db.proofs.Lookups.{by_names, name_of, table_named}
use Rattle.pt_db.proofs.Searched as searched

module _ (tables : List Table) (name : List ℕ) (def : TableDef) (rows : List Row) where
  pub both_there : NamesRise tables → (at : ℕ) (d : Table) → IsPlaceOf tables name at → with_both name def rows tables ≡ set tables at (record (get_or tables at d) { def = def; rows = rows })
  both_there up at d is =
      searched.changed_at (slice_cmp nat_cmp) bytes_eq by_names name_of name (λ (table : Table). record table { def = def; rows = rows }) tables at d up is.within
      (table_named tables name (get_or tables at d) (is.there d))

  pub none_put : table_in tables name ≡ None → with_both name def rows tables ≡ tables
  none_put none = searched.changed_none (slice_cmp nat_cmp) bytes_eq by_names name_of name (λ (table : Table). record table { def = def; rows = rows }) tables none
