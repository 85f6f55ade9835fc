-- Rows that stay, or some of them, are sound by the later definition.
use Rattle.std.proofs.Common.{◌≡◌, ℕ, Bool, false, List, map, get_or, Option, Some, None, IsSome, refl, sym, subst}
use Rattle.std.specs.List.{All, AllPairs, filter}
use Rattle.std.proofs.lemmas.Map.Entries.{option_filter}
use Rattle.std.proofs.lemmas.List.Elements.{All-weaker}
use Rattle.pt_value.specs.declared.value.Value.{Value}
use Rattle.pt_ast.specs.declared.database.Db.{Db}
use Rattle.pt_ast.specs.declared.database.Row.{Row}
use Rattle.pt_ast.specs.declared.database.Table.{Table}
use Rattle.pt_ast.specs.declared.table.Column.{Column}
use Rattle.pt_ast.specs.declared.table.KeyDef.{KeyDef}
use Rattle.pt_ast.specs.declared.table.TableDef.{TableDef}
use Rattle.pt_ast.specs.Keys.{agree_on, is_unique}
use Rattle.pt_ast.specs.StorableDef.{IsStorableDef}
use Rattle.pt_expr.specs.Columns.{AreFitting}
use Rattle.pt_place.specs.Place.{place_of}
use Rattle.pt_place.specs.Valid.{IsValid}
use Rattle.pt_db.specs.Lookup.{table_of, with_both}
use Rattle.pt_db.specs.Rows.{AreRising, row_at}
use Rattle.pt_db.specs.Sound.{AreSoundRows, IsSound, IsSoundRow, IsSoundTable, has_wrong_null}
use Rattle.pt_db.proofs.RowSounds.{rows_kept}
use Rattle.pt_db.proofs.Serials.{row_filtered}
use Rattle.pt_db.proofs.Sounds.{altered_sound, sound_table}
use Rattle.pt_altered.specs.Kept.{IsKeptOf}

-- ---- by another definition of the same columns and keys

module _ (next : ℕ) (def later : TableDef) (same_columns : later.columns ≡ def.columns) (same_keys : later.keys ≡ def.keys) where
  row_stays : (row : Row) → IsSoundRow next def row → IsSome (place_of later row.cells) → IsSoundRow next later row
  row_stays row s placed = record {
    fits = subst (λ (columns : List Column). AreFitting columns row.cells) (sym same_columns) s.fits;
    nulls = subst (λ (columns : List Column). has_wrong_null columns row.cells ≡ false) (sym same_columns) s.nulls;
    placed = placed;
    least = s.least;
    below = s.below;
  }

  abbrev unique_by : List KeyDef → List Row → Type 0
  unique_by keys rows = AllPairs (λ (a b : Row). agree_on (map (λ (key : KeyDef). key.columns) (filter (λ (key : KeyDef). is_unique key.rank) keys)) b.cells a.cells ≡ false) rows

  pub rows_stay : (rows : List Row) → AreSoundRows next def rows → All (λ (row : Row). IsSome (place_of later row.cells)) rows → AreSoundRows next later rows
  rows_stay rows s placed = record {
    each = λ k d within. row_stays (get_or rows k d) (s.each k d within) (placed k d within);
    unique = subst (λ (keys : List KeyDef). unique_by keys rows) (sym same_keys) s.unique;
    rising = s.rising;
  }

-- ---- some of the rows

module _ (keep : Row → Bool) (rows : List Row) (serial : ℕ) (up : AreRising rows) where
  pub was_there : IsSome (row_at (filter keep rows) serial) → IsSome (row_at rows serial)
  was_there some = by (row_at rows serial) (subst (λ (o : Option (List Value)). IsSome o) (row_filtered keep rows serial up) some)
    where
      by : (o : Option (List Value)) → IsSome (option_filter (λ cells. keep (record { serial = serial; cells = cells })) o) → IsSome o
      by (Some cells) some = refl
      by None some = some

-- ---- what is kept of a table

module _ (db : Db) (name : List ℕ) (table : Table) (sound : IsSound db) (at : table_of db name ≡ Some table) (later : TableDef) (storable : IsStorableDef later) (valid : IsValid later)
    (same_columns : later.columns ≡ table.def.columns) (same_keys : later.keys ≡ table.def.keys) where
  before : IsSoundTable db.next table
  before = sound_table db sound name table at

  -- all rows
  pub all_kept : All (λ (row : Row). IsSome (place_of later row.cells)) table.rows → IsKeptOf db name later table.rows
  all_kept placed = record {
    table = table;
    at = at;
    storable = storable;
    valid = valid;
    sound = rows_stay db.next table.def later same_columns same_keys table.rows before.rows placed;
    old = λ serial some. some;
  }

  -- some of them
  pub some_kept : (keep : Row → Bool) → All (λ (row : Row). IsSome (place_of later row.cells)) (filter keep table.rows) → IsKeptOf db name later (filter keep table.rows)
  some_kept keep placed = record {
    table = table;
    at = at;
    storable = storable;
    valid = valid;
    sound = rows_stay db.next table.def later same_columns same_keys (filter keep table.rows) (rows_kept db.next table.def keep table.rows before.rows) placed;
    old = λ serial some. was_there keep table.rows serial before.rows.rising some;
  }

-- ---- the database

-- what is kept of a table leaves a sound database
pub kept_sound : (db : Db) (name : List ℕ) (def : TableDef) (rows : List Row) → IsSound db → IsKeptOf db name def rows → IsSound (record { tables = with_both name def rows db.tables; next = db.next })
kept_sound db name def rows sound is = altered_sound db name is.table def rows sound is.at is.storable is.valid is.sound is.old

-- the rows of a table fit its columns
pub table_fits : (db : Db) (name : List ℕ) (table : Table) → IsSound db → table_of db name ≡ Some table → All (λ (row : Row). AreFitting table.def.columns row.cells) table.rows
table_fits db name table sound at =
    All-weaker (IsSoundRow db.next table.def) (λ (row : Row). AreFitting table.def.columns row.cells) (λ row s. s.fits) table.rows (sound_table db sound name table at).rows.each
