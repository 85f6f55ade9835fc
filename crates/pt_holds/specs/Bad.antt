-- What a file's damage is, and its place. docs/FILES.md, "Names", "Definitions", "Row files" and "The counter".
use Rattle.std.specs.Prelude.{◌≡◌, ℕ, ◌≤◌, List, [], Option, Some, None, Ok, Err, Contains}
use Rattle.std.specs.Option.{option_map, unwrap_or}
use Rattle.pt_value.specs.Ident.{IsIdent}
use Rattle.pt_host.specs.Disk.{Files}
use Rattle.pt_names.specs.Names.{IsRowsOf, def_name, serials_name}
use Rattle.pt_ast.specs.declared.database.Row.{Row}
use Rattle.pt_ast.specs.declared.database.Spot.{Spot}
use Rattle.pt_ast.specs.declared.table.TableDef.{TableDef}
use Rattle.pt_place.specs.Valid.{IsValid}
use Rattle.pt_defs.specs.Reading.{def_at}
use Rattle.pt_rowfile.specs.Counter.{counter_of}
use Rattle.pt_rowfile.specs.Placed.{IsPlaceOf}
use Rattle.pt_rowfile.specs.Rows.{IsBadAt, SpellsRows}
use Rattle.pt_db.specs.Spots.{IsSpotOf}
use Rattle.pt_holds.specs.Holds.{HasLeaf, spot_file}
use Rattle.pt_holds.specs.Fit.{FitsSpot}

-- ---- rows

-- A row that is left and doesn't fit was put at this place.
pub record PutsUnfit (next : ℕ) (def : TableDef) (spot : Spot) (bytes : List ℕ) (rows : List Row) (place : ℕ) : Type 0 where
  pub row : Row
  pub left : Contains rows row
  pub put : IsPlaceOf bytes row.serial (Some place)
  pub unfit : FitsSpot next def spot row → ⊥

-- All records are proper, and this is the place of the first that puts a row which is left and doesn't fit. A put whose row is
-- deleted later counts for its spelling alone.
pub record IsUnfitAt (next : ℕ) (def : TableDef) (spot : Spot) (bytes : List ℕ) (place : ℕ) : Type 0 where
  pub rows : List Row
  pub spells : SpellsRows bytes rows
  pub here : PutsUnfit next def spot bytes rows place
  pub first : (other : ℕ) → PutsUnfit next def spot bytes rows other → place ≤ other

-- The bytes of a spot's row file are damaged at this place: the first record there that isn't proper, or else the first row that
-- doesn't fit.
pub data AreBadRows (next : ℕ) (def : TableDef) (spot : Spot) (bytes : List ℕ) (place : ℕ) : Type 0 where
  Improper : IsBadAt bytes place → AreBadRows next def spot bytes place
  Unfit : IsUnfitAt next def spot bytes place → AreBadRows next def spot bytes place

-- ---- files

-- the definition of this table is read
abbrev pub Defines : Files → List ℕ → TableDef → Type 0
Defines map table def = IsIdent table × (option_map def_at (map (def_name table)) ≡ Some (Ok def))

-- the next serial that the counter's file gives
abbrev pub HasNext : Files → ℕ → Type 0
HasNext map next = counter_of (unwrap_or (map serials_name) []) ≡ Ok next

-- no spot of a definition has its rows in the file of this leaf
abbrev pub IsStray : Files → List ℕ → Option (List ℕ) → Type 0
IsStray map table leaf = (def : TableDef) → Defines map table def → HasLeaf def leaf → ⊥

-- A file of this name is damaged at this place.
pub data Bad (map : Files) (name : List ℕ) (place : ℕ) : Type 0 where
  -- a definition that can't be read: the place of the first field that can't
  Unread : (table : List ℕ) → IsIdent table → name ≡ def_name table → option_map def_at (map name) ≡ Some (Err place) → Bad map name place
  -- a definition that isn't valid: behind the head
  Invalid : (table : List ℕ) (def : TableDef) → Defines map table def → name ≡ def_name table → (IsValid def → ⊥) → place ≡ 12 → Bad map name place
  -- the counter
  Counter : name ≡ serials_name → counter_of (unwrap_or (map name) []) ≡ Err place → Bad map name place
  -- a row file that a definition needs, and that is missing
  Missing : (table : List ℕ) (def : TableDef) (spot : Spot) → Defines map table def → IsSpotOf def spot → name ≡ spot_file table def spot → map name ≡ None → place ≡ 0
      → Bad map name place
  -- a row file that no definition needs
  Stray : (table bytes : List ℕ) (leaf : Option (List ℕ)) → IsRowsOf name table leaf → IsStray map table leaf → map name ≡ Some bytes → place ≡ 0 → Bad map name place
  -- a spot's row file
  Rows : (table bytes : List ℕ) (def : TableDef) (spot : Spot) (next : ℕ) → Defines map table def → IsSpotOf def spot → name ≡ spot_file table def spot → HasNext map next
      → map name ≡ Some bytes → AreBadRows next def spot bytes place → Bad map name place
