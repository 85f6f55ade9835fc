-- What a look at the rows of a spot's file asks of them.
use Rattle.std.specs.Prelude.{◌≡◌, ℕ, ◌≤◌, false, ◌&&◌, List, [], ◌∷◌, min, Option, Some, None, All, Contains}
use Rattle.pt_value.specs.Fits.{Fits}
use Rattle.pt_value.specs.declared.value.Value.{Value}
use Rattle.pt_ast.specs.declared.database.Row.{Row}
use Rattle.pt_ast.specs.declared.database.Spot.{Spot}
use Rattle.pt_ast.specs.declared.table.Column.{Column}
use Rattle.pt_ast.specs.declared.table.TableDef.{TableDef}
use Rattle.pt_ast.specs.Keys.{is_null}
use Rattle.pt_rowfile.specs.Rows.{SpellsRows}
use Rattle.pt_holds.specs.Bad.{PutsUnfit}
use Rattle.pt_holds.specs.Fit.{FitsSpot}

-- ---- one cell after the other

-- the cell fits the column's kind, and is no NULL where none may be
abbrev pub Takes : Column → Value → Type 0
Takes column cell = Fits column.kind cell × ((column.not_null && is_null cell) ≡ false)

-- a cell for each column, which takes it
abbrev pub AreTaken : List Column → List Value → Type 0
AreTaken [] [] = Unit {0}
AreTaken (column ∷ columns) (cell ∷ cells) = Takes column cell × AreTaken columns cells
AreTaken _ _ = ⊥

-- ---- one row after the other

-- The records of these bytes leave this row.
pub record LeavesRow (bytes : List ℕ) (row : Row) : Type 0 where
  pub rows : List Row
  pub spells : SpellsRows bytes rows
  pub left : Contains rows row

-- the lesser of two places, where there are two
abbrev pub earlier : Option ℕ → Option ℕ → Option ℕ
earlier None b = b
earlier (Some a) None = Some a
earlier (Some a) (Some b) = Some (min a b)

-- This is the least place at which one of these rows was put that doesn't fit.
pub record IsLeastUnfit (next : ℕ) (def : TableDef) (spot : Spot) (bytes : List ℕ) (rows : List Row) (place : ℕ) : Type 0 where
  pub here : PutsUnfit next def spot bytes rows place
  pub first : (other : ℕ) → PutsUnfit next def spot bytes rows other → place ≤ other

-- It is so where a place was found, and otherwise all rows fit.
abbrev pub AreSeen : ℕ → TableDef → Spot → List ℕ → List Row → Option ℕ → Type 0
AreSeen next def spot bytes rows None = All (FitsSpot next def spot) rows
AreSeen next def spot bytes rows (Some place) = IsLeastUnfit next def spot bytes rows place
