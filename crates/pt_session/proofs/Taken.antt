-- A row of which each column takes its cell fits the columns, and a row that fits a spot is one.
use Rattle.std.proofs.Common.{◌≡◌, ℕ, ◌<◌, Bool, true, false, ◌&&◌, ◌||◌, List, [], ◌∷◌, refl}
use Rattle.std.specs.Prelude.{IsTrue, ◌↔◌}
use Rattle.pt_value.specs.declared.value.Value.{Value}
use Rattle.pt_ast.specs.declared.database.Row.{Row}
use Rattle.pt_ast.specs.declared.database.Spot.{Spot}
use Rattle.pt_ast.specs.declared.table.Column.{Column}
use Rattle.pt_ast.specs.declared.table.TableDef.{TableDef}
use Rattle.pt_ast.specs.Keys.{is_null}
use Rattle.pt_expr.specs.Columns.{AreFitting}
use Rattle.pt_db.specs.Rows.{is_at}
use Rattle.pt_db.specs.Sound.{has_wrong_null}
use Rattle.pt_db.proofs.Spots.{placed_there, stands_there}
use Rattle.pt_holds.specs.Fit.{FitsSpot}
use Rattle.pt_session.specs.Looking.{AreTaken}

either_false : (a b : Bool) → a ≡ false → b ≡ false → (a || b) ≡ false
either_false a b x y = cc

neither : (a b : Bool) → (a || b) ≡ false → (a ≡ false) × (b ≡ false)
neither true b e = absurd cc
neither false b e = (refl, e)

pub taken_fit : (columns : List Column) (cells : List Value) → AreTaken columns cells → AreFitting columns cells × (has_wrong_null columns cells ≡ false)
taken_fit [] [] taken = (tt, refl)
taken_fit [] (cell ∷ cells) taken = absurd taken
taken_fit (column ∷ columns) [] taken = absurd taken
taken_fit (column ∷ columns) (cell ∷ cells) taken =
    let rest = taken_fit columns cells taken.1 in
    ((taken.0.0, rest.0), either_false (column.not_null && is_null cell) (has_wrong_null columns cells) taken.0.1 rest.1)

pub fit_taken : (columns : List Column) (cells : List Value) → AreFitting columns cells → has_wrong_null columns cells ≡ false → AreTaken columns cells
fit_taken [] [] fit none = tt
fit_taken [] (cell ∷ cells) fit none = absurd fit
fit_taken (column ∷ columns) [] fit none = absurd fit
fit_taken (column ∷ columns) (cell ∷ cells) fit none =
    let both = neither (column.not_null && is_null cell) (has_wrong_null columns cells) none in
    ((fit.0, both.0), fit_taken columns cells fit.1 both.1)

module _ (next : ℕ) (def : TableDef) (spot : Spot) (row : Row) where
  -- whether a row that each column takes is placed in the spot
  pub fits_there : row.serial < next → AreTaken def.columns row.cells → IsTrue (is_at def spot row) ↔ FitsSpot next def spot row
  fits_there below taken = (
    λ at. let fit = taken_fit def.columns row.cells taken in record { columns = record { cells = fit.0; nulls = fit.1 }; placed = placed_there def spot row.cells at; below = below },
    λ fits. stands_there def spot row.cells fits.placed,
  )

  pub fits_taken : FitsSpot next def spot row → AreTaken def.columns row.cells
  fits_taken fits = fit_taken def.columns row.cells fits.columns.cells fits.columns.nulls
