-- Rows are in a total order.
use Rattle.std.proofs.Common.{ℕ, Bool, true, false, List, [], ◌∷◌, refl}
use Rattle.std.specs.Cmp.{IsTotalOrder, back_total, nat_cmp_total, on_total, then_total}
use Rattle.pt_value.specs.Value.{value_cmp_total}
use Rattle.pt_value.specs.declared.value.Value.{Value}
use Rattle.pt_value.specs.declared.value.Value.TheVariants.{Null}
use Rattle.pt_ast.specs.declared.database.Row.{Row}
use Rattle.std.proofs.Common.{slice_index_or}
use Rattle.pt_checks.specs.Wanted.{at_cmp, cell_cmp, cells_cmp, row_cmp}

at_total : (at : ℕ) → IsTotalOrder (at_cmp at)
at_total at = on_total (λ (cells : List Value). slice_index_or cells at Null) value_cmp_total

cell_total : (by : ℕ × Bool) → IsTotalOrder (cell_cmp by)
cell_total (at, true) = back_total (at_total at)
cell_total (at, false) = at_total at

cells_total : (order : List (ℕ × Bool)) → IsTotalOrder (cells_cmp order)
cells_total [] = record { antisymm = λ a b. refl; trans = λ a b c p q. p; congr = λ a b c p. refl }
cells_total (by ∷ order) = then_total (cell_total by) (cells_total order)

pub row_total : (order : List (ℕ × Bool)) → IsTotalOrder (row_cmp order)
row_total order = then_total (on_total (λ (row : Row). row.cells) (cells_total order)) (on_total (λ (row : Row). row.serial) nat_cmp_total)
