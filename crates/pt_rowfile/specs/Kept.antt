-- Rows that are kept in a map from serials to cells.
use Rattle.std.specs.Prelude.{ℕ, List, map}
use Rattle.pt_value.specs.declared.value.Value.{Value}
use Rattle.pt_ast.specs.declared.database.Row.{Row}

abbrev pub row_of : ℕ × List Value → Row
row_of entry = record { serial = entry.0; cells = entry.1 }

abbrev pub rows_in : List (ℕ × List Value) → List Row
rows_in entries = map row_of entries
