-- How far a row file is read.
use Rattle.std.specs.Prelude.{◌≡◌, ℕ, List, ◌++◌}
use Rattle.pt_ast.specs.declared.database.Row.{Row}
use Rattle.pt_bytes.specs.Numbers.{AreBytes}
use Rattle.pt_rowfile.specs.Rows.{SpellsRows}

-- The bytes in front leave these rows, and the others aren't read.
pub record IsSoFar (bytes rest : List ℕ) (rows : List Row) : Type 0 where
  pub front : List ℕ
  pub parts : bytes ≡ front ++ rest
  pub spells : SpellsRows front rows
  pub are : AreBytes rest
