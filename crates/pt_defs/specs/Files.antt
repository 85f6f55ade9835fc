-- Which bytes are the file of which definition.
use Rattle.std.specs.Prelude.{ℕ, List, Result, Ok, Err}
use Rattle.pt_ast.specs.declared.table.TableDef.{TableDef}
use Rattle.pt_defs.specs.declared.fault.DefRead.{DefRead}
use Rattle.pt_defs.specs.declared.fault.DefRead.TheVariants as told
use Rattle.pt_defs.specs.Fitting.{FitsDef}
use Rattle.pt_defs.specs.Spelling.{Spells}

-- These bytes, all of them, spell this definition, whose numbers and names fit their types.
pub record IsFileOf (bytes : List ℕ) (def : TableDef) : Type 0 where
  pub fits : FitsDef def
  pub spells : Spells bytes def

-- the definition that the bytes spell, or that they spell none, unless memory runs out
abbrev pub IsReadFrom : Result TableDef DefRead → List ℕ → Type 0
IsReadFrom (Ok def) bytes = IsFileOf bytes def
IsReadFrom (Err (told.Bad place)) bytes = (def : TableDef) → IsFileOf bytes def → ⊥
IsReadFrom (Err told.NoMemory) bytes = Unit {0}
