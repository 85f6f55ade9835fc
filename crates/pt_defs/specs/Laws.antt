-- What the definitions come to. Each is proved.
use Rattle.std.specs.Prelude.{◌≡◌, ◌↔◌, ℕ, List, Ok}
use Rattle.pt_bytes.specs.Numbers.{AreBytes}
use Rattle.pt_ast.specs.declared.table.TableDef.{TableDef}
use Rattle.pt_defs.specs.Spelling.{Spells}
use Rattle.pt_defs.specs.Files.{IsFileOf}
use Rattle.pt_defs.specs.Reading.{def_at}

pub record OneSpelling : Type 0 where
  -- reading gives a definition exactly where the bytes spell it
  pub read : (bytes : List ℕ) (def : TableDef) → AreBytes bytes → (def_at bytes ≡ Ok def) ↔ IsFileOf bytes def
  -- a definition has one spelling
  pub one_text : (a b : List ℕ) (def : TableDef) → Spells a def → Spells b def → a ≡ b
  -- bytes spell one definition
  pub one_def : (bytes : List ℕ) (a b : TableDef) → IsFileOf bytes a → IsFileOf bytes b → a ≡ b
