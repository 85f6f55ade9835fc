-- What symbols spell as a whole, and how a piece is refused.
use Rattle.std.specs.Prelude.{◌≡◌, ℕ, List, []}
use Rattle.pt_ast.specs.declared.statement.Stmt.{Stmt}
use Rattle.pt_token.specs.declared.token.Token.{Token}
use Rattle.pt_parse_expr.specs.declared.fault.ParseFault.{ParseFault}
use Rattle.pt_parse_expr.specs.declared.fault.ParseFault.TheVariants.{TooDeep, LongName, Syntax, NoMemory}
use Rattle.pt_parse_expr.specs.Grammar.{Symbols}
use Rattle.pt_parse_expr.specs.Limits.{IsDeep}
use Rattle.pt_parse_expr.specs.Symbols.{symbols}
use Rattle.pt_parse_ddl.specs.Spelling.{AreWithinLimits, IsLongAlone}
use Rattle.pt_parse_dml.specs.Spelling.{Spells as SpellsOther}
use Rattle.pt_parse_alter.specs.Statements.{IsStmt}

-- the symbols spell a change of a table: with it they are at their end
abbrev pub SpellsStmt : Symbols → Stmt → Type 0
SpellsStmt symbols x = IsStmt symbols x []

-- The reading of a piece: its tokens are within the limits and spell the change.
pub record IsReading (piece : List ℕ) (tokens : List Token) (x : Stmt) : Type 0 where
  pub limits : AreWithinLimits piece tokens
  pub spelled : SpellsStmt (symbols piece tokens) x

-- no change of a table is spelled, within the limits
pub record IsUnread (piece : List ℕ) (tokens : List Token) : Type 0 where
  pub limits : AreWithinLimits piece tokens
  pub unspelled : (x : Stmt) → SpellsStmt (symbols piece tokens) x → ⊥

-- Why a piece is refused: first for its depth, then for a long name, then for its syntax; or memory ran out.
abbrev pub IsRefused : List ℕ → List Token → ParseFault → Type 0
IsRefused piece tokens TooDeep = IsDeep (symbols piece tokens)
IsRefused piece tokens LongName = IsLongAlone piece tokens
IsRefused piece tokens Syntax = IsUnread piece tokens
IsRefused piece tokens NoMemory = Unit {0}

-- the same of symbols within the limits
abbrev pub IsUnspelled : Symbols → ParseFault → Type 0
IsUnspelled symbols Syntax = (x : Stmt) → SpellsStmt symbols x → ⊥
IsUnspelled symbols NoMemory = Unit {0}
IsUnspelled symbols TooDeep = ⊥
IsUnspelled symbols LongName = ⊥

-- ---- one reading

-- a statement of any grammar: a definition or one on rows, or a change of a table
pub data Spells (symbols : Symbols) (x : Stmt) : Type 0 where
  other : SpellsOther symbols x → Spells symbols x
  altering : SpellsStmt symbols x → Spells symbols x

-- No symbols spell two statements, and none that spell a change of a table spell a definition or a statement on rows.
pub record OneReading : Type 0 where
  pub one : (symbols : Symbols) (x y : Stmt) → Spells symbols x → Spells symbols y → x ≡ y
  pub apart : (symbols : Symbols) (x y : Stmt) → SpellsOther symbols x → SpellsStmt symbols y → ⊥
