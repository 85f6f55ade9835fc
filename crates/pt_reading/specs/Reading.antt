-- What a piece of a script is read as, and why it is refused.
use Rattle.std.specs.Prelude.{◌≡◌, if◌then◌else◌, ℕ, Bool, true, false, List, Option, Some, None}
use Rattle.pt_ast.specs.declared.refusal.Refusal.{Refusal}
use Rattle.pt_ast.specs.declared.refusal.Refusal.TheVariants as refusal
use Rattle.pt_ast.specs.declared.statement.Stmt.{Stmt}
use Rattle.pt_ast.specs.declared.statement.Stmt.TheVariants as stmt
use Rattle.pt_token.specs.declared.fault.LexFault.{LexFault}
use Rattle.pt_token.specs.declared.fault.LexFault.TheVariants.{BadByte, OpenQuote, OpenComment, NoMemory}
use Rattle.pt_token.specs.declared.token.Token.{Token}
use Rattle.pt_token.specs.Tokens.{HasFault, IsLexed}
use Rattle.pt_parse_expr.specs.Limits.{IsDeep}
use Rattle.pt_parse_expr.specs.Symbols.{symbols}
use Rattle.pt_parse_ddl.specs.Spelling.{AreWithinLimits, IsLongAlone}
use Rattle.pt_parse_alter.specs.Spelling.{Spells}
use Rattle.pt_reading.specs.declared.reading.Reading.{Reading}
use Rattle.pt_reading.specs.declared.reading.Reading.TheVariants.{Spelled, Syntax, TooDeep, LongName}

-- The statements that are known. Others are refused as if no statement were spelled.
abbrev pub is_known : Stmt → Bool
is_known (stmt.Create only_new table spec) = true
is_known (stmt.Like only_new table other) = true
is_known (stmt.Drop if_there table) = true
is_known (stmt.Show table) = true
is_known (stmt.Insert ignore new) = true
is_known (stmt.Replace new) = true
is_known (stmt.Update table parts assigns tail) = true
is_known (stmt.Delete table parts tail) = true
is_known (stmt.Select query) = true
is_known _ = false

-- the tokens are within the limits and spell the statement: a definition, one on rows, or a change of a table; and it is known
pub record IsSpelled (piece : List ℕ) (tokens : List Token) (x : Stmt) : Type 0 where
  pub limits : AreWithinLimits piece tokens
  pub spelled : Spells (symbols piece tokens) x
  pub known : is_known x ≡ true

-- no known statement is spelled, within the limits
pub record IsUnspelled (piece : List ℕ) (tokens : List Token) : Type 0 where
  pub limits : AreWithinLimits piece tokens
  pub unspelled : (x : Stmt) → Spells (symbols piece tokens) x → is_known x ≡ true → ⊥

-- What the tokens of a piece are read as: first their depth counts, then a long name, then what they spell.
abbrev pub AreRead : List ℕ → List Token → Reading → Type 0
AreRead piece tokens (Spelled x) = IsSpelled piece tokens x
AreRead piece tokens Syntax = IsUnspelled piece tokens
AreRead piece tokens TooDeep = IsDeep (symbols piece tokens)
AreRead piece tokens LongName = IsLongAlone piece tokens

-- a fault of the piece, and not want of memory
abbrev pub is_lexical : LexFault → Bool
is_lexical (BadByte place) = true
is_lexical (OpenQuote place) = true
is_lexical (OpenComment place) = true
is_lexical NoMemory = false

-- The reading of a piece. One with a lexical fault has no tokens.
pub data Reads (piece : List ℕ) : Reading → Type 0 where
  faulty : {fault : LexFault} → HasFault false 0 piece fault → Reads piece Syntax
  lexed : {tokens : List Token} {reading : Reading} → IsLexed piece tokens → AreRead piece tokens reading → Reads piece reading

-- A piece has one reading at most.
abbrev pub OneReading : Type 0
OneReading = (piece : List ℕ) (x y : Reading) → Reads piece x → Reads piece y → x ≡ y

-- so of the statement, where one is spelled
abbrev pub IfSpelled : (Stmt → Type 0) → Reading → Type 0
IfSpelled P (Spelled x) = P x
IfSpelled P Syntax = Unit {0}
IfSpelled P TooDeep = Unit {0}
IfSpelled P LongName = Unit {0}

-- a statement that is spelled, as it is read
abbrev pub reading_of : Stmt → Reading
reading_of x = if is_known x then Spelled x else Syntax

-- why a piece with this number is refused, where it spells no statement
abbrev pub refusal_of : Reading → ℕ → Option Refusal
refusal_of (Spelled x) number = None
refusal_of Syntax number = Some (refusal.Syntax number)
refusal_of TooDeep number = Some (refusal.TooDeep number)
refusal_of LongName number = Some (refusal.LongName number)
