-- Which statements are known, and how those that are spelled are read.
use Rattle.std.proofs.Common.{◌≡◌, if◌then◌else◌, ℕ, List, Bool, true, false, refl, ap, ◌∙◌, sym}
use Rattle.std.proofs.lemmas.Bool.{true≢false}
use Rattle.pt_ast.specs.declared.statement.Stmt.{Stmt}
use Rattle.pt_token.specs.declared.token.Token.{Token}
use Rattle.pt_parse_expr.specs.Grammar.{Symbols}
use Rattle.pt_parse_expr.specs.Symbols.{symbols}
use Rattle.pt_parse_ddl.specs.Spelling.{AreWithinLimits, IsUnread as IsNoDefinition}
use Rattle.pt_parse_ddl.specs.Statements.{create, like, drop, show, IsStmt as IsDefinition}
use Rattle.pt_parse_dml.specs.Spelling.{as_definition, on_rows, IsUnread as IsNotOnRows}
use Rattle.pt_parse_alter.specs.Spelling.{Spells, other, altering, IsUnread as IsNoChange}
use Rattle.pt_parse_alter.proofs.Whole.{one_reading}
use Rattle.pt_reading.specs.declared.reading.Reading.TheVariants.{Spelled, Syntax}
use Rattle.pt_reading.specs.Reading.{AreRead, IsUnspelled, IfSpelled, is_known, reading_of}

-- all definitions
pub definition_known : {ts rest : Symbols} {x : Stmt} → IsDefinition ts x rest → is_known x ≡ true
definition_known (create d e f) = refl
definition_known (like d e f) = refl
definition_known (drop d e) = refl
definition_known (show d) = refl

-- what is spelled, is read so
pub known_read : (piece : List ℕ) (tokens : List Token) (x : Stmt) → AreWithinLimits piece tokens → Spells (symbols piece tokens) x → AreRead piece tokens (reading_of x)
known_read piece tokens x limits d = by (is_known x) refl where
  by : (b : Bool) → is_known x ≡ b → AreRead piece tokens (if b then Spelled x else Syntax)
  by true e = record { limits = limits; spelled = d; known = e }
  by false e = record {
    limits = limits;
    unspelled = λ y f k. true≢false (sym k ∙ ap is_known (sym (one_reading.one (symbols piece tokens) x y d f)) ∙ e);
  }

-- and has what it has where it is known
pub if_known : (P : Stmt → Type 0) (x : Stmt) → (is_known x ≡ true → P x) → IfSpelled P (reading_of x)
if_known P x holds = by (is_known x) refl where
  by : (b : Bool) → is_known x ≡ b → IfSpelled P (if b then Spelled x else Syntax)
  by true e = holds e
  by false e = tt

-- nothing is spelled that none of the grammars spells
pub none_read : (piece : List ℕ) (tokens : List Token) → IsNoDefinition piece tokens → IsNotOnRows piece tokens → IsNoChange piece tokens → IsUnspelled piece tokens
none_read piece tokens a b c = record { limits = a.limits; unspelled = none } where
  none : (x : Stmt) → Spells (symbols piece tokens) x → is_known x ≡ true → ⊥
  none x (other (as_definition d)) k = a.unspelled x d
  none x (other (on_rows d)) k = b.unspelled x d
  none x (altering d) k = c.unspelled x d
