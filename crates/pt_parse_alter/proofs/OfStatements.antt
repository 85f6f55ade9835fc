-- Statements: what is read is spelled, and what is spelled is read.
use Rattle.std.proofs.Common.{◌≡◌, [], ◌∷◌, Some}
use Rattle.pt_ast.specs.declared.tree.Expr.{Expr}
use Rattle.pt_ast.specs.declared.statement.Stmt.{Stmt}
use Rattle.pt_parse_expr.specs.declared.alphabet.Mark.TheVariants.{Other}
use Rattle.pt_parse_expr.specs.declared.alphabet.Reserved.TheVariants as word
use Rattle.pt_parse_expr.specs.declared.alphabet.Symbol.{Symbol}
use Rattle.pt_parse_expr.specs.declared.alphabet.Symbol.TheVariants.{Fixed}
use Rattle.pt_parse_expr.specs.Grammar.{Symbols, IsExpr}
use Rattle.pt_parse_expr.specs.Reader.{Reader}
use Rattle.pt_parse_expr.proofs.Sound.{Sound}
use Rattle.pt_parse_ddl.specs.Words.{the, IsName}
use Rattle.pt_parse_ddl.specs.Steps.{named}
use Rattle.pt_parse_ddl.proofs.After.{after-keeps, name-after}
use Rattle.pt_parse_ddl.proofs.Sounding.{and_then-sound, name-sound}
use Rattle.pt_parse_ddl.proofs.Exact.{and_then-is, name-read, Ends}
use Rattle.pt_parse_dml.proofs.Listing.{carried}
use Rattle.pt_parse_alter.specs.Statements.{IsAction, IsStmt, alter}
use Rattle.pt_parse_alter.specs.Reader.{action, altered, statement}
use Rattle.pt_parse_alter.proofs.OfActions.{action-sound, action-read}

module _ (expr : Reader Expr) where
  module _ (sound : (ts : Symbols) → Sound IsExpr ts (expr ts)) where
    altered-sound : (ts : Symbols) → Sound IsStmt (the word.Alter ∷ ts) (altered expr ts)
    unfolding altered
    altered-sound (Fixed (Other word.Table) ∷ ts) =
        and_then-sound IsName IsStmt ts _ (named ts) (action expr) (name-sound ts)
        (λ table us n. carried (IsAction table) IsStmt us _ (action expr table us) (action-sound table expr sound us) (λ x rest d. alter n d))
    altered-sound _ = tt

    pub statement-sound : (ts : Symbols) → Sound IsStmt ts (statement expr ts)
    unfolding statement
    statement-sound (Fixed (Other word.Alter) ∷ ts) = altered-sound ts
    statement-sound _ = tt

  module _ (P : Symbols → Type 0) (tail : (s : Symbol) (ts : Symbols) → P (s ∷ ts) → P ts)
      (exact : (ts rest : Symbols) (x : Expr) → IsExpr ts x rest → Ends rest → P ts → expr ts ≡ Some (x, rest)) where
    pub statement-read : {ts : Symbols} {x : Stmt} → IsStmt ts x [] → P ts → statement expr ts ≡ Some (x, [])
    unfolding statement altered
    statement-read (alter {table = table} n d) p =
        and_then-is (action expr) (name-read n) (action-read table expr P tail exact d (after-keeps P tail (name-after n) (tail _ _ (tail _ _ p))))
