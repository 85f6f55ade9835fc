-- From what was read of all symbols to what they spell, and the law of one reading.
use Rattle.std.proofs.Common.{◌≡◌, ℕ, Bool, true, false, [], ◌∷◌, length, Option, Some, None, Ok, refl, ap, ◌∙◌, sym, arith}
use Rattle.std.proofs.lemmas.Bool.{true≢false}
use Rattle.pt_ast.specs.declared.tree.Expr.{Expr}
use Rattle.pt_ast.specs.declared.tree.Cond.{Cond}
use Rattle.pt_ast.specs.declared.statement.Stmt.{Stmt}
use Rattle.pt_parse_expr.specs.declared.alphabet.Mark.TheVariants.{Other}
use Rattle.pt_parse_expr.specs.declared.alphabet.Reserved.TheVariants as word
use Rattle.pt_parse_expr.specs.declared.alphabet.Symbol.TheVariants.{Fixed}
use Rattle.pt_parse_expr.specs.Grammar.{Symbols, IsExpr, IsCond}
use Rattle.pt_parse_expr.specs.Limits.{IsDeep}
use Rattle.pt_parse_expr.specs.Placing.{Reads}
use Rattle.pt_parse_expr.specs.Reader.{Reader, sum, either, as_cond, found}
use Rattle.pt_parse_expr.proofs.Covers.{covers-exact}
use Rattle.pt_parse_expr.proofs.Complete.{expr-covers, cond-covers}
use Rattle.pt_parse_expr.proofs.Shallow.{shallow}
use Rattle.pt_parse_expr.proofs.Places.{shallow-length}
use Rattle.pt_parse_ddl.specs.Statements.{IsStmt as IsDefinition}
use Rattle.pt_parse_ddl.specs.Statements as definition
use Rattle.pt_parse_ddl.specs.Reader.{finished, placed}
use Rattle.pt_parse_ddl.specs.Steps.{whole}
use Rattle.pt_parse_ddl.proofs.Whole.{same_tree, Level, level-tail, expr-exact, whole-sound, whole-exact, finished-sound, placed-is}
use Rattle.pt_parse_dml.specs.Spelling.{SpellsStmt as SpellsOnRows, Spells as SpellsOther, as_definition, on_rows}
use Rattle.pt_parse_dml.specs.Reader.{statement as on_rows_statement}
use Rattle.pt_parse_dml.proofs.Stops.{Stops, sum-stops, cond-stops}
use Rattle.pt_parse_dml.proofs.OfStatements as rows
use Rattle.pt_parse_dml.proofs.Whole.{one_reading as one_of_others}
use Rattle.pt_parse_alter.specs.Statements.{IsStmt, alter}
use Rattle.pt_parse_alter.specs.Spelling.{SpellsStmt, Spells, other, altering, OneReading}
use Rattle.pt_parse_alter.specs.Reader.{statement}
use Rattle.pt_parse_alter.proofs.OfStatements.{statement-sound, statement-read}

-- ---- one reading

-- expressions that are read to a depth
read_to : (most : ℕ) {ts : Symbols} {x : Stmt} → IsStmt ts x [] → Level most ts → statement (sum (found most)) ts ≡ Some (x, [])
read_to most d l = statement-read (sum (found most)) (Level most) (level-tail most) (expr-exact most) d l

level_of : (ts : Symbols) → Level (length ts) ts
level_of ts = (0, shallow-length ts (length ts) 0 (omega arith))

one_change : (ts : Symbols) (x y : Stmt) → SpellsStmt ts x → SpellsStmt ts y → x ≡ y
one_change ts x y d e = same_tree (read_to (length ts) d (level_of ts)) (read_to (length ts) e (level_of ts))

-- the first word decides
abbrev begins_altering : Symbols → Bool
begins_altering (Fixed (Other word.Alter) ∷ ts) = true
begins_altering _ = false

change-begins : {ts rest : Symbols} {x : Stmt} → IsStmt ts x rest → begins_altering ts ≡ true
change-begins (alter n d) = refl

definition-begins : {ts rest : Symbols} {x : Stmt} → IsDefinition ts x rest → begins_altering ts ≡ false
definition-begins (definition.create d e f) = refl
definition-begins (definition.like d e f) = refl
definition-begins (definition.drop d e) = refl
definition-begins (definition.show d) = refl

none-some : {A : Type 0} {x : A} {Goal : Type 0} → None ≡ Some x → Goal
none-some e = absurd (true≢false (ap (λ o. elim o [ None ↦ true | Some z ↦ false ]) e))

-- what is read as a statement on rows, doesn't begin so
read-begins : (expr : Reader Expr) (cond : Reader Cond) (ts : Symbols) (p : Stmt × Symbols) → on_rows_statement expr cond ts ≡ Some p → begins_altering ts ≡ false
unfolding on_rows_statement
read-begins expr cond (Fixed (Other word.Alter) ∷ ts) p e = none-some e
read-begins expr cond _ p e = refl

abbrev cond_to : ℕ → Reader Cond
cond_to most ts = as_cond (either (found most) ts)

stop-exact : (most : ℕ) (ts rest : Symbols) (x : Expr) → IsExpr ts x rest → Stops rest → Level most ts → sum (found most) ts ≡ Some (x, rest)
stop-exact most ts rest x d s l = covers-exact (expr-covers d most most l.0 (omega arith) l.1) (sum-stops s)

cond-exact : (most : ℕ) (ts rest : Symbols) (c : Cond) → IsCond ts c rest → Stops rest → Level most ts → cond_to most ts ≡ Some (c, rest)
cond-exact most ts rest c d s l = covers-exact (cond-covers d most most l.0 (omega arith) l.1) (cond-stops s)

rows-begin : (ts : Symbols) (x : Stmt) → SpellsOnRows ts x → begins_altering ts ≡ false
rows-begin ts x d =
    let most = length ts in
    read-begins (sum (found most)) (cond_to most) ts (x, [])
    (rows.statement-read (sum (found most)) (cond_to most) (Level most) (level-tail most) (stop-exact most) (cond-exact most) d (level_of ts))

apart : (ts : Symbols) (x y : Stmt) → SpellsOther ts x → SpellsStmt ts y → ⊥
apart ts x y (as_definition d) e = true≢false (sym (change-begins e) ∙ definition-begins d)
apart ts x y (on_rows d) e = true≢false (sym (change-begins e) ∙ rows-begin ts x d)

one : (ts : Symbols) (x y : Stmt) → Spells ts x → Spells ts y → x ≡ y
one ts x y (other d) (other e) = one_of_others.one ts x y d e
one ts x y (other d) (altering e) = absurd (apart ts x y d e)
one ts x y (altering d) (other e) = absurd (apart ts y x e d)
one ts x y (altering d) (altering e) = one_change ts x y d e

pub one_reading : OneReading
one_reading = record { one = one; apart = apart }

-- ---- a reading that is finished, to the depth of a piece

read_whole : (ts : Symbols) → (IsDeep ts → ⊥) → (x : Stmt) → IsStmt ts x [] → statement whole ts ≡ Some (x, [])
read_whole ts level x d = statement-read whole (Level 64) (level-tail 64) whole-exact d (0, shallow ts level)

pub spelled : (symbols : Symbols) (read : Option (Stmt × ℕ)) (x : Stmt) → Reads symbols (Ok read) (statement whole symbols)
    → Some x ≡ finished (placed symbols read) → SpellsStmt symbols x
spelled symbols read x reads is =
    let r = statement whole symbols in
    finished-sound IsStmt symbols r x (statement-sound whole whole-sound symbols) (ap finished (sym (placed-is symbols read r reads)) ∙ sym is)

pub unspelled : (symbols : Symbols) (read : Option (Stmt × ℕ)) → (IsDeep symbols → ⊥) → Reads symbols (Ok read) (statement whole symbols)
    → None ≡ finished (placed symbols read) → (x : Stmt) → SpellsStmt symbols x → ⊥
unspelled symbols read level reads is x d =
    none-some (is ∙ ap finished (placed-is symbols read (statement whole symbols) reads ∙ read_whole symbols level x d))
