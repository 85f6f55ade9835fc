-- From what was read of all symbols to what they spell, and the law of one reading.
use Rattle.std.proofs.Common.{◌≡◌, ℕ, Bool, true, false, [], ◌∷◌, length, Option, Some, None, Ok, refl, ap, ◌∙◌, sym, arith}
use Rattle.std.proofs.lemmas.Bool.{true≢false}
use Rattle.pt_ast.specs.declared.tree.Expr.{Expr}
use Rattle.pt_ast.specs.declared.tree.Cond.{Cond}
use Rattle.pt_ast.specs.declared.statement.Stmt.{Stmt}
use Rattle.pt_parse_expr.specs.declared.alphabet.Mark.TheVariants.{Other}
use Rattle.pt_parse_expr.specs.declared.alphabet.Reserved.TheVariants as word
use Rattle.pt_parse_expr.specs.declared.alphabet.Symbol.TheVariants.{Fixed}
use Rattle.pt_parse_expr.specs.Grammar.{Symbols, IsExpr, IsCond}
use Rattle.pt_parse_expr.specs.Limits.{IsDeep}
use Rattle.pt_parse_expr.specs.Placing.{Reads}
use Rattle.pt_parse_expr.specs.Reader.{Reader, sum, either, as_cond, found}
use Rattle.pt_parse_expr.proofs.Sound.{Sound, cond-sound}
use Rattle.pt_parse_expr.proofs.Covers.{covers-exact}
use Rattle.pt_parse_expr.proofs.Complete.{expr-covers, cond-covers}
use Rattle.pt_parse_expr.proofs.Shallow.{shallow}
use Rattle.pt_parse_expr.proofs.Places.{shallow-length}
use Rattle.pt_parse_ddl.specs.Spelling.{SpellsStmt as SpellsDefinition}
use Rattle.pt_parse_ddl.specs.Statements.{IsStmt as IsDefinition}
use Rattle.pt_parse_ddl.specs.Statements as definition
use Rattle.pt_parse_ddl.specs.Reader.{finished, placed}
use Rattle.pt_parse_ddl.specs.Steps.{whole}
use Rattle.pt_parse_ddl.proofs.Whole.{same_tree, Level, level-tail, whole-sound, finished-sound, placed-is, one as one_definition}
use Rattle.pt_parse_dml.specs.Statements.{IsStmt, insert, replace, update, delete, select, explain, query}
use Rattle.pt_parse_dml.specs.Spelling.{SpellsStmt, Spells, as_definition, on_rows, OneReading}
use Rattle.pt_parse_dml.specs.TailReader.{whole_cond}
use Rattle.pt_parse_dml.specs.Reader.{statement}
use Rattle.pt_parse_dml.proofs.Stops.{Stops, sum-stops, cond-stops}
use Rattle.pt_parse_dml.proofs.OfStatements.{statement-sound, statement-read}

-- ---- expressions and conditions that are read to a depth

abbrev cond_to : ℕ → Reader Cond
cond_to most ts = as_cond (either (found most) ts)

expr-exact : (most : ℕ) (ts rest : Symbols) (x : Expr) → IsExpr ts x rest → Stops rest → Level most ts → sum (found most) ts ≡ Some (x, rest)
expr-exact most ts rest x d s l = covers-exact (expr-covers d most most l.0 (omega arith) l.1) (sum-stops s)

cond-exact : (most : ℕ) (ts rest : Symbols) (c : Cond) → IsCond ts c rest → Stops rest → Level most ts → cond_to most ts ≡ Some (c, rest)
cond-exact most ts rest c d s l = covers-exact (cond-covers d most most l.0 (omega arith) l.1) (cond-stops s)

read_to : (most : ℕ) {ts : Symbols} {x : Stmt} → IsStmt ts x [] → Level most ts → statement (sum (found most)) (cond_to most) ts ≡ Some (x, [])
read_to most d l = statement-read (sum (found most)) (cond_to most) (Level most) (level-tail most) (expr-exact most) (cond-exact most) d l

-- ---- one reading

one_on_rows : (ts : Symbols) (x y : Stmt) → SpellsStmt ts x → SpellsStmt ts y → x ≡ y
one_on_rows ts x y d e =
    let l : Level (length ts) ts = (0, shallow-length ts (length ts) 0 (omega arith)) in
    same_tree (read_to (length ts) d l) (read_to (length ts) e l)

-- the first word decides
abbrev begins_on_rows : Symbols → Bool
begins_on_rows (Fixed (Other word.Insert) ∷ ts) = true
begins_on_rows (Fixed (Other word.Replace) ∷ ts) = true
begins_on_rows (Fixed (Other word.Update) ∷ ts) = true
begins_on_rows (Fixed (Other word.Delete) ∷ ts) = true
begins_on_rows (Fixed (Other word.Select) ∷ ts) = true
begins_on_rows (Fixed (Other word.Explain) ∷ ts) = true
begins_on_rows _ = false

rows-begin : {ts rest : Symbols} {x : Stmt} → IsStmt ts x rest → begins_on_rows ts ≡ true
rows-begin (insert i d) = refl
rows-begin (replace d) = refl
rows-begin (update t a d) = refl
rows-begin (delete s) = refl
rows-begin (select (query d s)) = refl
rows-begin (explain w d) = refl

definition-begins : {ts rest : Symbols} {x : Stmt} → IsDefinition ts x rest → begins_on_rows ts ≡ false
definition-begins (definition.show d) = refl
definition-begins _ = refl

apart : (ts : Symbols) (x y : Stmt) → SpellsDefinition ts x → SpellsStmt ts y → ⊥
apart ts x y d e = true≢false (sym (rows-begin e) ∙ definition-begins d)

one : (ts : Symbols) (x y : Stmt) → Spells ts x → Spells ts y → x ≡ y
one ts x y (as_definition d) (as_definition e) = one_definition ts x y d e
one ts x y (as_definition d) (on_rows e) = absurd (apart ts x y d e)
one ts x y (on_rows d) (as_definition e) = absurd (apart ts y x e d)
one ts x y (on_rows d) (on_rows e) = one_on_rows ts x y d e

pub one_reading : OneReading
one_reading = record { one = one; apart = apart }

-- ---- to the depth of a piece

whole_cond-sound : (ts : Symbols) → Sound IsCond ts (whole_cond ts)
unfolding whole_cond
whole_cond-sound ts = cond-sound 64 ts

whole-exact : (ts rest : Symbols) (x : Expr) → IsExpr ts x rest → Stops rest → Level 64 ts → whole ts ≡ Some (x, rest)
unfolding whole
whole-exact ts rest x d s l = expr-exact 64 ts rest x d s l

whole_cond-exact : (ts rest : Symbols) (c : Cond) → IsCond ts c rest → Stops rest → Level 64 ts → whole_cond ts ≡ Some (c, rest)
unfolding whole_cond
whole_cond-exact ts rest c d s l = cond-exact 64 ts rest c d s l

read_whole : (ts : Symbols) → (IsDeep ts → ⊥) → (x : Stmt) → IsStmt ts x [] → statement whole whole_cond ts ≡ Some (x, [])
read_whole ts level x d = statement-read whole whole_cond (Level 64) (level-tail 64) whole-exact whole_cond-exact d (0, shallow ts level)

-- ---- a reading that is finished

pub spelled : (symbols : Symbols) (read : Option (Stmt × ℕ)) (x : Stmt) → Reads symbols (Ok read) (statement whole whole_cond symbols)
    → Some x ≡ finished (placed symbols read) → SpellsStmt symbols x
spelled symbols read x reads is =
    let r = statement whole whole_cond symbols in
    finished-sound IsStmt symbols r x (statement-sound whole whole-sound whole_cond whole_cond-sound symbols)
    (ap finished (sym (placed-is symbols read r reads)) ∙ sym is)

pub unspelled : (symbols : Symbols) (read : Option (Stmt × ℕ)) → (IsDeep symbols → ⊥) → Reads symbols (Ok read) (statement whole whole_cond symbols)
    → None ≡ finished (placed symbols read) → (x : Stmt) → SpellsStmt symbols x → ⊥
unspelled symbols read level reads is x d =
    let e = is ∙ ap finished (placed-is symbols read (statement whole whole_cond symbols) reads ∙ read_whole symbols level x d) in
    absurd (true≢false (ap (λ o. elim o [ None ↦ true | Some z ↦ false ]) e))
