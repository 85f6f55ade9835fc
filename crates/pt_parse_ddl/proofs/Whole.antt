-- From what was read of all symbols to what they spell.
use Rattle.std.proofs.Common.{◌≡◌, ℕ, zero, suc, ◌<◌, arith, true, false, [], ◌∷◌, length, drop, Option, Some, None, Ok, refl, ap, ◌∙◌, sym, subst}
use Rattle.std.proofs.lemmas.Bool.{true≢false}
use Rattle.pt_ast.specs.declared.tree.Expr.{Expr}
use Rattle.pt_ast.specs.declared.statement.Stmt.{Stmt}
use Rattle.pt_parse_expr.specs.declared.alphabet.Symbol.{Symbol}
use Rattle.pt_parse_expr.specs.Grammar.{Symbols}
use Rattle.pt_parse_expr.specs.Reader.{Reading}
use Rattle.pt_parse_expr.specs.Placing.{Reads}
use Rattle.pt_parse_expr.proofs.Sound.{Sound}
use Rattle.pt_parse_ddl.specs.Spelling.{SpellsStmt, OneStatement}
use Rattle.pt_parse_ddl.specs.Statements.{IsStmt}
use Rattle.pt_parse_ddl.specs.Reader.{statement, at_end, finished, placed}
use Rattle.pt_parse_expr.specs.Limits.{IsDeep, IsShallow, open_after}
use Rattle.pt_parse_expr.specs.Reader.{sum, found}
use Rattle.pt_parse_expr.specs.Grammar.{IsExpr}
use Rattle.pt_parse_expr.proofs.Covers.{covers-exact}
use Rattle.pt_parse_expr.proofs.Complete.{expr-covers}
use Rattle.pt_parse_expr.proofs.Sound.{expr-sound}
use Rattle.pt_parse_expr.proofs.Shallow.{shallow}
use Rattle.pt_parse_expr.proofs.Places.{shallow-length}
use Rattle.pt_parse_ddl.specs.Steps.{whole}
use Rattle.pt_parse_ddl.proofs.Exact.{Ends, at_comma, at_close}
use Rattle.pt_parse_ddl.proofs.OfStatements.{statement-sound, statement-read}

-- the same tree, of the same reading
pub same_tree : {A : Type 0} {x y : A} {us vs : Symbols} {r : Reading A} → r ≡ Some (x, us) → r ≡ Some (y, vs) → x ≡ y
same_tree {x = x} e f = ap (λ r. elim r [ None ↦ x | Some p ↦ p.0 ]) (sym e ∙ f)

-- ---- expressions that are read to a depth

-- with some parentheses open before them, the symbols open no more than that many
abbrev pub Level : ℕ → Symbols → Type 0
Level most ts = (height : ℕ) × IsShallow most height ts

pub level-tail : (most : ℕ) (s : Symbol) (ts : Symbols) → Level most (s ∷ ts) → Level most ts
level-tail most s ts (height, shallow) = (open_after s height, shallow.1)

pub expr-exact : (most : ℕ) (ts rest : Symbols) (x : Expr) → IsExpr ts x rest → Ends rest → Level most ts → sum (found most) ts ≡ Some (x, rest)
expr-exact most ts _ x d at_comma l = covers-exact (expr-covers d most most l.0 (omega arith) l.1) refl
expr-exact most ts _ x d at_close l = covers-exact (expr-covers d most most l.0 (omega arith) l.1) refl

read_to : (most : ℕ) {ts : Symbols} {x : Stmt} → IsStmt ts x [] → Level most ts → statement (sum (found most)) ts ≡ Some (x, [])
read_to most d l = statement-read (sum (found most)) (Level most) (level-tail most) (expr-exact most) d l

pub one : OneStatement
one ts x y d e =
    let l : Level (length ts) ts = (0, shallow-length ts (length ts) 0 (omega arith)) in
    same_tree (read_to (length ts) d l) (read_to (length ts) e l)

-- ---- to the depth of a piece

pub whole-sound : (ts : Symbols) → Sound IsExpr ts (whole ts)
unfolding whole
whole-sound ts = expr-sound 64 ts

pub whole-exact : (ts rest : Symbols) (x : Expr) → IsExpr ts x rest → Ends rest → Level 64 ts → whole ts ≡ Some (x, rest)
unfolding whole
whole-exact ts rest x d ends l = expr-exact 64 ts rest x d ends l

read_whole : (ts : Symbols) → (IsDeep ts → ⊥) → (x : Stmt) → IsStmt ts x [] → statement whole ts ≡ Some (x, [])
read_whole ts level x d = statement-read whole (Level 64) (level-tail 64) whole-exact d (0, shallow ts level)

-- ---- a reading that is finished

some-same : {A : Type 0} {x y : A} → Some x ≡ Some y → x ≡ y
some-same {x = x} e = ap (λ o. elim o [ None ↦ x | Some z ↦ z ]) e

at_end-sound : {A : Type 0} (R : Symbols → A → Symbols → Type 0) (ts : Symbols) (y : A) (us : Symbols) (x : A) → R ts y us → at_end y us ≡ Some x → R ts x []
at_end-sound R ts y [] x d e = subst (λ z. R ts z []) (some-same e) d
at_end-sound R ts y (t ∷ us) x d e = absurd (true≢false (ap (λ o. elim o [ None ↦ true | Some z ↦ false ]) e))

pub finished-sound : {A : Type 0} (R : Symbols → A → Symbols → Type 0) (ts : Symbols) (r : Reading A) (x : A) → Sound R ts r → finished r ≡ Some x → R ts x []
finished-sound R ts (Some p) x d e = at_end-sound R ts p.0 p.1 x d e
finished-sound R ts None x d e = absurd (true≢false (ap (λ o. elim o [ None ↦ true | Some z ↦ false ]) e))

-- what a function read, with the symbols behind it
pub placed-is : {A : Type 0} (all : Symbols) (read : Option (A × ℕ)) (reading : Reading A) → Reads all (Ok read) reading → placed all read ≡ reading
placed-is all None reading is = sym is
placed-is all (Some p) reading is = sym is

pub spelled : (symbols : Symbols) (read : Option (Stmt × ℕ)) (x : Stmt) → Reads symbols (Ok read) (statement whole symbols) → Some x ≡ finished (placed symbols read)
    → SpellsStmt symbols x
spelled symbols read x reads is =
    finished-sound IsStmt symbols (statement whole symbols) x (statement-sound whole whole-sound symbols) (ap finished (sym (placed-is symbols read (statement whole symbols) reads)) ∙ sym is)

pub unspelled : (symbols : Symbols) (read : Option (Stmt × ℕ)) → (IsDeep symbols → ⊥) → Reads symbols (Ok read) (statement whole symbols) → None ≡ finished (placed symbols read)
    → (x : Stmt) → SpellsStmt symbols x → ⊥
unspelled symbols read level reads is x d =
    let e = is ∙ ap finished (placed-is symbols read (statement whole symbols) reads ∙ read_whole symbols level x d) in
    absurd (true≢false (ap (λ o. elim o [ None ↦ true | Some z ↦ false ]) e))

-- something comes behind a place within
pub more_behind : {A : Type 0} (x : A) (n : ℕ) (ts : Symbols) → n < length ts → at_end x (drop n ts) ≡ None
more_behind x n [] h = absurd (omega (arith, h))
more_behind x zero (t ∷ ts) h = refl
more_behind x (suc n) (t ∷ ts) h = more_behind x n ts (omega (arith, h))
