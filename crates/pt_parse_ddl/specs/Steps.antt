-- Steps of reading, as functions on lists of symbols. (In the shape of the code.)
use Rattle.std.specs.Prelude.{◌≡◌, ◌≤◌, ℕ, ℤ, List, ◌∷◌, length, drop, Option, Some, None, if◌then◌else◌}
use Rattle.pt_ast.specs.declared.tree.Expr.{Expr}
use Rattle.pt_parse_expr.specs.declared.alphabet.Mark.TheVariants.{Open, Comma}
use Rattle.pt_parse_expr.specs.declared.alphabet.Symbol.TheVariants.{Fixed, Word, Quoted, Number}
use Rattle.pt_parse_expr.specs.Grammar.{Symbols}
use Rattle.pt_parse_expr.specs.Reader.{Reading, Reader, many, closed, sum, found}
use Rattle.pt_parse_ddl.specs.declared.words.Keyword.{Keyword}
use Rattle.pt_parse_ddl.specs.Words.{is_word}

-- ---- one reading after another

abbrev pub and_then : {A B : Type 0} → Reading A → (A → Symbols → Reading B) → Reading B
and_then (Some p) go = go p.0 p.1
and_then None go = None

-- one way behind what was read, another where nothing was
abbrev pub if_read : {A B : Type 0} → Reading A → (A → Symbols → Reading B) → Reading B → Reading B
if_read (Some p) go other = go p.0 p.1
if_read None go other = other

abbrev pub or_absent : {A : Type 0} → Reading A → Symbols → Option A × Symbols
or_absent (Some p) ts = (Some p.0, p.1)
or_absent None ts = (None, ts)

-- [x]
unfoldable pub optional : {A : Type 0} → Reader A → Symbols → Option A × Symbols
optional item ts = or_absent (item ts) ts

-- ---- lists

unfoldable pub next_item : {A : Type 0} → Reader A → Reader A
next_item item (Fixed Comma ∷ ts) = item ts
next_item item _ = None

-- as many items as there are, behind the first
abbrev pub more_items : {A : Type 0} → Reader A → A → Symbols → Reading (List A)
more_items item x us = let more = many (next_item item) us in Some (x ∷ more.0, more.1)

-- x {, x}
unfoldable pub several : {A : Type 0} → Reader A → Reader (List A)
several item ts = and_then (item ts) (more_items item)

-- ( x )
unfoldable pub in_parens : {A : Type 0} → Reader A → Reader A
in_parens item (Fixed Open ∷ ts) = closed (item ts)
in_parens item _ = None

-- ( x {, x} )
abbrev pub tuple : {A : Type 0} → Reader A → Reader (List A)
tuple item = in_parens (several item)

-- ---- one symbol

unfoldable pub named : Reader (List ℕ)
named (Word name ∷ ts) = Some (name, ts)
named (Quoted name ∷ ts) = Some (name, ts)
named _ = None

unfoldable pub numbered : Reader ℤ
numbered (Number n ∷ ts) = Some (n, ts)
numbered _ = None

unfoldable pub worded : Keyword → Reader (Unit {0})
worded k (Word name ∷ ts) = if is_word k name then Some (tt, ts) else None
worded k _ = None

-- ---- expressions

-- as deep as they may nest
unfoldable pub whole : Reader Expr
whole ts = sum (found 64) ts

-- ---- what functions answer that make nothing

-- the place behind what was passed over
abbrev pub Passes : Symbols → Option ℕ → Reading (Unit {0}) → Type 0
Passes all None reading = reading ≡ None
Passes all (Some next) reading = reading ≡ Some (tt, drop next all)

abbrev pub PassesTo : ℕ → Symbols → Option ℕ → Type 0
PassesTo least all None = Unit {0}
PassesTo least all (Some next) = (least ≤ next) × (next ≤ length all)
