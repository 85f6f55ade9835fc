-- The longest reading, as functions on lists of symbols. (In the shape of the code.)
use Rattle.std.specs.Prelude.{ℕ, zero, suc, List, [], ◌∷◌, length, Bool, true, false, Option, Some, None, nat_lt, if◌then◌else◌}
use Rattle.pt_value.specs.Text.{day_of}
use Rattle.pt_ast.specs.declared.tree.Op.{Op}
use Rattle.pt_ast.specs.declared.tree.Op.TheVariants as op
use Rattle.pt_ast.specs.declared.tree.Func.{Func}
use Rattle.pt_ast.specs.declared.tree.Expr.{Expr}
use Rattle.pt_ast.specs.declared.tree.Expr.TheVariants as tree
use Rattle.pt_ast.specs.declared.tree.Cond.{Cond}
use Rattle.pt_ast.specs.declared.tree.Cond.TheVariants as cond
use Rattle.pt_parse_expr.specs.declared.alphabet.Mark.TheVariants.{Open, Close, Comma, Plus, Minus, Star, Percent, Compare, And, Between, Div, In, Is, Mod, Not, Null, Or}
use Rattle.pt_parse_expr.specs.declared.alphabet.Symbol.{Symbol}
use Rattle.pt_parse_expr.specs.declared.alphabet.Symbol.TheVariants.{Fixed, Word, Quoted, Number, Text, Hex}
use Rattle.pt_parse_expr.specs.declared.found.Found.{Found}
use Rattle.pt_parse_expr.specs.declared.found.Found.TheVariants.{Value, Test}
use Rattle.pt_parse_expr.specs.declared.found.Behind.{Behind}
use Rattle.pt_parse_expr.specs.declared.found.Behind.TheVariants as behind
use Rattle.pt_parse_expr.specs.Symbols.{func_of}
use Rattle.pt_parse_expr.specs.Grammar.{Symbols, is_date, sum_of, product_of, and_of, or_of}

-- what was read, and what comes after it
abbrev pub Reading : Type 0 → Type 0
Reading A = Option (A × Symbols)

abbrev pub Reader : Type 0 → Type 0
Reader A = Symbols → Reading A

abbrev pub mapped : {A B : Type 0} → (A → B) → Reading A → Reading B
mapped f (Some p) = Some (f p.0, p.1)
mapped f None = None

abbrev pub or_else : {A : Type 0} → Reading A → Reading A → Reading A
or_else (Some p) other = Some p
or_else None other = other

-- ---- zero or more, as many as there are

abbrev pub before : {A : Type 0} → A → List A × Symbols → List A × Symbols
before x p = (x ∷ p.0, p.1)

abbrev pub go_on : {A : Type 0} → Reading A → (Symbols → List A × Symbols) → Symbols → List A × Symbols
go_on (Some p) again ts = if nat_lt (length p.1) (length ts) then before p.0 (again p.1) else ([], ts)
go_on None again ts = ([], ts)

unfoldable pub many_in : {A : Type 0} → Reader A → ℕ → Symbols → List A × Symbols
many_in item zero ts = ([], ts)
many_in item (suc n) ts = go_on (item ts) (many_in item n) ts

unfoldable pub many : {A : Type 0} → Reader A → Symbols → List A × Symbols
many item ts = many_in item (length ts) ts

-- ---- what one symbol is

abbrev pub op_of : Symbol → Option Op
op_of (Fixed Star) = Some op.Times
op_of (Fixed Div) = Some op.Div
op_of (Fixed Percent) = Some op.Mod
op_of (Fixed Mod) = Some op.Mod
op_of _ = None

-- true for minus
abbrev pub sign_of : Symbol → Option Bool
sign_of (Fixed Plus) = Some false
sign_of (Fixed Minus) = Some true
sign_of _ = None

-- ---- the rules, over the reader of what stands in parentheses

abbrev pub close : {A : Type 0} → A → Symbols → Reading A
close x (Fixed Close ∷ rest) = Some (x, rest)
close x _ = None

-- what a parenthesis closes
abbrev pub closed : {A : Type 0} → Reading A → Reading A
closed (Some p) = close p.0 p.1
closed None = None

abbrev pub expr_in : Found → Symbols → Reading Expr
expr_in (Value x) rest = Some (x, rest)
expr_in (Test c) rest = None

abbrev pub as_expr : Reading Found → Reading Expr
as_expr (Some p) = expr_in p.0 p.1
as_expr None = None

abbrev pub cond_in : Found → Symbols → Reading Cond
cond_in (Value x) rest = None
cond_in (Test c) rest = Some (c, rest)

abbrev pub as_cond : Reading Found → Reading Cond
as_cond (Some p) = cond_in p.0 p.1
as_cond None = None

abbrev pub null : Bool → Reader Behind
null is_not (Fixed Null ∷ ts) = Some (behind.IsNull is_not, ts)
null is_not _ = None

unfoldable pub after_is : Reader Behind
after_is (Fixed Not ∷ ts) = null true ts
after_is ts = null false ts

abbrev pub with_behind : Expr → Behind → Cond
with_behind x (behind.Compare m y) = cond.Compare m x y
with_behind x (behind.IsNull is_not) = cond.IsNull is_not x
with_behind x (behind.In is_not xs) = cond.In is_not x xs
with_behind x (behind.Between is_not low high) = cond.Between is_not x low high

-- a word before a text: a date, or a column
abbrev pub dated : Bool → List ℕ → List ℕ → Symbols → Reading Expr
dated true name bytes ts = Some (tree.Date (day_of bytes), ts)
dated false name bytes ts = Some (tree.Column name, Text bytes ∷ ts)

module _ (inner : Reader Found) where
  -- an expression and the parenthesis that closes it
  unfoldable pub value : Reader Expr
  value ts = as_expr (closed (inner ts))

  -- a word before a parenthesis: a function, or a column
  abbrev pub call_by : Option Func → List ℕ → Symbols → Reading Expr
  call_by (Some f) name ts = or_else (mapped (tree.Call f) (value ts)) (Some (tree.Column name, Fixed Open ∷ ts))
  call_by None name ts = Some (tree.Column name, Fixed Open ∷ ts)

  unfoldable pub after_word : List ℕ → Reader Expr
  after_word name (Fixed Open ∷ ts) = call_by (func_of name) name ts
  after_word name (Text bytes ∷ ts) = dated (is_date name) name bytes ts
  after_word name ts = Some (tree.Column name, ts)

  abbrev pub divisor : Reader Expr
  divisor (Fixed Comma ∷ ts) = value ts
  divisor _ = None

  abbrev pub divided : Expr → Symbols → Reading Expr
  divided x ts = mapped (λ y. tree.Product x ((op.Mod, y) ∷ [])) (divisor ts)

  abbrev pub divided_by : Reading Expr → Reading Expr
  divided_by (Some p) = divided p.0 p.1
  divided_by None = None

  unfoldable pub after_mod : Reader Expr
  after_mod (Fixed Open ∷ ts) = divided_by (as_expr (inner ts))
  after_mod _ = None

  unfoldable pub primary : Reader Expr
  primary (Number n ∷ ts) = Some (tree.Number n, ts)
  primary (Text bytes ∷ ts) = Some (tree.Text bytes, ts)
  primary (Hex bytes ∷ ts) = Some (tree.Hex bytes, ts)
  primary (Quoted name ∷ ts) = Some (tree.Column name, ts)
  primary (Word name ∷ ts) = after_word name ts
  primary (Fixed Null ∷ ts) = Some (tree.Null, ts)
  primary (Fixed Mod ∷ ts) = after_mod ts
  primary (Fixed Open ∷ ts) = value ts
  primary _ = None

  unfoldable pub factor : Reader Expr
  factor (Fixed Plus ∷ ts) = primary ts
  factor (Fixed Minus ∷ ts) = mapped tree.Neg (primary ts)
  factor ts = primary ts

  abbrev pub operated : Option Op → Symbols → Reading (Op × Expr)
  operated (Some o) ts = mapped (λ x. (o, x)) (factor ts)
  operated None ts = None

  unfoldable pub next_factor : Reader (Op × Expr)
  next_factor [] = None
  next_factor (s ∷ ts) = operated (op_of s) ts

  -- a product, from what was read of its first part
  abbrev pub product_after : Reading Expr → Reading Expr
  product_after (Some p) = let more = many next_factor p.1 in Some (product_of p.0 more.0, more.1)
  product_after None = None

  unfoldable pub term : Reader Expr
  term ts = product_after (factor ts)

  abbrev pub signed : Option Bool → Symbols → Reading (Bool × Expr)
  signed (Some is_minus) ts = mapped (λ x. (is_minus, x)) (term ts)
  signed None ts = None

  unfoldable pub next_term : Reader (Bool × Expr)
  next_term [] = None
  next_term (s ∷ ts) = signed (sign_of s) ts

  abbrev pub sum_after : Reading Expr → Reading Expr
  sum_after (Some p) = let more = many next_term p.1 in Some (sum_of p.0 more.0, more.1)
  sum_after None = None

  unfoldable pub sum : Reader Expr
  sum ts = sum_after (term ts)

  -- ---- conditions. After a parenthesis or a NOT both an expression and a condition may stand.

  unfoldable pub next_more : Reader Expr
  next_more (Fixed Comma ∷ ts) = sum ts
  next_more _ = None

  abbrev pub listed : Bool → Reading Expr → Reading Behind
  listed is_not (Some p) = let more = many next_more p.1 in mapped (λ xs. behind.In is_not (p.0 ∷ xs)) (closed (Some more))
  listed is_not None = None

  unfoldable pub member : Bool → Reader Behind
  member is_not (Fixed Open ∷ ts) = listed is_not (sum ts)
  member is_not _ = None

  abbrev pub high : Reader Expr
  high (Fixed And ∷ ts) = sum ts
  high _ = None

  abbrev pub up_to : Bool → Expr → Symbols → Reading Behind
  up_to is_not low ts = mapped (behind.Between is_not low) (high ts)

  abbrev pub from_low : Bool → Reading Expr → Reading Behind
  from_low is_not (Some p) = up_to is_not p.0 p.1
  from_low is_not None = None

  unfoldable pub range : Bool → Reader Behind
  range is_not ts = from_low is_not (sum ts)

  unfoldable pub among : Bool → Reader Behind
  among is_not (Fixed In ∷ ts) = member is_not ts
  among is_not (Fixed Between ∷ ts) = range is_not ts
  among is_not _ = None

  -- what makes a condition of the expression before it
  unfoldable pub behind_expr : Reader Behind
  behind_expr (Fixed (Compare m) ∷ ts) = mapped (behind.Compare m) (sum ts)
  behind_expr (Fixed Is ∷ ts) = after_is ts
  behind_expr (Fixed Not ∷ ts) = among true ts
  behind_expr ts = among false ts

  abbrev pub compared : Reading Expr → Reading Found
  compared (Some p) = or_else (mapped (λ b. Test (with_behind p.0 b)) (behind_expr p.1)) (Some (Value p.0, p.1))
  compared None = None

  abbrev pub opened_by : Found → Symbols → Reading Found
  opened_by (Value x) rest = compared (sum_after (product_after (Some (x, rest))))
  opened_by (Test c) rest = Some (Test c, rest)

  abbrev pub opened : Reading Found → Reading Found
  opened (Some p) = opened_by p.0 p.1
  opened None = None

  unfoldable pub tested : Reader Found
  tested (Fixed Open ∷ ts) = opened (closed (inner ts))
  tested ts = compared (sum ts)

  unfoldable pub negation : Reader Found
  negation (Fixed Not ∷ ts) = mapped (λ c. Test (cond.Not c)) (as_cond (tested ts))
  negation ts = tested ts

  unfoldable pub next_negation : Reader Cond
  next_negation (Fixed And ∷ ts) = as_cond (negation ts)
  next_negation _ = None

  abbrev pub and_by : Found → Symbols → Reading Found
  and_by (Value x) rest = Some (Value x, rest)
  and_by (Test c) rest = let more = many next_negation rest in Some (Test (and_of c more.0), more.1)

  abbrev pub and_after : Reading Found → Reading Found
  and_after (Some p) = and_by p.0 p.1
  and_after None = None

  unfoldable pub conjunction : Reader Found
  conjunction ts = and_after (negation ts)

  unfoldable pub next_conjunction : Reader Cond
  next_conjunction (Fixed Or ∷ ts) = as_cond (conjunction ts)
  next_conjunction _ = None

  abbrev pub or_by : Found → Symbols → Reading Found
  or_by (Value x) rest = Some (Value x, rest)
  or_by (Test c) rest = let more = many next_conjunction rest in Some (Test (or_of c more.0), more.1)

  abbrev pub or_after : Reading Found → Reading Found
  or_after (Some p) = or_by p.0 p.1
  or_after None = None

  -- a condition where one is spelled, else an expression
  unfoldable pub either : Reader Found
  either ts = or_after (conjunction ts)

-- with parentheses nested no deeper than the number
unfoldable pub found : ℕ → Reader Found
found zero = λ ts. None
found (suc depth) = either (found depth)
