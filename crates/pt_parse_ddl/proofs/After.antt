-- What is left of some symbols, and what each generic rule takes.
use Rattle.std.proofs.Common.{◌≡◌, ℕ, ◌<◌, List, [], ◌∷◌, ◌++◌, length, Option, ap, sym, subst, arith}
use Rattle.pt_ast.specs.declared.tree.Expr.{Expr}
use Rattle.pt_parse_expr.specs.Grammar.{Symbols, IsExpr}
use Rattle.pt_parse_expr.specs.declared.alphabet.Mark.TheVariants.{Close}
use Rattle.pt_parse_expr.specs.declared.alphabet.Symbol.{Symbol}
use Rattle.pt_parse_expr.specs.declared.alphabet.Symbol.TheVariants.{Fixed}
use Rattle.pt_parse_expr.proofs.Eats.{expr-eats}
use Rattle.pt_parse_expr.proofs.Frame.{expr-framed}
use Rattle.pt_parse_ddl.specs.declared.words.Keyword.{Keyword}
use Rattle.pt_parse_ddl.specs.Words.{IsName, plain_name, quoted_name, IsWord, word}
use Rattle.pt_parse_ddl.specs.Lists.{IsOptional, absent, present, AreRepeated, no_more, again, AreFurther, no_further, further, AreListed, listed, InParens, in_parens, InTuple}

-- the rest comes behind one symbol or more
pub data After : Symbols → Symbols → Type 0 where
  first : {s : Symbol} {ts : Symbols} → After (s ∷ ts) ts
  later : {s : Symbol} {ts rest : Symbols} → After ts rest → After (s ∷ ts) rest

infixl 10 ◌▸◌
pub ◌▸◌ : {ts us rest : Symbols} → After ts us → After us rest → After ts rest
first ▸ b = later b
later a ▸ b = later (a ▸ b)

-- or behind none
pub data UpTo : Symbols → Symbols → Type 0 where
  nothing : {ts : Symbols} → UpTo ts ts
  something : {ts rest : Symbols} → After ts rest → UpTo ts rest

infixl 10 ◌▸*◌
pub ◌▸*◌ : {ts us rest : Symbols} → After ts us → UpTo us rest → After ts rest
a ▸* nothing = a
a ▸* something b = a ▸ b

infixl 10 ◌*▸◌
pub ◌*▸◌ : {ts us rest : Symbols} → UpTo ts us → After us rest → After ts rest
nothing *▸ b = b
something a *▸ b = a ▸ b

pub shorter : {ts rest : Symbols} → After ts rest → length rest < length ts
shorter first = omega arith
shorter (later a) = omega (arith, shorter a)

-- what a symbol less keeps, is kept
pub after-keeps : (P : Symbols → Type 0) → ((s : Symbol) (ts : Symbols) → P (s ∷ ts) → P ts) → {ts rest : Symbols} → After ts rest → P ts → P rest
after-keeps P tail (first {s} {ts}) p = tail s ts p
after-keeps P tail (later {s} {ts} a) p = after-keeps P tail a (tail s ts p)

pub up_to-keeps : (P : Symbols → Type 0) → ((s : Symbol) (ts : Symbols) → P (s ∷ ts) → P ts) → {ts rest : Symbols} → UpTo ts rest → P ts → P rest
up_to-keeps P tail nothing p = p
up_to-keeps P tail (something a) p = after-keeps P tail a p

-- ---- expressions

behind-taken : (s : Symbol) (taken rest : Symbols) → After (s ∷ taken ++ rest) rest
behind-taken s [] rest = first
behind-taken s (t ∷ taken) rest = later (behind-taken t taken rest)

pub from_taken : (taken ts rest : Symbols) → ts ≡ taken ++ rest → length rest < length ts → After ts rest
from_taken [] ts rest is h = absurd (omega (arith, ap length is, h))
from_taken (s ∷ taken) ts rest is h = subst (λ us. After us rest) (sym is) (behind-taken s taken rest)

pub expr-after : {ts rest : Symbols} {x : Expr} → IsExpr ts x rest → After ts rest
expr-after {ts} {rest} d = let f = expr-framed d in from_taken f.taken ts rest f.is (expr-eats d).shorter

-- ---- names and words

pub name-after : {ts rest : Symbols} {x : List ℕ} → IsName ts x rest → After ts rest
name-after plain_name = first
name-after quoted_name = first

pub word-after : {k : Keyword} {ts rest : Symbols} → IsWord k ts tt rest → After ts rest
word-after (word is) = first

-- ---- any rule

module _ {A : Type 0} (R : Symbols → A → Symbols → Type 0) (after : (ts rest : Symbols) (x : A) → R ts x rest → After ts rest) where
  pub optional-up_to : {ts rest : Symbols} {x : Option A} → IsOptional R ts x rest → UpTo ts rest
  optional-up_to absent = nothing
  optional-up_to (present {ts} {rest} {x} d) = something (after ts rest x d)

  pub repeated-up_to : {ts rest : Symbols} {xs : List A} → AreRepeated R ts xs rest → UpTo ts rest
  repeated-up_to no_more = nothing
  repeated-up_to (again {ts} {us} {rest} {x} d more) = something (after ts us x d ▸* repeated-up_to more)

  pub further-up_to : {ts rest : Symbols} {xs : List A} → AreFurther R ts xs rest → UpTo ts rest
  further-up_to no_further = nothing
  further-up_to (further {ts} {us} {rest} {x} d more) = something (later (after ts us x d ▸* further-up_to more))

  pub listed-after : {ts rest : Symbols} {xs : List A} → AreListed R ts xs rest → After ts rest
  listed-after (listed {ts} {us} {rest} {x} d more) = after ts us x d ▸* further-up_to more

  pub parens-after : {ts rest : Symbols} {x : A} → InParens R ts x rest → After ts rest
  parens-after (in_parens {ts} {rest} {x} d) = later (after ts (Fixed Close ∷ rest) x d ▸ first)

pub tuple-after : {A : Type 0} (R : Symbols → A → Symbols → Type 0) → ((ts rest : Symbols) (x : A) → R ts x rest → After ts rest)
    → {ts rest : Symbols} {xs : List A} → InTuple R ts xs rest → After ts rest
tuple-after R after t = parens-after (AreListed R) (λ ts rest xs l. listed-after R after l) t
