-- Optional parts, repeated parts and lists of any production. `R ts x rest` says that the symbols ts begin with a spelling of x, and
-- that rest is what comes after it. What has no part in a tree is `tt`.
use Rattle.std.specs.Prelude.{List, [], ◌∷◌, Option, Some, None}
use Rattle.pt_parse_expr.specs.declared.alphabet.Mark.TheVariants.{Open, Close, Comma}
use Rattle.pt_parse_expr.specs.declared.alphabet.Symbol.TheVariants.{Fixed}
use Rattle.pt_parse_expr.specs.Grammar.{Symbols}

-- [x]
pub data IsOptional {A : Type 0} (R : Symbols → A → Symbols → Type 0) : Symbols → Option A → Symbols → Type 0 where
  absent : {ts : Symbols} → IsOptional R ts None ts
  present : {ts rest : Symbols} {x : A} → R ts x rest → IsOptional R ts (Some x) rest

-- {x}
pub data AreRepeated {A : Type 0} (R : Symbols → A → Symbols → Type 0) : Symbols → List A → Symbols → Type 0 where
  no_more : {ts : Symbols} → AreRepeated R ts [] ts
  again : {ts us rest : Symbols} {x : A} {xs : List A} → R ts x us → AreRepeated R us xs rest → AreRepeated R ts (x ∷ xs) rest

-- {, x}
pub data AreFurther {A : Type 0} (R : Symbols → A → Symbols → Type 0) : Symbols → List A → Symbols → Type 0 where
  no_further : {ts : Symbols} → AreFurther R ts [] ts
  further : {ts us rest : Symbols} {x : A} {xs : List A} → R ts x us → AreFurther R us xs rest → AreFurther R (Fixed Comma ∷ ts) (x ∷ xs) rest

-- x {, x}
pub data AreListed {A : Type 0} (R : Symbols → A → Symbols → Type 0) : Symbols → List A → Symbols → Type 0 where
  listed : {ts us rest : Symbols} {x : A} {xs : List A} → R ts x us → AreFurther R us xs rest → AreListed R ts (x ∷ xs) rest

-- ( x )
pub data InParens {A : Type 0} (R : Symbols → A → Symbols → Type 0) : Symbols → A → Symbols → Type 0 where
  in_parens : {ts rest : Symbols} {x : A} → R ts x (Fixed Close ∷ rest) → InParens R (Fixed Open ∷ ts) x rest

-- ( x {, x} )
abbrev pub InTuple : {A : Type 0} → (Symbols → A → Symbols → Type 0) → Symbols → List A → Symbols → Type 0
InTuple R = InParens (AreListed R)
