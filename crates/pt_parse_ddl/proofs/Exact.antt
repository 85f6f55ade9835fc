-- What the generic rules spell is read by the steps.
use Rattle.std.proofs.Common.{◌≡◌, ℕ, if◌then◌else◌, Bool, false, List, ◌∷◌, Option, Some, None, refl, ap, ◌∙◌, arith}
use Rattle.std.specs.Str.{bytes_eq, str_to_ascii_lowercase}
use Rattle.std.proofs.lemmas.Slice.Eq.{bytes_eq-Decides}
use Rattle.pt_parse_expr.specs.declared.alphabet.Mark.TheVariants.{Open, Close, Comma}
use Rattle.pt_parse_expr.specs.declared.alphabet.Symbol.{Symbol}
use Rattle.pt_parse_expr.specs.declared.alphabet.Symbol.TheVariants.{Fixed}
use Rattle.pt_parse_expr.specs.Grammar.{Symbols}
use Rattle.pt_parse_expr.specs.Reader.{Reading, Reader, mapped, many, before, closed}
use Rattle.pt_parse_expr.proofs.Many.{many-none, many-more}
use Rattle.pt_parse_ddl.specs.declared.words.Keyword.{Keyword}
use Rattle.pt_parse_ddl.specs.Words.{spelling, IsName, plain_name, quoted_name, IsWord, word}
use Rattle.pt_parse_ddl.specs.Lists.{IsOptional, absent, present, AreRepeated, no_more, again, AreFurther, no_further, further, AreListed, listed, in_parens, InTuple}
use Rattle.pt_parse_ddl.specs.Steps.{and_then, if_read, or_absent, optional, next_item, more_items, several, in_parens as parens, tuple, named, worded}
use Rattle.pt_parse_ddl.proofs.After.{After, after-keeps, shorter}

-- ---- steps

module _ {A B : Type 0} {r : Reading A} {x : A} {us : Symbols} where
  pub and_then-is : (go : A → Symbols → Reading B) {s : Reading B} → r ≡ Some (x, us) → go x us ≡ s → and_then r go ≡ s
  and_then-is go e f = ap (λ r. and_then r go) e ∙ f

  pub if_read-is : (go : A → Symbols → Reading B) (other : Reading B) {s : Reading B} → r ≡ Some (x, us) → go x us ≡ s → if_read r go other ≡ s
  if_read-is go other e f = ap (λ r. if_read r go other) e ∙ f

  pub mapped-is : (f : A → B) → r ≡ Some (x, us) → mapped f r ≡ Some (f x, us)
  mapped-is f e = ap (mapped f) e

-- ---- names and words

pub name-read : {ts rest : Symbols} {x : List ℕ} → IsName ts x rest → named ts ≡ Some (x, rest)
unfolding named
name-read plain_name = refl
name-read quoted_name = refl

pub word-read : {k : Keyword} {ts rest : Symbols} → IsWord k ts tt rest → worded k ts ≡ Some (tt, rest)
unfolding worded
word-read (word {rest} is) = ap (λ (b : Bool). if b then Some (tt, rest) else None) is

-- a word is no other
pub word-other : (j k : Keyword) {ts rest : Symbols} → bytes_eq (str_to_ascii_lowercase (spelling j)) (str_to_ascii_lowercase (spelling k)) ≡ false
    → IsWord j ts tt rest → worded k ts ≡ None
unfolding worded
word-other j k other (word {rest} {name} is) =
    let same : str_to_ascii_lowercase name ≡ str_to_ascii_lowercase (spelling j) = (bytes_eq-Decides (str_to_ascii_lowercase name) (str_to_ascii_lowercase (spelling j))).0 is in
    ap (λ (b : Bool). if b then Some (tt, rest) else None) (ap (λ n. bytes_eq n (str_to_ascii_lowercase (spelling k))) same ∙ other)

-- ---- parts that may be absent

pub optional-read : {A : Type 0} (R : Symbols → A → Symbols → Type 0) (item : Reader A) {ts rest : Symbols} {x : Option A}
    → ((x : A) → R ts x rest → item ts ≡ Some (x, rest)) → item rest ≡ None → IsOptional R ts x rest → optional item ts ≡ (x, rest)
unfolding optional
optional-read R item {ts} read none absent = ap (λ r. or_absent r ts) none
optional-read R item {ts} read none (present {x} d) = ap (λ r. or_absent r ts) (read x d)

-- ---- lists

-- where an item of a list ends
pub data Ends : Symbols → Type 0 where
  at_comma : {ts : Symbols} → Ends (Fixed Comma ∷ ts)
  at_close : {ts : Symbols} → Ends (Fixed Close ∷ ts)

-- P is kept by what is left of the symbols
module _ (P : Symbols → Type 0) (tail : (s : Symbol) (ts : Symbols) → P (s ∷ ts) → P ts) {A : Type 0} (R : Symbols → A → Symbols → Type 0) (item : Reader A)
    (after : (ts rest : Symbols) (x : A) → R ts x rest → After ts rest) where
  -- where items are read that come before what is good, and each item begins with what is good
  pub repeated-read : (Good : Symbols → Type 0) → ((ts rest : Symbols) (x : A) → R ts x rest → Good ts)
      → ((ts rest : Symbols) (x : A) → R ts x rest → Good rest → P ts → item ts ≡ Some (x, rest))
      → {ts rest : Symbols} {xs : List A} → AreRepeated R ts xs rest → Good rest → item rest ≡ None → P ts
      → (many item ts ≡ (xs, rest)) × Good ts
  repeated-read Good begins read {ts} no_more good none p = (many-none item ts none, good)
  repeated-read Good begins read (again {ts} {us} {rest} {x} d more) good none p =
      let a = after ts us x d in
      let m = repeated-read Good begins read more good none (after-keeps P tail a p) in
      (many-more item ts us x (read ts us x d m.1 p) (shorter a) ∙ ap (before x) m.0, begins ts us x d)

  ends-further : {ts rest : Symbols} {xs : List A} → AreFurther R ts xs (Fixed Close ∷ rest) → Ends ts
  ends-further no_further = at_close
  ends-further (further d more) = at_comma

  module _ (exact : (ts rest : Symbols) (x : A) → R ts x rest → Ends rest → P ts → item ts ≡ Some (x, rest)) where
    further-read : {ts rest : Symbols} {xs : List A} → AreFurther R ts xs (Fixed Close ∷ rest) → P ts → many (next_item item) ts ≡ (xs, Fixed Close ∷ rest)
    unfolding next_item
    further-read {rest} no_further p = many-none (next_item item) (Fixed Close ∷ rest) refl
    further-read (further {ts} {us} {x} d more) p =
        let a = after ts us x d in
        let q = tail (Fixed Comma) ts p in
        many-more (next_item item) (Fixed Comma ∷ ts) us x (exact ts us x d (ends-further more) q) (omega (arith, shorter a))
        ∙ ap (before x) (further-read more (after-keeps P tail a q))

    pub several-read : {ts rest : Symbols} {xs : List A} → AreListed R ts xs (Fixed Close ∷ rest) → P ts → several item ts ≡ Some (xs, Fixed Close ∷ rest)
    unfolding several
    several-read (listed {ts} {us} {x} d more) p =
        and_then-is (more_items item) (exact ts us x d (ends-further more) p)
        (ap (λ m. Some (x ∷ m.0, m.1)) (further-read more (after-keeps P tail (after ts us x d) p)))

    pub tuple-read : {ts rest : Symbols} {xs : List A} → InTuple R ts xs rest → P ts → tuple item ts ≡ Some (xs, rest)
    unfolding parens
    tuple-read (in_parens {ts} l) p = ap closed (several-read l (tail (Fixed Open) ts p))
