-- What the generic steps read is spelled.
use Rattle.std.proofs.Common.{◌≡◌, if◌then◌else◌, Bool, true, false, ◌∷◌, Some, None, refl}
use Rattle.pt_parse_expr.specs.declared.alphabet.Mark.TheVariants.{Open, Close, Comma}
use Rattle.pt_parse_expr.specs.declared.alphabet.Symbol.TheVariants.{Fixed, Word, Quoted, Number}
use Rattle.pt_parse_expr.specs.Grammar.{Symbols}
use Rattle.pt_parse_expr.specs.Reader.{Reading, Reader, mapped, or_else, many, close, closed}
use Rattle.pt_parse_expr.proofs.Sound.{Sound}
use Rattle.pt_parse_expr.proofs.Many.{Adds, many-sound}
use Rattle.pt_parse_ddl.specs.declared.words.Keyword.{Keyword}
use Rattle.pt_parse_ddl.specs.Words.{is_word, IsName, plain_name, quoted_name, IsWord, word}
use Rattle.pt_parse_ddl.specs.Lists.{IsOptional, absent, present, AreRepeated, no_more, again, AreFurther, no_further, further, AreListed, listed, InParens, in_parens, InTuple}
use Rattle.pt_parse_ddl.specs.Columns.{IsNumber, number}
use Rattle.pt_parse_ddl.specs.Steps.{and_then, if_read, or_absent, optional, next_item, more_items, several, in_parens as parens, tuple, named, numbered, worded}

pub and_then-sound : {A B : Type 0} (R : Symbols → A → Symbols → Type 0) (S : Symbols → B → Symbols → Type 0) (ts us : Symbols) (r : Reading A)
    (go : A → Symbols → Reading B) → Sound R ts r → ((x : A) (vs : Symbols) → R ts x vs → Sound S us (go x vs)) → Sound S us (and_then r go)
and_then-sound R S ts us (Some p) go d step = step p.0 p.1 d
and_then-sound R S ts us None go d step = tt

pub if_read-sound : {A B : Type 0} (R : Symbols → A → Symbols → Type 0) (S : Symbols → B → Symbols → Type 0) (ts us : Symbols) (r : Reading A)
    (go : A → Symbols → Reading B) (other : Reading B) → Sound R ts r → ((x : A) (vs : Symbols) → R ts x vs → Sound S us (go x vs)) → Sound S us other
    → Sound S us (if_read r go other)
if_read-sound R S ts us (Some p) go other d step e = step p.0 p.1 d
if_read-sound R S ts us None go other d step e = e

pub mapped-sound : {A B : Type 0} (R : Symbols → A → Symbols → Type 0) (S : Symbols → B → Symbols → Type 0) (ts us : Symbols) (r : Reading A) (f : A → B)
    → Sound R ts r → ((x : A) (rest : Symbols) → R ts x rest → S us (f x) rest) → Sound S us (mapped f r)
mapped-sound R S ts us (Some p) f d step = step p.0 p.1 d
mapped-sound R S ts us None f d step = tt

pub or_else-sound : {A : Type 0} (S : Symbols → A → Symbols → Type 0) (us : Symbols) (r other : Reading A) → Sound S us r → Sound S us other → Sound S us (or_else r other)
or_else-sound S us (Some p) other d e = d
or_else-sound S us None other d e = e

-- ---- one symbol

pub name-sound : (ts : Symbols) → Sound IsName ts (named ts)
unfolding named
name-sound (Word x ∷ ts) = plain_name
name-sound (Quoted x ∷ ts) = quoted_name
name-sound _ = tt

pub number-sound : (ts : Symbols) → Sound IsNumber ts (numbered ts)
unfolding numbered
number-sound (Number n ∷ ts) = number
number-sound _ = tt

pub word-sound : (k : Keyword) (ts : Symbols) → Sound (IsWord k) ts (worded k ts)
unfolding worded
word-sound k (Word name ∷ ts) = by_test (is_word k name) refl where
  by_test : (b : Bool) → is_word k name ≡ b → Sound (IsWord k) (Word name ∷ ts) (if b then Some (tt, ts) else None)
  by_test true is = word is
  by_test false _ = tt
word-sound k _ = tt

-- ---- parentheses

close-sound : {A : Type 0} (R : Symbols → A → Symbols → Type 0) (ts : Symbols) (x : A) (us : Symbols) → R ts x us → Sound (InParens R) (Fixed Open ∷ ts) (close x us)
close-sound R ts x (Fixed Close ∷ us) d = in_parens d
close-sound R ts x _ d = tt

closed-sound : {A : Type 0} (R : Symbols → A → Symbols → Type 0) (ts : Symbols) (r : Reading A) → Sound R ts r → Sound (InParens R) (Fixed Open ∷ ts) (closed r)
closed-sound R ts (Some p) d = close-sound R ts p.0 p.1 d
closed-sound R ts None d = tt

-- ---- any rule

module _ {A : Type 0} (R : Symbols → A → Symbols → Type 0) (item : Reader A) (sound : (ts : Symbols) → Sound R ts (item ts)) where
  pub parens-sound : (ts : Symbols) → Sound (InParens R) ts (parens item ts)
  unfolding parens
  parens-sound (Fixed Open ∷ ts) = closed-sound R ts (item ts) (sound ts)
  parens-sound _ = tt

  absent-sound : (ts : Symbols) (r : Reading A) → Sound R ts r → IsOptional R ts (or_absent r ts).0 (or_absent r ts).1
  absent-sound ts (Some p) d = present d
  absent-sound ts None d = absent

  pub optional-sound : (ts : Symbols) → IsOptional R ts (optional item ts).0 (optional item ts).1
  unfolding optional
  optional-sound ts = absent-sound ts (item ts) (sound ts)

  adds-again : (ts : Symbols) (r : Reading A) → Sound R ts r → Adds (AreRepeated R) ts r
  adds-again ts (Some p) d = λ xs rest e. again d e
  adds-again ts None d = tt

  pub repeated-sound : (ts : Symbols) → AreRepeated R ts (many item ts).0 (many item ts).1
  repeated-sound ts = many-sound item (AreRepeated R) (λ us. no_more) (λ us. adds-again us (item us) (sound us)) ts

  adds-further : (ts : Symbols) (r : Reading A) → Sound R ts r → Adds (AreFurther R) (Fixed Comma ∷ ts) r
  adds-further ts (Some p) d = λ xs rest e. further d e
  adds-further ts None d = tt

  next-adds : (ts : Symbols) → Adds (AreFurther R) ts (next_item item ts)
  unfolding next_item
  next-adds (Fixed Comma ∷ ts) = adds-further ts (item ts) (sound ts)
  next-adds _ = tt

  pub further-sound : (ts : Symbols) → AreFurther R ts (many (next_item item) ts).0 (many (next_item item) ts).1
  further-sound ts = many-sound (next_item item) (AreFurther R) (λ us. no_further) next-adds ts

  pub several-sound : (ts : Symbols) → Sound (AreListed R) ts (several item ts)
  unfolding several
  several-sound ts = and_then-sound R (AreListed R) ts ts (item ts) (more_items item) (sound ts) (λ x us d. listed d (further-sound us))

pub tuple-sound : {A : Type 0} (R : Symbols → A → Symbols → Type 0) (item : Reader A) → ((ts : Symbols) → Sound R ts (item ts)) → (ts : Symbols)
    → Sound (InTuple R) ts (tuple item ts)
tuple-sound R item sound ts = parens-sound (AreListed R) (several item) (several-sound R item sound) ts
