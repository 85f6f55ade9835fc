-- Steps of a reader, taken apart and put together.
use Rattle.std.proofs.Common.{◌≡◌, ℕ, suc, ◌<◌, Bool, true, false, cond, ◌==◌, List, [], ◌∷◌, ◌++◌, Option, Some, None, refl, sym, ap, ◌∙◌, subst, arith, append_assoc, length-append}
use Rattle.std.specs.Prelude.{Result, Ok, Err}
use Rattle.std.proofs.lemmas.Bool.Decides.{Decides-eqb}
use Rattle.std.proofs.lemmas.List.{get_or_append_left}
use Rattle.pt_bytes.specs.Numbers.{AreBytes}
use Rattle.pt_defs.specs.Reading.{◌>>=◌, Read, Reader, field, made, meant, pass}

-- ---- a value that is there came from one that was

pub one_ok : {A : Type 0} (a b : A) → ◌≡◌ {A = Result A ℕ} (Ok a) (Ok b) → a ≡ b
one_ok a b e = cc

pub one_some : {A : Type 0} (a b : A) → Some a ≡ Some b → a ≡ b
one_some a b e = cc

pub from_bind : {A B : Type 0} (f : A → Result B ℕ) (read : Result A ℕ) (b : B) → (read >>= f) ≡ Ok b → (a : A) × (read ≡ Ok a) × (f a ≡ Ok b)
from_bind f (Ok a) b e = (a, refl, e)
from_bind f (Err n) b e = absurd cc

pub from_pass : {A : Type 0} (t : Bool) (bytes : List ℕ) (x y : A) → pass t bytes x ≡ Ok y → (t ≡ true) × (x ≡ y)
from_pass true bytes x y e = (refl, one_ok x y e)
from_pass false bytes x y e = absurd cc

pub from_field : {A : Type 0} (bytes : List ℕ) (read : Result A ℕ) (x : A) → field bytes read ≡ Ok x → read ≡ Ok x
from_field bytes (Ok a) x e = e
from_field bytes (Err n) x e = absurd cc

pub from_made : {A B : Type 0} (f : A → B) (read : Read A) (p : B × List ℕ) → made f read ≡ Ok p → (a : A × List ℕ) × (read ≡ Ok a) × ((f a.0, a.1) ≡ p)
from_made f (Ok a) p e = (a, refl, one_ok (f a.0, a.1) p e)
from_made f (Err n) p e = absurd cc

pub from_meant : {A : Type 0} (start : List ℕ) (o : Option A) (rest : List ℕ) (p : A × List ℕ) → meant start o rest ≡ Ok p → (a : A) × (o ≡ Some a) × ((a, rest) ≡ p)
from_meant start (Some a) rest p e = (a, refl, one_ok (a, rest) p e)
from_meant start None rest p e = absurd cc

pub is_number : (a b : ℕ) → (a == b) ≡ true → a ≡ b
is_number a b h = (Decides-eqb a b).0 h

-- one of two ways, by a number
pub either : {X R : Type 0} (n k : ℕ) (x y z : X) → cond (n == k) x y ≡ z → (n ≡ k → x ≡ z → R) → (y ≡ z → R) → R
either {X} {R} n k x y z e f g = go (n == k) refl e
  where
    go : (b : Bool) → (n == k) ≡ b → cond b x y ≡ z → R
    go true h same = f (is_number n k h) same
    go false h same = g same

-- ---- bytes

front_bytes : (a rest : List ℕ) → AreBytes (a ++ rest) → AreBytes a
front_bytes a rest are k d lt = subst (λ n. n < 256) (get_or_append_left a rest d k lt) (are k d (omega (arith, length-append a rest)))

behind_bytes : (a rest : List ℕ) → AreBytes (a ++ rest) → AreBytes rest
behind_bytes [] rest are = are
behind_bytes (x ∷ a) rest are = behind_bytes a rest (λ k d lt. are (suc k) d (omega arith))

pub AreBytes-front : (bytes a rest : List ℕ) → AreBytes bytes → bytes ≡ a ++ rest → AreBytes a
AreBytes-front bytes a rest are e = front_bytes a rest (subst AreBytes e are)

pub AreBytes-behind : (bytes a rest : List ℕ) → AreBytes bytes → bytes ≡ a ++ rest → AreBytes rest
AreBytes-behind bytes a rest are e = behind_bytes a rest (subst AreBytes e are)

-- ---- what is read was written

pub record Was {A : Type 0} (P : A → Type 0) (text : A → List ℕ) (bytes : List ℕ) (x : A) (rest : List ℕ) : Type 0 where
  pub is : P x
  pub text_is : bytes ≡ text x ++ rest
  pub are : AreBytes rest

-- what is written is read, in front of any rest, and what is read was written
pub record Codec {A : Type 0} (reader : Reader A) (text : A → List ℕ) (P : A → Type 0) : Type 0 where
  pub complete : (x : A) (rest : List ℕ) → P x → reader (text x ++ rest) ≡ Ok (x, rest)
  pub sound : (bytes : List ℕ) (x : A) (rest : List ℕ) → AreBytes bytes → reader bytes ≡ Ok (x, rest) → Was P text bytes x rest

-- the same of another value and another rest that are these
pub same_pair : {A : Type 0} (P : A → Type 0) (text : A → List ℕ) (bytes : List ℕ) (p q : A × List ℕ) → p ≡ q → Was P text bytes p.0 p.1 → Was P text bytes q.0 q.1
same_pair P text bytes p q e was = subst (λ r. Was P text bytes r.0 r.1) e was

-- two texts in a row
pub in_row : (bytes a mid b rest : List ℕ) → bytes ≡ a ++ mid → mid ≡ b ++ rest → bytes ≡ (a ++ b) ++ rest
in_row bytes a mid b rest e f = e ∙ ap (λ (m : List ℕ). a ++ m) f ∙ sym (append_assoc a b rest)

module _ {A B : Type 0} {reader : Reader A} {text : A → List ℕ} {P : A → Type 0} (codec : Codec reader text P) (x : A) where
  -- the last step
  pub last : (rest : List ℕ) (k : A × List ℕ → Result B ℕ) → P x → (reader (text x ++ rest) >>= k) ≡ k (x, rest)
  last rest k is = ap (λ (v : Read A). v >>= k) (codec.complete x rest is)

  -- a step with more behind it
  pub first : (more rest : List ℕ) (k : A × List ℕ → Result B ℕ) → P x → (reader ((text x ++ more) ++ rest) >>= k) ≡ k (x, more ++ rest)
  first more rest k is = ap (λ (bytes : List ℕ). reader bytes >>= k) (append_assoc (text x) more rest) ∙ last (more ++ rest) k is
