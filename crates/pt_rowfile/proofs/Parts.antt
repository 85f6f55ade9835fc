-- Parts of bytes and their numbers: what is written is read back, and what is read was written.
use Rattle.std.proofs.Common.{◌≡◌, ℕ, suc, ◌<◌, ◌≤◌, ◌^◌, Bool, true, false, cond, leb, List, [], ◌∷◌, ◌++◌, length, take, drop, Option, Some, None, refl, sym, ap, ap₂, ◌∙◌, subst, arith, length-append, length-take, append_assoc}
use Rattle.std.specs.Option.{option_map, option_and_then}
use Rattle.std.proofs.lemmas.Bool.{le-leb, leb-true}
use Rattle.std.proofs.lemmas.List.{take_at, drop_at, take-append-drop, get_or_append_left}
use Rattle.pt_bytes.specs.Numbers.{AreBytes, le_bytes, number_of}
use Rattle.pt_bytes.proofs.Numbers.{again, back, below, length-le_bytes}
use Rattle.pt_rowfile.specs.Reader.{split, number_at, counted_at}

pub one_some : {A : Type 0} (a b : A) → Some a ≡ Some b → a ≡ b
one_some a b e = cc

-- a value that is there came from one that was
pub from_map : {A B : Type 0} (f : A → B) (o : Option A) (b : B) → option_map f o ≡ Some b → (a : A) × (o ≡ Some a) × (f a ≡ b)
from_map f None b e = absurd cc
from_map f (Some a) b e = (a, refl, one_some (f a) b e)

pub from_then : {A B : Type 0} (f : A → Option B) (o : Option A) (b : B) → option_and_then f o ≡ Some b → (a : A) × (o ≡ Some a) × (f a ≡ Some b)
from_then f None b e = absurd cc
from_then f (Some a) b e = (a, refl, e)

-- # Bytes of parts

front_bytes : (a rest : List ℕ) → AreBytes (a ++ rest) → AreBytes a
front_bytes a rest are k d lt = subst (λ n. n < 256) (get_or_append_left a rest d k lt) (are k d (omega (arith, length-append a rest)))

behind_bytes : (a rest : List ℕ) → AreBytes (a ++ rest) → AreBytes rest
behind_bytes [] rest are = are
behind_bytes (x ∷ a) rest are = behind_bytes a rest (λ k d lt. are (suc k) d (omega arith))

pub AreBytes-front : (bytes a rest : List ℕ) → AreBytes bytes → bytes ≡ a ++ rest → AreBytes a
AreBytes-front bytes a rest are e = front_bytes a rest (subst AreBytes e are)

pub AreBytes-behind : (bytes a rest : List ℕ) → AreBytes bytes → bytes ≡ a ++ rest → AreBytes rest
AreBytes-behind bytes a rest are e = behind_bytes a rest (subst AreBytes e are)

-- # Parts

pub split_front : (n : ℕ) (a rest : List ℕ) → length a ≡ n → split n (a ++ rest) ≡ Some (a, rest)
unfolding split
split_front n a rest len =
    ap (λ b. cond b (Some (take n (a ++ rest), drop n (a ++ rest))) None) (le-leb n (length (a ++ rest)) (omega (arith, len, length-append a rest)))
    ∙ ap₂ (λ (x y : List ℕ). Some (x, y)) (take_at a rest n len) (drop_at a rest n len)

pub record IsFront (n : ℕ) (bytes a rest : List ℕ) : Type 0 where
  pub parts : bytes ≡ a ++ rest
  pub long : length a ≡ n

pub split_sound : (n : ℕ) (bytes a rest : List ℕ) → split n bytes ≡ Some (a, rest) → IsFront n bytes a rest
unfolding split
split_sound n bytes a rest e = go (leb n (length bytes)) refl e
  where
    go : (b : Bool) → leb n (length bytes) ≡ b → cond {A = Option (List ℕ × List ℕ)} b (Some (take n bytes, drop n bytes)) None ≡ Some (a, rest) → IsFront n bytes a rest
    go true is same =
        let x : List ℕ × List ℕ = (take n bytes, drop n bytes) in
        let y : List ℕ × List ℕ = (a, rest) in
        let both : x ≡ y = one_some x y same in
        let p : take n bytes ≡ a = ap (λ (z : List ℕ × List ℕ). z.0) both in
        let q : drop n bytes ≡ rest = ap (λ (z : List ℕ × List ℕ). z.1) both in
        let enough : n ≤ length bytes = leb-true n (length bytes) is in
        record {
          parts = sym (take-append-drop n bytes) ∙ ap₂ (λ (x y : List ℕ). x ++ y) p q;
          long = ap (λ (x : List ℕ). length x) (sym p) ∙ length-take n bytes ∙ omega arith;
        }
    go false is same = absurd cc

-- # Numbers

pub number_front : (n number : ℕ) (rest : List ℕ) → number < 256 ^ n → number_at n (le_bytes n number ++ rest) ≡ Some (number, rest)
unfolding number_at
number_front n number rest fits =
    ap (option_map (λ (parts : List ℕ × List ℕ). (number_of parts.0, parts.1))) (split_front n (le_bytes n number) rest (length-le_bytes n number))
    ∙ ap (λ m. Some (m, rest)) (again n number fits)

pub record IsNumber (n : ℕ) (bytes : List ℕ) (number : ℕ) (rest : List ℕ) : Type 0 where
  pub text : bytes ≡ le_bytes n number ++ rest
  pub fits : number < 256 ^ n
  pub are : AreBytes rest

pub number_sound : (n : ℕ) (bytes : List ℕ) (number : ℕ) (rest : List ℕ) → AreBytes bytes → number_at n bytes ≡ Some (number, rest) → IsNumber n bytes number rest
unfolding number_at
number_sound n bytes number rest are e =
    let f = from_map (λ (parts : List ℕ × List ℕ). (number_of parts.0, parts.1)) (split n bytes) (number, rest) e in
    let a = f.0.0 in
    let is : IsFront n bytes a f.0.1 = split_sound n bytes a f.0.1 f.1 in
    let num : number_of a ≡ number = ap (λ (p : ℕ × List ℕ). p.0) f.2 in
    let same : f.0.1 ≡ rest = ap (λ (p : ℕ × List ℕ). p.1) f.2 in
    let front : AreBytes a = AreBytes-front bytes a f.0.1 are is.parts in
    let again_a : le_bytes n number ≡ a = ap₂ (λ (k m : ℕ). le_bytes k m) (sym is.long) (sym num) ∙ back a front in
    record {
      text = is.parts ∙ ap₂ (λ (x y : List ℕ). x ++ y) (sym again_a) same;
      fits = subst (λ m. m < 256 ^ n) num (subst (λ k. number_of a < 256 ^ k) is.long (below a front));
      are = subst AreBytes same (AreBytes-behind bytes a f.0.1 are is.parts);
    }

-- # Counted bytes

pub counted_front : (n : ℕ) (a rest : List ℕ) → length a < 256 ^ n → counted_at n ((le_bytes n (length a) ++ a) ++ rest) ≡ Some (a, rest)
unfolding counted_at
counted_front n a rest fits =
    ap (λ xs. option_and_then (λ (read : ℕ × List ℕ). split read.0 read.1) (number_at n xs)) (append_assoc (le_bytes n (length a)) a rest)
    ∙ ap (option_and_then (λ (read : ℕ × List ℕ). split read.0 read.1)) (number_front n (length a) (a ++ rest) fits)
    ∙ split_front (length a) a rest refl

pub record IsCounted (n : ℕ) (bytes a rest : List ℕ) : Type 0 where
  pub text : bytes ≡ (le_bytes n (length a) ++ a) ++ rest
  pub fits : length a < 256 ^ n
  pub front : AreBytes a
  pub are : AreBytes rest

pub counted_sound : (n : ℕ) (bytes a rest : List ℕ) → AreBytes bytes → counted_at n bytes ≡ Some (a, rest) → IsCounted n bytes a rest
unfolding counted_at
counted_sound n bytes a rest are e =
    let f = from_then (λ (read : ℕ × List ℕ). split read.0 read.1) (number_at n bytes) (a, rest) e in
    let num : IsNumber n bytes f.0.0 f.0.1 = number_sound n bytes f.0.0 f.0.1 are f.1 in
    let is : IsFront f.0.0 f.0.1 a rest = split_sound f.0.0 f.0.1 a rest f.2 in
    record {
      text = num.text ∙ ap₂ (λ (m : ℕ) (x : List ℕ). le_bytes n m ++ x) (sym is.long) is.parts ∙ sym (append_assoc (le_bytes n (length a)) a rest);
      fits = subst (λ m. m < 256 ^ n) (sym is.long) num.fits;
      front = AreBytes-front f.0.1 a rest num.are is.parts;
      are = AreBytes-behind f.0.1 a rest num.are is.parts;
    }
