-- The test of blank pieces tells white space and comments alone. (A gap's type isn't named here: it is private to its crate.)
use Rattle.std.proofs.Common.{◌≡◌, ◌↔◌, ℕ, zero, suc, ◌-◌, ◌<◌, ◌≤◌, cond, Bool, true, false, List, [], ◌∷◌, length, drop, Option, Some, None, refl, ap, ◌∙◌, sym, arith, length-drop}
use Rattle.std.specs.Prelude.{◌==◌, slice_index, nat_eq, codes}
use Rattle.std.specs.List.{starts_with}
use Rattle.std.proofs.lemmas.Bool.{false≢true}
use Rattle.pt_token.specs.Bytes.{is_white}
use Rattle.pt_token.specs.Gap.{AreGaps, done, more, IsBlank, comment_gap, is_dashes, kind, next_gap, opened_end}
use Rattle.pt_reading.specs.Blank.{are_gaps, is_blank}

-- the bytes of a gap; 1 where there is none
abbrev size : {A : Type 0} → Option A → (A → ℕ) → ℕ
size None bytes_of = 1
size (Some g) bytes_of = bytes_of g

either : {A : Type 0} (bytes_of : A → ℕ) (test : Bool) (g h : Option A) → 0 < size g bytes_of → 0 < size h bytes_of → 0 < size (cond test g h) bytes_of
either bytes_of true g h d e = d
either bytes_of false g h d e = e

comment-bytes : (comment : _) (end : Option ℕ) → 0 < size (comment_gap comment end) (λ g. g.length)
comment-bytes comment None = omega arith
comment-bytes comment (Some n) = grind arith

gap-bytes : (inside : Bool) (bytes : List ℕ) → 0 < size (next_gap inside bytes) (λ g. g.length)
unfolding next_gap
gap-bytes true bytes =
    either _ (is_white (slice_index bytes 0)) _ _ (omega arith) (either _ (starts_with nat_eq bytes (codes "*/")) _ None (omega arith) (omega arith))
gap-bytes false bytes =
    either _ (is_white (slice_index bytes 0)) _ _ (omega arith) (either _ (slice_index bytes 0 == 35) _ _ (omega arith)
    (either _ (is_dashes bytes) _ _ (omega arith)
    (either _ (starts_with nat_eq bytes (codes "/*")) _ None (comment-bytes (kind (drop 2 bytes)) (opened_end (drop 2 bytes))) (omega arith))))

-- the bytes behind those that are passed over
passed-over : (passed : ℕ) (inside : Bool) (bytes : List ℕ) → are_gaps passed inside bytes ≡ are_gaps 0 inside (drop passed bytes)
passed-over zero inside bytes = refl
passed-over (suc passed) inside [] = refl
passed-over (suc passed) inside (b ∷ bytes) = passed-over passed inside bytes

behind : (b : ℕ) (bytes : List ℕ) (n : ℕ) → 0 < n → drop (n - 1) bytes ≡ drop n (b ∷ bytes)
behind b bytes zero some = absurd (omega (arith, some))
behind b bytes (suc n) some = let less : suc n - 1 ≡ n = omega arith in ap (λ k. drop k bytes) less

gap-some : (inside : Bool) (bytes : List ℕ) (g : _) → next_gap inside bytes ≡ Some g → 0 < g.length
gap-some inside bytes g is = rw is at (gap-bytes inside bytes)

-- the test, by the first gap
gap-test : (inside : Bool) (b : ℕ) (bytes : List ℕ) (g : _) → next_gap inside (b ∷ bytes) ≡ Some g
    → are_gaps 0 inside (b ∷ bytes) ≡ are_gaps 0 g.inside (drop g.length (b ∷ bytes))
gap-test inside b bytes g is =
    rw is (passed-over (g.length - 1) g.inside bytes ∙ ap (are_gaps 0 g.inside) (behind b bytes g.length (gap-some inside (b ∷ bytes) g is)))

pub test_of_gaps : (inside : Bool) (bytes : List ℕ) → AreGaps inside bytes → are_gaps 0 inside bytes ≡ true
test_of_gaps inside _ done = refl
test_of_gaps inside [] (more {g = g} is rest) = refl
test_of_gaps inside (b ∷ bytes) (more {g = g} is rest) = gap-test inside b bytes g is ∙ test_of_gaps g.inside (drop g.length (b ∷ bytes)) rest

-- so many bytes at most
gaps_in : (most : ℕ) (inside : Bool) (bytes : List ℕ) → length bytes ≤ most → are_gaps 0 inside bytes ≡ true → AreGaps inside bytes
gaps_in most inside [] short test = done
gaps_in zero inside (b ∷ bytes) short test = absurd (omega (arith, short))
gaps_in (suc most) inside (b ∷ bytes) short test = go (next_gap inside (b ∷ bytes)) refl (λ g _. gaps_in most g.inside (drop g.length (b ∷ bytes)))
  where
    go : (gap : _) → next_gap inside (b ∷ bytes) ≡ gap
        → ((g : _) → next_gap inside (b ∷ bytes) ≡ Some g → length (drop g.length (b ∷ bytes)) ≤ most → are_gaps 0 g.inside (drop g.length (b ∷ bytes)) ≡ true → AreGaps g.inside (drop g.length (b ∷ bytes)))
        → AreGaps inside (b ∷ bytes)
    go None is gaps_behind = absurd (false≢true (rw is at test))
    go (Some g) is gaps_behind =
        more is (gaps_behind g is (omega (arith, short, gap-some inside (b ∷ bytes) g is, length-drop g.length (b ∷ bytes))) (sym (gap-test inside b bytes g is) ∙ test))

pub blank : (piece : List ℕ) → (is_blank piece ≡ true) ↔ IsBlank piece
blank piece = (gaps_in (length piece) false piece (omega arith), test_of_gaps false piece)

same_test : (a b : Bool) → (a ≡ true → b ≡ true) → (b ≡ true → a ≡ true) → a ≡ b
same_test true b on back = sym (on refl)
same_test false true on back = back refl
same_test false false on back = refl

-- another test that tells it is the same
pub blank_test : (piece : List ℕ) (test : Bool) → (test ≡ true) ↔ IsBlank piece → is_blank piece ≡ test
blank_test piece test tells = same_test (is_blank piece) test (λ e. tells.1 ((blank piece).0 e)) (λ e. (blank piece).1 (tells.0 e))
