-- The three lines, with the proofs of their laws.
use Rattle.std.specs.Prelude.{◌≡◌, ℕ, ◌-◌, ◌^◌, ◌<◌, ◌⊎◌, Bool, true, false, ◌&&◌, nat_lt, ℤ, pos, neg_ℤ, ◌+ℤ◌, ◌≤ℤ◌, ◌<ℤ◌, int_le, List, [], ◌∷◌, ◌++◌, refl}
use Rattle.std.specs.List.{list_all}
use Rattle.std.specs.declared.cmp.Ordering.{Ordering}
use Rattle.std.specs.declared.cmp.Ordering.TheVariants.{Less, Equal, Greater}
use Rattle.std.specs.Ordering.{MatchOrdering, int_cmp, int_eq, is_le, is_eq, nat_cmp, ordering_reverse, ordering_then}
use Rattle.std.specs.Cmp.{int_cmp_total, int_ranks, nat_cmp_total, ranks as nat_ranks, tied_itself}
use Rattle.std.specs.Cmp.Lexicographic.{nat_list_cmp_total, slice_cmp}
use Rattle.std.proofs.Common.{ap, ◌∙◌, arith, inl, inr}
use Rattle.std.proofs.lemmas.Bool.{true≢false, false≢true, and_from, and_parts}
use Rattle.std.proofs.lemmas.Int.{ints}
use Rattle.std.proofs.lemmas.List.Folds.{list_all-append}
use Rattle.pt_value.specs.Fits.{fits_date}
use Rattle.pt_interval.specs.Line.{at_most, IsLine}

-- ---- whole numbers from one to another

-- z lies from low to high, both included
abbrev pub is_int : ℤ → ℤ → ℤ → Bool
is_int low high z = int_le low z && int_le z high

abbrev pub next_int : ℤ → ℤ
next_int z = z +ℤ pos 1

le_read : (a b : ℤ) (o : Ordering) → MatchOrdering o (a <ℤ b) (a ≡ b) (b <ℤ a) → is_le o ≡ true → a ≤ℤ b
le_read a b Less h e = omega (arith, ints, h)
le_read a b Equal h e = omega (arith, ints, h)
le_read a b Greater h e = absurd (false≢true e)

above_read : (a b : ℤ) (o : Ordering) → MatchOrdering o (a <ℤ b) (a ≡ b) (b <ℤ a) → is_le o ≡ false → b <ℤ a
above_read a b Less h e = absurd (true≢false e)
above_read a b Equal h e = absurd (true≢false e)
above_read a b Greater h e = h

le_told : (a b : ℤ) (o : Ordering) → MatchOrdering o (a <ℤ b) (a ≡ b) (b <ℤ a) → a ≤ℤ b → is_le o ≡ true
le_told a b Less h e = refl
le_told a b Equal h e = refl
le_told a b Greater h e = absurd (omega (arith, ints, h, e))

above_told : (a b : ℤ) (o : Ordering) → MatchOrdering o (a <ℤ b) (a ≡ b) (b <ℤ a) → b <ℤ a → is_le o ≡ false
above_told a b Less h e = absurd (omega (arith, ints, h, e))
above_told a b Equal h e = absurd (omega (arith, ints, h, e))
above_told a b Greater h e = refl

same_read : (a b : ℤ) (o : Ordering) → MatchOrdering o (a <ℤ b) (a ≡ b) (b <ℤ a) → is_eq o ≡ true → a ≡ b
same_read a b Less h e = absurd (false≢true e)
same_read a b Equal h e = h
same_read a b Greater h e = absurd (false≢true e)

unequal_read : (a b : ℤ) (o : Ordering) → MatchOrdering o (a <ℤ b) (a ≡ b) (b <ℤ a) → is_eq o ≡ false → (a <ℤ b) ⊎ (b <ℤ a)
unequal_read a b Less h e = inl h
unequal_read a b Equal h e = absurd (true≢false e)
unequal_read a b Greater h e = inr h

pub int_at_most : (a b : ℤ) → at_most int_cmp a b ≡ true → a ≤ℤ b
int_at_most a b = le_read a b (int_cmp a b) (int_ranks a b)

pub int_above : (a b : ℤ) → at_most int_cmp a b ≡ false → b <ℤ a
int_above a b = above_read a b (int_cmp a b) (int_ranks a b)

pub at_most_int : (a b : ℤ) → a ≤ℤ b → at_most int_cmp a b ≡ true
at_most_int a b = le_told a b (int_cmp a b) (int_ranks a b)

pub above_int : (a b : ℤ) → b <ℤ a → at_most int_cmp a b ≡ false
above_int a b = above_told a b (int_cmp a b) (int_ranks a b)

pub int_same : (a b : ℤ) → int_eq a b ≡ true → a ≡ b
int_same a b = same_read a b (int_cmp a b) (int_ranks a b)

pub int_unequal : (a b : ℤ) → int_eq a b ≡ false → (a <ℤ b) ⊎ (b <ℤ a)
int_unequal a b = unequal_read a b (int_cmp a b) (int_ranks a b)

int_le_read : (a b : ℤ) → int_le a b ≡ true → a ≤ℤ b
int_le_read a b e = grind (arith, ints)

int_le_told : (a b : ℤ) → a ≤ℤ b → int_le a b ≡ true
int_le_told a b h = grind (arith, ints)

pub is_int_read : (low high z : ℤ) → is_int low high z ≡ true → (low ≤ℤ z) × (z ≤ℤ high)
is_int_read low high z e = let both = and_parts _ _ e in (int_le_read low z both.0, int_le_read z high both.1)

pub is_int_told : (low high z : ℤ) → low ≤ℤ z → z ≤ℤ high → is_int low high z ≡ true
is_int_told low high z h k = and_from _ _ (int_le_told low z h) (int_le_told z high k)

below_greatest : (low high z : ℤ) → is_int low high z ≡ true → int_eq z high ≡ false → z <ℤ high
below_greatest low high z value inner =
    let inside = is_int_read low high z value in
    elim (unequal_read z high (int_cmp z high) (int_ranks z high) inner) [ inl h ↦ h | inr h ↦ absurd (omega (arith, ints, h, inside.1)) ]

next_above_int : (z : ℤ) → z <ℤ next_int z
next_above_int z = omega (arith, ints)

next_up_to_int : (z w : ℤ) → z <ℤ w → next_int z ≤ℤ w
next_up_to_int z w h = omega (arith, ints)

≤ℤ_chain : (a b c : ℤ) → a ≤ℤ b → b <ℤ c → a ≤ℤ c
≤ℤ_chain a b c h k = omega (arith, ints)

≤ℤ_same : (a : ℤ) → a ≤ℤ a
≤ℤ_same a = omega (arith, ints)

≤ℤ_along : (a b c : ℤ) → a ≤ℤ b → c ≡ b → a ≤ℤ c
≤ℤ_along a b c h e = omega (arith, ints)

pub int_line : (low high : ℤ) → low ≤ℤ high → IsLine int_cmp (is_int low high) low next_int (λ z. int_eq z high)
int_line low high fits = record {
  order = int_cmp_total;
  one = λ a b e. same_read a b (int_cmp a b) (int_ranks a b) (ap is_eq e);
  least_value = is_int_told low high low (≤ℤ_same low) fits;
  least_below = λ v value. at_most_int low v (is_int_read low high v value).0;
  next_value = λ v value inner.
      is_int_told low high (next_int v) (≤ℤ_chain low v (next_int v) (is_int_read low high v value).0 (next_above_int v)) (next_up_to_int v high (below_greatest low high v value inner));
  next_above = λ v value inner. above_int (next_int v) v (next_above_int v);
  next_least = λ v w value other inner above. at_most_int (next_int v) w (next_up_to_int v w (int_above w v above));
  greatest_above = λ v w value other last. at_most_int w v (≤ℤ_along w high v (is_int_read low high w other).1 (same_read v high (int_cmp v high) (int_ranks v high) last));
}

-- all that 128 bits hold
abbrev pub least_wide : ℤ
least_wide = neg_ℤ (pos (2 ^ 127))

abbrev pub greatest_wide : ℤ
greatest_wide = pos (2 ^ 127 - 1)

pub wide_fits : least_wide ≤ℤ greatest_wide
wide_fits = int_le_read least_wide greatest_wide refl

pub wide_line : IsLine int_cmp (is_int least_wide greatest_wide) least_wide next_int (λ z. int_eq z greatest_wide)
wide_line = int_line least_wide greatest_wide wide_fits

-- the days from 1000-01-01 to 9999-12-31
abbrev pub least_day : ℤ
least_day = neg_ℤ (pos 354_285)

abbrev pub greatest_day : ℤ
greatest_day = pos 2_932_896

pub day_fits : least_day ≤ℤ greatest_day
day_fits = int_le_read least_day greatest_day refl

pub day_line : IsLine int_cmp fits_date least_day next_int (λ z. int_eq z greatest_day)
day_line = int_line least_day greatest_day day_fits

-- ---- byte strings of any length

abbrev pub bytes_cmp : List ℕ → List ℕ → Ordering
bytes_cmp = slice_cmp nat_cmp

abbrev pub are_bytes : List ℕ → Bool
are_bytes = list_all (λ byte. nat_lt byte 256)

-- the step above a byte string is it with a byte 0
abbrev pub next_bytes : List ℕ → List ℕ
next_bytes bytes = bytes ++ 0 ∷ []

nat_same_read : (a b : ℕ) (o : Ordering) → MatchOrdering o (a < b) (a ≡ b) (b < a) → o ≡ Equal → a ≡ b
nat_same_read a b Less h e = absurd (false≢true (ap is_eq e))
nat_same_read a b Equal h e = h
nat_same_read a b Greater h e = absurd (false≢true (ap is_eq e))

then_level : (o p : Ordering) → ordering_then o p ≡ Equal → (o ≡ Equal) × (p ≡ Equal)
then_level Less p e = absurd (false≢true (ap is_eq e))
then_level Equal p e = (refl, e)
then_level Greater p e = absurd (false≢true (ap is_eq e))

bytes_one : (a b : List ℕ) → bytes_cmp a b ≡ Equal → a ≡ b
bytes_one [] [] e = refl
bytes_one [] (y ∷ ys) e = absurd (false≢true (ap is_eq e))
bytes_one (x ∷ xs) [] e = absurd (false≢true (ap is_eq e))
bytes_one (x ∷ xs) (y ∷ ys) e =
    let both = then_level (nat_cmp x y) (bytes_cmp xs ys) e in
    ap (λ b. b ∷ xs) (nat_same_read x y (nat_cmp x y) (nat_ranks x y) both.0) ∙ ap (λ bs. y ∷ bs) (bytes_one xs ys both.1)

none_below : (bytes : List ℕ) → at_most bytes_cmp [] bytes ≡ true
none_below [] = refl
none_below (y ∷ ys) = refl

next_bytes_above : (bytes : List ℕ) → at_most bytes_cmp (next_bytes bytes) bytes ≡ false
next_bytes_above [] = refl
next_bytes_above (x ∷ xs) = ap (λ o. is_le (ordering_then o (bytes_cmp (next_bytes xs) xs))) (tied_itself nat_cmp_total x) ∙ next_bytes_above xs

zero_below : (y : ℕ) (o p : Ordering) → MatchOrdering o (0 < y) (0 ≡ y) (y < 0) → is_le p ≡ true → is_le (ordering_then o p) ≡ true
zero_below y Less p h e = refl
zero_below y Equal p h e = e
zero_below y Greater p h e = absurd (omega (arith, h))

then_next : (o p q r : Ordering) → p ≡ ordering_reverse o → (is_le q ≡ false → is_le r ≡ true) → is_le (ordering_then o q) ≡ false → is_le (ordering_then p r) ≡ true
then_next Less p q r t more e = absurd (true≢false e)
then_next Equal p q r t more e = ap (λ o. is_le (ordering_then o r)) t ∙ more e
then_next Greater p q r t more e = ap (λ o. is_le (ordering_then o r)) t

pub next_bytes_least : (a b : List ℕ) → at_most bytes_cmp b a ≡ false → at_most bytes_cmp (next_bytes a) b ≡ true
next_bytes_least [] [] e = absurd (true≢false e)
next_bytes_least [] (y ∷ ys) e = zero_below y (nat_cmp 0 y) (bytes_cmp [] ys) (nat_ranks 0 y) (none_below ys)
next_bytes_least (x ∷ xs) [] e = absurd (true≢false e)
next_bytes_least (x ∷ xs) (y ∷ ys) e =
    then_next (nat_cmp y x) (nat_cmp x y) (bytes_cmp ys xs) (bytes_cmp (next_bytes xs) ys) (nat_cmp_total.antisymm x y) (next_bytes_least xs ys) e

pub bytes_line : IsLine bytes_cmp are_bytes [] next_bytes (λ bytes. false)
bytes_line = record {
  order = nat_list_cmp_total;
  one = bytes_one;
  least_value = refl;
  least_below = λ bytes value. none_below bytes;
  next_value = λ bytes value inner. list_all-append (λ byte. nat_lt byte 256) bytes (0 ∷ []) ∙ and_from (are_bytes bytes) true value refl;
  next_above = λ bytes value inner. next_bytes_above bytes;
  next_least = λ a b value other inner above. next_bytes_least a b above;
  greatest_above = λ a b value other last. absurd (false≢true last);
}
