-- Values along their lines stand as their lines say, and to values of other kinds as the kinds stand.
use Rattle.std.proofs.Common.{◌≡◌, ℕ, suc, arith, true, false, ℤ, List, [], ◌∷◌, get_or, refl, Fits, w8}
use Rattle.std.specs.Prelude.{nat_lt}
use Rattle.std.specs.declared.cmp.Ordering.TheVariants.{Less, Equal, Greater}
use Rattle.std.proofs.lemmas.Bool.{and_from, false≢true, lt-ltb, true≢false}
use Rattle.pt_value.specs.Value.{value_cmp}
use Rattle.pt_value.specs.declared.value.Value.{Value}
use Rattle.pt_expr.specs.Truths.{is_null}
use Rattle.pt_value.specs.declared.value.Value.TheVariants.{Null, Int, Day, Bytes}
use Rattle.pt_interval.specs.Instances.{are_bytes}

pub number_null : (n : ℤ) → value_cmp (Int n) Null ≡ Greater
unfolding value_cmp
number_null n = refl

pub number_day : (n day : ℤ) → value_cmp (Int n) (Day day) ≡ Less
unfolding value_cmp
number_day n day = refl

pub number_bytes : (n : ℤ) (bytes : List ℕ) → value_cmp (Int n) (Bytes bytes) ≡ Less
unfolding value_cmp
number_bytes n bytes = refl

pub day_null : (day : ℤ) → value_cmp (Day day) Null ≡ Greater
unfolding value_cmp
day_null day = refl

pub day_number : (day n : ℤ) → value_cmp (Day day) (Int n) ≡ Greater
unfolding value_cmp
day_number day n = refl

pub day_bytes : (day : ℤ) (bytes : List ℕ) → value_cmp (Day day) (Bytes bytes) ≡ Less
unfolding value_cmp
day_bytes day bytes = refl

pub bytes_null : (bytes : List ℕ) → value_cmp (Bytes bytes) Null ≡ Greater
unfolding value_cmp
bytes_null bytes = refl

pub bytes_number : (bytes : List ℕ) (n : ℤ) → value_cmp (Bytes bytes) (Int n) ≡ Greater
unfolding value_cmp
bytes_number bytes n = refl

pub bytes_day : (bytes : List ℕ) (day : ℤ) → value_cmp (Bytes bytes) (Day day) ≡ Greater
unfolding value_cmp
bytes_day bytes day = refl

-- what is stored in bytes is bytes
pub told_bytes : (bytes : List ℕ) → ((i : ℕ) → Fits w8 (get_or bytes i 0)) → are_bytes bytes ≡ true
told_bytes [] fits = refl
told_bytes (b ∷ bytes) fits = let h : Fits w8 b = fits 0 in and_from (nat_lt b 256) (are_bytes bytes) (lt-ltb b 256 (omega (arith, h))) (told_bytes bytes (λ i. fits (suc i)))

-- ---- NULL is below all but NULL

pub null_equal : (k : Value) → is_null k ≡ true → value_cmp Null k ≡ Equal
unfolding value_cmp
null_equal Null e = refl
null_equal (Int n) e = absurd (false≢true e)
null_equal (Day day) e = absurd (false≢true e)
null_equal (Bytes bytes) e = absurd (false≢true e)

pub null_less : (k : Value) → is_null k ≡ false → value_cmp Null k ≡ Less
unfolding value_cmp
null_less Null e = absurd (true≢false e)
null_less (Int n) e = refl
null_less (Day day) e = refl
null_less (Bytes bytes) e = refl
