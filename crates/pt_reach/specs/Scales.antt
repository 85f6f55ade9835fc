-- The values of columns along their lines: which kinds of columns have numbers, days and byte strings.
use Rattle.std.specs.Prelude.{◌≡◌, ℕ, ℤ, pos, neg_ℤ, Bool, true, false, List, refl}
use Rattle.std.specs.declared.cmp.Ordering.{Ordering}
use Rattle.std.specs.declared.cmp.Ordering.TheVariants.{Less, Equal, Greater}
use Rattle.std.specs.Ordering.{int_cmp, ordering_then}
use Rattle.std.proofs.lemmas.Bool.{false≢true}
use Rattle.pt_value.specs.Value.{value_cmp}
use Rattle.pt_value.specs.declared.value.Value.TheVariants.{Int, Day, Bytes}
use Rattle.pt_value.specs.declared.value.Kind.{Kind}
use Rattle.pt_value.specs.declared.value.Kind.TheVariants as kind
use Rattle.pt_expr.specs.Found.{column_found, may_be_day}
use Rattle.pt_expr.specs.Values.{as_day}
use Rattle.pt_interval.specs.Instances.{bytes_cmp}

abbrev pub has_numbers : Kind → Bool
has_numbers kind.Int = true
has_numbers kind.BigInt = true
has_numbers kind.Date = false
has_numbers (kind.Binary most) = false

abbrev pub has_days : Kind → Bool
has_days kind.Int = false
has_days kind.BigInt = false
has_days kind.Date = true
has_days (kind.Binary most) = false

abbrev pub has_bytes : Kind → Bool
has_bytes kind.Int = false
has_bytes kind.BigInt = false
has_bytes kind.Date = false
has_bytes (kind.Binary most) = true

-- a column of byte strings isn't compared with dates
pub bytes_stay : (k : Kind) (bytes : List ℕ) → has_bytes k ≡ true → may_be_day (column_found k).shape ≡ true → as_day (Bytes bytes) ≡ Bytes bytes
bytes_stay kind.Int bytes has day = absurd (false≢true has)
bytes_stay kind.BigInt bytes has day = absurd (false≢true has)
bytes_stay kind.Date bytes has day = absurd (false≢true has)
bytes_stay (kind.Binary most) bytes has day = absurd (false≢true day)

-- ---- numbers that a cell holds

abbrev pub least_narrow : ℤ
least_narrow = neg_ℤ (pos 9_223_372_036_854_775_808)

abbrev pub greatest_narrow : ℤ
greatest_narrow = pos 9_223_372_036_854_775_807

-- ---- values stand as their lines say

first_alone : (o : Ordering) → ordering_then o Equal ≡ o
first_alone Less = refl
first_alone Equal = refl
first_alone Greater = refl

pub number_order : (a b : ℤ) → value_cmp (Int a) (Int b) ≡ int_cmp a b
unfolding value_cmp
number_order a b = first_alone (int_cmp a b)

pub day_order : (a b : ℤ) → value_cmp (Day a) (Day b) ≡ int_cmp a b
unfolding value_cmp
day_order a b = first_alone (int_cmp a b)

pub bytes_order : (a b : List ℕ) → value_cmp (Bytes a) (Bytes b) ≡ bytes_cmp a b
unfolding value_cmp
bytes_order a b = refl
