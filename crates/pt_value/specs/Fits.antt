-- Which values a column takes. After the manual's topics "Integer Types", "The DATE, DATETIME, and TIMESTAMP Types" and "The
-- BINARY and VARBINARY Types".
use Rattle.std.specs.Prelude.{ℕ, ◌≤◌, Bool, ◌&&◌, ℤ, pos, neg_ℤ, ◌≤ℤ◌, int_le, List, length}
use Rattle.pt_value.specs.declared.value.Value.{Value}
use Rattle.pt_value.specs.declared.value.Value.TheVariants.{Null, Int, Day, Bytes}
use Rattle.pt_value.specs.declared.value.Kind.{Kind}
use Rattle.pt_value.specs.declared.value.Kind.TheVariants as kind

-- z lies from low to high, both included
abbrev pub IsBetween : ℤ → ℤ → ℤ → Type 0
IsBetween low high z = (low ≤ℤ z) × (z ≤ℤ high)

-- a DATE: from 1000-01-01 to 9999-12-31
abbrev pub FitsDate : ℤ → Type 0
FitsDate day = IsBetween (neg_ℤ (pos 354_285)) (pos 2_932_896) day

-- the same, as a test
abbrev pub fits_date : ℤ → Bool
fits_date day = int_le (neg_ℤ (pos 354_285)) day && int_le day (pos 2_932_896)

abbrev pub IntFits : Kind → ℤ → Type 0
IntFits kind.Int n = IsBetween (neg_ℤ (pos 2_147_483_648)) (pos 2_147_483_647) n
IntFits kind.BigInt n = IsBetween (neg_ℤ (pos 9_223_372_036_854_775_808)) (pos 9_223_372_036_854_775_807) n
IntFits kind.Date n = ⊥
IntFits (kind.Binary most) n = ⊥

abbrev pub DayFits : Kind → ℤ → Type 0
DayFits kind.Int day = ⊥
DayFits kind.BigInt day = ⊥
DayFits kind.Date day = FitsDate day
DayFits (kind.Binary most) day = ⊥

abbrev pub BytesFit : Kind → List ℕ → Type 0
BytesFit kind.Int bytes = ⊥
BytesFit kind.BigInt bytes = ⊥
BytesFit kind.Date bytes = ⊥
BytesFit (kind.Binary most) bytes = length bytes ≤ most

-- NULL fits each kind
abbrev pub Fits : Kind → Value → Type 0
Fits k Null = Unit {0}
Fits k (Int n) = IntFits k n
Fits k (Day day) = DayFits k day
Fits k (Bytes bytes) = BytesFit k bytes
