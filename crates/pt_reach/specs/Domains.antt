-- Sets of values of a column, whatever its kind, and tests of values against constants.
use Rattle.std.specs.Prelude.{◌≡◌, ℕ, ℤ, pos, neg_ℤ, Bool, true, false, ◌&&◌, nat_lt, List, length, if◌then◌else◌, Option, Some, None}
use Rattle.std.specs.Ordering.{int_cmp}
use Rattle.pt_value.specs.Fits.{fits_date}
use Rattle.pt_value.specs.Value.{value_cmp}
use Rattle.pt_value.specs.Cell.{lent}
use Rattle.pt_value.specs.declared.value.Value.{Value}
use Rattle.pt_value.specs.declared.value.Value.TheVariants as value
use Rattle.pt_value.specs.declared.value.Kind.{Kind}
use Rattle.pt_value.specs.declared.value.Kind.TheVariants as kind
use Rattle.pt_ast.specs.declared.table.Column.{Column}
use Rattle.pt_expr.specs.Truths.{holds, is_null}
use Rattle.pt_place.specs.Fitting.{kind_at}
use Rattle.pt_interval.specs.Instances.{are_bytes, bytes_cmp, greatest_wide, is_int, least_wide}
use Rattle.pt_interval.specs.Spans.{has}
use Rattle.pt_reach.specs.declared.domain.Domain.{Domain}
use Rattle.pt_reach.specs.declared.domain.Domain.TheVariants as domain
use Rattle.pt_reach.specs.declared.domain.Side.{Side}

-- ---- the values of a column

-- NULL, or a number from one up to another
abbrev pub is_number : ℤ → ℤ → Value → Bool
is_number low high value.Null = true
is_number low high (value.Int n) = is_int low high n
is_number low high (value.Day day) = false
is_number low high (value.Bytes bytes) = false

-- NULL, or a day that DATE holds
abbrev pub is_day : Value → Bool
is_day value.Null = true
is_day (value.Int n) = false
is_day (value.Day day) = fits_date day
is_day (value.Bytes bytes) = false

-- NULL, or bytes of any length
abbrev pub is_bytes : Value → Bool
is_bytes value.Null = true
is_bytes (value.Int n) = false
is_bytes (value.Day day) = false
is_bytes (value.Bytes bytes) = are_bytes bytes

-- a value of the kind, or NULL
abbrev pub is_of : Kind → Value → Bool
is_of kind.Int = is_number (neg_ℤ (pos 2_147_483_648)) (pos 2_147_483_647)
is_of kind.BigInt = is_number (neg_ℤ (pos 9_223_372_036_854_775_808)) (pos 9_223_372_036_854_775_807)
is_of kind.Date = is_day
is_of (kind.Binary most) = is_bytes

-- a value of the column at a position, or NULL; where there is no column NULL alone
abbrev pub is_of_column : List Column → ℕ → Value → Bool
is_of_column columns at v = if nat_lt at (length columns) then is_of (kind_at columns at) v else is_null v

-- ---- sets of them

abbrev pub has_in : Domain → Value → Bool
has_in (domain.Numbers reach) value.Null = reach.null
has_in (domain.Numbers reach) (value.Int n) = is_int least_wide greatest_wide n && has int_cmp reach.spans n
has_in (domain.Days reach) value.Null = reach.null
has_in (domain.Days reach) (value.Day day) = fits_date day && has int_cmp reach.spans day
has_in (domain.Strings reach) value.Null = reach.null
has_in (domain.Strings reach) (value.Bytes bytes) = are_bytes bytes && has bytes_cmp reach.spans bytes
has_in _ _ = false

-- ---- tests

-- the value stands so to the constant, in the order of all values
abbrev pub passes : Option Side → Value → Bool
passes (Some side) v = holds side.cmp (value_cmp v (lent side.cell))
passes None v = true

-- a value of the set that passes both
abbrev pub IsSome : (Value → Bool) → (Value → Bool) → (Value → Bool) → Type 0
IsSome is_in first second = (v : Value) × (is_in v ≡ true) × (first v ≡ true) × (second v ≡ true)
