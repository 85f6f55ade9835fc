-- The order of values: NULL lowest, then integers, then days, then byte strings. After the manual's topics "Working with NULL
-- Values" and "The BINARY and VARBINARY Types": bytes are compared by number and without padding.
use Rattle.std.specs.Prelude.{ℕ, ℤ, pos, List, []}
use Rattle.std.specs.declared.cmp.Ordering.{Ordering}
use Rattle.std.specs.Ordering.{nat_cmp, int_cmp, on, then_cmp}
use Rattle.std.specs.Cmp.{IsTotalOrder, then_total, on_total, nat_cmp_total, int_cmp_total}
use Rattle.std.specs.Cmp.Lexicographic.{slice_cmp, nat_list_cmp_total}
use Rattle.pt_value.specs.declared.value.Value.{Value}
use Rattle.pt_value.specs.declared.value.Value.TheVariants.{Null, Int, Day, Bytes}

abbrev pub rank : Value → ℕ
rank Null = 0
rank (Int n) = 1
rank (Day day) = 2
rank (Bytes bytes) = 3

abbrev pub number : Value → ℤ
number Null = pos 0
number (Int n) = n
number (Day day) = day
number (Bytes bytes) = pos 0

abbrev pub bytes_of : Value → List ℕ
bytes_of Null = []
bytes_of (Int n) = []
bytes_of (Day day) = []
bytes_of (Bytes bytes) = bytes

-- by rank, then by number, then by the first byte that differs, a byte string before those that it begins
unfoldable pub value_cmp : Value → Value → Ordering
value_cmp = then_cmp (on rank nat_cmp) (then_cmp (on number int_cmp) (on bytes_of (slice_cmp nat_cmp)))

-- it is a total order
pub value_cmp_total : IsTotalOrder value_cmp
unfolding value_cmp
value_cmp_total = then_total (on_total rank nat_cmp_total) (then_total (on_total number int_cmp_total) (on_total bytes_of nat_list_cmp_total))
