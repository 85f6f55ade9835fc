-- A database without tables is sound, whatever the next serial is.
use Rattle.std.proofs.Common.{◌≡◌, ℕ, ◌<◌, ◌≤◌, ◌^◌, [], Some, None}
use Rattle.std.specs.Cmp.Lexicographic.{slice_cmp}
use Rattle.std.specs.Ordering.{nat_cmp}
use Rattle.std.proofs.lemmas.List.Elements.{All-nil}
use Rattle.pt_plain.proofs.Rising.{sorted_nil}
use Rattle.pt_db.specs.Sound.{IsSound, IsSoundTable}

pub begun_sound : (next : ℕ) → 0 < next → next ≤ 2 ^ 62 → IsSound (record { tables = []; next = next })
begun_sound next some most = record {
  tables = All-nil (IsSoundTable next);
  rising = sorted_nil (slice_cmp nat_cmp);
  once = λ a b serial at_a at_b some_a some_b. let bad : None ≡ Some a = at_a in cc;
  some = some;
  most = most;
}
