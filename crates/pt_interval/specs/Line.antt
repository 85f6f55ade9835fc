-- A line: the values of a type in their order, each but a greatest one with a next one. After the manual's topic "Range Optimization":
-- a condition on one column comes to intervals of its values.
use Rattle.std.specs.Prelude.{◌≡◌, Bool, true, false, not, ◌&&◌, Option, Some, None}
use Rattle.std.specs.declared.cmp.Ordering.{Ordering}
use Rattle.std.specs.declared.cmp.Ordering.TheVariants.{Equal}
use Rattle.std.specs.Ordering.{is_le}
use Rattle.std.specs.Cmp.{IsTotalOrder}

-- a isn't above b
abbrev pub at_most : {T : Type 0} → (T → T → Ordering) → T → T → Bool
at_most cmp a b = is_le (cmp a b)

-- v is at or above this end; None is above all
abbrev pub is_past : {T : Type 0} → (T → T → Ordering) → T → Option T → Bool
is_past cmp v None = false
is_past cmp v (Some to) = at_most cmp to v

-- v is at or above this beginning; None is below all
abbrev pub is_from : {T : Type 0} → (T → T → Ordering) → Option T → T → Bool
is_from cmp None v = true
is_from cmp (Some from) v = at_most cmp from v

-- v lies from the beginning on and below the end
abbrev pub is_between : {T : Type 0} → (T → T → Ordering) → Option T → Option T → T → Bool
is_between cmp from to v = is_from cmp from v && not (is_past cmp v to)

-- an end that is a value, or none
abbrev pub IsEnd : {T : Type 0} → (T → Bool) → Option T → Type 0
IsEnd is_value None = Unit {0}
IsEnd is_value (Some v) = is_value v ≡ true

-- a total order of values: the least one, and above each that isn't the greatest the next one
pub record IsLine {T : Type 0} (cmp : T → T → Ordering) (is_value : T → Bool) (least : T) (next : T → T) (is_greatest : T → Bool) : Type 0 where
  pub order : IsTotalOrder cmp
  pub one : (a b : T) → cmp a b ≡ Equal → a ≡ b
  pub least_value : is_value least ≡ true
  pub least_below : (v : T) → is_value v ≡ true → at_most cmp least v ≡ true
  pub next_value : (v : T) → is_value v ≡ true → is_greatest v ≡ false → is_value (next v) ≡ true
  pub next_above : (v : T) → is_value v ≡ true → is_greatest v ≡ false → at_most cmp (next v) v ≡ false
  pub next_least : (v w : T) → is_value v ≡ true → is_value w ≡ true → is_greatest v ≡ false → at_most cmp w v ≡ false → at_most cmp (next v) w ≡ true
  pub greatest_above : (v w : T) → is_value v ≡ true → is_value w ≡ true → is_greatest v ≡ true → at_most cmp w v ≡ true
