-- A set of the values of a column.
use Rattle.std.specs.Prelude.{◌≡◌, ℕ, ◌+◌, ◌≤◌, ◌⊎◌, Bool, true, false, List, [], ◌∷◌, ◌++◌, map, length, Option, Some, None}
use Rattle.std.specs.declared.cmp.Ordering.{Ordering}
use Rattle.pt_value.specs.declared.value.Value.{Value}
use Rattle.pt_value.specs.declared.value.Value.TheVariants.{Null}
use Rattle.pt_interval.specs.Counting.{AreIn, HasAll}
use Rattle.pt_interval.specs.Spans.{IsSet, has}
use Rattle.pt_reach.specs.declared.reach.Reach.{Reach}

-- It has exactly the values that pass the test, NULL and the others.
pub record IsReach {T : Type 0} (cmp : T → T → Ordering) (is_value : T → Bool) (value : T → Value) (reach : Reach T) (test : Value → Bool) : Type 0 where
  pub null : reach.null ≡ test Null
  pub others : IsSet cmp is_value reach.spans (λ v. test (value v))

-- some value of the set, NULL or another, passes the test
abbrev pub IsMet : {T : Type 0} → (T → T → Ordering) → (T → Bool) → (T → Value) → Reach T → (Value → Bool) → Type 0
IsMet {T} cmp is_value value reach test =
    ((reach.null ≡ true) × (test Null ≡ true)) ⊎ ((v : T) × (is_value v ≡ true) × (has cmp reach.spans v ≡ true) × (test (value v) ≡ true))

-- NULL, if it is one
abbrev pub nulls : Bool → List Value
nulls true = Null ∷ []
nulls false = []

-- all values of a set, in rising order and NULL first, where there are at most `limit`; else None, and there are more
abbrev pub AreFew : {T : Type 0} → (T → T → Ordering) → (T → Bool) → (T → Value) → Reach T → ℕ → Option (List Value) → Type 0
AreFew {T} cmp is_value value reach limit (Some vs) =
    (ws : List T) × AreIn cmp is_value (has cmp reach.spans) ws × HasAll is_value (has cmp reach.spans) ws × (vs ≡ nulls reach.null ++ map value ws) × (length vs ≤ limit)
AreFew {T} cmp is_value value reach limit None =
    (ws : List T) × AreIn cmp is_value (has cmp reach.spans) ws × (length (nulls reach.null ++ map value ws) ≡ limit + 1)
