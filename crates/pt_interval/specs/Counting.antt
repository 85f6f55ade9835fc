-- How many values a set has, and which. A set is a test; only values of the line count.
use Rattle.std.specs.Prelude.{◌≡◌, ℕ, ◌+◌, ◌<◌, ◌≤◌, ◌⊎◌, Bool, true, List, [], ◌∷◌, length, Option, Some, None}
use Rattle.std.specs.declared.cmp.Ordering.{Ordering}
use Rattle.std.specs.declared.cmp.Ordering.TheVariants.{Less}

-- each element meets this
abbrev pub AreAll : {T : Type 0} → (T → Type 0) → List T → Type 0
AreAll P [] = Unit {0}
AreAll P (v ∷ vs) = P v × AreAll P vs

-- v is one of these
abbrev pub IsAmong : {T : Type 0} → T → List T → Type 0
IsAmong v [] = ⊥
IsAmong v (w ∷ ws) = (v ≡ w) ⊎ IsAmong v ws

-- each is below all behind it
abbrev pub AreRising : {T : Type 0} → (T → T → Ordering) → List T → Type 0
AreRising cmp [] = Unit {0}
AreRising cmp (v ∷ vs) = AreAll (λ w. cmp v w ≡ Less) vs × AreRising cmp vs

-- values of the set, in rising order, so each once
pub record AreIn {T : Type 0} (cmp : T → T → Ordering) (is_value is_in : T → Bool) (vs : List T) : Type 0 where
  pub rising : AreRising cmp vs
  pub inside : AreAll (λ v. (is_value v ≡ true) × (is_in v ≡ true)) vs

-- every value of the set is one of these
abbrev pub HasAll : {T : Type 0} → (T → Bool) → (T → Bool) → List T → Type 0
HasAll {T} is_value is_in vs = (v : T) → is_value v ≡ true → is_in v ≡ true → IsAmong v vs

-- up to `limit` values of a set in rising order: all of them, where they are fewer
pub record AreUpTo {T : Type 0} (cmp : T → T → Ordering) (is_value is_in : T → Bool) (limit : ℕ) (vs : List T) : Type 0 where
  pub inside : AreIn cmp is_value is_in vs
  pub few : length vs ≤ limit
  pub whole : length vs < limit → HasAll is_value is_in vs

-- how many values a set has, and `limit` where there are so many or more
abbrev pub IsCount : {T : Type 0} → (T → T → Ordering) → (T → Bool) → (T → Bool) → ℕ → ℕ → Type 0
IsCount {T} cmp is_value is_in limit n = (vs : List T) × AreUpTo cmp is_value is_in limit vs × (length vs ≡ n)

-- all values of a set in rising order, where there are at most `limit`; else None, and there are more
abbrev pub AreValues : {T : Type 0} → (T → T → Ordering) → (T → Bool) → (T → Bool) → ℕ → Option (List T) → Type 0
AreValues cmp is_value is_in limit (Some vs) = AreIn cmp is_value is_in vs × HasAll is_value is_in vs × (length vs ≤ limit)
AreValues {T} cmp is_value is_in limit None = (vs : List T) × AreIn cmp is_value is_in vs × (length vs ≡ limit + 1)
