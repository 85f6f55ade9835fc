-- In the shape of the code: a span's values one after the other. Nothing public cites these.
use Rattle.std.specs.Prelude.{◌≡◌, ℕ, zero, suc, ◌<◌, ◌≤◌, ℤ, pos, ◌+ℤ◌, ◌≤ℤ◌, Bool, List, [], ◌∷◌, Option, if◌then◌else◌}
use Rattle.std.specs.declared.cmp.Ordering.{Ordering}
use Rattle.pt_interval.specs.Line.{is_past}

-- the first n values from `from` on, below `to`
abbrev pub walk : {T : Type 0} → (T → T → Ordering) → (T → T) → (T → Bool) → ℕ → T → Option T → List T
walk cmp next is_greatest zero from to = []
walk cmp next is_greatest (suc n) from to =
    if is_past cmp from to then [] else (if is_greatest from then from ∷ [] else from ∷ walk cmp next is_greatest n (next from) to)

-- how many numbers n there are from one on and below `end`, at most `limit`
pub record CountsTo (from end : ℤ) (limit n : ℕ) : Type 0 where
  pub below : (from +ℤ pos n) ≤ℤ end
  pub few : n ≤ limit
  pub whole : n < limit → from +ℤ pos n ≡ end
