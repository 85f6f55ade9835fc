-- Lists that rise by a key.
use Rattle.std.specs.Prelude.{List, [], ◌∷◌}
use Rattle.std.specs.declared.cmp.Ordering.{Ordering}
use Rattle.std.specs.Ordering.{match_ordering}

-- with this item in its place by rising key; one of the same key goes
abbrev pub in_place : {X K : Type 0} → (K → K → Ordering) → (X → K) → X → List X → List X
in_place cmp key x [] = x ∷ []
in_place cmp key x (y ∷ ys) = match_ordering (cmp (key x) (key y)) (x ∷ y ∷ ys) (x ∷ ys) (y ∷ in_place cmp key x ys)
