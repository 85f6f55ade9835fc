-- Words for checks in an order: the first refusal that holds is the answer.
use Rattle.std.specs.Prelude.{Bool, List, [], ◌∷◌, ◌++◌, Option, Some, None, if◌then◌else◌}
use Rattle.std.specs.Option.{option_or}
use Rattle.pt_ast.specs.declared.refusal.Refusal.{Refusal}

-- the refusal, where the test holds
abbrev pub refused_if : Bool → Refusal → Option Refusal
refused_if holds refusal = if holds then Some refusal else None

-- the first of these that is there
abbrev pub first_of : List (Option Refusal) → Option Refusal
first_of [] = None
first_of (check ∷ checks) = option_or check (first_of checks)

-- item by item
abbrev pub first_in : {A : Type 0} → (A → Option Refusal) → List A → Option Refusal
first_in check [] = None
first_in check (x ∷ xs) = option_or (check x) (first_in check xs)

-- item by item, each beside those before it: from some on
abbrev pub in_turn_from : {A : Type 0} → (List A → A → Option Refusal) → List A → List A → Option Refusal
in_turn_from check before [] = None
in_turn_from check before (x ∷ xs) = option_or (check before x) (in_turn_from check (before ++ x ∷ []) xs)

-- and from the first on
abbrev pub in_turn : {A : Type 0} → (List A → A → Option Refusal) → List A → Option Refusal
in_turn check xs = in_turn_from check [] xs
