-- What holds of each element and of each two elements, where one more element stands in between.
use Rattle.std.proofs.Common.{suc, ◌+◌, ◌<◌, List, [], ◌∷◌, ◌++◌, length, subst, arith, length-append}
use Rattle.std.specs.List.{All, AllPairs, flat_map}
use Rattle.std.proofs.lemmas.List.{get_or_append_left, get_or-append-add}
use Rattle.std.proofs.lemmas.List.Elements.{All-nil, All-append, All-cons, All-head, All-tail}
use Rattle.std.proofs.lemmas.List.Kept.{AllPairs-cons}

pub all_left : {X : Type 0} (P : X → Type 0) (xs ys : List X) → All P (xs ++ ys) → All P xs
all_left P xs ys h k d below =
    let within : k < length (xs ++ ys) = omega (arith, length-append xs ys) in
    subst P (get_or_append_left xs ys d k below) (h k d within)

pub all_right : {X : Type 0} (P : X → Type 0) (xs ys : List X) → All P (xs ++ ys) → All P ys
all_right P xs ys h k d below =
    let within : length xs + k < length (xs ++ ys) = omega (arith, length-append xs ys) in
    subst P (get_or-append-add xs ys k d) (h (length xs + k) d within)

pub all_flat_map : {X A : Type 0} (P : A → Type 0) (f : X → List A) (xs : List X) → All (λ x. All P (f x)) xs → All P (flat_map f xs)
all_flat_map P f [] h = All-nil P
all_flat_map P f (x ∷ xs) h = All-append P (f x) (flat_map f xs) (All-head (λ y. All P (f y)) x xs h) (all_flat_map P f xs (All-tail (λ y. All P (f y)) x xs h))

pub pairs_head : {X : Type 0} (R : X → X → Type 0) (x : X) (xs : List X) → AllPairs R (x ∷ xs) → All (R x) xs
pairs_head R x xs h k d below = h 0 (suc k) d (omega arith) (omega arith)

pub pairs_tail : {X : Type 0} (R : X → X → Type 0) (x : X) (xs : List X) → AllPairs R (x ∷ xs) → AllPairs R xs
pairs_tail R x xs h i j d before below = h (suc i) (suc j) d (omega arith) (omega arith)

-- one more element, which goes with each that stands before it and each that stands after it
pub pairs_between : {X : Type 0} (R : X → X → Type 0) (xs : List X) (y : X) (ys : List X) → AllPairs R (xs ++ ys) → All (λ x. R x y) xs → All (R y) ys → AllPairs R (xs ++ y ∷ ys)
pairs_between R [] y ys pairs before after = AllPairs-cons R y ys after pairs
pairs_between R (x ∷ xs) y ys pairs before after =
    let others : All (R x) (xs ++ ys) = pairs_head R x (xs ++ ys) pairs in
    AllPairs-cons R x (xs ++ y ∷ ys)
    (All-append (R x) xs (y ∷ ys) (all_left (R x) xs ys others) (All-cons (R x) y ys (All-head (λ z. R z y) x xs before) (all_right (R x) xs ys others)))
    (pairs_between R xs y ys (pairs_tail R x (xs ++ ys) pairs) (All-tail (λ z. R z y) x xs before) after)
