-- The elements at the front of a list that pass a test.
use Rattle.std.proofs.Common.{◌≡◌, Bool, true, false, cond, ◌&&◌, List, [], ◌∷◌, ◌++◌, All, refl, ap, ◌∙◌, one-add}
use Rattle.std.specs.List.{list_all, take_while}
use Rattle.std.proofs.lemmas.List.Elements.{All-nil, All-cons, All-same}
use Rattle.std.proofs.lemmas.List.Sums.{take_while-cons}

both : (a b : Bool) → (a && b) ≡ true → (a ≡ true) × (b ≡ true)
both true b e = (refl, e)
both false b e = cc

module _ {X : Type 0} (p : X → Bool) where
  pub take_while-pass : (x : X) (xs : List X) → p x ≡ true → take_while p (x ∷ xs) ≡ x ∷ take_while p xs
  take_while-pass x xs e = rw (e, one-add) refl

  pub take_while-fail : (x : X) (xs : List X) → p x ≡ false → take_while p (x ∷ xs) ≡ []
  take_while-fail x xs e = rw e refl

  -- all of them pass
  pub take_while-all : (xs : List X) → list_all p xs ≡ true → take_while p xs ≡ xs
  take_while-all [] e = refl
  take_while-all (x ∷ xs) e = let h = both (p x) (list_all p xs) e in take_while-pass x xs h.0 ∙ ap (λ ys. x ∷ ys) (take_while-all xs h.1)

  -- up to the first that fails
  pub take_while-first : (xs : List X) (y : X) (ys : List X) → list_all p xs ≡ true → p y ≡ false → take_while p (xs ++ y ∷ ys) ≡ xs
  take_while-first [] y ys e f = take_while-fail y ys f
  take_while-first (x ∷ xs) y ys e f = let h = both (p x) (list_all p xs) e in take_while-pass x (xs ++ y ∷ ys) h.0 ∙ ap (λ zs. x ∷ zs) (take_while-first xs y ys h.1 f)

  -- each of the front passes
  pub front_passes : (xs : List X) → All (λ x. p x ≡ true) (take_while p xs)
  front_passes [] = All-nil (λ x. p x ≡ true)
  front_passes (x ∷ xs) = All-same (λ x. p x ≡ true) _ _ (take_while-cons p x xs) (by_test (p x) refl (front_passes xs)) where
    by_test : (r : Bool) → p x ≡ r → All (λ x. p x ≡ true) (take_while p xs) → All (λ x. p x ≡ true) (cond r (x ∷ take_while p xs) [])
    by_test true e each = All-cons (λ x. p x ≡ true) x (take_while p xs) e each
    by_test false e each = All-nil (λ x. p x ≡ true)
