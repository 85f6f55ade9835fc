-- What is found part by part is found of all of them.
use Rattle.std.proofs.Common.{◌≡◌, ℕ, ◌+◌, ◌<◌, List, ◌∷◌, length, drop, get_or, Result, Ok, Err, refl, sym, ap, ◌∙◌}
use Rattle.std.proofs.lemmas.List.{drop_more}
use Rattle.pt_expr.specs.declared.kind.CheckFault.{CheckFault}
use Rattle.pt_expr.specs.Found.{after}

pub after-twice : {A B C : Type 0} (r : Result A CheckFault) (f : A → B) (k : B → Result C CheckFault) → after (after r (λ x. Ok (f x))) k ≡ after r (λ x. k (f x))
after-twice (Ok x) f k = refl
after-twice (Err fault) f k = refl

again : {A B : Type 0} (rest : Result (List A) CheckFault) (x : A) (g : List A → Result B CheckFault) → after rest (λ xs. g (x ∷ xs)) ≡ after (after rest (λ xs. Ok (x ∷ xs))) g
again (Ok xs) x g = refl
again (Err fault) x g = refl

pub gather : {A B : Type 0} (r : Result A CheckFault) (rest : Result (List A) CheckFault) (k : A → Result B CheckFault) (g : List A → Result B CheckFault)
    → ((x : A) → k x ≡ after rest (λ xs. g (x ∷ xs))) → after r k ≡ after (after r (λ x. after rest (λ xs. Ok (x ∷ xs)))) g
gather (Ok x) rest k g h = h x ∙ again rest x g
gather (Err fault) rest k g h = refl

pub after-same : {A B : Type 0} (r : Result A CheckFault) (f g : A → Result B CheckFault) → ((x : A) → f x ≡ g x) → after r f ≡ after r g
after-same (Ok x) f g h = h x
after-same (Err fault) f g h = refl

-- the element at a place, and what comes behind it
pub drop_at_item : {X : Type 0} (xs : List X) (i : ℕ) (x : X) → i < length xs → x ≡ get_or xs i x → drop i xs ≡ x ∷ drop (i + 1) xs
drop_at_item xs i x h is = drop_more xs i x h ∙ ap (λ y. y ∷ drop (i + 1) xs) (sym is)
