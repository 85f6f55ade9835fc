-- A list within another: some of its items are left out, and those that stay keep their order.
use Rattle.std.proofs.Common.{◌≡◌, ℕ, zero, suc, ◌≤◌, Bool, true, false, cond, List, [], ◌∷◌, ◌++◌, map, filter, length, take, Option, None, refl, arith, All}
use Rattle.std.specs.List.{list_any, flat_map}
use Rattle.std.specs.Ordering.{is_eq}
use Rattle.std.specs.Str.{str_eq_ignore_ascii_case}
use Rattle.std.proofs.lemmas.Bool.{or_from, or_parts}
use Rattle.std.proofs.lemmas.List.Elements.{All-cons, All-head, All-nil, All-tail}
use Rattle.pt_ast.specs.declared.refusal.Refusal.{Refusal}
use Rattle.pt_ast.specs.declared.refusal.Refusal.TheVariants as refusal
use Rattle.pt_ast.specs.declared.table.Bound.{Bound}
use Rattle.pt_ast.specs.Bounds.{tuple_cmp}
use Rattle.pt_ast.specs.Lists.{repeats}
use Rattle.pt_place.specs.Checks.{name_twice}
use Rattle.pt_place.specs.First.{first_in, in_turn_from}
use Rattle.pt_place.proofs.Firsts.{none_first, none_next, passes}
use Rattle.pt_complete.proofs.ValidNames.{Each, both_none, not_refused}

pub data IsWithin {A : Type 0} : List A → List A → Type 0 where
  Empty : IsWithin [] []
  Keep : {few all : List A} → (x : A) → IsWithin few all → IsWithin (x ∷ few) (x ∷ all)
  Skip : {few all : List A} → (x : A) → IsWithin few all → IsWithin few (x ∷ all)

-- ---- lists within others

pub none_of : {A : Type 0} (xs : List A) → IsWithin [] xs
none_of [] = Empty
none_of (x ∷ xs) = Skip x (none_of xs)

pub all_of : {A : Type 0} (xs : List A) → IsWithin xs xs
all_of [] = Empty
all_of (x ∷ xs) = Keep x (all_of xs)

pub take_within : {A : Type 0} (n : ℕ) (xs : List A) → IsWithin (take n xs) xs
take_within zero xs = none_of xs
take_within (suc n) [] = Empty
take_within (suc n) (x ∷ xs) = Keep x (take_within n xs)

pub filter_within : {A : Type 0} (test : A → Bool) (xs : List A) → IsWithin (filter test xs) xs
filter_within test [] = Empty
filter_within test (x ∷ xs) = by (test x) (filter_within test xs)
  where
    by : (b : Bool) → IsWithin (filter test xs) xs → IsWithin (cond b (x ∷ filter test xs) (filter test xs)) (x ∷ xs)
    by true rest = Keep x rest
    by false rest = Skip x rest

pub map_within : {A B : Type 0} (f : A → B) {few all : List A} → IsWithin few all → IsWithin (map f few) (map f all)
map_within f Empty = Empty
map_within f (Keep x rest) = Keep (f x) (map_within f rest)
map_within f (Skip x rest) = Skip (f x) (map_within f rest)

pub behind_within : {A : Type 0} (xs : List A) {few all : List A} → IsWithin few all → IsWithin (xs ++ few) (xs ++ all)
behind_within [] rest = rest
behind_within (x ∷ xs) rest = Keep x (behind_within xs rest)

pub skipped_within : {A : Type 0} (xs : List A) {few all : List A} → IsWithin few all → IsWithin few (xs ++ all)
skipped_within [] rest = rest
skipped_within (x ∷ xs) rest = Skip x (skipped_within xs rest)

pub flat_within : {A B : Type 0} (f : A → List B) {few all : List A} → IsWithin few all → IsWithin (flat_map f few) (flat_map f all)
flat_within f Empty = Empty
flat_within f (Keep x rest) = behind_within (f x) (flat_within f rest)
flat_within f (Skip x rest) = skipped_within (f x) (flat_within f rest)

pub pushed_within : {A : Type 0} (x : A) {few all : List A} → IsWithin few all → IsWithin (few ++ x ∷ []) (all ++ x ∷ [])
pushed_within x Empty = Keep x Empty
pushed_within x (Keep y rest) = Keep y (pushed_within x rest)
pushed_within x (Skip y rest) = Skip y (pushed_within x rest)

pub wider_within : {A : Type 0} (x : A) {few all : List A} → IsWithin few all → IsWithin few (all ++ x ∷ [])
wider_within x Empty = Skip x Empty
wider_within x (Keep y rest) = Keep y (wider_within x rest)
wider_within x (Skip y rest) = Skip y (wider_within x rest)

-- ---- what a list within another keeps

pub within_length : {A : Type 0} {few all : List A} → IsWithin few all → length few ≤ length all
within_length Empty = omega arith
within_length (Keep x rest) = omega (arith, within_length rest)
within_length (Skip x rest) = omega (arith, within_length rest)

pub each_within : {A : Type 0} (P : A → Type 0) {few all : List A} → IsWithin few all → Each P all → Each P few
each_within P Empty so = tt
each_within P (Keep x rest) so = (so.0, each_within P rest so.1)
each_within P (Skip x rest) so = each_within P rest so.1

pub all_within : {A : Type 0} (P : A → Type 0) {few all : List A} → IsWithin few all → All P all → All P few
all_within P Empty so = All-nil P
all_within P (Keep x rest) so = All-cons P x _ (All-head P x _ so) (all_within P rest (All-tail P x _ so))
all_within P (Skip x rest) so = all_within P rest (All-tail P x _ so)

pub none_in : {A : Type 0} (test : A → Bool) {few all : List A} → IsWithin few all → list_any test all ≡ false → list_any test few ≡ false
none_in test Empty none = refl
none_in test (Keep x rest) none = or_from _ _ (or_parts _ _ none).0 (none_in test rest (or_parts _ _ none).1)
none_in test (Skip x rest) none = none_in test rest (or_parts (test x) _ none).1

pub none_each : {A : Type 0} (check : A → Option Refusal) {few all : List A} → IsWithin few all → first_in check all ≡ None → first_in check few ≡ None
none_each check Empty none = refl
none_each check (Keep x rest) none = both_none _ _ (none_first _ _ none) (none_each check rest (none_next _ _ none))
none_each check (Skip x rest) none = none_each check rest (none_next (check x) _ none)

-- where no name stands twice, none does in a list within
pub none_twice : {earlier before few all : List (List ℕ)} → IsWithin earlier before → IsWithin few all → in_turn_from name_twice before all ≡ None → in_turn_from name_twice earlier few ≡ None
none_twice front Empty none = refl
none_twice front (Keep x rest) none =
    both_none _ _
    (not_refused _ (refusal.DuplicatePartition x) (none_in (str_eq_ignore_ascii_case x) front (passes _ _ (none_first _ _ none))))
    (none_twice (pushed_within x front) rest (none_next _ _ none))
none_twice {before} front (Skip x rest) none = none_twice (wider_within x front) rest (none_next (name_twice before x) _ none)

-- and where no value does
pub none_repeats : {earlier before few all : List (List Bound)} → IsWithin earlier before → IsWithin few all → repeats before all ≡ false → repeats earlier few ≡ false
none_repeats front Empty none = refl
none_repeats front (Keep x rest) none =
    or_from _ _ (none_in (λ (other : List Bound). is_eq (tuple_cmp other x)) front (or_parts _ _ none).0) (none_repeats (pushed_within x front) rest (or_parts _ _ none).1)
none_repeats front (Skip x rest) none = none_repeats (wider_within x front) rest (or_parts _ _ none).1
