-- The first refusal, check by check and item by item.
use Rattle.std.proofs.Common.{◌≡◌, ℕ, ◌+◌, ◌<◌, ◌≤◌, Bool, true, false, List, [], ◌∷◌, ◌++◌, length, take, drop, get_or, Option, Some, None, refl, sym, ap, ◌∙◌}
use Rattle.std.specs.Option.{option_or}
use Rattle.std.proofs.lemmas.List.{append_assoc, append-nil, at_drop_more, at_drop_all, take_more}
use Rattle.pt_ast.specs.declared.refusal.Refusal.{Refusal}
use Rattle.pt_place.specs.First.{refused_if, first_in, in_turn_from}

-- ---- one check after another

pub or-some : (a b : Option Refusal) (r : Refusal) → a ≡ Some r → option_or a b ≡ Some r
or-some (Some s) b r e = e
or-some None b r e = cc

pub or-none : (a b : Option Refusal) → a ≡ None → option_or a b ≡ b
or-none (Some s) b e = cc
or-none None b e = refl

pub none_first : (a b : Option Refusal) → option_or a b ≡ None → a ≡ None
none_first (Some s) b e = e
none_first None b e = refl

pub none_next : (a b : Option Refusal) → option_or a b ≡ None → b ≡ None
none_next (Some s) b e = cc
none_next None b e = e

pub or_assoc : (a b c : Option Refusal) → option_or (option_or a b) c ≡ option_or a (option_or b c)
or_assoc (Some s) b c = refl
or_assoc None b c = refl

pub or_end : (a : Option Refusal) → option_or a None ≡ a
or_end (Some s) = refl
or_end None = refl

pub passes : (b : Bool) (r : Refusal) → refused_if b r ≡ None → b ≡ false
passes true r e = cc
passes false r e = refl

-- ---- item by item

module _ {A : Type 0} (check : A → Option Refusal) (xs : List A) (i : ℕ) where
  pub each_step : (x : A) → i < length xs → x ≡ get_or xs i x → first_in check (drop i xs) ≡ option_or (check x) (first_in check (drop (i + 1) xs))
  each_step x within e = at_drop_more (first_in check) xs i x within ∙ ap (λ y. option_or (check y) (first_in check (drop (i + 1) xs))) (sym e)

  pub each_found : (x : A) (r : Refusal) (all : Option Refusal) → i < length xs → x ≡ get_or xs i x → first_in check (drop i xs) ≡ all → check x ≡ Some r → Some r ≡ all
  each_found x r all within e kept found = sym (or-some _ _ r found) ∙ sym (each_step x within e) ∙ kept

  pub each_more : (x : A) (all : Option Refusal) → i < length xs → x ≡ get_or xs i x → first_in check (drop i xs) ≡ all → check x ≡ None → first_in check (drop (i + 1) xs) ≡ all
  each_more x all within e kept none = sym (or-none _ _ none) ∙ sym (each_step x within e) ∙ kept

  pub each_end : (all : Option Refusal) → length xs ≤ i → first_in check (drop i xs) ≡ all → None ≡ all
  each_end all past kept = sym (at_drop_all (first_in check) xs i past) ∙ kept

-- ---- item by item, each beside those before it

module _ {A : Type 0} (check : List A → A → Option Refusal) (xs : List A) (i : ℕ) where
  pub turn_step : (x : A) → i < length xs → x ≡ get_or xs i x
      → in_turn_from check (take i xs) (drop i xs) ≡ option_or (check (take i xs) x) (in_turn_from check (take (i + 1) xs) (drop (i + 1) xs))
  turn_step x within e =
      at_drop_more (in_turn_from check (take i xs)) xs i x within
      ∙ ap (λ y. option_or (check (take i xs) y) (in_turn_from check (take i xs ++ get_or xs i x ∷ []) (drop (i + 1) xs))) (sym e)
      ∙ ap (λ before. option_or (check (take i xs) x) (in_turn_from check before (drop (i + 1) xs))) (sym (take_more xs i x within))

  pub turn_found : (x : A) (r : Refusal) (all : Option Refusal) → i < length xs → x ≡ get_or xs i x → in_turn_from check (take i xs) (drop i xs) ≡ all → check (take i xs) x ≡ Some r → Some r ≡ all
  turn_found x r all within e kept found = sym (or-some _ _ r found) ∙ sym (turn_step x within e) ∙ kept

  pub turn_more : (x : A) (all : Option Refusal) → i < length xs → x ≡ get_or xs i x → in_turn_from check (take i xs) (drop i xs) ≡ all → check (take i xs) x ≡ None
      → in_turn_from check (take (i + 1) xs) (drop (i + 1) xs) ≡ all
  turn_more x all within e kept none = sym (or-none _ _ none) ∙ sym (turn_step x within e) ∙ kept

  pub turn_end : (all : Option Refusal) → length xs ≤ i → in_turn_from check (take i xs) (drop i xs) ≡ all → None ≡ all
  turn_end all past kept = sym (at_drop_all (in_turn_from check (take i xs)) xs i past) ∙ kept

-- over two lists, one after the other
pub turn-append : {A : Type 0} (check : List A → A → Option Refusal) (before xs ys : List A)
    → in_turn_from check before (xs ++ ys) ≡ option_or (in_turn_from check before xs) (in_turn_from check (before ++ xs) ys)
turn-append check before [] ys = ap (λ l. in_turn_from check l ys) (sym (append-nil before))
turn-append check before (x ∷ xs) ys =
    ap (option_or (check before x)) (turn-append check (before ++ x ∷ []) xs ys ∙ ap (λ l. option_or (in_turn_from check (before ++ x ∷ []) xs) (in_turn_from check l ys)) (append_assoc before (x ∷ []) xs))
    ∙ sym (or_assoc (check before x) (in_turn_from check (before ++ x ∷ []) xs) (in_turn_from check (before ++ x ∷ xs) ys))
