-- The values of a set, NULL first, where they are few.
use Rattle.std.proofs.Common.{inl, inr, ◌≡◌, ◌⊎◌, ℕ, zero, suc, ◌+◌, ◌-◌, ◌<◌, ◌≤◌, arith, Bool, true, false, ℤ, List, [], ◌∷◌, ◌++◌, get_or, take, length, map, Option, Some, None, refl, sym, ap, subst, ◌∙◌, append_assoc}
use Rattle.std.specs.Prelude.{if◌then◌else◌}
use Rattle.std.specs.declared.cmp.Ordering.{Ordering}
use Rattle.std.specs.declared.cmp.Ordering.TheVariants.{Less}
use Rattle.std.specs.Ordering.{int_cmp}
use Rattle.std.proofs.lemmas.Bool.{and_from, and_parts, false≢true}
use Rattle.std.proofs.lemmas.List.{length-map, map-append, take_more}
use Rattle.pt_value.specs.Fits.{fits_date}
use Rattle.pt_value.specs.Value.{value_cmp}
use Rattle.pt_value.specs.declared.value.Value.{Value}
use Rattle.pt_value.specs.declared.value.Value.TheVariants.{Null, Int, Day, Bytes}
use Rattle.pt_expr.specs.Truths.{is_null}
use Rattle.pt_interval.specs.Counting.{AreAll, AreIn, AreRising, AreValues, HasAll, IsAmong}
use Rattle.pt_interval.specs.Instances.{are_bytes, bytes_cmp, greatest_wide, is_int, least_wide}
use Rattle.pt_interval.specs.Spans.{has}
use Rattle.pt_reach.specs.declared.domain.Domain.{Domain}
use Rattle.pt_reach.specs.declared.domain.Domain.TheVariants as domain
use Rattle.pt_reach.specs.declared.reach.Reach.{Reach}
use Rattle.pt_reach.specs.Domains.{has_in}
use Rattle.pt_reach.specs.Reaching.{AreFew, nulls}
use Rattle.pt_reach.specs.Scales.{bytes_order, day_order, number_order}
use Rattle.pt_reach.proofs.Orders.{null_less}

-- ---- how many

pub length-nulls : (null : Bool) (vs : List Value) → length (nulls null ++ vs) ≡ (if null then suc (length vs) else length vs)
length-nulls true vs = refl
length-nulls false vs = refl

module _ {T : Type 0} (cmp : T → T → Ordering) (is_value : T → Bool) (value : T → Value) (reach : Reach T) where
  some_few : (null : Bool) (own limit : ℕ) (ws : List T) → own ≡ (if null then limit - 1 else limit) → 0 < limit → length ws ≤ own → length (nulls null ++ map value ws) ≤ limit
  some_few true own limit ws is some few = omega (arith, length-map ws value, is, some, few)
  some_few false own limit ws is some few = omega (arith, length-map ws value, is, some, few)

  more_few : (null : Bool) (own limit : ℕ) (ws : List T) → own ≡ (if null then limit - 1 else limit) → 0 < limit → length ws ≡ own + 1 → length (nulls null ++ map value ws) ≡ limit + 1
  more_few true own limit ws is some few = omega (arith, length-map ws value, is, some, few)
  more_few false own limit ws is some few = omega (arith, length-map ws value, is, some, few)

  pub few_none : (own limit : ℕ) → own ≡ (if reach.null then limit - 1 else limit) → 0 < limit → AreValues cmp is_value (has cmp reach.spans) own None → AreFew cmp is_value value reach limit None
  few_none own limit is some (ws, are, many) = (ws, are, more_few reach.null own limit ws is some many)

  pub few_some : (own limit : ℕ) (ws : List T) (vs : List Value) → own ≡ (if reach.null then limit - 1 else limit) → 0 < limit → AreValues cmp is_value (has cmp reach.spans) own (Some ws) → vs ≡ nulls reach.null ++ map value ws
      → AreFew cmp is_value value reach limit (Some vs)
  few_some own limit ws vs is some (are, all, few) made = (ws, are, all, made, subst (λ l. length l ≤ limit) (sym made) (some_few reach.null own limit ws is some few))

-- ---- one more

pub all_at : {T : Type 0} (P : T → Type 0) (xs : List T) (i : ℕ) (x : T) → AreAll P xs → i < length xs → x ≡ get_or xs i x → P x
all_at P [] i x all within is = absurd (omega (arith, within))
all_at P (y ∷ xs) zero x all within is = subst P (sym is) all.0
all_at P (y ∷ xs) (suc i) x all within is = all_at P xs i x all.1 (omega (arith, within)) is

pub listed_more : {T : Type 0} (value : T → Value) (front : List Value) (xs : List T) (i : ℕ) (x : T) (before after : List Value) (held : Value) → i < length xs → x ≡ get_or xs i x → held ≡ value x → after ≡ before ++ held ∷ []
    → before ≡ front ++ map value (take i xs) → after ≡ front ++ map value (take (i + 1) xs)
listed_more value front xs i x before after held within is here now so_far =
    now
    ∙ ap (λ (l : List Value). l ++ held ∷ []) so_far
    ∙ append_assoc front (map value (take i xs)) (held ∷ [])
    ∙ ap (λ (l : List Value). front ++ l)
    (ap (λ (v : Value). map value (take i xs) ++ v ∷ []) (here ∙ ap value is) ∙ sym (map-append value (take i xs) (get_or xs i x ∷ [])) ∙ sym (ap (map value) (take_more xs i x within)))

-- ---- as values

module _ {T : Type 0} (cmp : T → T → Ordering) (is_value : T → Bool) (value : T → Value) (reach : Reach T) (is_in : Value → Bool)
    (orders : (a b : T) → value_cmp (value a) (value b) ≡ cmp a b) (some : (v : T) → is_null (value v) ≡ false) (null : is_in Null ≡ reach.null)
    (held : (v : T) → is_value v ≡ true → has cmp reach.spans v ≡ true → is_in (value v) ≡ true)
    (read : (w : Value) → is_in w ≡ true → ((w ≡ Null) × (reach.null ≡ true)) ⊎ ((v : T) × (is_value v ≡ true) × (has cmp reach.spans v ≡ true) × (w ≡ value v))) where
  all_below : (v : T) (vs : List T) → AreAll (λ w. cmp v w ≡ Less) vs → AreAll (λ w. value_cmp (value v) w ≡ Less) (map value vs)
  all_below v [] all = tt
  all_below v (w ∷ vs) all = (orders v w ∙ all.0, all_below v vs all.1)

  rising : (vs : List T) → AreRising cmp vs → AreRising value_cmp (map value vs)
  rising [] up = tt
  rising (v ∷ vs) up = (all_below v vs up.0, rising vs up.1)

  all_in : (vs : List T) → AreAll (λ v. (is_value v ≡ true) × (has cmp reach.spans v ≡ true)) vs → AreAll (λ w. (true ≡ true) × (is_in w ≡ true)) (map value vs)
  all_in [] all = tt
  all_in (v ∷ vs) all = ((refl, held v all.0.0 all.0.1), all_in vs all.1)

  above_null : (vs : List T) → AreAll (λ w. value_cmp Null w ≡ Less) (map value vs)
  above_null [] = tt
  above_null (v ∷ vs) = (null_less (value v) (some v), above_null vs)

  as_values : (b : Bool) (vs : List T) → reach.null ≡ b → AreIn cmp is_value (has cmp reach.spans) vs → AreIn value_cmp (λ w. true) is_in (nulls b ++ map value vs)
  as_values true vs e are = record { rising = (above_null vs, rising vs are.rising); inside = ((refl, null ∙ e), all_in vs are.inside) }
  as_values false vs e are = record { rising = rising vs are.rising; inside = all_in vs are.inside }

  among_map : (v : T) (vs : List T) → IsAmong v vs → IsAmong (value v) (map value vs)
  among_map v [] h = h
  among_map v (w ∷ vs) (inl e) = inl (ap value e)
  among_map v (w ∷ vs) (inr h) = inr (among_map v vs h)

  behind_null : (b : Bool) (w : Value) (ws : List Value) → IsAmong w ws → IsAmong w (nulls b ++ ws)
  behind_null true w ws h = inr h
  behind_null false w ws h = h

  null_first : (b : Bool) (w : Value) (ws : List Value) → w ≡ Null → b ≡ true → IsAmong w (nulls b ++ ws)
  null_first true w ws e f = inl e
  null_first false w ws e f = absurd (false≢true f)

  has_all : (vs : List T) → HasAll is_value (has cmp reach.spans) vs → HasAll (λ w. true) is_in (nulls reach.null ++ map value vs)
  has_all vs all w value_w in_w = elim (read w in_w) [
    | inl h ↦ null_first reach.null w (map value vs) h.0 h.1
    | inr h ↦ behind_null reach.null w (map value vs) (subst (λ u. IsAmong u (map value vs)) (sym h.3) (among_map h.0 vs (all h.0 h.1 h.2)))
  ]

  pub few_values : (limit : ℕ) (found : Option (List Value)) → AreFew cmp is_value value reach limit found → AreValues value_cmp (λ w. true) is_in limit found
  few_values limit (Some vs) (ws, are, all, made, few) =
      (subst (AreIn value_cmp (λ w. true) is_in) (sym made) (as_values reach.null ws refl are), subst (HasAll (λ w. true) is_in) (sym made) (has_all ws all), few)
  few_values limit None (ws, are, many) = (nulls reach.null ++ map value ws, as_values reach.null ws refl are, many)

-- ---- by kind

numbers_read : (reach : Reach ℤ) (w : Value) → has_in (domain.Numbers reach) w ≡ true
    → ((w ≡ Null) × (reach.null ≡ true)) ⊎ ((v : ℤ) × (is_int least_wide greatest_wide v ≡ true) × (has int_cmp reach.spans v ≡ true) × (w ≡ Int v))
numbers_read reach Null h = inl (refl, h)
numbers_read reach (Int n) h = let both = and_parts (is_int least_wide greatest_wide n) (has int_cmp reach.spans n) h in inr (n, both.0, both.1, refl)
numbers_read reach (Day day) h = absurd (false≢true h)
numbers_read reach (Bytes bytes) h = absurd (false≢true h)

days_read : (reach : Reach ℤ) (w : Value) → has_in (domain.Days reach) w ≡ true → ((w ≡ Null) × (reach.null ≡ true)) ⊎ ((v : ℤ) × (fits_date v ≡ true) × (has int_cmp reach.spans v ≡ true) × (w ≡ Day v))
days_read reach Null h = inl (refl, h)
days_read reach (Int n) h = absurd (false≢true h)
days_read reach (Day day) h = let both = and_parts (fits_date day) (has int_cmp reach.spans day) h in inr (day, both.0, both.1, refl)
days_read reach (Bytes bytes) h = absurd (false≢true h)

strings_read : (reach : Reach (List ℕ)) (w : Value) → has_in (domain.Strings reach) w ≡ true
    → ((w ≡ Null) × (reach.null ≡ true)) ⊎ ((v : List ℕ) × (are_bytes v ≡ true) × (has bytes_cmp reach.spans v ≡ true) × (w ≡ Bytes v))
strings_read reach Null h = inl (refl, h)
strings_read reach (Int n) h = absurd (false≢true h)
strings_read reach (Day day) h = absurd (false≢true h)
strings_read reach (Bytes bytes) h = let both = and_parts (are_bytes bytes) (has bytes_cmp reach.spans bytes) h in inr (bytes, both.0, both.1, refl)

pub number_values : (d : Domain) (reach : Reach ℤ) (limit : ℕ) (found : Option (List Value)) → d ≡ domain.Numbers reach → AreFew int_cmp (is_int least_wide greatest_wide) (λ n. Int n) reach limit found → AreValues value_cmp (λ w. true) (has_in d) limit found
number_values d reach limit found is h =
    subst (λ e. AreValues value_cmp (λ w. true) (has_in e) limit found) (sym is)
    (few_values int_cmp (is_int least_wide greatest_wide) (λ n. Int n) reach (has_in (domain.Numbers reach)) number_order (λ v. refl) refl (λ v value_v held. and_from _ _ value_v held) (numbers_read reach) limit found h)

pub day_values : (d : Domain) (reach : Reach ℤ) (limit : ℕ) (found : Option (List Value)) → d ≡ domain.Days reach → AreFew int_cmp fits_date (λ n. Day n) reach limit found → AreValues value_cmp (λ w. true) (has_in d) limit found
day_values d reach limit found is h =
    subst (λ e. AreValues value_cmp (λ w. true) (has_in e) limit found) (sym is)
    (few_values int_cmp fits_date (λ n. Day n) reach (has_in (domain.Days reach)) day_order (λ v. refl) refl (λ v value_v held. and_from _ _ value_v held) (days_read reach) limit found h)

pub string_values : (d : Domain) (reach : Reach (List ℕ)) (limit : ℕ) (found : Option (List Value)) → d ≡ domain.Strings reach → AreFew bytes_cmp are_bytes (λ n. Bytes n) reach limit found → AreValues value_cmp (λ w. true) (has_in d) limit found
string_values d reach limit found is h =
    subst (λ e. AreValues value_cmp (λ w. true) (has_in e) limit found) (sym is)
    (few_values bytes_cmp are_bytes (λ n. Bytes n) reach (has_in (domain.Strings reach)) bytes_order (λ v. refl) refl (λ v value_v held. and_from _ _ value_v held) (strings_read reach) limit found h)
