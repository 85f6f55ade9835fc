-- Rows that agree on a unique key of a valid definition have one spot.
use Rattle.std.proofs.Common.{◌≡◌, ℕ, Bool, true, false, not, ◌||◌, ◌==◌, cond, List, [], ◌∷◌, ◌++◌, length, map, Option, Some, None, refl, sym, ap, subst, ◌∙◌}
use Rattle.std.specs.Prelude.{slice_index_or, filter}
use Rattle.std.specs.List.{list_any, list_all}
use Rattle.std.specs.Option.{option_map, option_or}
use Rattle.std.specs.Ordering.{eq_by_cmp}
use Rattle.std.proofs.lemmas.Bool.{not-false, eqb-true, true≢false}
use Rattle.std.proofs.lemmas.List.Folds.{list_all-append}
use Rattle.std.proofs.lemmas.Map.Views.{any-filter_same, tells_apart}
use Rattle.pt_value.specs.Value.{value_cmp}
use Rattle.pt_value.specs.declared.value.Value.{Value}
use Rattle.pt_value.specs.declared.value.Value.TheVariants.{Null}
use Rattle.pt_value.proofs.Order.{value_cmp-Equal}
use Rattle.pt_ast.specs.declared.database.Row.{Row}
use Rattle.pt_ast.specs.declared.database.Spot.{Spot}
use Rattle.pt_ast.specs.declared.refusal.Refusal.{Refusal}
use Rattle.pt_ast.specs.declared.refusal.Refusal.TheVariants as refusal
use Rattle.pt_ast.specs.declared.table.KeyDef.{KeyDef}
use Rattle.pt_ast.specs.declared.table.Rank.{Rank}
use Rattle.pt_ast.specs.declared.table.Rank.TheVariants as rank
use Rattle.pt_ast.specs.declared.table.TableDef.{TableDef}
use Rattle.pt_ast.specs.Keys.{agree, agrees, is_alike, is_null, is_unique}
use Rattle.pt_place.specs.Checks.{has_column, is_primary_rank, is_unique_rank, key_arg, key_of_none, lacking_key, sub_of_number, unique_keys}
use Rattle.pt_place.specs.First.{first_in, first_of, refused_if}
use Rattle.pt_place.specs.Laws.{OneSpot, TakenInSpot}
use Rattle.pt_place.specs.Names.{columns_used}
use Rattle.pt_place.specs.Place.{part_of, place_of, spot_in, subs_at}
use Rattle.pt_place.specs.Valid.{IsValid, bad_by, bad_items, bad_kinds, bad_parts}
use Rattle.pt_place.proofs.Firsts.{none_first, none_next, or_assoc, passes}
use Rattle.pt_place.proofs.Looks.{both_left, both_right, numbered_same, part_same}

-- ---- a unique key that passes the test has passed the check

first-append : (check : KeyDef → Option Refusal) (xs ys : List KeyDef) → first_in check (xs ++ ys) ≡ option_or (first_in check xs) (first_in check ys)
first-append check [] ys = refl
first-append check (x ∷ xs) ys = ap (option_or (check x)) (first-append check xs ys) ∙ sym (or_assoc (check x) (first_in check xs) (first_in check ys))

module _ (test : List ℕ → Bool) (check : KeyDef → Option Refusal) where
  abbrev Passing : Type 0
  Passing = (key : KeyDef) × (test key.columns ≡ true) × (check key ≡ None)

  here : (t : Bool) (key : KeyDef) (rest : Bool) → test key.columns ≡ t → (t || rest) ≡ true → check key ≡ None → (rest ≡ true → Passing) → Passing
  here true key rest is h e more = (key, is, e)
  here false key rest is h e more = more h

  by_rank : (r : Rank) (key : KeyDef) (unique first others : List KeyDef)
      → (list_any test (map (λ (k : KeyDef). k.columns) unique) ≡ true → first_in check first ≡ None → first_in check others ≡ None → Passing)
      → list_any test (map (λ (k : KeyDef). k.columns) (cond (is_unique r) (key ∷ unique) unique)) ≡ true
      → first_in check (cond (is_primary_rank r) (key ∷ first) first) ≡ None
      → first_in check (cond (is_unique_rank r) (key ∷ others) others) ≡ None → Passing
  by_rank rank.Primary key unique first others more h e f =
      here (test key.columns) key (list_any test (map (λ (k : KeyDef). k.columns) unique)) refl h (none_first _ _ e) (λ rest. more rest (none_next _ _ e) f)
  by_rank rank.Unique key unique first others more h e f =
      here (test key.columns) key (list_any test (map (λ (k : KeyDef). k.columns) unique)) refl h (none_first _ _ f) (λ rest. more rest e (none_next _ _ f))
  by_rank rank.Plain key unique first others more h e f = more h e f

  passing : (keys : List KeyDef) → list_any test (map (λ (k : KeyDef). k.columns) (filter (λ (k : KeyDef). is_unique k.rank) keys)) ≡ true
      → first_in check (filter (λ (k : KeyDef). is_primary_rank k.rank) keys) ≡ None → first_in check (filter (λ (k : KeyDef). is_unique_rank k.rank) keys) ≡ None → Passing
  passing [] h e f = absurd (true≢false (sym h))
  passing (key ∷ keys) h e f =
      by_rank key.rank key (filter (λ (k : KeyDef). is_unique k.rank) keys) (filter (λ (k : KeyDef). is_primary_rank k.rank) keys) (filter (λ (k : KeyDef). is_unique_rank k.rank) keys)
      (passing keys) h e f

  passing_in : (keys : List KeyDef) → list_any test (map (λ (k : KeyDef). k.columns) (filter (λ (k : KeyDef). is_unique k.rank) keys)) ≡ true
      → first_in check (unique_keys keys) ≡ None → Passing
  passing_in keys h e =
      let first = filter (λ (k : KeyDef). is_primary_rank k.rank) keys in
      let others = filter (λ (k : KeyDef). is_unique_rank k.rank) keys in
      let both = sym (first-append check first others) ∙ e in
      passing keys h (none_first (first_in check first) (first_in check others) both) (none_next (first_in check first) (first_in check others) both)

-- ---- rows that agree have the key's cells in common

alike_same : (x y : Value) → is_alike x y ≡ true → x ≡ y
alike_same x y h = tells_apart value_cmp-Equal x y (both_right (not (is_null x)) (eq_by_cmp value_cmp x y) h)

module _ (a b : List Value) where
  abbrev IsSame : ℕ → Type 0
  IsSame n = slice_index_or a n Null ≡ slice_index_or b n Null

  by_own : (own n : ℕ) (t rest : Bool) → (own == n) ≡ t → (t || rest) ≡ true → IsSame own → (rest ≡ true → IsSame n) → IsSame n
  by_own own n true rest is h same more = subst IsSame (eqb-true own n is) same
  by_own own n false rest is h same more = more h

  same_own : (owns : List ℕ) (n : ℕ) → agree a b owns ≡ true → list_any (λ (own : ℕ). own == n) owns ≡ true → IsSame n
  same_own [] n e h = absurd (true≢false (sym h))
  same_own (own ∷ owns) n e h =
      let alike = is_alike (slice_index_or a own Null) (slice_index_or b own Null) in
      by_own own n (own == n) (list_any (λ (k : ℕ). k == n) owns) refl h
      (alike_same (slice_index_or a own Null) (slice_index_or b own Null) (both_left alike (agree a b owns) e)) (same_own owns n (both_right alike (agree a b owns) e))

-- ---- each unique key of a valid definition has the columns that the partitioning uses

sixth : (a b c d e f : Option Refusal) → first_of (a ∷ b ∷ c ∷ d ∷ e ∷ f ∷ []) ≡ None → f ≡ None
sixth (Some r) b c d e f h = cc
sixth None (Some r) c d e f h = cc
sixth None None (Some r) d e f h = cc
sixth None None None (Some r) e f h = cc
sixth None None None None (Some r) f h = cc
sixth None None None None None (Some r) h = cc
sixth None None None None None None h = refl

none_lacking : (def : TableDef) → IsValid def → lacking_key def.columns def.keys def.by def.sub ≡ None
none_lacking def valid =
    let rest = none_next (bad_items def) (first_of (bad_kinds valid.0 def ∷ bad_parts valid.0 def ∷ [])) valid.1 in
    sixth (sub_of_number valid.0 def.by def.sub) (key_of_none def.by) (key_of_none def.sub) (bad_by valid.0 def.columns def.by) (bad_by valid.0 def.columns def.sub)
    (lacking_key def.columns def.keys def.by def.sub) (none_first (bad_kinds valid.0 def) (first_of (bad_parts valid.0 def ∷ [])) rest)

-- ---- and so they have one spot

same_spot : (f g : ℕ → Spot) (o : Option ℕ) → ((n : ℕ) → f n ≡ g n) → option_map f o ≡ option_map g o
same_spot f g None same = refl
same_spot f g (Some n) same = ap Some (same n)

abbrev in_part : ℕ → ℕ → Spot
in_part part sub = record { part = part; sub = sub }

module _ (def : TableDef) (a b : List Value) (key : KeyDef) (agreed : agree a b key.columns ≡ true) where
  shared : (n : ℕ) → has_column key n ≡ true → slice_index_or a n Null ≡ slice_index_or b n Null
  shared n own = same_own a b key.columns n agreed own

  by_key : list_all (has_column key) (columns_used def.columns def.by ++ columns_used def.columns def.sub) ≡ true → place_of def a ≡ place_of def b
  by_key h =
      let main = list_all (has_column key) (columns_used def.columns def.by) in
      let sub = list_all (has_column key) (columns_used def.columns def.sub) in
      let halves = sym (list_all-append (has_column key) (columns_used def.columns def.by) (columns_used def.columns def.sub)) ∙ h in
      ap (option_map (spot_in def a)) (part_same def.columns a b (has_column key) shared def.by def.parts (both_left main sub halves))
      ∙ same_spot (spot_in def a) (spot_in def b) (part_of def.columns def.by def.parts b)
      (λ part. ap (in_part part) (numbered_same def.columns a b (has_column key) shared def.sub (length (subs_at def.parts part)) (both_right main sub halves)))

pub one_spot : OneSpot
one_spot def a b valid agreed =
    let used = columns_used def.columns def.by ++ columns_used def.columns def.sub in
    let found = passing_in (agree a b) (λ (key : KeyDef). refused_if (not (list_all (has_column key) used)) (refusal.KeyNeedsColumns (key_arg key))) def.keys agreed (none_lacking def valid) in
    by_key def a b found.0 found.1 (not-false (list_all (has_column found.0) used) (passes _ _ found.2))

pub taken_in_spot : TakenInSpot
taken_in_spot def cells keep rows valid keeps =
    any-filter_same (λ (row : Row). agrees def cells row.cells) keep true (λ row taken. keeps row (sym (one_spot def cells row.cells valid taken))) rows
