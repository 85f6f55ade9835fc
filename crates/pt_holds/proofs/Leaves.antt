-- No two spots of a valid definition have one leaf.
use Rattle.std.proofs.Common.{◌≡◌, ℕ, zero, suc, ◌<◌, Bool, true, false, cond, List, [], ◌∷◌, ◌++◌, length, map, Option, Some, None, refl, sym, ap, ap₂, ◌∙◌, subst, arith}
use Rattle.std.specs.Prelude.{slice_get}
use Rattle.std.specs.Option.{option_map}
use Rattle.std.specs.Str.{str_eq_ignore_ascii_case}
use Rattle.std.proofs.lemmas.Bool.{or_parts, or_left, or_right, true≢false}
use Rattle.std.proofs.lemmas.List.{length-map}
use Rattle.std.proofs.lemmas.List.Folds.{list_any-append}
use Rattle.std.proofs.lemmas.Slice.Eq.{bytes_eq-Decides}
use Rattle.pt_ast.specs.declared.database.Spot.{Spot}
use Rattle.pt_ast.specs.declared.refusal.Refusal.{Refusal}
use Rattle.pt_ast.specs.declared.refusal.Refusal.TheVariants as refusal
use Rattle.pt_ast.specs.declared.table.PartDef.{PartDef}
use Rattle.pt_ast.specs.declared.table.TableDef.{TableDef}
use Rattle.pt_names.specs.Names.{lowered}
use Rattle.pt_place.specs.Checks.{bad_bounds, is_whole, name_twice, part_names, too_many}
use Rattle.pt_place.specs.First.{first_in, first_of, in_turn, in_turn_from, refused_if}
use Rattle.pt_place.specs.Fitting.{kinds_of}
use Rattle.pt_place.specs.Names.{is_among}
use Rattle.pt_place.specs.Place.{leaf_of, part_name, sub_name, subs_at}
use Rattle.pt_place.specs.Valid.{IsValid, bad_items, bad_kinds, bad_parts, bad_values, is_without_parts, leaf_count, other_subs}
use Rattle.pt_place.proofs.Firsts.{none_first, none_next, passes, turn-append}
use Rattle.pt_db.specs.Spots.{IsSpotOf, spot_at}

-- ---- names that stand in a list

among : (a b : List ℕ) (names : List (List ℕ)) (k : ℕ) → slice_get names k ≡ Some b → lowered a ≡ lowered b → is_among a names ≡ true
among a b [] k at same = let bad : None ≡ Some b = at in cc
among a b (name ∷ names) zero at same =
    let is : name ≡ b = cc in
    or_left (str_eq_ignore_ascii_case a name) (is_among a names) ((bytes_eq-Decides (lowered a) (lowered name)).1 (same ∙ ap lowered (sym is)))
among a b (name ∷ names) (suc k) at same = or_right (str_eq_ignore_ascii_case a name) (is_among a names) (among a b names k at same)

-- where each name is checked beside those before it, one of them is none of the earlier ones
fresh_name : (before names : List (List ℕ)) (a : List ℕ) (k : ℕ) → in_turn_from name_twice before names ≡ None → slice_get names k ≡ Some a → is_among a before ≡ false
fresh_name before [] a k passed at = let bad : None ≡ Some a = at in cc
fresh_name before (name ∷ names) a zero passed at =
    let is : name ≡ a = cc in
    subst (λ n. is_among n before ≡ false) is (passes (is_among name before) (refusal.DuplicatePartition name) (none_first (name_twice before name) (in_turn_from name_twice (before ++ name ∷ []) names) passed))
fresh_name before (name ∷ names) a (suc k) passed at =
    let rest = fresh_name (before ++ name ∷ []) names a k (none_next (name_twice before name) (in_turn_from name_twice (before ++ name ∷ []) names) passed) at in
    (or_parts (is_among a before) (is_among a (name ∷ [])) (sym (list_any-append (str_eq_ignore_ascii_case a) before (name ∷ [])) ∙ rest)).0

not_fresh : (before names : List (List ℕ)) (a b : List ℕ) (j k : ℕ) → in_turn_from name_twice before names ≡ None → slice_get before j ≡ Some b → slice_get names k ≡ Some a → lowered a ≡ lowered b → ⊥
not_fresh before names a b j k passed there at same = true≢false (sym (among a b before j there same) ∙ fresh_name before names a k passed at)

again : (before : List (List ℕ)) (name : List ℕ) (names : List (List ℕ)) (a b : List ℕ) (j : ℕ) → in_turn_from name_twice before (name ∷ names) ≡ None → Some name ≡ Some a → slice_get names j ≡ Some b
    → lowered b ≡ lowered a → ⊥
again before name names a b j passed first at same =
    let is : name ≡ a = cc in
    let none = fresh_name (before ++ name ∷ []) names b j (none_next (name_twice before name) (in_turn_from name_twice (before ++ name ∷ []) names) passed) at in
    let last = (or_parts (is_among b before) (is_among b (name ∷ [])) (sym (list_any-append (str_eq_ignore_ascii_case b) before (name ∷ [])) ∙ none)).1 in
    true≢false (sym (among b name (name ∷ []) 0 refl (same ∙ ap lowered (sym is))) ∙ last)

-- two names that are the same but for case stand at one position
one_position : (before names : List (List ℕ)) (a b : List ℕ) (i j : ℕ) → in_turn_from name_twice before names ≡ None → slice_get names i ≡ Some a → slice_get names j ≡ Some b → lowered a ≡ lowered b → i ≡ j
one_position before [] a b i j passed at_a at_b same = let bad : None ≡ Some a = at_a in cc
one_position before (name ∷ names) a b zero zero passed at_a at_b same = refl
one_position before (name ∷ names) a b zero (suc j) passed at_a at_b same = absurd (again before name names a b j passed at_a at_b (sym same))
one_position before (name ∷ names) a b (suc i) zero passed at_a at_b same = absurd (again before name names b a i passed at_b at_a same)
one_position before (name ∷ names) a b (suc i) (suc j) passed at_a at_b same =
    ap (λ (n : ℕ). suc n) (one_position (before ++ name ∷ []) names a b i j (none_next (name_twice before name) (in_turn_from name_twice (before ++ name ∷ []) names) passed) at_a at_b same)

-- ---- names of partitions and subpartitions

abbrev Stands : List (List ℕ) → List ℕ → Type 0
Stands names name = (k : ℕ) × (slice_get names k ≡ Some name)

stands_left : (xs ys : List (List ℕ)) (name : List ℕ) (k : ℕ) → slice_get xs k ≡ Some name → slice_get (xs ++ ys) k ≡ Some name
stands_left [] ys name k at = let bad : None ≡ Some name = at in cc
stands_left (x ∷ xs) ys name zero at = at
stands_left (x ∷ xs) ys name (suc k) at = stands_left xs ys name k at

stands_right : (xs ys : List (List ℕ)) (name : List ℕ) → Stands ys name → Stands (xs ++ ys) name
stands_right [] ys name at = at
stands_right (x ∷ xs) ys name at = let rest = stands_right xs ys name at in (suc rest.0, rest.1)

part_stands : (parts : List PartDef) (i : ℕ) (name : List ℕ) → slice_get (map (λ (part : PartDef). part.name) parts) i ≡ Some name → Stands (part_names parts) name
part_stands [] i name at = let bad : None ≡ Some name = at in cc
part_stands (part ∷ parts) zero name at = (0, at)
part_stands (part ∷ parts) (suc i) name at = stands_right (part.name ∷ part.subs) (part_names parts) name (part_stands parts i name at)

sub_stands : (parts : List PartDef) (i k : ℕ) (name : List ℕ) → slice_get (subs_at parts i) k ≡ Some name → Stands (part_names parts) name
sub_stands [] i k name at = let bad : None ≡ Some name = at in cc
sub_stands (part ∷ parts) zero k name at = (suc k, stands_left part.subs (part_names parts) name k at)
sub_stands (part ∷ parts) (suc i) k name at = stands_right (part.name ∷ part.subs) (part_names parts) name (sub_stands parts i k name at)

behind : (before xs ys : List (List ℕ)) → in_turn_from name_twice before (xs ++ ys) ≡ None → in_turn_from name_twice (before ++ xs) ys ≡ None
behind before xs ys passed = none_next (in_turn_from name_twice before xs) (in_turn_from name_twice (before ++ xs) ys) (sym (turn-append name_twice before xs ys) ∙ passed)

here : (before xs ys : List (List ℕ)) → in_turn_from name_twice before (xs ++ ys) ≡ None → in_turn_from name_twice before xs ≡ None
here before xs ys passed = none_first (in_turn_from name_twice before xs) (in_turn_from name_twice (before ++ xs) ys) (sym (turn-append name_twice before xs ys) ∙ passed)

-- a name that stands in front doesn't stand behind
in_front : (before xs ys : List (List ℕ)) (a b : List ℕ) → in_turn_from name_twice before (xs ++ ys) ≡ None → Stands xs a → Stands ys b → lowered b ≡ lowered a → ⊥
in_front before xs ys a b passed there at same =
    let none = fresh_name (before ++ xs) ys b at.0 (behind before xs ys passed) at.1 in
    let last = (or_parts (is_among b before) (is_among b xs) (sym (list_any-append (str_eq_ignore_ascii_case b) before xs) ∙ none)).1 in
    true≢false (sym (among b a xs there.0 there.1 same) ∙ last)

one_part : (before : List (List ℕ)) (parts : List PartDef) (a b : List ℕ) (i j : ℕ) → in_turn_from name_twice before (part_names parts) ≡ None
    → slice_get (map (λ (part : PartDef). part.name) parts) i ≡ Some a → slice_get (map (λ (part : PartDef). part.name) parts) j ≡ Some b → lowered a ≡ lowered b → i ≡ j
one_part before [] a b i j passed at_a at_b same = let bad : None ≡ Some a = at_a in cc
one_part before (part ∷ parts) a b zero zero passed at_a at_b same = refl
one_part before (part ∷ parts) a b zero (suc j) passed at_a at_b same =
    absurd (in_front before (part.name ∷ part.subs) (part_names parts) a b passed (0, at_a) (part_stands parts j b at_b) (sym same))
one_part before (part ∷ parts) a b (suc i) zero passed at_a at_b same =
    absurd (in_front before (part.name ∷ part.subs) (part_names parts) b a passed (0, at_b) (part_stands parts i a at_a) same)
one_part before (part ∷ parts) a b (suc i) (suc j) passed at_a at_b same =
    ap (λ (n : ℕ). suc n) (one_part (before ++ part.name ∷ part.subs) parts a b i j (behind before (part.name ∷ part.subs) (part_names parts) passed) at_a at_b same)

one_sub : (before : List (List ℕ)) (parts : List PartDef) (a b : List ℕ) (i j s t : ℕ) → in_turn_from name_twice before (part_names parts) ≡ None
    → slice_get (subs_at parts i) s ≡ Some a → slice_get (subs_at parts j) t ≡ Some b → lowered a ≡ lowered b → (i ≡ j) × (s ≡ t)
one_sub before [] a b i j s t passed at_a at_b same = let bad : None ≡ Some a = at_a in cc
one_sub before (part ∷ parts) a b zero zero s t passed at_a at_b same =
    let own = here before (part.name ∷ part.subs) (part_names parts) passed in
    let inner = none_next (name_twice before part.name) (in_turn_from name_twice (before ++ part.name ∷ []) part.subs) own in
    (refl, one_position (before ++ part.name ∷ []) part.subs a b s t inner at_a at_b same)
one_sub before (part ∷ parts) a b zero (suc j) s t passed at_a at_b same =
    absurd (in_front before (part.name ∷ part.subs) (part_names parts) a b passed (suc s, at_a) (sub_stands parts j t b at_b) (sym same))
one_sub before (part ∷ parts) a b (suc i) zero s t passed at_a at_b same =
    absurd (in_front before (part.name ∷ part.subs) (part_names parts) b a passed (suc t, at_b) (sub_stands parts i s a at_a) same)
one_sub before (part ∷ parts) a b (suc i) (suc j) s t passed at_a at_b same =
    let rest = one_sub (before ++ part.name ∷ part.subs) parts a b i j s t (behind before (part.name ∷ part.subs) (part_names parts) passed) at_a at_b same in
    (ap (λ (n : ℕ). suc n) rest.0, rest.1)

-- ---- spots

there : {X : Type 0} (xs : List X) (k : ℕ) → k < length xs → (x : X) × (slice_get xs k ≡ Some x)
there [] k below = absurd (omega (arith, below))
there (x ∷ xs) zero below = (x, refl)
there (x ∷ xs) (suc k) below = there xs k (omega (arith, below))

sixth : (a b c d e f : Option Refusal) → first_of (a ∷ b ∷ c ∷ d ∷ e ∷ f ∷ []) ≡ None → f ≡ None
sixth (Some r) b c d e f h = let bad : Some r ≡ None = h in cc
sixth None (Some r) c d e f h = let bad : Some r ≡ None = h in cc
sixth None None (Some r) d e f h = let bad : Some r ≡ None = h in cc
sixth None None None (Some r) e f h = let bad : Some r ≡ None = h in cc
sixth None None None None (Some r) f h = let bad : Some r ≡ None = h in cc
sixth None None None None None f h = none_first f None h

names_checked : (def : TableDef) → IsValid def → in_turn name_twice (part_names def.parts) ≡ None
names_checked def valid =
    let rest = none_next (bad_items def) (first_of (bad_kinds valid.0 def ∷ bad_parts valid.0 def ∷ [])) valid.1 in
    let last = none_first (bad_parts valid.0 def) None (none_next (bad_kinds valid.0 def) (first_of (bad_parts valid.0 def ∷ [])) rest) in
    sixth (refused_if (is_without_parts def.by def.sub def.parts) (refusal.NoPartitions valid.0)) (too_many (leaf_count def.sub def.parts)) (first_in (other_subs def.parts) def.parts)
    (first_in (bad_values (kinds_of def.columns def.by) def.by) def.parts) (bad_bounds def.by def.parts) (in_turn name_twice (part_names def.parts)) last

lowered_some : (o : Option (List ℕ)) (p : Option (List ℕ)) (a b : List ℕ) → o ≡ Some a → p ≡ Some b → option_map lowered o ≡ option_map lowered p → lowered a ≡ lowered b
lowered_some o p a b is_a is_b same =
    let e : Some (lowered a) ≡ Some (lowered b) = sym (ap (option_map lowered) is_a) ∙ same ∙ ap (option_map lowered) is_b in cc

module _ (def : TableDef) (valid : IsValid def) (a b : Spot) (is_a : IsSpotOf def a) (is_b : IsSpotOf def b) where
  zeros : (m n : ℕ) → m < 1 → n < 1 → m ≡ n
  zeros m n low_m low_n = omega (arith, low_m, low_n)

  same_part : (t : Bool) → a.part < cond t 1 (length def.parts) → b.part < cond t 1 (length def.parts) → option_map lowered (part_name def a) ≡ option_map lowered (part_name def b) → a.part ≡ b.part
  same_part true low_a low_b same = zeros a.part b.part low_a low_b
  same_part false low_a low_b same =
      let names = map (λ (part : PartDef). part.name) def.parts in
      let at_a = there names a.part (omega (arith, low_a, length-map def.parts (λ (part : PartDef). part.name))) in
      let at_b = there names b.part (omega (arith, low_b, length-map def.parts (λ (part : PartDef). part.name))) in
      one_part [] def.parts at_a.0 at_b.0 a.part b.part (names_checked def valid) at_a.1 at_b.1 (lowered_some (part_name def a) (part_name def b) at_a.0 at_b.0 at_a.1 at_b.1 same)

  by_level : (t : Bool) → is_whole def.sub ≡ t → a.sub < cond t 1 (length (subs_at def.parts a.part)) → b.sub < cond t 1 (length (subs_at def.parts b.part))
      → option_map lowered (cond t (part_name def a) (sub_name def a)) ≡ option_map lowered (cond t (part_name def b) (sub_name def b)) → a ≡ b
  by_level true e low_a low_b same = ap₂ spot_at (same_part (is_whole def.by) is_a.part is_b.part same) (zeros a.sub b.sub low_a low_b)
  by_level false e low_a low_b same =
      let at_a = there (subs_at def.parts a.part) a.sub low_a in
      let at_b = there (subs_at def.parts b.part) b.sub low_b in
      let both = one_sub [] def.parts at_a.0 at_b.0 a.part b.part a.sub b.sub (names_checked def valid) at_a.1 at_b.1 (lowered_some (sub_name def a) (sub_name def b) at_a.0 at_b.0 at_a.1 at_b.1 same) in
      ap₂ spot_at both.0 both.1

  pub one_leaf : option_map lowered (leaf_of def a) ≡ option_map lowered (leaf_of def b) → a ≡ b
  one_leaf same = by_level (is_whole def.sub) refl is_a.sub is_b.sub same
