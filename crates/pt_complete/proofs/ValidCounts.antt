-- Numbers and names of the partitions that a text makes.
use Rattle.std.proofs.Common.{◌≡◌, ℕ, zero, suc, ◌*◌, ◌<◌, ◌≤◌, Bool, true, false, not, ◌&&◌, ◌==◌, List, [], ◌∷◌, ◌++◌, map, length, Option, Some, None, refl, sym, ap, subst, ◌∙◌, arith, All}
use Rattle.std.specs.Prelude.{IfSome, is_none, nat_lt, if◌then◌else◌, codes, decimal, unsigned_abs}
use Rattle.std.specs.List.{flat_map, range_with_len}
use Rattle.std.specs.Option.{option_map_or}
use Rattle.std.proofs.lemmas.Bool.{eqb-true, eq-eqb, ne_eqb, or_parts, or_from, true≢false}
use Rattle.std.proofs.lemmas.List.{length-map, map-append}
use Rattle.std.proofs.lemmas.List.FromFn.{length-range_with_len}
use Rattle.std.proofs.lemmas.List.Elements.{All-head, All-tail}
use Rattle.pt_value.specs.declared.value.Kind.{Kind}
use Rattle.pt_ast.specs.declared.table.Column.{Column}
use Rattle.pt_ast.specs.declared.table.PartBy.{PartBy}
use Rattle.pt_ast.specs.declared.table.PartDef.{PartDef}
use Rattle.pt_ast.specs.declared.written.HashSpec.{HashSpec}
use Rattle.pt_ast.specs.declared.written.HashSpec.TheVariants as hash
use Rattle.pt_ast.specs.declared.written.PartItem.{PartItem}
use Rattle.pt_ast.specs.declared.written.PartSpec.{PartSpec}
use Rattle.pt_ast.specs.declared.written.SubSpec.{SubSpec}
use Rattle.pt_ast.specs.declared.refusal.Refusal.TheVariants as refusal
use Rattle.pt_ast.specs.Storable.{HasAtLeast}
use Rattle.pt_ast.specs.StorableSpec.{AreStorableParts, IsStorablePart}
use Rattle.pt_place.specs.Checks.{is_whole, name_twice, part_names, told, too_many}
use Rattle.pt_place.specs.First.{first_in, in_turn, in_turn_from}
use Rattle.pt_place.specs.Valid.{first_subs, is_without_parts, leaf_count, other_subs}
use Rattle.pt_place.proofs.Firsts.{none_first, none_next, passes}
use Rattle.pt_written.specs.Complete.{Named, bad_name, bad_names, defined, is_other_subs, is_without_written, named_in, other_written_subs}
use Rattle.pt_written.specs.WrittenParts.{by_hash, part_count, part_in, part_made, parts_of, sub_count, sub_of, subs_named}
use Rattle.pt_complete.proofs.Naming.{second, seconds}
use Rattle.pt_complete.proofs.ValidNames.{both_none, not_refused}

-- ---- how many subpartitions each partition has

-- as many as this, and none without SUBPARTITION BY
abbrev pub each_has : Option SubSpec → ℕ → ℕ
each_has None count = 0
each_has (Some sub) count = count

pub second_true : (a b : Bool) → (not a && not b) ≡ false → a ≡ false → b ≡ true
second_true true b e is = absurd (true≢false is)
second_true false true e is = refl
second_true false false e is = absurd (true≢false e)

pub zero_not : (n : ℕ) → 1 ≤ n → (n == 0) ≡ false
zero_not n some = ne_eqb n 0 (λ is. omega (arith, some, is))

pub has_each : (sub : SubSpec) (first count n : ℕ) → is_other_subs (Some sub) first count n ≡ false → 1 ≤ n → n ≡ count
has_each sub first count n e some = eqb-true n count (second_true (n == 0) (n == count) (or_parts _ _ e).1 (zero_not n some))

pub made_each : (sub : Option SubSpec) (count : ℕ) (name : List ℕ) → length (subs_named sub count name None) ≡ each_has sub count
made_each None count name = refl
made_each (Some sub) count name = length-map (range_with_len 0 count) (λ i. name ++ codes "sp" ++ decimal i) ∙ length-range_with_len 0 count

pub named_each : (sub : Option SubSpec) (first count : ℕ) (name : List ℕ) (written : Option (List (List ℕ))) → IfSome written (HasAtLeast 1)
    → is_other_subs sub first count (option_map_or (λ (names : List (List ℕ)). length names) written 0) ≡ false → length (subs_named sub count name written) ≡ each_has sub count
named_each None first count name written some e = refl
named_each (Some sub) first count name None some e = made_each (Some sub) count name
named_each (Some sub) first count name (Some names) some e = has_each sub first count (length names) e some.0

-- each of the partitions has so many
abbrev pub AllHave : ℕ → List PartDef → Type 0
AllHave n [] = Unit {0}
AllHave n (part ∷ parts) = (length part.subs ≡ n) × AllHave n parts

module _ (kinds : List Kind) (kind : PartBy) (spec : PartSpec) where
  written_have : (items : List PartItem) → All IsStorablePart items → first_in (other_written_subs spec) items ≡ None
      → AllHave (each_has spec.sub (sub_count spec)) (map (part_in kinds kind spec.sub (sub_count spec)) items)
  written_have [] so none = tt
  written_have (item ∷ items) so none = (
    named_each spec.sub _ (sub_count spec) item.name item.subs (All-head IsStorablePart item items so).subs (passes _ _ (none_first _ _ none)),
    written_have items (All-tail IsStorablePart item items so) (none_next _ _ none),
  )

  made_have : (ns : List ℕ) → AllHave (each_has spec.sub (sub_count spec)) (map (part_made spec.sub (sub_count spec)) ns)
  made_have [] = tt
  made_have (n ∷ ns) = (made_each spec.sub (sub_count spec) (codes "p" ++ decimal n), made_have ns)

  abbrev parts_so : Option (List PartItem) → ℕ → List PartDef
  parts_so parts count = option_map_or (λ own. map (part_in kinds kind spec.sub (sub_count spec)) own) parts (map (part_made spec.sub (sub_count spec)) (range_with_len 0 count))

  all_have : (parts : Option (List PartItem)) (count : ℕ) → IfSome parts AreStorableParts → first_in (other_written_subs spec) (option_map_or (λ (own : List PartItem). own) parts []) ≡ None
      → AllHave (each_has spec.sub (sub_count spec)) (parts_so parts count)
  all_have None count so none = made_have (range_with_len 0 count)
  all_have (Some items) count so none = written_have items so.1 none

  counted : (parts : Option (List PartItem)) (count : ℕ) → length (parts_so parts (option_map_or (λ (own : List PartItem). length own) parts count)) ≡ option_map_or (λ (own : List PartItem). length own) parts count
  counted None count = length-map (range_with_len 0 count) (part_made spec.sub (sub_count spec)) ∙ length-range_with_len 0 count
  counted (Some items) count = length-map items (part_in kinds kind spec.sub (sub_count spec))

-- ---- what follows for the partitions

pub first_has : (n : ℕ) (parts : List PartDef) → AllHave n parts → 0 < length parts → first_subs parts ≡ n
first_has n [] has some = absurd (omega (arith, some))
first_has n (part ∷ parts) has some = has.0

pub others_in : (n : ℕ) (all parts : List PartDef) → first_subs all ≡ n → AllHave n parts → first_in (other_subs all) parts ≡ None
others_in n all [] is has = refl
others_in n all (part ∷ parts) is has =
    both_none _ _ (not_refused _ (refusal.SubpartitionsDiffer part.name) (same (length part.subs) (first_subs all) (has.0 ∙ sym is))) (others_in n all parts is has.1)
  where
    same : (a b : ℕ) → a ≡ b → not (a == b) ≡ false
    same a b e = ap not (eq-eqb a b e)

pub no_others : (n : ℕ) (parts : List PartDef) → AllHave n parts → first_in (other_subs parts) parts ≡ None
no_others n [] has = refl
no_others n (part ∷ parts) has = others_in n (part ∷ parts) (part ∷ parts) has.0 has

pub hash_whole : (columns : List Column) (instead : List ℕ) (own : HashSpec) → is_whole (by_hash columns instead own) ≡ false
hash_whole columns instead (hash.Hash linear expr) = refl
hash_whole columns instead (hash.Key linear []) = refl
hash_whole columns instead (hash.Key linear (name ∷ names)) = refl

pub sub_whole : (columns : List Column) (sub : Option SubSpec) → is_whole (sub_of columns sub) ≡ is_none sub
sub_whole columns None = refl
sub_whole columns (Some sub) = hash_whole columns [] sub.hash

pub not_zero : (n : ℕ) → (n == 0) ≡ false → 0 < n
not_zero zero e = cc
not_zero (suc n) e = omega arith

pub few_told : (n : ℕ) → nat_lt 8192 (told n) ≡ false → n ≤ 8192
few_told n e = grind (arith, e)

pub told_few : (n : ℕ) → n ≤ 8192 → nat_lt 8192 (told n) ≡ false
told_few n few = grind (arith, few)

pub and_none : (b : Bool) → (b && false) ≡ false
and_none true = refl
and_none false = refl

pub left_least : (p s : ℕ) → 0 < s → p ≤ p * s
left_least zero s some = omega arith
left_least (suc p) s some = omega (arith, some, left_least p s some)

pub leaves : (sub : Option SubSpec) (p s first : ℕ) → 0 < s → first ≡ each_has sub s → p * s ≤ 8192 → p * (if is_none sub then 1 else first) ≤ 8192
leaves None p s first some is few = let least : p ≤ p * s = left_least p s some in omega (arith, least, few)
leaves (Some sub) p s first some is few = rw is few

pub some_subs : (sub : Option SubSpec) (s first : ℕ) → 0 < s → first ≡ each_has sub s → (not (is_none sub) && first == 0) ≡ false
some_subs None s first some is = refl
some_subs (Some sub) s first some is = ap (λ n. n == 0) is ∙ zero_not s (omega (arith, some))

module _ (table : List ℕ) (columns : List Column) (kinds : List Kind) (kind : PartBy) (spec : PartSpec)
    (so : IfSome spec.parts AreStorableParts)
    (without : is_without_written spec ≡ false)
    (few : too_many (part_count spec * sub_count spec) ≡ None)
    (alike : first_in (other_written_subs spec) (defined spec) ≡ None) where
  abbrev parts : List PartDef
  parts = parts_of kinds kind spec

  have : AllHave (each_has spec.sub (sub_count spec)) (parts_of kinds kind spec)
  have = all_have kinds kind spec spec.parts (part_count spec) so alike

  some : (0 < part_count spec) × (0 < sub_count spec)
  some =
      let both = or_parts _ _ (or_parts _ _ (or_parts _ _ without).0).0 in
      (not_zero (part_count spec) both.0, not_zero (sub_count spec) both.1)

  many : length (parts_of kinds kind spec) ≡ part_count spec
  many = counted kinds kind spec spec.parts (option_map_or unsigned_abs spec.count 1)

  first_is : first_subs (parts_of kinds kind spec) ≡ each_has spec.sub (sub_count spec)
  first_is = first_has _ (parts_of kinds kind spec) have (rw many some.0)

  pub with_parts : is_without_parts kind (sub_of columns spec.sub) (parts_of kinds kind spec) ≡ false
  with_parts = or_from _ _
      (ap (λ n. not (is_whole kind) && n == 0) many ∙ ap (λ b. not (is_whole kind) && b) (zero_not (part_count spec) (omega (arith, some.0))) ∙ and_none (not (is_whole kind)))
      (ap (λ b. not b && first_subs (parts_of kinds kind spec) == 0) (sub_whole columns spec.sub) ∙ some_subs spec.sub (sub_count spec) _ some.1 first_is)

  pub few_leaves : too_many (leaf_count (sub_of columns spec.sub) (parts_of kinds kind spec)) ≡ None
  few_leaves = not_refused _ _ (told_few (leaf_count (sub_of columns spec.sub) (parts_of kinds kind spec)) within)
    where
      within : leaf_count (sub_of columns spec.sub) (parts_of kinds kind spec) ≤ 8192
      within = rw (many, sub_whole columns spec.sub) (leaves spec.sub (part_count spec) (sub_count spec) _ some.1 first_is (few_told _ (passes _ _ few)))

  pub all_alike : first_in (other_subs (parts_of kinds kind spec)) (parts_of kinds kind spec) ≡ None
  all_alike = no_others _ (parts_of kinds kind spec) have

-- ---- names

pub names_once : (before xs : List Named) → in_turn_from bad_name before xs ≡ None → in_turn_from name_twice (map second before) (map second xs) ≡ None
names_once before [] none = refl
names_once before (x ∷ xs) none =
    both_none _ _ (none_first _ _ (none_next _ _ (none_first _ _ none)))
    (subst (λ l. in_turn_from name_twice l (map second xs) ≡ None) (map-append second before (x ∷ [])) (names_once (before ++ x ∷ []) xs (none_next _ _ none)))

pub parts_once : (parts : List PartDef) → bad_names parts ≡ None → in_turn name_twice (part_names parts) ≡ None
parts_once parts none = subst (λ l. in_turn name_twice l ≡ None) (seconds parts) (names_once [] (flat_map named_in parts) none)
