-- A definition with fewer of its partitions, and one at least, is storable and valid where it was so with all of them.
use Rattle.std.proofs.Common.{◌≡◌, ℕ, ◌*◌, ◌<◌, ◌≤◌, false, cond, not, ◌&&◌, List, [], ◌∷◌, length, Option, None, sym, ap, ◌∙◌, subst, arith}
use Rattle.std.specs.Prelude.{nat_lt, ◌==◌}
use Rattle.std.proofs.lemmas.Bool.{and_right, eqb-true, not-false, or_from, or_parts}
use Rattle.std.proofs.Math.Nat.{mul-le-mul_right}
use Rattle.pt_ast.specs.declared.refusal.Refusal.{Refusal}
use Rattle.pt_ast.specs.declared.refusal.Refusal.TheVariants as refusal
use Rattle.pt_ast.specs.declared.table.PartBy.{PartBy}
use Rattle.pt_ast.specs.declared.table.PartBy.TheVariants as by
use Rattle.pt_ast.specs.declared.table.PartDef.{PartDef}
use Rattle.pt_ast.specs.declared.table.TableDef.{TableDef}
use Rattle.pt_ast.specs.StorableDef.{IsStorableDef, IsStorablePartDef, IsWholeAlone}
use Rattle.pt_place.specs.Checks.{bad_bounds, is_whole, name_twice, part_names, told, too_many}
use Rattle.pt_place.specs.First.{first_in, in_turn, refused_if}
use Rattle.pt_place.specs.Fitting.{kinds_of}
use Rattle.pt_place.specs.Valid.{IsValid, bad_items, bad_kinds, bad_parts, bad_values, first_subs, is_without_parts, leaf_count, other_subs}
use Rattle.pt_place.proofs.Firsts.{none_first, passes}
use Rattle.pt_complete.proofs.Valid.{none_six, none_three, six_none, three_none}
use Rattle.pt_complete.proofs.ValidCounts.{few_told, told_few, zero_not}
use Rattle.pt_complete.proofs.ValidNames.{not_refused}
use Rattle.pt_actions.specs.Named.{with_parts}
use Rattle.pt_actions.proofs.Bounds.{bounds_within}
use Rattle.pt_actions.proofs.Within.{IsWithin, Empty, all_within, flat_within, none_each, none_twice, within_length}

-- ---- each has as many subpartitions as the first

-- another number of subpartitions than this
abbrev other_number : ℕ → PartDef → Option Refusal
other_number n part = refused_if (not (length part.subs == n)) (refusal.SubpartitionsDiffer part.name)

first_number : (n : ℕ) (few : List PartDef) → 0 < length few → first_in (other_number n) few ≡ None → first_subs few ≡ n
first_number n [] some none = absurd (omega (arith, some))
first_number n (part ∷ few) some none =
    eqb-true (length part.subs) n (not-false (length part.subs == n) (passes (not (length part.subs == n)) (refusal.SubpartitionsDiffer part.name) (none_first (other_number n part) (first_in (other_number n) few) none)))

module _ (def : TableDef) (few : List PartDef) (within : IsWithin few def.parts) (some : 0 < length few) where
  same_subs : first_in (other_subs def.parts) def.parts ≡ None → first_subs few ≡ first_subs def.parts
  same_subs none = first_number (first_subs def.parts) few some (none_each (other_number (first_subs def.parts)) within none)

  with_some : is_without_parts def.by def.sub def.parts ≡ false → first_subs few ≡ first_subs def.parts → is_without_parts def.by def.sub few ≡ false
  with_some none same =
      or_from (not (is_whole def.by) && length few == 0) (not (is_whole def.sub) && first_subs few == 0)
      (and_right (not (is_whole def.by)) (length few == 0) (zero_not (length few) some))
      (ap (λ n. not (is_whole def.sub) && n == 0) same ∙ (or_parts (not (is_whole def.by) && length def.parts == 0) (not (is_whole def.sub) && first_subs def.parts == 0) none).1)

  fewer_leaves : nat_lt 8192 (told (leaf_count def.sub def.parts)) ≡ false → first_subs few ≡ first_subs def.parts → nat_lt 8192 (told (leaf_count def.sub few)) ≡ false
  fewer_leaves none same =
      let all : length def.parts * cond (is_whole def.sub) 1 (first_subs def.parts) ≤ 8192 = few_told (leaf_count def.sub def.parts) none in
      let less : length few * cond (is_whole def.sub) 1 (first_subs def.parts) ≤ length def.parts * cond (is_whole def.sub) 1 (first_subs def.parts) =
      mul-le-mul_right (cond (is_whole def.sub) 1 (first_subs def.parts)) (within_length within) in
      subst (λ n. nat_lt 8192 (told (length few * cond (is_whole def.sub) 1 n)) ≡ false) (sym same) (told_few (length few * cond (is_whole def.sub) 1 (first_subs def.parts)) (omega (arith, all, less)))

  fewer_parts : (table : List ℕ) → bad_parts table def ≡ None → bad_parts table (with_parts def few) ≡ None
  fewer_parts table none =
      let kinds = kinds_of def.columns def.by in
      let all = six_none (refused_if (is_without_parts def.by def.sub def.parts) (refusal.NoPartitions table)) (too_many (leaf_count def.sub def.parts)) (first_in (other_subs def.parts) def.parts)
      (first_in (bad_values kinds def.by) def.parts) (bad_bounds def.by def.parts) (in_turn name_twice (part_names def.parts)) none in
      let same = same_subs all.2 in
      none_six (refused_if (is_without_parts def.by def.sub few) (refusal.NoPartitions table)) (too_many (leaf_count def.sub few)) (first_in (other_subs few) few)
      (first_in (bad_values kinds def.by) few) (bad_bounds def.by few) (in_turn name_twice (part_names few))
      (not_refused (is_without_parts def.by def.sub few) (refusal.NoPartitions table) (with_some (passes (is_without_parts def.by def.sub def.parts) (refusal.NoPartitions table) all.0) same))
      (not_refused (nat_lt 8192 (told (leaf_count def.sub few))) (refusal.TooManyPartitions (told (leaf_count def.sub few)))
      (fewer_leaves (passes (nat_lt 8192 (told (leaf_count def.sub def.parts))) (refusal.TooManyPartitions (told (leaf_count def.sub def.parts))) all.1) same))
      (subst (λ n. first_in (other_number n) few ≡ None) (sym same) (none_each (other_number (first_subs def.parts)) within all.2))
      (none_each (bad_values kinds def.by) within all.3)
      (bounds_within def.by within all.4)
      (none_twice Empty (flat_within (λ (part : PartDef). part.name ∷ part.subs) within) all.5)

  pub fewer_valid : IsValid def → IsValid (with_parts def few)
  fewer_valid valid =
      let all = three_none (bad_items def) (bad_kinds valid.0 def) (bad_parts valid.0 def) valid.1 in
      (valid.0, none_three (bad_items def) (bad_kinds valid.0 def) (bad_parts valid.0 (with_parts def few)) all.0 all.1 (fewer_parts valid.0 all.2))

  fewer_alone : (kind : PartBy) → IsWholeAlone kind def.sub def.parts → IsWholeAlone kind def.sub few
  fewer_alone by.Whole alone =
      let none : length def.parts ≡ 0 = ap (λ (parts : List PartDef). length parts) alone.1 in
      let less = within_length within in
      absurd (omega (arith, none, less, some))
  fewer_alone (by.Range expr) alone = tt
  fewer_alone (by.List expr) alone = tt
  fewer_alone (by.RangeColumns numbers) alone = tt
  fewer_alone (by.ListColumns numbers) alone = tt
  fewer_alone (by.Hash linear expr) alone = tt
  fewer_alone (by.Key linear numbers) alone = tt

  pub fewer_storable : IsStorableDef def → IsStorableDef (with_parts def few)
  fewer_storable s = record {
    some = s.some;
    most = s.most;
    columns = s.columns;
    few = s.few;
    keys = s.keys;
    by = s.by;
    sub = s.sub;
    alone = fewer_alone def.by s.alone;
    counted = let less = within_length within in let counted = s.counted in omega (arith, less, counted);
    parts = all_within (IsStorablePartDef def.by def.sub) within s.parts;
  }
