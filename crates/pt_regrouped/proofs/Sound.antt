-- A table stays storable and valid with new partitions that pass their checks.
use Rattle.std.proofs.Common.{◌≡◌, ℕ, ◌+◌, ◌*◌, ◌<◌, ◌≤◌, true, false, not, ◌&&◌, ◌==◌, List, [], ◌∷◌, ◌++◌, map, length, Option, Some, None, refl, sym, subst, ◌∙◌, arith, All}
use Rattle.std.specs.Prelude.{unwrap_or}
use Rattle.std.specs.Option.{option_or}
use Rattle.std.proofs.lemmas.Bool.{or_parts}
use Rattle.std.proofs.lemmas.List.Elements.{All-append, All-cons, All-head, All-nil, All-tail}
use Rattle.pt_ast.specs.StorableDef.{IsStorableDef, IsStorablePartDef}
use Rattle.pt_ast.specs.StorableSpec.{AreStorableParts, IsStorablePart}
use Rattle.pt_ast.specs.declared.written.PartItem.{PartItem}
use Rattle.pt_ast.specs.declared.table.PartDef.{PartDef}
use Rattle.pt_ast.specs.declared.table.TableDef.{TableDef}
use Rattle.pt_ast.specs.declared.refusal.Refusal.{Refusal}
use Rattle.pt_ast.specs.declared.refusal.Refusal.TheVariants as refusal
use Rattle.pt_place.specs.Checks.{bad_bounds, is_whole, name_twice, part_names, too_many}
use Rattle.pt_place.specs.First.{first_in, in_turn, refused_if}
use Rattle.pt_place.specs.Fitting.{kinds_of}
use Rattle.pt_place.specs.Valid.{IsValid, bad_items, bad_kinds, bad_parts, bad_values, first_subs, is_without_parts, leaf_count, other_subs}
use Rattle.pt_place.proofs.Firsts.{none_first, none_next, passes}
use Rattle.pt_written.specs.Complete.{bad_names, bad_written_values}
use Rattle.pt_written.specs.WrittenParts.{sub_names}
use Rattle.pt_complete.proofs.Order.{few_told}
use Rattle.pt_complete.proofs.Storable.{never_alone}
use Rattle.pt_complete.proofs.StorableBounds.{bounds_storable}
use Rattle.pt_complete.proofs.Valid.{none_six, none_three, three_none}
use Rattle.pt_complete.proofs.ValidCounts.{AllHave, first_has, no_others, parts_once, told_few}
use Rattle.pt_complete.proofs.ValidNames.{both_none, not_refused}
use Rattle.pt_complete.proofs.ValidValues.{values_valid}
use Rattle.pt_regrouped.specs.NewParts.{bad_new, leaves_each, new_part, new_subs, other_new_subs, parts_among, with_parts}
use Rattle.pt_regrouped.proofs.Counted.{few_parts, leaf_same, length_among, new_have, new_length, new_none, none_without}
use Rattle.pt_regrouped.proofs.Kept.{all_left, all_right, are_subs, few_subs, first_append, first_left, first_right, have_append, have_in, have_left, have_right, no_subs, valid_limited, valid_parts}

pub five_none : (a b c d e : Option Refusal) → option_or a (option_or b (option_or c (option_or d (option_or e None)))) ≡ None → (a ≡ None) × (b ≡ None) × (c ≡ None) × (d ≡ None) × (e ≡ None)
five_none a b c d e none =
    let from_b = none_next a (option_or b (option_or c (option_or d (option_or e None)))) none in
    let from_c = none_next b (option_or c (option_or d (option_or e None))) from_b in
    let from_d = none_next c (option_or d (option_or e None)) from_c in
    let from_e = none_next d (option_or e None) from_d in
    (none_first a _ none, none_first b _ from_b, none_first c _ from_c, none_first d _ from_d, none_first e _ from_e)

-- ---- the values of new partitions

pub values_pass : (table : List ℕ) (def : TableDef) (items : List PartItem) → All IsStorablePart items → first_in (bad_written_values table (kinds_of def.columns def.by) def.by) items ≡ None
    → first_in (bad_values (kinds_of def.columns def.by) def.by) (map (new_part def) items) ≡ None
values_pass table def [] so none = refl
values_pass table def (item ∷ items) so none =
    let here = All-head IsStorablePart item items so in
    let alone : AreStorableParts (item ∷ []) = ((omega arith, omega arith), All-cons IsStorablePart item [] here (All-nil IsStorablePart)) in
    let one = values_valid table (kinds_of def.columns def.by) def.by None 0 (Some (item ∷ [])) [] alone (λ e. absurd (cc)) (both_none _ _ (none_first _ _ none) refl) in
    both_none _ _ (none_first _ _ one) (values_pass table def items (All-tail IsStorablePart item items so) (none_next _ _ none))

module _ (table : List ℕ) (def : TableDef) (front group : List PartDef) (items : List PartItem) (behind : List PartDef) (whole : front ++ group ++ behind ≡ def.parts)
    (written : AreStorableParts items) (so : IsStorableDef def) (valid : IsValid def) (passed : bad_new table def front items behind ≡ None) where
  all : List PartDef
  all = parts_among def front items behind

  checks : (too_many ((length front + length items + length behind) * leaves_each def) ≡ None) × (first_in (other_new_subs def items) items ≡ None)
      × (first_in (bad_written_values table (kinds_of def.columns def.by) def.by) items ≡ None) × (bad_bounds def.by (parts_among def front items behind) ≡ None) × (bad_names (parts_among def front items behind) ≡ None)
  checks =
      five_none (too_many ((length front + length items + length behind) * leaves_each def)) (first_in (other_new_subs def items) items)
      (first_in (bad_written_values table (kinds_of def.columns def.by) def.by) items) (bad_bounds def.by (parts_among def front items behind)) (bad_names (parts_among def front items behind)) passed

  n : ℕ
  n = first_subs def.parts

  none_whole : is_whole def.sub ≡ true → first_subs def.parts ≡ 0
  none_whole is = no_subs def.by def.sub def.parts so.parts is

  old_have : AllHave (first_subs def.parts) (front ++ group ++ behind)
  old_have = subst (AllHave (first_subs def.parts)) (sym whole) (have_in (first_subs def.parts) def.parts def.parts refl (valid_parts valid.0 def valid.1).2)

  all_have : AllHave (first_subs def.parts) (parts_among def front items behind)
  all_have =
      have_append (first_subs def.parts) (front ++ map (new_part def) items) behind
      (have_append (first_subs def.parts) front (map (new_part def) items) (have_left (first_subs def.parts) front group (have_left (first_subs def.parts) (front ++ group) behind old_have))
      (new_have def none_whole items items written.1 checks.1))
      (have_right (first_subs def.parts) (front ++ group) behind old_have)

  counted : length (parts_among def front items behind) ≡ length front + length items + length behind
  counted = length_among def front items behind

  some : 0 < length front + length items + length behind
  some = omega (arith, written.0.0)

  first_is : first_subs (parts_among def front items behind) ≡ first_subs def.parts
  first_is = first_has (first_subs def.parts) (parts_among def front items behind) all_have (omega (arith, counted, some))

  few : (length front + length items + length behind) * leaves_each def ≤ 8192
  few = few_told ((length front + length items + length behind) * leaves_each def) (passes _ _ checks.0)

  some_subs : (not (is_whole def.sub) && first_subs def.parts == 0) ≡ false
  some_subs = (or_parts _ _ (passes _ _ (valid_parts valid.0 def valid.1).0)).1

  old_values : first_in (bad_values (kinds_of def.columns def.by) def.by) (front ++ group ++ behind) ≡ None
  old_values = subst (λ l. first_in (bad_values (kinds_of def.columns def.by) def.by) l ≡ None) (sym whole) (valid_parts valid.0 def valid.1).3

  all_values : first_in (bad_values (kinds_of def.columns def.by) def.by) (parts_among def front items behind) ≡ None
  all_values =
      let check = bad_values (kinds_of def.columns def.by) def.by in
      first_append check (front ++ map (new_part def) items) behind
      ∙ both_none _ _
      (first_append check front (map (new_part def) items) ∙ both_none _ _ (first_left check front group (first_left check (front ++ group) behind old_values)) (values_pass table def items written.1 checks.2))
      (first_right check (front ++ group) behind old_values)

  pub stays_valid : IsValid (with_parts def (parts_among def front items behind))
  stays_valid =
      let three = three_none (bad_items def) (bad_kinds valid.0 def) (bad_parts valid.0 def) valid.1 in
      let parts = parts_among def front items behind in (
        valid.0,
        none_three (bad_items def) (bad_kinds valid.0 def) (bad_parts valid.0 (with_parts def parts)) three.0 three.1
            (none_six (refused_if (is_without_parts def.by def.sub parts) (refusal.NoPartitions valid.0)) (too_many (leaf_count def.sub parts)) (first_in (other_subs parts) parts)
            (first_in (bad_values (kinds_of def.columns def.by) def.by) parts) (bad_bounds def.by parts) (in_turn name_twice (part_names parts))
            (not_refused (is_without_parts def.by def.sub parts) (refusal.NoPartitions valid.0)
            (none_without def.by def.sub (first_subs def.parts) (length front + length items + length behind) parts counted some first_is some_subs))
            (not_refused _ _ (told_few (leaf_count def.sub parts) (subst (λ k. k ≤ 8192) (sym (leaf_same def.sub (first_subs def.parts) (length front + length items + length behind) parts counted first_is)) few)))
            (no_others (first_subs def.parts) parts all_have)
            all_values
            checks.3
            (parts_once parts checks.4)),
      )

  -- ---- storable

  abbrev IsSoPart : PartDef → Type 0
  IsSoPart = IsStorablePartDef def.by def.sub

  module _ (some_kind : is_whole def.by ≡ false) where
    new_storable : (own : List PartItem) → All IsStorablePart own → first_in (other_new_subs def items) own ≡ None → first_in (bad_written_values table (kinds_of def.columns def.by) def.by) own ≡ None
        → All IsSoPart (map (new_part def) own)
    new_storable [] own_so many values = All-nil IsSoPart
    new_storable (item ∷ own) own_so many values =
        let here = All-head IsStorablePart item own own_so in
        All-cons IsSoPart (new_part def item) (map (new_part def) own) (record {
          bounds = bounds_storable table def.columns item.name (valid_limited valid.0 def valid.1) def.by item.values some_kind here.values (none_first _ _ values);
          subs = are_subs def.sub (new_subs def item) (new_none (is_whole def.sub) (unwrap_or item.subs (sub_names item.name (first_subs def.parts)))) (omega (arith, new_length def none_whole items item here (none_first _ _ many), few_subs def so valid));
        }) (new_storable own (All-tail IsStorablePart item own own_so) (none_next _ _ many) (none_next _ _ values))

    old_storable : All IsSoPart (front ++ group ++ behind)
    old_storable = subst (All IsSoPart) (sym whole) so.parts

    pub stays_storable : IsStorableDef (with_parts def (parts_among def front items behind))
    stays_storable = record {
      some = so.some;
      most = so.most;
      columns = so.columns;
      few = so.few;
      keys = so.keys;
      by = so.by;
      sub = so.sub;
      alone = never_alone def.by def.sub (parts_among def front items behind) some_kind;
      counted = omega (arith, counted, few_parts (is_whole def.sub) (first_subs def.parts) (length front + length items + length behind) some_subs few);
      parts =
          All-append IsSoPart (front ++ map (new_part def) items) behind
          (All-append IsSoPart front (map (new_part def) items) (all_left IsSoPart front group (all_left IsSoPart (front ++ group) behind old_storable))
          (new_storable items written.1 checks.1 checks.2))
          (all_right IsSoPart (front ++ group) behind old_storable);
    }
