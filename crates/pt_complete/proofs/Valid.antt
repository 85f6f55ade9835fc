-- What a text means is valid: each check of a complete definition follows from those of the text.
use Rattle.std.proofs.Common.{◌≡◌, ℕ, Bool, true, false, not, ◌&&◌, ◌*◌, List, [], ◌∷◌, ◌++◌, Option, Some, None, Ok, refl, sym, ap, subst, ◌∙◌}
use Rattle.std.specs.Prelude.{IfSome, is_none}
use Rattle.std.specs.List.{list_all, range_with_len}
use Rattle.std.specs.Option.{option_or}
use Rattle.std.proofs.lemmas.Bool.{or_parts}
use Rattle.pt_ast.specs.declared.table.Column.{Column}
use Rattle.pt_ast.specs.declared.table.KeyDef.{KeyDef}
use Rattle.pt_ast.specs.declared.table.PartBy.{PartBy}
use Rattle.pt_ast.specs.declared.table.PartBy.TheVariants as by
use Rattle.pt_ast.specs.declared.table.PartDef.{PartDef}
use Rattle.pt_ast.specs.declared.table.TableDef.{TableDef}
use Rattle.pt_ast.specs.declared.written.PartItem.{PartItem}
use Rattle.pt_ast.specs.declared.written.PartSpec.{PartSpec}
use Rattle.pt_ast.specs.declared.written.TableSpec.{TableSpec}
use Rattle.pt_ast.specs.declared.refusal.Refusal.{Refusal}
use Rattle.pt_ast.specs.declared.refusal.Refusal.TheVariants as refusal
use Rattle.pt_ast.specs.StorableSpec.{IsStorablePartSpec, IsStorableSpec}
use Rattle.pt_place.specs.Checks.{bad_bounds, has_column, key_arg, key_of_none, lacking_key, name_twice, part_names, sub_of_number, too_many, unique_keys}
use Rattle.pt_place.specs.First.{first_in, first_of, in_turn, refused_if}
use Rattle.pt_place.specs.Fitting.{kinds_of}
use Rattle.pt_place.specs.Names.{columns_used}
use Rattle.pt_place.specs.Valid.{bad_by, bad_column, bad_key, bad_values, is_tuple_count, is_without_parts, leaf_count, other_subs, refusal_of}
use Rattle.pt_place.proofs.Firsts.{none_first, none_next, passes}
use Rattle.pt_written.specs.Complete.{bad_item, bad_main, bad_names, bad_parts, bad_spec, bad_spec_if, bad_sub, bad_written_key, bad_written_values, complete_of, defined, definition_of, is_without_written, needs_parts, other_written_subs, partitioned, written_refusal}
use Rattle.pt_written.specs.Written.{columns_of, keys_of, keys_written, primary_names}
use Rattle.pt_written.specs.WrittenParts.{by_of, part_count, parts_of, sub_count, sub_of}
use Rattle.pt_complete.proofs.Naming.{made_ok}
use Rattle.pt_complete.proofs.ValidNames.{both_none, not_refused}
use Rattle.pt_complete.proofs.ValidColumns.{columns_valid}
use Rattle.pt_complete.proofs.ValidKeys.{keys_valid, rows_once}
use Rattle.pt_complete.proofs.ValidKinds.{main_valid, sub_valid}
use Rattle.pt_complete.proofs.ValidValues.{counted_none, values_valid}
use Rattle.pt_complete.proofs.ValidCounts.{all_alike, few_leaves, parts_once, with_parts}

pub and_true : (b : Bool) → (b && true) ≡ false → b ≡ false
and_true true e = e
and_true false e = refl

-- an unpartitioned table uses no column that a key could lack
pub none_lacking : (columns : List Column) (keys : List KeyDef)
    → first_in (λ (key : KeyDef). refused_if (not (list_all (has_column key) (columns_used columns by.Whole ++ columns_used columns by.Whole))) (refusal.KeyNeedsColumns (key_arg key))) keys ≡ None
none_lacking columns [] = refl
none_lacking columns (key ∷ keys) = none_lacking columns keys

-- ---- checks in a row

pub none_two : (a b : Option Refusal) → a ≡ None → b ≡ None → first_of (a ∷ b ∷ []) ≡ None
none_two a b is_a is_b = both_none a (option_or b None) is_a (both_none b None is_b refl)

pub none_three : (a b c : Option Refusal) → a ≡ None → b ≡ None → c ≡ None → first_of (a ∷ b ∷ c ∷ []) ≡ None
none_three a b c is_a is_b is_c = both_none a (first_of (b ∷ c ∷ [])) is_a (none_two b c is_b is_c)

pub none_six : (a b c d e f : Option Refusal) → a ≡ None → b ≡ None → c ≡ None → d ≡ None → e ≡ None → f ≡ None → first_of (a ∷ b ∷ c ∷ d ∷ e ∷ f ∷ []) ≡ None
none_six a b c d e f is_a is_b is_c is_d is_e is_f =
    both_none a (first_of (b ∷ c ∷ d ∷ e ∷ f ∷ [])) is_a (both_none b (first_of (c ∷ d ∷ e ∷ f ∷ [])) is_b (both_none c (first_of (d ∷ e ∷ f ∷ [])) is_c (none_three d e f is_d is_e is_f)))

pub three_none : (a b c : Option Refusal) → first_of (a ∷ b ∷ c ∷ []) ≡ None → (a ≡ None) × (b ≡ None) × (c ≡ None)
three_none a b c none =
    let from_b = none_next a (first_of (b ∷ c ∷ [])) none in
    (none_first a (first_of (b ∷ c ∷ [])) none, none_first b (first_of (c ∷ [])) from_b, none_first c None (none_next b (first_of (c ∷ [])) from_b))

pub six_none : (a b c d e f : Option Refusal) → first_of (a ∷ b ∷ c ∷ d ∷ e ∷ f ∷ []) ≡ None → (a ≡ None) × (b ≡ None) × (c ≡ None) × (d ≡ None) × (e ≡ None) × (f ≡ None)
six_none a b c d e f none =
    let from_b = none_next a (first_of (b ∷ c ∷ d ∷ e ∷ f ∷ [])) none in
    let from_c = none_next b (first_of (c ∷ d ∷ e ∷ f ∷ [])) from_b in
    let from_d = none_next c (first_of (d ∷ e ∷ f ∷ [])) from_c in
    let from_e = none_next d (first_of (e ∷ f ∷ [])) from_d in
    let from_f = none_next e (first_of (f ∷ [])) from_e in (
      none_first a (first_of (b ∷ c ∷ d ∷ e ∷ f ∷ [])) none,
      none_first b (first_of (c ∷ d ∷ e ∷ f ∷ [])) from_b,
      none_first c (first_of (d ∷ e ∷ f ∷ [])) from_c,
      none_first d (first_of (e ∷ f ∷ [])) from_d,
      none_first e (first_of (f ∷ [])) from_e,
      none_first f None from_f,
    )

pub or_chain : (a b c d e f g : Option Refusal) → first_of (a ∷ b ∷ c ∷ d ∷ e ∷ f ∷ g ∷ []) ≡ None → option_or (first_of (a ∷ b ∷ c ∷ d ∷ e ∷ f ∷ [])) g ≡ None
or_chain (Some r) b c d e f g none = none
or_chain None (Some r) c d e f g none = none
or_chain None None (Some r) d e f g none = none
or_chain None None None (Some r) e f g none = none
or_chain None None None None (Some r) f g none = none
or_chain None None None None None (Some r) g none = none
or_chain None None None None None None (Some r) none = none
or_chain None None None None None None None none = none

pub needs_none : (spec : PartSpec) → is_without_written spec ≡ false → (needs_parts spec.main && is_none spec.parts) ≡ false
needs_none spec e = (or_parts _ _ (or_parts _ _ e).0).1

module _ (table : List ℕ) (columns : List Column) (keys : List KeyDef) (columned : in_turn (bad_column keys) columns ≡ None) (keyed : in_turn (bad_key columns) keys ≡ None) where
  items : Option Refusal
  items = first_of (in_turn (bad_column keys) columns ∷ in_turn (bad_key columns) keys ∷ [])

  items_none : items ≡ None
  unfolding items
  items_none = none_two (in_turn (bad_column keys) columns) (in_turn (bad_key columns) keys) columned keyed

  module _ (spec : PartSpec) (kind sub : PartBy) (is_kind : kind ≡ by_of columns keys spec.main) (is_sub : sub ≡ sub_of columns spec.sub) (so : IsStorablePartSpec spec) where
    kinds_valid : first_of (sub_of_number table kind sub ∷ key_of_none kind ∷ key_of_none sub ∷ bad_main table columns spec.main ∷ bad_sub table columns spec.sub ∷ lacking_key columns keys kind sub ∷ []) ≡ None
        → first_of (sub_of_number table kind sub ∷ key_of_none kind ∷ key_of_none sub ∷ bad_by table columns kind ∷ bad_by table columns sub ∷ lacking_key columns keys kind sub ∷ []) ≡ None
    kinds_valid none =
        let all = six_none (sub_of_number table kind sub) (key_of_none kind) (key_of_none sub) (bad_main table columns spec.main) (bad_sub table columns spec.sub) (lacking_key columns keys kind sub) none in
        none_six (sub_of_number table kind sub) (key_of_none kind) (key_of_none sub) (bad_by table columns kind) (bad_by table columns sub) (lacking_key columns keys kind sub)
        all.0 all.1 all.2
        (subst (λ (own : PartBy). bad_by table columns own ≡ None) (sym is_kind) (main_valid columns table keys spec.main (rows_once columns keys keyed) all.3))
        (subst (λ (own : PartBy). bad_by table columns own ≡ None) (sym is_sub) (sub_valid columns table spec.sub all.4))
        all.5

    parts_valid : (parts : List PartDef) → parts ≡ parts_of (kinds_of columns kind) kind spec → bad_parts table columns kind spec ≡ None
        → first_of (
        refused_if (is_without_parts kind sub parts) (refusal.NoPartitions table)
        ∷ too_many (leaf_count sub parts)
        ∷ first_in (other_subs parts) parts
        ∷ first_in (bad_values (kinds_of columns kind) kind) parts
        ∷ bad_bounds kind parts
        ∷ in_turn name_twice (part_names parts)
        ∷ []) ≡ None
    parts_valid parts is none =
        let kinds = kinds_of columns kind in
        let made = parts_of kinds kind spec in
        let all = six_none (refused_if (is_without_written spec) (refusal.NoPartitions table)) (too_many (part_count spec * sub_count spec)) (first_in (other_written_subs spec) (defined spec))
        (first_in (bad_written_values table kinds kind) (defined spec)) (bad_bounds kind made) (bad_names made) none in
        let without = passes (is_without_written spec) (refusal.NoPartitions table) all.0 in
        subst (λ (own : List PartDef). first_of (
        refused_if (is_without_parts kind sub own) (refusal.NoPartitions table)
        ∷ too_many (leaf_count sub own)
        ∷ first_in (other_subs own) own
        ∷ first_in (bad_values kinds kind) own
        ∷ bad_bounds kind own
        ∷ in_turn name_twice (part_names own)
        ∷ []) ≡ None) (sym is)
        (none_six (refused_if (is_without_parts kind sub made) (refusal.NoPartitions table)) (too_many (leaf_count sub made)) (first_in (other_subs made) made)
        (first_in (bad_values kinds kind) made) (bad_bounds kind made) (in_turn name_twice (part_names made))
        (not_refused (is_without_parts kind sub made) (refusal.NoPartitions table) (subst (λ (own : PartBy). is_without_parts kind own made ≡ false) (sym is_sub) (with_parts table columns kinds kind spec so.parts without all.1 all.2)))
        (subst (λ (own : PartBy). too_many (leaf_count own made) ≡ None) (sym is_sub) (few_leaves table columns kinds kind spec so.parts without all.1 all.2))
        (all_alike table columns kinds kind spec so.parts without all.1 all.2)
        (values_valid table kinds kind spec.sub (sub_count spec) spec.parts (range_with_len 0 (part_count spec)) so.parts
        (λ none_written. subst (λ (own : PartBy). is_tuple_count own 0 ≡ true) (sym is_kind)
        (counted_none columns keys spec.main (and_true (needs_parts spec.main) (ap (λ (own : Option (List PartItem)). needs_parts spec.main && is_none own) (sym none_written) ∙ needs_none spec without))))
        all.3)
        all.4
        (parts_once made all.5))

  pub spec_valid : (spec : PartSpec) → IsStorablePartSpec spec → bad_spec table columns keys spec ≡ None → refusal_of table (partitioned columns keys (Some spec)) ≡ None
  unfolding bad_spec items
  spec_valid spec so none =
      let kind = by_of columns keys spec.main in
      let sub = sub_of columns spec.sub in
      let parts = parts_of (kinds_of columns kind) kind spec in
      let kinds = first_of (sub_of_number table kind sub ∷ key_of_none kind ∷ key_of_none sub ∷ bad_main table columns spec.main ∷ bad_sub table columns spec.sub ∷ lacking_key columns keys kind sub ∷ []) in
      let whole : option_or kinds (bad_parts table columns kind spec) ≡ None =
      or_chain (sub_of_number table kind sub) (key_of_none kind) (key_of_none sub) (bad_main table columns spec.main) (bad_sub table columns spec.sub) (lacking_key columns keys kind sub) (bad_parts table columns kind spec) none in
      none_three items
      (first_of (sub_of_number table kind sub ∷ key_of_none kind ∷ key_of_none sub ∷ bad_by table columns kind ∷ bad_by table columns sub ∷ lacking_key columns keys kind sub ∷ []))
      (first_of (
      refused_if (is_without_parts kind sub parts) (refusal.NoPartitions table)
      ∷ too_many (leaf_count sub parts)
      ∷ first_in (other_subs parts) parts
      ∷ first_in (bad_values (kinds_of columns kind) kind) parts
      ∷ bad_bounds kind parts
      ∷ in_turn name_twice (part_names parts)
      ∷ []))
      items_none
      (kinds_valid spec kind sub refl refl so (none_first kinds (bad_parts table columns kind spec) whole))
      (parts_valid spec kind sub refl refl so parts refl (none_next kinds (bad_parts table columns kind spec) whole))

  pub whole_valid : (own : Option PartSpec) → IfSome own IsStorablePartSpec → bad_spec_if table columns keys own ≡ None → refusal_of table (partitioned columns keys own) ≡ None
  unfolding items
  whole_valid None so none =
      none_three items (option_or (lacking_key columns keys by.Whole by.Whole) None) None items_none
      (both_none (lacking_key columns keys by.Whole by.Whole) None (none_lacking columns (unique_keys keys)) refl) refl
  whole_valid (Some spec) so none = spec_valid spec so none

-- where nothing is refused of a text, nothing is refused of what it means
pub definition_valid : (table : List ℕ) (spec : TableSpec) → IsStorableSpec spec → written_refusal table spec ≡ None → refusal_of table (definition_of spec) ≡ None
unfolding written_refusal definition_of
definition_valid table spec so none =
    let columns = columns_of spec.items in
    let all = three_none (in_turn (bad_item (primary_names spec.items)) spec.items) (in_turn (bad_written_key columns) (keys_written spec.items)) (bad_spec_if table columns (keys_of columns spec.items) spec.by) none in
    whole_valid table columns (keys_of columns spec.items) (columns_valid spec.items all.0 all.1) (keys_valid columns (keys_written spec.items) all.1) spec.by so.by all.2

pub complete_valid : (table : List ℕ) (spec : TableSpec) (def : TableDef) → IsStorableSpec spec → complete_of table spec ≡ Ok def → refusal_of table def ≡ None
complete_valid table spec def so is =
    let made = made_ok (written_refusal table spec) (definition_of spec) def (sym is) in
    subst (λ (own : TableDef). refusal_of table own ≡ None) (sym made.1) (definition_valid table spec so made.0)
