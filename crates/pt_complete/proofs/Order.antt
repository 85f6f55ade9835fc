-- The checks of a text in their order, and what they leave.
use Rattle.std.proofs.Common.{◌≡◌, ℕ, zero, suc, ◌+◌, ◌*◌, ◌<◌, ◌≤◌, Bool, true, false, cond, ◌&&◌, ◌==◌, List, [], ◌∷◌, ◌++◌, map, length, take, Option, Some, None, Result, Ok, Err, refl, sym, ap, ◌∙◌, arith}
use Rattle.std.specs.Prelude.{is_none, nat_lt, count_by, if◌then◌else◌, slice_index_or}
use Rattle.std.specs.List.{filter_map, position, position_or_len, range_with_len}
use Rattle.std.specs.Option.{option_map_or, option_or}
use Rattle.std.proofs.lemmas.List.Recursion.{is_count_by}
use Rattle.pt_value.specs.declared.value.Kind.{Kind}
use Rattle.pt_ast.specs.declared.table.Column.{Column}
use Rattle.pt_ast.specs.declared.table.KeyDef.{KeyDef}
use Rattle.pt_ast.specs.declared.table.PartBy.{PartBy}
use Rattle.pt_ast.specs.declared.table.PartBy.TheVariants as by
use Rattle.pt_ast.specs.declared.table.PartDef.{PartDef}
use Rattle.pt_ast.specs.declared.table.TableDef.{TableDef}
use Rattle.pt_ast.specs.declared.written.HashSpec.TheVariants as hash
use Rattle.pt_ast.specs.declared.written.Item.{Item}
use Rattle.pt_ast.specs.declared.written.Item.TheVariants as text
use Rattle.pt_ast.specs.declared.written.MainSpec.{MainSpec}
use Rattle.pt_ast.specs.declared.written.MainSpec.TheVariants as main
use Rattle.pt_ast.specs.declared.written.PartItem.{PartItem}
use Rattle.pt_ast.specs.declared.written.PartSpec.{PartSpec}
use Rattle.pt_ast.specs.declared.written.SubSpec.{SubSpec}
use Rattle.pt_ast.specs.declared.written.TableSpec.{TableSpec}
use Rattle.pt_ast.specs.declared.refusal.Refusal.{Refusal}
use Rattle.pt_ast.specs.declared.refusal.Refusal.TheVariants as refusal
use Rattle.pt_ast.specs.Lists.{entries, is_list_fault, list_fault, repeats}
use Rattle.pt_ast.specs.Ranges.{bound_of, bounds_fault, range_fault}
use Rattle.pt_ast.specs.StorableSpec.{is_column}
use Rattle.pt_place.specs.Checks.{bad_bounds, key_of_none, lacking_key, of_list_fault, of_range_fault, sub_of_number, told, too_many}
use Rattle.pt_place.specs.First.{first_in, first_of, in_turn, refused_if}
use Rattle.pt_place.specs.Fitting.{kinds_of}
use Rattle.pt_place.proofs.Firsts.{none_first, none_next, or-none, or-some, or_assoc, or_end, passes}
use Rattle.pt_written.specs.Complete.{bad_item, bad_main, bad_names, bad_parts, bad_spec, bad_spec_if, bad_sub, bad_written_key, bad_written_values, complete_of, defined, definition_of, is_without_written, needs_parts, other_written_subs, partitioned, refused_or, written_refusal}
use Rattle.pt_written.specs.Reading.{bad_written_counts, bad_written_kinds}
use Rattle.pt_written.specs.Written.{column_in, columns_of, keys_of, keys_written, primary_names}
use Rattle.pt_written.specs.WrittenParts.{bounds_of, by_of, part_count, part_in, parts_of, sub_count, sub_of}
use Rattle.pt_complete.proofs.Kept.{first_false, second_false}
use Rattle.pt_complete.proofs.Naming.{err_made}
use Rattle.pt_complete.specs.Making.{bad_bounds_or_names, bare_in}

-- ---- bounds don't depend on the names of subpartitions

pub place_same : (p q : ℕ → Bool) → ((n : ℕ) → p n ≡ q n) → (ns : List ℕ) → position_or_len p ns ≡ position_or_len q ns
place_same p q so [] = refl
place_same p q so (n ∷ ns) = rw (so n, place_same p q so ns) refl

pub position_same : (p q : ℕ → Bool) → ((n : ℕ) → p n ≡ q n) → (ns : List ℕ) → position p ns ≡ position q ns
position_same p q so ns = rw (place_same p q so ns) refl

module _ (kinds : List Kind) (kind : PartBy) (sub : Option SubSpec) (count : ℕ) where
  whole : PartItem → PartDef
  whole = part_in kinds kind sub count

  bare : PartItem → PartDef
  bare = bare_in kinds kind

  mapped_same : {B : Type 0} (h : PartDef → B) → ((x : PartItem) → h (whole x) ≡ h (bare x)) → (items : List PartItem) → map h (map whole items) ≡ map h (map bare items)
  mapped_same h so [] = refl
  mapped_same h so (x ∷ items) = rw (so x, mapped_same h so items) refl

  entries_same : (i : ℕ) (items : List PartItem) → entries (take i (map whole items)) ≡ entries (take i (map bare items))
  unfolding whole bare
  entries_same zero items = refl
  entries_same (suc i) [] = refl
  entries_same (suc i) (x ∷ items) = ap (λ l. bounds_of kinds kind x.values ++ l) (entries_same i items)

  module _ (items : List PartItem) where
    names_same : map (λ (part : PartDef). part.name) (map whole items) ≡ map (λ (part : PartDef). part.name) (map bare items)
    unfolding whole bare
    names_same = mapped_same (λ (part : PartDef). part.name) (λ x. refl) items

    length_same : (items : List PartItem) → length (map whole items) ≡ length (map bare items)
    length_same [] = refl
    length_same (x ∷ items) = ap suc (length_same items)

    fault_same : (i : ℕ) → is_list_fault (map whole items) i ≡ is_list_fault (map bare items) i
    unfolding whole bare
    fault_same i =
        ap (λ l. repeats l (slice_index_or (map (λ (part : PartDef). part.bounds) (map whole items)) i [])) (entries_same i items)
        ∙ ap (λ l. repeats (entries (take i (map bare items))) (slice_index_or l i [])) (mapped_same (λ (part : PartDef). part.bounds) (λ x. refl) items)

    list_same : list_fault (map whole items) ≡ list_fault (map bare items)
    list_same =
        position_same (is_list_fault (map whole items)) (is_list_fault (map bare items)) fault_same (range_with_len 0 (length (map whole items)))
        ∙ ap (λ n. position (is_list_fault (map bare items)) (range_with_len 0 n)) (length_same items)

    range_same : range_fault (map whole items) ≡ range_fault (map bare items)
    unfolding whole bare
    range_same = ap bounds_fault (mapped_same bound_of (λ x. refl) items)

    of_range_same : (fault : Option (ℕ × ℕ)) → of_range_fault (map whole items) fault ≡ of_range_fault (map bare items) fault
    of_range_same None = refl
    of_range_same (Some fault) =
        ap (λ l. Some (if fault.1 == 31 then refusal.MaxvalueNotLast (slice_index_or l fault.0 []) else refusal.NotIncreasing (slice_index_or l fault.0 []))) names_same

    of_list_same : (fault : Option ℕ) → of_list_fault (map whole items) fault ≡ of_list_fault (map bare items) fault
    of_list_same None = refl
    of_list_same (Some i) = ap (λ l. Some (refusal.ValueTwice (slice_index_or l i []))) names_same

    bounds_same : (own : PartBy) → bad_bounds own (map whole items) ≡ bad_bounds own (map bare items)
    bounds_same by.Whole = refl
    bounds_same (by.Range expr) = of_range_same (range_fault (map whole items)) ∙ ap (of_range_fault (map bare items)) range_same
    bounds_same (by.RangeColumns numbers) = of_range_same (range_fault (map whole items)) ∙ ap (of_range_fault (map bare items)) range_same
    bounds_same (by.List expr) = of_list_same (list_fault (map whole items)) ∙ ap (of_list_fault (map bare items)) list_same
    bounds_same (by.ListColumns numbers) = of_list_same (list_fault (map whole items)) ∙ ap (of_list_fault (map bare items)) list_same
    bounds_same (by.Hash linear expr) = refl
    bounds_same (by.Key linear numbers) = refl

pub no_bounds : (own : PartBy) (columns : List Column) (keys : List KeyDef) (m : MainSpec) → own ≡ by_of columns keys m → needs_parts m ≡ false → (parts : List PartDef) → None ≡ bad_bounds own parts
no_bounds own columns keys (main.Range expr) is needs parts = cc
no_bounds own columns keys (main.List expr) is needs parts = cc
no_bounds own columns keys (main.RangeColumns names) is needs parts = cc
no_bounds own columns keys (main.ListColumns names) is needs parts = cc
no_bounds own columns keys (main.Hash (hash.Hash linear expr)) is needs parts = ap (λ o. bad_bounds o parts) (sym is)
no_bounds own columns keys (main.Hash (hash.Key linear [])) is needs parts = ap (λ o. bad_bounds o parts) (sym is)
no_bounds own columns keys (main.Hash (hash.Key linear (name ∷ names))) is needs parts = ap (λ o. bad_bounds o parts) (sym is)

pub and_true : (b : Bool) → (b && true) ≡ false → b ≡ false
and_true true e = e
and_true false e = refl

pub bounds_in : (kinds : List Kind) (kind : PartBy) (sub : Option SubSpec) (count : ℕ) (columns : List Column) (keys : List KeyDef) (m : MainSpec) (made : List PartDef) (parts : Option (List PartItem))
    → kind ≡ by_of columns keys m → (needs_parts m && is_none parts) ≡ false
    → bad_bounds kind (map (bare_in kinds kind) (option_map_or (λ (own : List PartItem). own) parts [])) ≡ bad_bounds kind (option_map_or (λ own. map (part_in kinds kind sub count) own) parts made)
unfolding whole bare
bounds_in kinds kind sub count columns keys m made (Some items) is needs = sym (bounds_same kinds kind sub count items kind)
bounds_in kinds kind sub count columns keys m made None is needs =
    sym (no_bounds kind columns keys m is (and_true (needs_parts m) needs) []) ∙ no_bounds kind columns keys m is (and_true (needs_parts m) needs) made

-- ---- one check after another

abbrev pub chain : List (Option Refusal) → Option Refusal → Option Refusal
chain [] rest = rest
chain (check ∷ checks) rest = option_or check (chain checks rest)

pub first_chain : (checks : List (Option Refusal)) (rest : Option Refusal) → option_or (first_of checks) rest ≡ chain checks rest
first_chain [] rest = refl
first_chain (check ∷ checks) rest = or_assoc check (first_of checks) rest ∙ ap (option_or check) (first_chain checks rest)

-- ---- counts

pub least : (p s : ℕ) → 0 < s → p ≤ p * s
least zero s some = omega arith
least (suc p) s some = omega (arith, some, least p s some)

pub least_right : (p s : ℕ) → 0 < p → s ≤ p * s
least_right zero s some = omega (arith, some)
least_right (suc p) s some = omega arith

pub not_zero : (n : ℕ) → (n == 0) ≡ false → 0 < n
not_zero zero e = cc
not_zero (suc n) e = omega arith

pub few_told : (n : ℕ) → nat_lt 8192 (told n) ≡ false → n ≤ 8192
few_told n e = grind (arith, e)

-- ---- a partitioning

module _ (table : List ℕ) (def : TableDef) (spec : PartSpec) (is_by : def.by ≡ by_of def.columns def.keys spec.main) (is_sub : def.sub ≡ sub_of def.columns spec.sub) where
  kinds : List Kind
  kinds = kinds_of def.columns def.by

  values : Option Refusal
  values = first_in (bad_written_values table (kinds_of def.columns def.by) def.by) (defined spec)

  parts : List PartDef
  parts = parts_of (kinds_of def.columns def.by) def.by spec

  rest : Option Refusal
  rest = option_or values (option_or (bad_bounds def.by parts) (bad_names parts))

  spec_chain : bad_spec table def.columns def.keys spec ≡ option_or (bad_written_kinds table def spec) (option_or (bad_written_counts table spec) rest)
  unfolding bad_spec rest values parts kinds
  spec_chain = rw (sym is_by, sym is_sub) (
      sym (first_chain (
      sub_of_number table def.by def.sub
      ∷ key_of_none def.by
      ∷ key_of_none def.sub
      ∷ bad_main table def.columns spec.main
      ∷ bad_sub table def.columns spec.sub
      ∷ lacking_key def.columns def.keys def.by def.sub
      ∷ []) (option_or (bad_parts table def.columns def.by spec) None))
      ∙ ap (option_or (bad_written_kinds table def spec)) (
      or_end (bad_parts table def.columns def.by spec)
      ∙ sym (first_chain (
      refused_if (is_without_written spec) (refusal.NoPartitions table)
      ∷ too_many (part_count spec * sub_count spec)
      ∷ first_in (other_written_subs spec) (defined spec)
      ∷ []) (option_or values (option_or (bad_bounds def.by parts) (option_or (bad_names parts) None))))
      ∙ ap (λ n. option_or (bad_written_counts table spec) (option_or values (option_or (bad_bounds def.by parts) n))) (or_end (bad_names parts))))

  pub kinds_refused : (r : Refusal) → Some r ≡ bad_written_kinds table def spec → bad_spec table def.columns def.keys spec ≡ Some r
  kinds_refused r found = spec_chain ∙ or-some _ _ r (sym found)

  module _ (good : None ≡ bad_written_kinds table def spec) where
    pub counts_refused : (r : Refusal) → Some r ≡ bad_written_counts table spec → bad_spec table def.columns def.keys spec ≡ Some r
    counts_refused r found = spec_chain ∙ or-none _ _ (sym good) ∙ or-some _ _ r (sym found)

    module _ (counted : None ≡ bad_written_counts table spec) where
      after : bad_spec table def.columns def.keys spec ≡ rest
      after = spec_chain ∙ or-none _ _ (sym good) ∙ or-none _ _ (sym counted)

      pub values_refused : (r : Refusal) → Some r ≡ first_in (bad_written_values table (kinds_of def.columns def.by) def.by) (defined spec) → bad_spec table def.columns def.keys spec ≡ Some r
      unfolding rest values
      values_refused r found = after ∙ or-some _ _ r (sym found)

      without : is_without_written spec ≡ false
      without = passes _ _ (none_first _ _ (sym counted))

      few : part_count spec * sub_count spec ≤ 8192
      few = few_told (part_count spec * sub_count spec) (passes _ _ (none_first _ _ (none_next _ _ (sym counted))))

      some_parts : 0 < part_count spec
      some_parts = not_zero (part_count spec) (first_false _ _ (first_false _ _ (first_false _ _ without)))

      some_subs : 0 < sub_count spec
      some_subs = not_zero (sub_count spec) (second_false _ _ (first_false _ _ (first_false _ _ without)))

      pub few_parts : part_count spec ≤ 8192
      few_parts = omega (arith, few, least (part_count spec) (sub_count spec) some_subs)

      pub few_subs : sub_count spec ≤ 8192
      few_subs = omega (arith, few, least_right (part_count spec) (sub_count spec) some_parts)

      module _ (valued : None ≡ first_in (bad_written_values table (kinds_of def.columns def.by) def.by) (defined spec)) where
        bounds_are : bad_bounds def.by (map (bare_in (kinds_of def.columns def.by) def.by) (defined spec)) ≡ bad_bounds def.by parts
        unfolding parts
        bounds_are = bounds_in (kinds_of def.columns def.by) def.by spec.sub (sub_count spec) def.columns def.keys spec.main _ spec.parts is_by (second_false _ _ (first_false _ _ without))

        pub bounds_or_names : bad_spec table def.columns def.keys spec ≡ bad_bounds_or_names def spec
        unfolding rest values parts
        bounds_or_names = after ∙ or-none _ _ (sym valued) ∙ ap (λ b. option_or b (bad_names parts)) (sym bounds_are)

-- ---- the whole

pub column_counted : (p : List (List ℕ)) (x : Item) (xs : List Item) → length (filter_map (column_in p) (x ∷ xs)) ≡ cond (is_column x) (1 + length (filter_map (column_in p) xs)) (length (filter_map (column_in p) xs))
column_counted p (text.Column name written options) xs = omega arith
column_counted p (text.Key rank name columns) xs = refl

pub length_columns : (p : List (List ℕ)) (items : List Item) → length (filter_map (column_in p) items) ≡ count_by is_column items
length_columns p items = is_count_by (λ xs. length (filter_map (column_in p) xs)) is_column refl (column_counted p) items

module _ (table : List ℕ) (spec : TableSpec) where
  pub columns_refused : (r : Refusal) → in_turn (bad_item (primary_names spec.items)) spec.items ≡ Some r → Err r ≡ complete_of table spec
  unfolding written_refusal
  columns_refused r found = err_made _ (definition_of spec) r (or-some _ _ r found)

  module _ (good : in_turn (bad_item (primary_names spec.items)) spec.items ≡ None) where
    pub keys_refused : (r : Refusal) → in_turn (bad_written_key (columns_of spec.items)) (keys_written spec.items) ≡ Some r → Err r ≡ complete_of table spec
    unfolding written_refusal
    keys_refused r found = err_made _ (definition_of spec) r (or-none _ _ good ∙ or-some _ _ r found)

    module _ (keyed : in_turn (bad_written_key (columns_of spec.items)) (keys_written spec.items) ≡ None) where
      refused_is : written_refusal table spec ≡ bad_spec_if table (columns_of spec.items) (keys_of (columns_of spec.items) spec.items) spec.by
      unfolding written_refusal
      refused_is = or-none _ _ good ∙ or-none _ _ keyed ∙ or_end _

      pub whole_is : (own : Option PartSpec) → spec.by ≡ own
          → refused_or (bad_spec_if table (columns_of spec.items) (keys_of (columns_of spec.items) spec.items) own) (partitioned (columns_of spec.items) (keys_of (columns_of spec.items) spec.items) own) ≡ complete_of table spec
      unfolding definition_of
      whole_is own is =
          ap (λ o. refused_or (bad_spec_if table (columns_of spec.items) (keys_of (columns_of spec.items) spec.items) o) (partitioned (columns_of spec.items) (keys_of (columns_of spec.items) spec.items) o)) (sym is)
          ∙ ap (λ r. refused_or r (partitioned (columns_of spec.items) (keys_of (columns_of spec.items) spec.items) spec.by)) (sym refused_is)

pub columns_few : (spec : TableSpec) (columns : List Column) → columns ≡ columns_of spec.items → count_by is_column spec.items ≤ 1_000_000 → length columns ≤ 1_000_000
columns_few spec columns is few = rw (is, length_columns (primary_names spec.items) spec.items) few

abbrev pub whole_table : List Column → List KeyDef → List PartDef → TableDef
whole_table columns keys parts = record { columns = columns; keys = keys; by = by.Whole; sub = by.Whole; parts = parts }

module _ (table : List ℕ) (spec : TableSpec) (columns : List Column) (keys : List KeyDef) where
  pub spec_whole : (own : PartSpec) → in_turn (bad_item (primary_names spec.items)) spec.items ≡ None → columns ≡ columns_of spec.items → keys ≡ keys_of columns spec.items
      → in_turn (bad_written_key columns) (keys_written spec.items) ≡ None → spec.by ≡ Some own → refused_or (bad_spec table columns keys own) (partitioned columns keys (Some own)) ≡ complete_of table spec
  spec_whole own good is_columns is_keys keyed is =
      ap (λ k. refused_or (bad_spec table columns k own) (partitioned columns k (Some own))) is_keys
      ∙ ap (λ l. refused_or (bad_spec table l (keys_of l spec.items) own) (partitioned l (keys_of l spec.items) (Some own))) is_columns
      ∙ whole_is table spec good (sym (ap (λ l. in_turn (bad_written_key l) (keys_written spec.items)) is_columns) ∙ keyed) (Some own) is

  pub unpartitioned : (parts : List PartDef) → in_turn (bad_item (primary_names spec.items)) spec.items ≡ None → columns ≡ columns_of spec.items → keys ≡ keys_of columns spec.items
      → in_turn (bad_written_key columns) (keys_written spec.items) ≡ None → spec.by ≡ None → parts ≡ []
      → ◌≡◌ {A = Result TableDef Refusal} (Ok (record { columns = columns; keys = keys; by = by.Whole; sub = by.Whole; parts = parts })) (complete_of table spec)
  unpartitioned parts good is_columns is_keys keyed is none =
      ap (λ (p : List PartDef). Ok (whole_table columns keys p)) none
      ∙ ap (λ k. refused_or None (partitioned columns k None)) is_keys
      ∙ ap (λ l. refused_or None (partitioned l (keys_of l spec.items) None)) is_columns
      ∙ whole_is table spec good (sym (ap (λ l. in_turn (bad_written_key l) (keys_written spec.items)) is_columns) ∙ keyed) None is
