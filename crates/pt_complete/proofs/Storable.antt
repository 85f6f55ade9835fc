-- What a text means that passes its checks is storable.
use Rattle.std.proofs.Common.{◌≡◌, ℕ, ◌*◌, ◌<◌, ◌≤◌, false, ◌&&◌, List, [], ◌∷◌, ◌++◌, map, length, Option, Some, None, Result, Ok, Err, refl, sym, ap, subst, ◌∙◌, arith, All}
use Rattle.std.specs.Prelude.{IfSome, IfOk, is_none, codes}
use Rattle.std.specs.declared.alloc.AllocError.{AllocError}
use Rattle.std.specs.Fmt.{decimal}
use Rattle.std.specs.List.{filter_map, range_with_len}
use Rattle.std.specs.Option.{option_map_or}
use Rattle.std.proofs.lemmas.List.{length-map}
use Rattle.std.proofs.lemmas.List.FromFn.{length-map-range_with_len}
use Rattle.std.proofs.lemmas.List.Elements.{All-cons, All-head, All-nil, All-tail}
use Rattle.pt_ast.specs.declared.written.HashSpec.{HashSpec}
use Rattle.pt_ast.specs.declared.written.HashSpec.TheVariants as hash
use Rattle.pt_ast.specs.declared.written.Item.{Item}
use Rattle.pt_ast.specs.declared.written.Item.TheVariants as text
use Rattle.pt_ast.specs.declared.written.MainSpec.{MainSpec}
use Rattle.pt_ast.specs.declared.written.MainSpec.TheVariants as main
use Rattle.pt_ast.specs.declared.written.PartItem.{PartItem}
use Rattle.pt_ast.specs.declared.written.PartSpec.{PartSpec}
use Rattle.pt_ast.specs.declared.written.SubSpec.{SubSpec}
use Rattle.pt_ast.specs.declared.written.TableSpec.{TableSpec}
use Rattle.pt_ast.specs.declared.table.Column.{Column}
use Rattle.pt_ast.specs.declared.table.KeyDef.{KeyDef}
use Rattle.pt_ast.specs.declared.table.PartBy.{PartBy}
use Rattle.pt_ast.specs.declared.table.PartBy.TheVariants as by
use Rattle.pt_ast.specs.declared.table.PartDef.{PartDef}
use Rattle.pt_ast.specs.declared.table.TableDef.{TableDef}
use Rattle.pt_ast.specs.declared.refusal.Refusal.{Refusal}
use Rattle.pt_ast.specs.declared.refusal.Refusal.TheVariants as refusal
use Rattle.pt_ast.specs.Storable.{HasAtLeast, IsCounted}
use Rattle.pt_ast.specs.StorableSpec.{AreStorableParts, IsStorableHash, IsStorableItem, IsStorableMain, IsStorablePart, IsStorablePartSpec, IsStorableSpec, IsStorableSub}
use Rattle.pt_ast.specs.StorableDef.{ArePositions, AreBoundsOf, AreSubsOf, IsStorableBy, IsStorableColumn, IsStorableDef, IsStorableKey, IsStorablePartDef, IsSub, IsWholeAlone}
use Rattle.pt_place.specs.Checks.{bad_bounds, is_whole, key_of_none, lacking_key, sub_of_number, too_many}
use Rattle.pt_place.specs.First.{first_in, first_of, in_turn, in_turn_from, refused_if}
use Rattle.pt_place.specs.Fitting.{kinds_of}
use Rattle.pt_place.proofs.Firsts.{none_first, none_next, passes}
use Rattle.pt_written.specs.Complete.{bad_hash, bad_item, bad_main, bad_names, bad_parts, bad_spec, bad_spec_if, bad_sub, bad_written_key, bad_written_values, complete_of, defined, definition_of, is_without_written, needs_parts, other_written_subs, partitioned, refused_or, written_refusal}
use Rattle.pt_written.specs.Written.{column_in, columns_for_rows, columns_of, keys_of, keys_written, primary_names}
use Rattle.pt_written.specs.WrittenParts.{by_hash, by_of, part_count, part_in, part_made, parts_of, sub_count, sub_names, sub_of, subs_named}
use Rattle.pt_complete.proofs.Kept.{first_false, second_false}
use Rattle.pt_complete.proofs.Naming.{made_ok, ok_then}
use Rattle.pt_complete.proofs.Order.{and_true, few_told, least, least_right, length_columns, not_zero}
use Rattle.pt_complete.proofs.StorableBounds.{bounds_storable}
use Rattle.pt_complete.proofs.StorableColumns.{IsLimited, columns_limited, columns_storable}
use Rattle.pt_complete.proofs.StorableExprs.{expr_kept}
use Rattle.pt_complete.proofs.StorableKeys.{are_positions, are_some_positions, instead_positions, keyless, keys_some, keys_storable}

-- ---- what a table is partitioned by

module _ (table : List ℕ) (columns : List Column) where
  hash_storable : (instead : List ℕ) (h : HashSpec) → ArePositions (length columns) instead → IsStorableHash h → bad_hash table columns h ≡ None → IsStorableBy columns (by_hash columns instead h)
  hash_storable instead (hash.Hash linear expr) positions so none = expr_kept table columns expr none so
  hash_storable instead (hash.Key linear []) positions so none = positions
  hash_storable instead (hash.Key linear (name ∷ names)) positions so none = are_positions columns (name ∷ names) none so

  by_storable : (keys : List KeyDef) (m : MainSpec) → All (IsStorableKey (length columns)) keys → IsStorableMain m → bad_main table columns m ≡ None → IsStorableBy columns (by_of columns keys m)
  by_storable keys (main.Range expr) keyed so none = expr_kept table columns expr none so
  by_storable keys (main.List expr) keyed so none = expr_kept table columns expr none so
  by_storable keys (main.RangeColumns names) keyed so none = are_some_positions columns names none so
  by_storable keys (main.ListColumns names) keyed so none = are_some_positions columns names none so
  by_storable keys (main.Hash h) keyed so none = hash_storable (columns_for_rows columns keys) h (instead_positions columns keys keyed) so none

  hash_sub : (h : HashSpec) → IsSub (by_hash columns [] h)
  hash_sub (hash.Hash linear expr) = tt
  hash_sub (hash.Key linear []) = tt
  hash_sub (hash.Key linear (name ∷ names)) = tt

  sub_storable : (o : Option SubSpec) → IfSome o IsStorableSub → bad_sub table columns o ≡ None → IsStorableBy columns (sub_of columns o) × IsSub (sub_of columns o)
  sub_storable (Some sub) so none = (hash_storable [] sub.hash (omega arith, All-nil (λ number. number < length columns)) so.hash none, hash_sub sub.hash)
  sub_storable None so none = (tt, tt)

pub hash_whole : (columns : List Column) (instead : List ℕ) (h : HashSpec) → is_whole (by_hash columns instead h) ≡ false
hash_whole columns instead (hash.Hash linear expr) = refl
hash_whole columns instead (hash.Key linear []) = refl
hash_whole columns instead (hash.Key linear (name ∷ names)) = refl

pub by_whole : (columns : List Column) (keys : List KeyDef) (m : MainSpec) → is_whole (by_of columns keys m) ≡ false
by_whole columns keys (main.Range expr) = refl
by_whole columns keys (main.List expr) = refl
by_whole columns keys (main.RangeColumns names) = refl
by_whole columns keys (main.ListColumns names) = refl
by_whole columns keys (main.Hash h) = hash_whole columns (columns_for_rows columns keys) h

pub never_alone : (kind sub : PartBy) (parts : List PartDef) → is_whole kind ≡ false → IsWholeAlone kind sub parts
never_alone by.Whole sub parts some = absurd (cc)
never_alone (by.Range expr) sub parts some = tt
never_alone (by.List expr) sub parts some = tt
never_alone (by.RangeColumns numbers) sub parts some = tt
never_alone (by.ListColumns numbers) sub parts some = tt
never_alone (by.Hash linear expr) sub parts some = tt
never_alone (by.Key linear numbers) sub parts some = tt

-- ---- partitions

pub hash_bounds : (columns : List Column) (instead : List ℕ) (h : HashSpec) → AreBoundsOf (by_hash columns instead h) []
hash_bounds columns instead (hash.Hash linear expr) = refl
hash_bounds columns instead (hash.Key linear []) = refl
hash_bounds columns instead (hash.Key linear (name ∷ names)) = refl

-- where definitions aren't needed, there are no bounds
pub no_bounds : (columns : List Column) (keys : List KeyDef) (m : MainSpec) → needs_parts m ≡ false → AreBoundsOf (by_of columns keys m) []
no_bounds columns keys (main.Range expr) needs = absurd (cc)
no_bounds columns keys (main.List expr) needs = absurd (cc)
no_bounds columns keys (main.RangeColumns names) needs = absurd (cc)
no_bounds columns keys (main.ListColumns names) needs = absurd (cc)
no_bounds columns keys (main.Hash h) needs = hash_bounds columns (columns_for_rows columns keys) h

pub hash_subs : (columns : List Column) (h : HashSpec) (names : List (List ℕ)) → IsCounted names → AreSubsOf (by_hash columns [] h) names
hash_subs columns (hash.Hash linear expr) names few = few
hash_subs columns (hash.Key linear []) names few = few
hash_subs columns (hash.Key linear (name ∷ names)) subs few = few

pub names_counted : (name : List ℕ) (count : ℕ) → length (sub_names name count) ≡ count
names_counted name count = length-map-range_with_len (λ i. name ++ codes "sp" ++ decimal i) 0 count

pub subs_storable : (columns : List Column) (o : Option SubSpec) (count : ℕ) (name : List ℕ) (written : Option (List (List ℕ))) → count ≤ 8192 → IfSome written (HasAtLeast 1) → AreSubsOf (sub_of columns o) (subs_named o count name written)
subs_storable columns None count name written few so = refl
subs_storable columns (Some sub) count name (Some names) few so = hash_subs columns sub.hash names so.1
subs_storable columns (Some sub) count name None few so = hash_subs columns sub.hash (subs_named (Some sub) count name None) (omega (arith, few, names_counted name count))

module _ (table : List ℕ) (columns : List Column) (kind : PartBy) (o : Option SubSpec) (count : ℕ) (few : count ≤ 8192) where
  abbrev IsSoPart : PartDef → Type 0
  IsSoPart = IsStorablePartDef kind (sub_of columns o)

  written_storable : (items : List PartItem) → is_whole kind ≡ false → All IsLimited (map (λ (column : Column). column.kind) columns) → All IsStorablePart items
      → first_in (bad_written_values table (kinds_of columns kind) kind) items ≡ None → All IsSoPart (map (part_in (kinds_of columns kind) kind o count) items)
  written_storable [] some limited so none = All-nil IsSoPart
  written_storable (item ∷ items) some limited so none =
      let here = All-head IsStorablePart item items so in
      All-cons IsSoPart (part_in (kinds_of columns kind) kind o count item) (map (part_in (kinds_of columns kind) kind o count) items) (record {
        bounds = bounds_storable table columns item.name limited kind item.values some here.values (none_first _ _ none);
        subs = subs_storable columns o count item.name item.subs few here.subs;
      }) (written_storable items some limited (All-tail IsStorablePart item items so) (none_next _ _ none))

  unwritten_storable : AreBoundsOf kind [] → (ns : List ℕ) → All IsSoPart (map (part_made o count) ns)
  unwritten_storable bounds [] = All-nil IsSoPart
  unwritten_storable bounds (n ∷ ns) =
      All-cons IsSoPart (part_made o count n) (map (part_made o count) ns) (record { bounds = bounds; subs = subs_storable columns o count (part_made o count n).name None few tt }) (unwritten_storable bounds ns)

  all_storable : (keys : List KeyDef) (m : MainSpec) (parts : Option (List PartItem)) (made : ℕ) → kind ≡ by_of columns keys m → All IsLimited (map (λ (column : Column). column.kind) columns)
      → (needs_parts m && is_none parts) ≡ false → IfSome parts AreStorableParts → made ≤ 8192
      → first_in (bad_written_values table (kinds_of columns kind) kind) (option_map_or (λ (own : List PartItem). own) parts []) ≡ None
      → (all : List PartDef) → all ≡ option_map_or (λ own. map (part_in (kinds_of columns kind) kind o count) own) parts (map (part_made o count) (range_with_len 0 made)) → IsCounted all × All IsSoPart all
  all_storable keys m (Some items) made is limited needs so few_made none all same =
      rw same (
        omega (arith, so.0.1, length-map items (part_in (kinds_of columns kind) kind o count)),
        written_storable items (ap is_whole is ∙ by_whole columns keys m) limited so.1 none,
      )
  all_storable keys m None made is limited needs so few_made none all same =
      rw same (
        omega (arith, few_made, length-map-range_with_len (part_made o count) 0 made),
        unwritten_storable (subst (λ (own : PartBy). AreBoundsOf own []) (sym is) (no_bounds columns keys m (and_true (needs_parts m) needs))) (range_with_len 0 made),
      )

-- ---- checks of which none refuses

pub some_of_seven : (a b c d e f g : Option Refusal) → first_of (a ∷ b ∷ c ∷ d ∷ e ∷ f ∷ g ∷ []) ≡ None → (d ≡ None) × (e ≡ None) × (g ≡ None)
some_of_seven a b c d e f g none =
    let later = none_next c _ (none_next b _ (none_next a _ none)) in
    let last = none_next f _ (none_next e _ (none_next d _ later)) in
    (none_first d _ later, none_first e _ (none_next d _ later), none_first g _ last)

pub fourth_of_six : (a b c d e f : Option Refusal) → first_of (a ∷ b ∷ c ∷ d ∷ e ∷ f ∷ []) ≡ None → d ≡ None
fourth_of_six a b c d e f none = none_first d _ (none_next c _ (none_next b _ (none_next a _ none)))

pub each_of_three : (a b c : Option Refusal) → first_of (a ∷ b ∷ c ∷ []) ≡ None → (a ≡ None) × (b ≡ None) × (c ≡ None)
each_of_three a b c none = (none_first a _ none, none_first b _ (none_next a _ none), none_first c _ (none_next b _ (none_next a _ none)))

-- ---- columns, keys, and what a table is partitioned by

module _ (table : List ℕ) (columns : List Column) (keys : List KeyDef) where
  -- the columns and keys of a table are storable
  pub record AreSound : Type 0 where
    pub some : HasAtLeast 1 columns
    pub most : length columns ≤ 1_000_000
    pub each_column : All IsStorableColumn columns
    pub limited : All IsLimited (map (λ (column : Column). column.kind) columns)
    pub few : IsCounted keys
    pub each_key : All (IsStorableKey (length columns)) keys

  spec_passed : (spec : PartSpec) → bad_spec table columns keys spec ≡ None
      → (bad_main table columns spec.main ≡ None) × (bad_sub table columns spec.sub ≡ None) × (bad_parts table columns (by_of columns keys spec.main) spec ≡ None)
  unfolding bad_spec
  spec_passed spec none =
      let kind = by_of columns keys spec.main in
      let sub = sub_of columns spec.sub in
      some_of_seven (sub_of_number table kind sub) (key_of_none kind) (key_of_none sub) (bad_main table columns spec.main) (bad_sub table columns spec.sub) (lacking_key columns keys kind sub) (bad_parts table columns kind spec) none

  pub spec_storable : (spec : PartSpec) → AreSound → IsStorablePartSpec spec → bad_spec table columns keys spec ≡ None → IsStorableDef (partitioned columns keys (Some spec))
  spec_storable spec sound so none =
      let passed = spec_passed spec none in
      let of_parts : bad_parts table columns (by_of columns keys spec.main) spec ≡ None = passed.2 in
      let valued : first_in (bad_written_values table (kinds_of columns (by_of columns keys spec.main)) (by_of columns keys spec.main)) (defined spec) ≡ None =
      fourth_of_six (refused_if (is_without_written spec) (refusal.NoPartitions table)) (too_many (part_count spec * sub_count spec)) (first_in (other_written_subs spec) (defined spec))
      (first_in (bad_written_values table (kinds_of columns (by_of columns keys spec.main)) (by_of columns keys spec.main)) (defined spec))
      (bad_bounds (by_of columns keys spec.main) (parts_of (kinds_of columns (by_of columns keys spec.main)) (by_of columns keys spec.main) spec))
      (bad_names (parts_of (kinds_of columns (by_of columns keys spec.main)) (by_of columns keys spec.main) spec)) of_parts in
      let without : is_without_written spec ≡ false = passes _ _ (none_first _ _ of_parts) in
      let few : part_count spec * sub_count spec ≤ 8192 = few_told (part_count spec * sub_count spec) (passes _ _ (none_first _ _ (none_next _ _ of_parts))) in
      let some_parts : 0 < part_count spec = not_zero (part_count spec) (first_false _ _ (first_false _ _ (first_false _ _ without))) in
      let some_subs : 0 < sub_count spec = not_zero (sub_count spec) (second_false _ _ (first_false _ _ (first_false _ _ without))) in
      let few_parts : part_count spec ≤ 8192 = omega (arith, few, least (part_count spec) (sub_count spec) some_subs) in
      let few_subs : sub_count spec ≤ 8192 = omega (arith, few, least_right (part_count spec) (sub_count spec) some_parts) in
      let kind = by_of columns keys spec.main in
      let both =
      all_storable table columns kind spec.sub (sub_count spec) few_subs keys spec.main spec.parts (part_count spec) refl sound.limited (second_false _ _ (first_false _ _ without)) so.parts few_parts
      valued (parts_of (kinds_of columns kind) kind spec) refl in
      record {
        some = sound.some;
        most = sound.most;
        columns = sound.each_column;
        few = sound.few;
        keys = sound.each_key;
        by = by_storable table columns keys spec.main sound.each_key so.main passed.0;
        sub = sub_storable table columns spec.sub so.sub passed.1;
        alone = never_alone kind (sub_of columns spec.sub) (parts_of (kinds_of columns kind) kind spec) (by_whole columns keys spec.main);
        counted = both.0;
        parts = both.1;
      }

  pub if_storable : (spec : Option PartSpec) → AreSound → IfSome spec IsStorablePartSpec → bad_spec_if table columns keys spec ≡ None → IsStorableDef (partitioned columns keys spec)
  if_storable (Some spec) sound so none = spec_storable spec sound so none
  if_storable None sound so none = record {
    some = sound.some;
    most = sound.most;
    columns = sound.each_column;
    few = sound.few;
    keys = sound.each_key;
    by = tt;
    sub = (tt, tt);
    alone = (refl, refl);
    counted = omega arith;
    parts = All-nil (IsStorablePartDef by.Whole by.Whole);
  }

-- ---- a text has a column

pub some_columns : (primary : List (List ℕ)) (items : List Item) → HasAtLeast 1 items → All IsStorableItem items → in_turn_from (bad_written_key (filter_map (column_in primary) items)) [] (keys_written items) ≡ None
    → 0 < length (filter_map (column_in primary) items)
some_columns primary [] some so none = absurd (omega (arith, some.0))
some_columns primary (text.Column name written options ∷ items) some so none = omega arith
some_columns primary (text.Key rank name columns ∷ items) some so none = by (filter_map (column_in primary) items) none
  where
    by : (cs : List Column) → in_turn_from (bad_written_key cs) [] (keys_written (text.Key rank name columns ∷ items)) ≡ None → 0 < length cs
    by [] e = absurd (keyless [] (keys_written (text.Key rank name columns ∷ items)) (omega arith) (keys_some (text.Key rank name columns ∷ items) so) e)
    by (c ∷ cs) e = omega arith

-- ---- the whole

pub text_passed : (table : List ℕ) (spec : TableSpec) → written_refusal table spec ≡ None
    → (in_turn (bad_item (primary_names spec.items)) spec.items ≡ None) × (in_turn (bad_written_key (columns_of spec.items)) (keys_written spec.items) ≡ None)
    × (bad_spec_if table (columns_of spec.items) (keys_of (columns_of spec.items) spec.items) spec.by ≡ None)
unfolding written_refusal
text_passed table spec none =
    each_of_three (in_turn (bad_item (primary_names spec.items)) spec.items) (in_turn (bad_written_key (columns_of spec.items)) (keys_written spec.items))
    (bad_spec_if table (columns_of spec.items) (keys_of (columns_of spec.items) spec.items) spec.by) none

pub definition_storable : (table : List ℕ) (spec : TableSpec) → IsStorableSpec spec → written_refusal table spec ≡ None → IsCounted (definition_of spec).keys → IsStorableDef (definition_of spec)
unfolding definition_of
definition_storable table spec so none few =
    let passed = text_passed table spec none in
    let counted = length_columns (primary_names spec.items) spec.items in
    let some = some_columns (primary_names spec.items) spec.items so.some so.items passed.1 in
    if_storable table (columns_of spec.items) (keys_of (columns_of spec.items) spec.items) spec.by (record {
      some = (omega (arith, some), omega (arith, so.columns, counted));
      most = omega (arith, so.columns, counted);
      each_column = columns_storable (primary_names spec.items) [] spec.items passed.0;
      limited = columns_limited (primary_names spec.items) [] spec.items passed.0;
      few = keys_few spec.by few;
      each_key = keys_storable (columns_of spec.items) [] (keys_written spec.items) passed.1 (keys_some spec.items so.items);
    }) so.by passed.2
  where
    keys_few : (own : Option PartSpec) → IsCounted (partitioned (columns_of spec.items) (keys_of (columns_of spec.items) spec.items) own).keys → IsCounted (keys_of (columns_of spec.items) spec.items)
    keys_few (Some own) few = few
    keys_few None few = few

-- what is made of a text is storable, where its keys are counted
pub made_storable : (table : List ℕ) (spec : TableSpec) (def : TableDef) → IsStorableSpec spec → Ok def ≡ complete_of table spec → IsCounted def.keys → IsStorableDef def
made_storable table spec def so is few =
    let both = made_ok (written_refusal table spec) (definition_of spec) def is in
    subst IsStorableDef (sym both.1) (definition_storable table spec so both.0 (subst (λ (own : TableDef). IsCounted own.keys) both.1 few))

pub answer_storable : (table : List ℕ) (spec : TableSpec) (own : Result TableDef Refusal) (def : TableDef) → IsStorableSpec spec → own ≡ Ok def → own ≡ complete_of table spec → IfOk own (λ (d : TableDef). IsCounted d.keys) → IsStorableDef def
answer_storable table spec own def so is made few = made_storable table spec def so (sym is ∙ made) (ok_then own def (λ (d : TableDef). IsCounted d.keys) is few)

-- the answer of a call that makes a table of these keys
pub few_after : (answer : Result (Result TableDef Refusal) AllocError) (check : Option Refusal) (def : TableDef) → IfOk answer (λ made. made ≡ refused_or check def) → IsCounted def.keys
    → IfOk answer (λ made. IfOk made (λ own. IsCounted own.keys))
few_after (Ok (Ok own)) check def is few = let both = made_ok check def own is in subst (λ (d : TableDef). IsCounted d.keys) (sym both.1) few
few_after (Ok (Err refusal)) check def is few = tt
few_after (Err error) check def is few = tt
