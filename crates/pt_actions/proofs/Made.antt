-- What the answers of the actions are known to be.
use Rattle.std.proofs.Common.{◌≡◌, ℕ, ◌-◌, ◌<◌, Bool, true, false, cond, not, ◌&&◌, nat_le, List, [], ◌∷◌, ◌++◌, map, filter, length, take, Option, Some, None, refl, sym, subst, arith, length-take-le}
use Rattle.std.specs.Prelude.{Result, Ok, Err, IfOk, ◌==◌}
use Rattle.std.specs.List.{All, list_all}
use Rattle.std.proofs.lemmas.List.Elements.{All-cons, All-nil}
use Rattle.pt_ast.specs.declared.refusal.Refusal.{Refusal}
use Rattle.pt_ast.specs.declared.refusal.Refusal.TheVariants as refusal
use Rattle.pt_ast.specs.declared.table.Column.{Column}
use Rattle.pt_ast.specs.declared.table.KeyDef.{KeyDef}
use Rattle.pt_ast.specs.declared.table.PartDef.{PartDef}
use Rattle.pt_ast.specs.declared.table.TableDef.{TableDef}
use Rattle.pt_ast.specs.declared.written.PartSpec.{PartSpec}
use Rattle.pt_ast.specs.StorableDef.{IsStorableDef}
use Rattle.pt_ast.specs.StorableSpec.{IsStorablePartSpec}
use Rattle.pt_place.specs.First.{first_in, in_turn, in_turn_from, refused_if}
use Rattle.pt_place.specs.Valid.{IsValid, bad_column, bad_items, bad_key, bad_kinds, bad_parts}
use Rattle.pt_place.proofs.Firsts.{none_first, none_next, passes}
use Rattle.pt_written.specs.Complete.{bad_spec, partitioned, refused_or}
use Rattle.pt_complete.proofs.Naming.{made_ok}
use Rattle.pt_complete.proofs.Storable.{spec_storable}
use Rattle.pt_complete.proofs.Kept.{first_false}
use Rattle.pt_complete.proofs.StorableColumns.{IsLimited}
use Rattle.pt_complete.proofs.Valid.{spec_valid, three_none, whole_valid}
use Rattle.pt_actions.specs.Named.{by_a_number, by_ranges_or_lists, no_part, not_partitioned, with_parts}
use Rattle.pt_actions.specs.Dropped.{bad_dropped, is_named_in, parts_left}
use Rattle.pt_actions.specs.Counted.{bad_fewer, parts_fewer}
use Rattle.pt_actions.proofs.Fewer.{fewer_storable, fewer_valid}
use Rattle.pt_actions.proofs.Within.{filter_within, take_within}

-- what is made where nothing is refused has a property
pub made_has : (P : TableDef → Type 0) (made : Result TableDef Refusal) (check : Option Refusal) (x : TableDef) → made ≡ refused_or check x → (check ≡ None → P x) → IfOk made P
made_has P (Ok y) check x is so = let both = made_ok check x y is in subst P (sym both.1) (so both.0)
made_has P (Err refusal) check x is so = tt

-- ---- DROP PARTITION

some_left : (test : PartDef → Bool) (parts : List PartDef) → list_all test parts ≡ false → 0 < length (filter (λ part. not (test part)) parts)
some_left test [] none = let bad : true ≡ false = none in cc
some_left test (part ∷ parts) none = by (test part) none (some_left test parts)
  where
    by : (t : Bool) → (t && list_all test parts) ≡ false → (list_all test parts ≡ false → 0 < length (filter (λ part. not (test part)) parts))
        → 0 < length (cond (not t) (part ∷ filter (λ part. not (test part)) parts) (filter (λ part. not (test part)) parts))
    by true e more = more e
    by false e more = omega arith

module _ (table : List ℕ) (names : List (List ℕ)) (def : TableDef) (none : bad_dropped table names def ≡ None) where
  left_some : 0 < length (parts_left names def.parts)
  left_some =
      let behind = none_next (not_partitioned table def.by) _ none in
      let named = none_next (by_a_number table def.by) _ behind in
      let last = none_next (first_in (no_part def.parts) names) _ named in
      some_left (is_named_in names) def.parts (passes (list_all (is_named_in names) def.parts) (refusal.DropAll table) (none_first (refused_if (list_all (is_named_in names) def.parts) (refusal.DropAll table)) None last))

  pub dropped_storable : IsStorableDef def → IsStorableDef (with_parts def (parts_left names def.parts))
  dropped_storable = fewer_storable def (parts_left names def.parts) (filter_within (λ (part : PartDef). not (is_named_in names part)) def.parts) left_some

  pub dropped_valid : IsValid def → IsValid (with_parts def (parts_left names def.parts))
  dropped_valid = fewer_valid def (parts_left names def.parts) (filter_within (λ (part : PartDef). not (is_named_in names part)) def.parts) left_some

-- ---- COALESCE PARTITION

module _ (table : List ℕ) (fewer : ℕ) (def : TableDef) (none : bad_fewer table fewer def ≡ None) where
  first_some : 0 < length (parts_fewer fewer def.parts)
  first_some =
      let behind = none_next (not_partitioned table def.by) _ none in
      let counted = none_next (by_ranges_or_lists table def.by) _ behind in
      let last = none_next (refused_if (fewer == 0) (refusal.CoalesceZero table)) _ counted in
      let more : nat_le (length def.parts) fewer ≡ false = passes (nat_le (length def.parts) fewer) (refusal.DropAll table) (none_first (refused_if (nat_le (length def.parts) fewer) (refusal.DropAll table)) None last) in
      let less : fewer < length def.parts = grind (arith, more) in
      let long : length (take (length def.parts - fewer) def.parts) ≡ length def.parts - fewer = length-take-le (length def.parts - fewer) def.parts (omega arith) in
      omega (arith, less, long)

  pub coalesced_storable : IsStorableDef def → IsStorableDef (with_parts def (parts_fewer fewer def.parts))
  coalesced_storable = fewer_storable def (parts_fewer fewer def.parts) (take_within (length def.parts - fewer) def.parts) first_some

  pub coalesced_valid : IsValid def → IsValid (with_parts def (parts_fewer fewer def.parts))
  coalesced_valid = fewer_valid def (parts_fewer fewer def.parts) (take_within (length def.parts - fewer) def.parts) first_some

-- ---- REMOVE PARTITIONING and PARTITION BY

-- no VARBINARY of a valid table is longer than it may be
limited_from : (keys : List KeyDef) (before columns : List Column) → in_turn_from (bad_column keys) before columns ≡ None → All IsLimited (map (λ (column : Column). column.kind) columns)
limited_from keys before [] none = All-nil IsLimited
limited_from keys before (column ∷ columns) none =
    All-cons IsLimited column.kind (map (λ (own : Column). own.kind) columns)
    (first_false _ _ (passes _ _ (none_first _ _ (none_next _ _ (none_first _ _ none)))))
    (limited_from keys (before ++ column ∷ []) columns (none_next _ _ none))

module _ (def : TableDef) (valid : IsValid def) where
  items : (in_turn (bad_column def.keys) def.columns ≡ None) × (in_turn (bad_key def.columns) def.keys ≡ None)
  items =
      let whole = three_none (bad_items def) (bad_kinds valid.0 def) (bad_parts valid.0 def) valid.1 in
      (none_first (in_turn (bad_column def.keys) def.columns) _ whole.0, none_first (in_turn (bad_key def.columns) def.keys) None (none_next (in_turn (bad_column def.keys) def.columns) _ whole.0))

  pub unpartitioned_valid : IsValid (partitioned def.columns def.keys None)
  unpartitioned_valid = (valid.0, whole_valid valid.0 def.columns def.keys items.0 items.1 None tt refl)

  module _ (table : List ℕ) (spec : PartSpec) (so : IsStorablePartSpec spec) (none : bad_spec table def.columns def.keys spec ≡ None) where
    pub repartitioned_valid : IsValid (partitioned def.columns def.keys (Some spec))
    repartitioned_valid = (table, spec_valid table def.columns def.keys items.0 items.1 spec so none)

    pub repartitioned_storable : IsStorableDef def → IsStorableDef (partitioned def.columns def.keys (Some spec))
    repartitioned_storable s =
        spec_storable table def.columns def.keys spec (record {
          some = s.some;
          most = s.most;
          each_column = s.columns;
          limited = limited_from def.keys [] def.columns items.0;
          few = s.few;
          each_key = s.keys;
        }) so none
