-- What each action keeps of a table is sound by the definition that it makes.
use Rattle.std.proofs.Common.{◌≡◌, ℕ, zero, suc, ◌+◌, ◌<◌, Bool, true, false, not, cond, List, [], ◌∷◌, ◌++◌, length, map, take, drop, get_or, Option, Some, None, IsSome, inl, inr, refl, sym, ◌∙◌, ap, subst, arith, take-append-drop}
use Rattle.std.specs.Prelude.{Ok}
use Rattle.std.specs.List.{All, Contains, filter, position_or_len, prefix_len}
use Rattle.std.proofs.lemmas.Bool.{true≢false}
use Rattle.std.proofs.lemmas.List.Elements.{All-contains, All-filter, All-cons, All-nil, Contains-append_cases, Contains-append_left, Contains-append_right, Contains-get_or}
use Rattle.pt_value.specs.declared.value.Value.{Value}
use Rattle.pt_ast.specs.declared.database.Db.{Db}
use Rattle.pt_ast.specs.declared.database.Row.{Row}
use Rattle.pt_ast.specs.declared.database.Spot.{Spot}
use Rattle.pt_ast.specs.declared.database.Table.{Table}
use Rattle.pt_ast.specs.declared.table.Column.{Column}
use Rattle.pt_ast.specs.declared.table.PartBy.{PartBy}
use Rattle.pt_ast.specs.declared.table.PartBy.TheVariants as by
use Rattle.pt_ast.specs.declared.table.PartDef.{PartDef}
use Rattle.pt_ast.specs.declared.table.TableDef.{TableDef}
use Rattle.pt_ast.specs.StorableDef.{IsStorableDef}
use Rattle.pt_ast.specs.declared.written.PartItem.{PartItem}
use Rattle.pt_ast.specs.declared.written.PartSpec.{PartSpec}
use Rattle.pt_expr.specs.Columns.{AreFitting}
use Rattle.pt_place.specs.Checks.{is_by_number, name_twice, part_names}
use Rattle.pt_place.specs.First.{first_of, in_turn}
use Rattle.pt_place.specs.Place.{part_of, place_of}
use Rattle.pt_place.specs.Valid.{IsValid}
use Rattle.pt_checks.specs.Wanted.{is_in_parts}
use Rattle.pt_db.specs.Lookup.{table_of}
use Rattle.pt_db.specs.Sound.{IsSound, IsSoundTable}
use Rattle.pt_db.proofs.Sounds.{sound_table}
use Rattle.pt_place.proofs.Firsts.{none_first, none_next}
use Rattle.pt_written.specs.Complete.{bad_spec, partitioned}
use Rattle.pt_complete.proofs.Naming.{made_ok}
use Rattle.pt_actions.specs.Named.{by_ranges_or_lists, not_partitioned, with_parts}
use Rattle.pt_actions.specs.Dropped.{bad_dropped, bad_truncated, dropped_of, is_named_in, parts_left}
use Rattle.pt_actions.specs.Counted.{bad_count, bad_fewer, bad_more, coalesced_of, parts_fewer, parts_more, with_more_of}
use Rattle.pt_actions.specs.Repartitioned.{repartitioned_of, unpartitioned_of}
use Rattle.pt_actions.proofs.More.{by_number}
use Rattle.pt_regrouped.specs.NewParts.{new_part, parts_among, with_parts as grown}
use Rattle.pt_regrouped.specs.Regrouped.{add_refusal, added_of, behind_of, front_of, is_named, regroup_refusal, regrouped_of}
use Rattle.pt_altered.specs.Actions.{truncated_of}
use Rattle.pt_altered.specs.Altered.{rows_in, rows_out, unplaced}
use Rattle.pt_altered.specs.Kept.{IsKeptOf}
use Rattle.pt_altered.proofs.Parts.{kept_there, part_out, unplaced_none}
use Rattle.pt_altered.proofs.Sound.{all_kept, some_kept, table_fits}
use Rattle.pt_altered.proofs.Stays.{numbered_placed, stays_placed}

-- ---- rows of which each has a property

module _ {X : Type 0} (keep : X → Bool) (P : X → Type 0) where
  pub filtered_all : (xs : List X) → ((k : ℕ) (d : X) → k < length xs → keep (get_or xs k d) ≡ true → P (get_or xs k d)) → All P (filter keep xs)
  filtered_all [] each = All-nil P
  filtered_all (x ∷ xs) each = by (keep x) refl (filtered_all xs (λ k d within is. each (suc k) d (omega (arith, within)) is))
    where
      by : (t : Bool) → keep x ≡ t → All P (filter keep xs) → All P (cond t (x ∷ filter keep xs) (filter keep xs))
      by true is rest = All-cons P x (filter keep xs) (each zero x (omega arith) is) rest
      by false is rest = rest

not_true : (b : Bool) → not b ≡ true → b ≡ false
not_true true e = let bad : false ≡ true = e in cc
not_true false e = refl

-- those in a row that pass
group_passes : {X : Type 0} (p : X → Bool) (xs : List X) → All (λ x. p x ≡ true) (take (prefix_len p xs) xs)
group_passes p [] = All-nil (λ x. p x ≡ true)
group_passes p (x ∷ xs) = by (p x) refl (group_passes p xs)
  where
    by : (t : Bool) → p x ≡ t → All (λ y. p y ≡ true) (take (prefix_len p xs) xs) → All (λ y. p y ≡ true) (take (cond t (1 + prefix_len p xs) 0) (x ∷ xs))
    by true is rest = let e : suc (prefix_len p xs) ≡ 1 + prefix_len p xs = omega arith in subst (λ k. All (λ y. p y ≡ true) (take k (x ∷ xs))) e (All-cons (λ y. p y ≡ true) x (take (prefix_len p xs) xs) is rest)
    by false is rest = All-nil (λ y. p y ≡ true)

-- what doesn't pass stands before the first that does, or behind those in a row that do
stays_beside : {X : Type 0} (p : X → Bool) (xs new : List X) (i : ℕ) (d : X) → i < length xs → p (get_or xs i d) ≡ false
    → Contains ((take (position_or_len p xs) xs ++ new) ++ drop (prefix_len p (drop (position_or_len p xs) xs)) (drop (position_or_len p xs) xs)) (get_or xs i d)
stays_beside {X} p xs new i d within out =
    elim (Contains-append_cases front rest x (subst (λ (ys : List X). Contains ys x) (sym (take-append-drop (position_or_len p xs) xs)) (Contains-get_or xs i d within))) [
      | inl before ↦ Contains-append_left (front ++ new) behind x (Contains-append_left front new x before)
      | inr later ↦ elim (Contains-append_cases group behind x (subst (λ (ys : List X). Contains ys x) (sym (take-append-drop (prefix_len p rest) rest)) later)) [
        | inl inside ↦ absurd (true≢false (sym (All-contains (λ y. p y ≡ true) group x (group_passes p rest) inside) ∙ out))
        | inr after ↦ Contains-append_right (front ++ new) behind x after
      ]
    ]
  where
    x : X
    x = get_or xs i d

    front : List X
    front = take (position_or_len p xs) xs

    rest : List X
    rest = drop (position_or_len p xs) xs

    group : List X
    group = take (prefix_len p rest) rest

    behind : List X
    behind = drop (prefix_len p rest) rest

-- ---- by HASH and KEY, and without partitions

-- a partition takes each row
takes : (kind : PartBy) (columns : List Column) (parts : List PartDef) (cells : List Value) → is_by_number kind ≡ true → IsSome (part_of columns kind parts cells)
takes by.Whole columns parts cells is = refl
takes (by.Range expr) columns parts cells is = let bad : false ≡ true = is in cc
takes (by.List expr) columns parts cells is = let bad : false ≡ true = is in cc
takes (by.RangeColumns numbers) columns parts cells is = let bad : false ≡ true = is in cc
takes (by.ListColumns numbers) columns parts cells is = let bad : false ≡ true = is in cc
takes (by.Hash linear expr) columns parts cells is = refl
takes (by.Key linear numbers) columns parts cells is = refl

number_placed : (later : TableDef) → is_by_number later.by ≡ true → (rows : List Row) → All (λ (row : Row). IsSome (place_of later row.cells)) rows
number_placed later is rows k d within = numbered_placed later later (get_or rows k d).cells later.by refl (takes later.by later.columns later.parts (get_or rows k d).cells is)

whole_placed : (later : TableDef) → later.by ≡ by.Whole → (rows : List Row) → All (λ (row : Row). IsSome (place_of later row.cells)) rows
whole_placed later is rows k d within = numbered_placed later later (get_or rows k d).cells by.Whole is refl

-- ---- partitions that stay

-- a row whose partition is among the later ones keeps a place
row_placed : (def later : TableDef) (row : Row) → later.columns ≡ def.columns → later.by ≡ def.by → IsSome (place_of def row.cells)
    → ((spot : Spot) (d : PartDef) → place_of def row.cells ≡ Some spot → spot.part < length def.parts → Contains later.parts (get_or def.parts spot.part d)) → IsSome (place_of later row.cells)
row_placed def later row same_columns same_by some there = by (place_of def row.cells) refl some
  where
    by : (o : Option Spot) → place_of def row.cells ≡ o → IsSome o → IsSome (place_of later row.cells)
    by (Some spot) is some = stays_placed def later row.cells spot same_columns same_by is (λ d within. there spot d is within)
    by None is none = let bad : false ≡ true = none in cc

-- ---- each action

module _ (db : Db) (name : List ℕ) (table : Table) (sound : IsSound db) (at : table_of db name ≡ Some table) where
  before : IsSoundTable db.next table
  before = sound_table db sound name table at

  -- TRUNCATE PARTITION
  pub truncated_kept : (later : TableDef) (parts : Option (List (List ℕ))) → Ok later ≡ truncated_of name parts table.def → IsKeptOf db name later (rows_out parts table.def table.rows)
  truncated_kept later parts is =
      let same = (made_ok (bad_truncated name parts table.def) table.def later is).1 in
      some_kept db name table sound at later (subst IsStorableDef (sym same) before.storable) (subst IsValid (sym same) before.valid) (ap (λ (def : TableDef). def.columns) same) (ap (λ (def : TableDef). def.keys) same)
      (λ (row : Row). not (is_in_parts table.def parts row.cells))
      (filtered_all (λ (row : Row). not (is_in_parts table.def parts row.cells)) (λ (row : Row). IsSome (place_of later row.cells)) table.rows
      (λ k d within out. subst (λ (def : TableDef). IsSome (place_of def (get_or table.rows k d).cells)) (sym same) (before.rows.each k d within).placed))

  module _ (later : TableDef) (storable : IsStorableDef later) (valid : IsValid later) where
    -- DROP PARTITION
    pub dropped_kept : (names : List (List ℕ)) → Ok later ≡ dropped_of name names table.def → IsKeptOf db name later (rows_out (Some names) table.def table.rows)
    dropped_kept names is =
        let same = (made_ok (bad_dropped name names table.def) (with_parts table.def (parts_left names table.def.parts)) later is).1 in
        some_kept db name table sound at later storable valid (ap (λ (def : TableDef). def.columns) same) (ap (λ (def : TableDef). def.keys) same)
        (λ (row : Row). not (is_in_parts table.def (Some names) row.cells))
        (filtered_all (λ (row : Row). not (is_in_parts table.def (Some names) row.cells)) (λ (row : Row). IsSome (place_of later row.cells)) table.rows
        (λ k d within out.
        let row = get_or table.rows k d in
        row_placed table.def later row (ap (λ (def : TableDef). def.columns) same) (ap (λ (def : TableDef). def.by) same) (before.rows.each k d within).placed
        (λ spot p placed inside.
        subst (λ (def : TableDef). Contains def.parts (get_or table.def.parts spot.part p)) (sym same)
        (kept_there (λ (part : PartDef). not (is_named_in names part)) table.def.parts spot.part p inside
        (ap (λ b. not b) (part_out table.def names row.cells spot placed (not_true (is_in_parts table.def (Some names) row.cells) out) p inside))))))

    -- ADD PARTITION PARTITIONS
    pub more_kept : (more : ℕ) → Ok later ≡ with_more_of name more table.def → IsKeptOf db name later table.rows
    more_kept more is =
        let made = made_ok (bad_more name more table.def) (with_parts table.def (parts_more more table.def.parts)) later is in
        let counted = none_first (bad_count name more table.def) (first_of (in_turn name_twice (part_names (parts_more more table.def.parts)) ∷ [])) made.0 in
        let behind = none_next (not_partitioned name table.def.by) _ counted in
        let kind : is_by_number table.def.by ≡ true = by_number name table.def.by (none_first (not_partitioned name table.def.by) _ counted) (none_first (by_ranges_or_lists name table.def.by) _ behind) in
        all_kept db name table sound at later storable valid (ap (λ (def : TableDef). def.columns) made.1) (ap (λ (def : TableDef). def.keys) made.1)
        (number_placed later (ap (λ (def : TableDef). is_by_number def.by) made.1 ∙ kind) table.rows)

    -- COALESCE PARTITION
    pub coalesced_kept : (fewer : ℕ) → Ok later ≡ coalesced_of name fewer table.def → IsKeptOf db name later table.rows
    coalesced_kept fewer is =
        let made = made_ok (bad_fewer name fewer table.def) (with_parts table.def (parts_fewer fewer table.def.parts)) later is in
        let behind = none_next (not_partitioned name table.def.by) _ made.0 in
        let kind : is_by_number table.def.by ≡ true = by_number name table.def.by (none_first (not_partitioned name table.def.by) _ made.0) (none_first (by_ranges_or_lists name table.def.by) _ behind) in
        all_kept db name table sound at later storable valid (ap (λ (def : TableDef). def.columns) made.1) (ap (λ (def : TableDef). def.keys) made.1)
        (number_placed later (ap (λ (def : TableDef). is_by_number def.by) made.1 ∙ kind) table.rows)

    -- REMOVE PARTITIONING
    pub unpartitioned_kept : Ok later ≡ unpartitioned_of name table.def → IsKeptOf db name later table.rows
    unpartitioned_kept is =
        let same = (made_ok (not_partitioned name table.def.by) (partitioned table.def.columns table.def.keys None) later is).1 in
        all_kept db name table sound at later storable valid (ap (λ (def : TableDef). def.columns) same) (ap (λ (def : TableDef). def.keys) same) (whole_placed later (ap (λ (def : TableDef). def.by) same) table.rows)

    -- PARTITION BY
    pub repartitioned_kept : (spec : PartSpec) → Ok later ≡ repartitioned_of name spec table.def → unplaced later table.rows ≡ None → IsKeptOf db name later table.rows
    repartitioned_kept spec is none =
        let same = (made_ok (bad_spec name table.def.columns table.def.keys spec) (partitioned table.def.columns table.def.keys (Some spec)) later is).1 in
        all_kept db name table sound at later storable valid (ap (λ (def : TableDef). def.columns) same) (ap (λ (def : TableDef). def.keys) same) (unplaced_none 1 later table.rows none)

    pub repartitioned_fits : (spec : PartSpec) → Ok later ≡ repartitioned_of name spec table.def → All (λ (row : Row). AreFitting later.columns row.cells) table.rows
    repartitioned_fits spec is =
        let same = (made_ok (bad_spec name table.def.columns table.def.keys spec) (partitioned table.def.columns table.def.keys (Some spec)) later is).1 in
        subst (λ (def : TableDef). All (λ (row : Row). AreFitting def.columns row.cells) table.rows) (sym same) (table_fits db name table sound at)

    -- ADD PARTITION
    pub added_kept : (items : List PartItem) → Ok later ≡ added_of name items table.def → IsKeptOf db name later table.rows
    added_kept items is =
        let same = (made_ok (add_refusal name items table.def) (grown table.def (parts_among table.def table.def.parts items [])) later is).1 in
        all_kept db name table sound at later storable valid (ap (λ (def : TableDef). def.columns) same) (ap (λ (def : TableDef). def.keys) same)
        (λ k d within.
        let row = get_or table.rows k d in
        row_placed table.def later row (ap (λ (def : TableDef). def.columns) same) (ap (λ (def : TableDef). def.by) same) (before.rows.each k d within).placed
        (λ spot p placed inside.
        subst (λ (def : TableDef). Contains def.parts (get_or table.def.parts spot.part p)) (sym same)
        (Contains-append_left (table.def.parts ++ map (new_part table.def) items) [] (get_or table.def.parts spot.part p)
        (Contains-append_left table.def.parts (map (new_part table.def) items) (get_or table.def.parts spot.part p) (Contains-get_or table.def.parts spot.part p inside)))))

    -- REORGANIZE PARTITION
    pub regrouped_fits : (names : List (List ℕ)) (items : List PartItem) → Ok later ≡ regrouped_of name names items table.def → All (λ (row : Row). AreFitting later.columns row.cells) (rows_in (Some names) table.def table.rows)
    regrouped_fits names items is =
        let same = (made_ok (regroup_refusal name names items table.def) (grown table.def (parts_among table.def (front_of names table.def.parts) items (behind_of names table.def.parts))) later is).1 in
        subst (λ (def : TableDef). All (λ (row : Row). AreFitting def.columns row.cells) (rows_in (Some names) table.def table.rows)) (sym same)
        (All-filter (λ (row : Row). is_in_parts table.def (Some names) row.cells) (λ (row : Row). AreFitting table.def.columns row.cells) table.rows (table_fits db name table sound at))

    pub regrouped_kept : (names : List (List ℕ)) (items : List PartItem) → Ok later ≡ regrouped_of name names items table.def → unplaced later (rows_in (Some names) table.def table.rows) ≡ None → IsKeptOf db name later table.rows
    regrouped_kept names items is none =
        let parts = table.def.parts in
        let same = (made_ok (regroup_refusal name names items table.def) (grown table.def (parts_among table.def (front_of names parts) items (behind_of names parts))) later is).1 in
        let asked = unplaced_none 1 later (rows_in (Some names) table.def table.rows) none in
        all_kept db name table sound at later storable valid (ap (λ (def : TableDef). def.columns) same) (ap (λ (def : TableDef). def.keys) same)
        (λ k d within. by names items same asked (get_or table.rows k d) (is_in_parts table.def (Some names) (get_or table.rows k d).cells) refl (before.rows.each k d within).placed
        (λ inside. kept_there (λ (row : Row). is_in_parts table.def (Some names) row.cells) table.rows k d within inside))
      where
        by : (names : List (List ℕ)) (items : List PartItem) → later ≡ grown table.def (parts_among table.def (front_of names table.def.parts) items (behind_of names table.def.parts))
            → All (λ (row : Row). IsSome (place_of later row.cells)) (rows_in (Some names) table.def table.rows) → (row : Row) (t : Bool) → is_in_parts table.def (Some names) row.cells ≡ t
            → IsSome (place_of table.def row.cells) → (is_in_parts table.def (Some names) row.cells ≡ true → Contains (rows_in (Some names) table.def table.rows) row) → IsSome (place_of later row.cells)
        by names items same asked row true inside placed there = All-contains (λ (own : Row). IsSome (place_of later own.cells)) (rows_in (Some names) table.def table.rows) row asked (there inside)
        by names items same asked row false outside placed there =
            row_placed table.def later row (ap (λ (def : TableDef). def.columns) same) (ap (λ (def : TableDef). def.by) same) placed
            (λ spot p is inside.
            subst (λ (def : TableDef). Contains def.parts (get_or table.def.parts spot.part p)) (sym same)
            (stays_beside (is_named names) table.def.parts (map (new_part table.def) items) spot.part p inside (part_out table.def names row.cells spot is outside p inside)))
