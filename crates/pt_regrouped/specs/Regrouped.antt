-- ADD PARTITION with definitions, and REORGANIZE PARTITION: the definition that a table has then, or the first check that fails. MySQL
-- 5.7 manual, section 13.1.8.1, "ALTER TABLE Partition Operations", and section 22.3.1, "Management of RANGE and LIST Partitions".
use Rattle.std.specs.Prelude.{ℕ, ◌-◌, Bool, not, ◌&&◌, ◌||◌, List, [], ◌∷◌, map, length, take, drop, Option, Result, slice_index_or}
use Rattle.std.specs.List.{list_any, position_or_len, prefix_len}
use Rattle.std.specs.Ordering.{is_eq, is_gt}
use Rattle.std.specs.declared.cmp.Ordering.{Ordering}
use Rattle.pt_ast.specs.Bounds.{tuple_cmp}
use Rattle.pt_ast.specs.Ranges.{bound_of}
use Rattle.pt_ast.specs.declared.written.PartItem.{PartItem}
use Rattle.pt_ast.specs.declared.table.Bound.{Bound}
use Rattle.pt_ast.specs.declared.table.PartBy.{PartBy}
use Rattle.pt_ast.specs.declared.table.PartDef.{PartDef}
use Rattle.pt_ast.specs.declared.table.TableDef.{TableDef}
use Rattle.pt_ast.specs.declared.refusal.Refusal.{Refusal}
use Rattle.pt_ast.specs.declared.refusal.Refusal.TheVariants as refusal
use Rattle.pt_place.specs.Checks.{is_range}
use Rattle.pt_place.specs.First.{first_in, first_of, refused_if}
use Rattle.pt_place.specs.Names.{is_among}
use Rattle.pt_written.specs.Complete.{refused_or}
use Rattle.pt_regrouped.specs.NewParts.{bad_kind, bad_new, new_part, parts_among, with_parts}

-- ---- ADD PARTITION

unfoldable pub add_refusal : List ℕ → List PartItem → TableDef → Option Refusal
add_refusal table items def = first_of (bad_kind table def.by ∷ bad_new table def def.parts items [] ∷ [])

-- the new partitions stand behind those of the table
abbrev pub added_of : List ℕ → List PartItem → TableDef → Result TableDef Refusal
added_of table items def = refused_or (add_refusal table items def) (with_parts def (parts_among def def.parts items []))

-- ---- which partitions REORGANIZE replaces: names may stand in any order, and repeat

abbrev pub is_named : List (List ℕ) → PartDef → Bool
is_named names part = is_among part.name names

-- the names of partitions, without those of subpartitions
abbrev pub own_names : List PartDef → List (List ℕ)
own_names parts = map (λ part. part.name) parts

-- a name that is none of these
abbrev pub no_part : List (List ℕ) → List ℕ → Option Refusal
no_part known name = refused_if (not (is_among name known)) (refusal.UnknownPartition name)

-- the partitions before the first that is named, and those from it on
abbrev pub front_of : List (List ℕ) → List PartDef → List PartDef
front_of names parts = take (position_or_len (is_named names) parts) parts

abbrev pub rest_of : List (List ℕ) → List PartDef → List PartDef
rest_of names parts = drop (position_or_len (is_named names) parts) parts

-- those in a row that are named, and those behind them
abbrev pub group_of : List (List ℕ) → List PartDef → List PartDef
group_of names parts = take (prefix_len (is_named names) (rest_of names parts)) (rest_of names parts)

abbrev pub behind_of : List (List ℕ) → List PartDef → List PartDef
behind_of names parts = drop (prefix_len (is_named names) (rest_of names parts)) (rest_of names parts)

-- some that is named stands apart from them
abbrev pub not_adjacent : List ℕ → List (List ℕ) → List PartDef → Option Refusal
not_adjacent table names parts = refused_if (list_any (is_named names) (behind_of names parts)) (refusal.NotAdjacent table)

-- ---- the range that RANGE keeps

-- the bound of the last of these
abbrev pub last_bound : List PartDef → List Bound
last_bound parts = slice_index_or (map bound_of parts) (length parts - 1) []

-- the bound stays the same; where no partition stands behind, it may rise
abbrev pub is_kept : List PartDef → Ordering → Bool
is_kept [] order = is_eq order || is_gt order
is_kept (part ∷ parts) order = is_eq order

-- RANGE keeps the last bound of the partitions that are replaced
abbrev pub range_changed : List ℕ → PartBy → List PartDef → List PartDef → List PartDef → Option Refusal
range_changed table kind old new behind =
    refused_if (is_range kind && not (is_kept behind (tuple_cmp (last_bound new) (last_bound old)))) (refusal.RangeChanged table)

-- ---- REORGANIZE PARTITION

unfoldable pub regroup_refusal : List ℕ → List (List ℕ) → List PartItem → TableDef → Option Refusal
regroup_refusal table names items def =
    let front = front_of names def.parts in
    let behind = behind_of names def.parts in
    first_of (
    bad_kind table def.by
    ∷ first_in (no_part (own_names def.parts)) names
    ∷ not_adjacent table names def.parts
    ∷ bad_new table def front items behind
    ∷ range_changed table def.by (group_of names def.parts) (map (new_part def) items) behind
    ∷ [])

-- the new partitions stand in the place of those that are named
abbrev pub regrouped_of : List ℕ → List (List ℕ) → List PartItem → TableDef → Result TableDef Refusal
regrouped_of table names items def =
    refused_or (regroup_refusal table names items def) (with_parts def (parts_among def (front_of names def.parts) items (behind_of names def.parts)))
