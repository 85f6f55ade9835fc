-- Where a row belongs, and the names of a place. MySQL 5.7 manual, section 22.2, "Partitioning Types", with 22.2.6, "Subpartitioning",
-- and 22.2.7, "How MySQL Partitioning Handles NULL"; section 22.5, "Partition Selection".
use Rattle.std.specs.Prelude.{ℕ, ℤ, Bool, true, false, List, [], ◌∷◌, ◌++◌, map, length, slice_get, slice_index_or, Option, Some, None, if◌then◌else◌}
use Rattle.std.specs.List.{list_any}
use Rattle.std.specs.Option.{option_map, option_to_list}
use Rattle.pt_value.specs.Hashes.{hash_part, linear_part, key_of, key_part}
use Rattle.pt_value.specs.declared.value.Value.{Value}
use Rattle.pt_value.specs.declared.value.Value.TheVariants as value
use Rattle.pt_ast.specs.declared.tree.Expr.{Expr}
use Rattle.pt_ast.specs.declared.table.Column.{Column}
use Rattle.pt_ast.specs.declared.table.PartBy.{PartBy}
use Rattle.pt_ast.specs.declared.table.PartBy.TheVariants as by
use Rattle.pt_ast.specs.declared.table.PartDef.{PartDef}
use Rattle.pt_ast.specs.declared.table.TableDef.{TableDef}
use Rattle.pt_ast.specs.declared.database.Spot.{Spot}
use Rattle.pt_ast.specs.Bounds.{cells_at, value_of}
use Rattle.pt_ast.specs.Ranges.{range_part, range_columns_part}
use Rattle.pt_ast.specs.Lists.{list_part}
use Rattle.pt_expr.specs.Values.{whole_value}
use Rattle.pt_place.specs.Names.{is_among}
use Rattle.pt_place.specs.Checks.{is_whole}

-- ---- one level

-- the number that a value is, if it is one
abbrev pub number_in : Value → Option ℤ
number_in (value.Int number) = Some number
number_in _ = None

-- what an expression comes to on the cells of a row, None for NULL
abbrev pub number_of : List Column → Expr → List Value → Option ℤ
number_of columns expr cells = number_in (whole_value columns expr false cells)

-- HASH and LINEAR HASH
abbrev pub hashed : Bool → Option ℤ → ℕ → ℕ
hashed linear number n = if linear then linear_part number n else hash_part number n

-- HASH and KEY, one of n; the other kinds have one part
abbrev pub numbered : List Column → PartBy → ℕ → List Value → ℕ
numbered columns (by.Hash linear expr) n cells = hashed linear (number_of columns expr cells) n
numbered columns (by.Key linear numbers) n cells = key_part (key_of (cells_at cells numbers)) n linear
numbered columns _ n cells = 0

-- the partition, if any takes the row
abbrev pub part_of : List Column → PartBy → List PartDef → List Value → Option ℕ
part_of columns (by.Range expr) parts cells = range_part parts (number_of columns expr cells)
part_of columns (by.List expr) parts cells = list_part parts (value_of (number_of columns expr cells) ∷ [])
part_of columns (by.RangeColumns numbers) parts cells = range_columns_part parts (cells_at cells numbers)
part_of columns (by.ListColumns numbers) parts cells = list_part parts (cells_at cells numbers)
part_of columns kind parts cells = Some (numbered columns kind (length parts) cells)

-- ---- both levels

-- the names of the subpartitions of the partition at a position
abbrev pub subs_at : List PartDef → ℕ → List (List ℕ)
subs_at parts part = slice_index_or (map (λ part. part.subs) parts) part []

-- the spot in a partition: the subpartition is found by its own rule among those of the partition
abbrev pub spot_in : TableDef → List Value → ℕ → Spot
spot_in def cells part =
    record { part = part; sub = numbered def.columns def.sub (length (subs_at def.parts part)) cells }

-- Where a row belongs: an unpartitioned table has the one spot (0, 0).
abbrev pub place_of : TableDef → List Value → Option Spot
place_of def cells = option_map (spot_in def cells) (part_of def.columns def.by def.parts cells)

-- ---- names of a spot

abbrev pub part_name : TableDef → Spot → Option (List ℕ)
part_name def spot = slice_get (map (λ part. part.name) def.parts) spot.part

abbrev pub sub_name : TableDef → Spot → Option (List ℕ)
sub_name def spot = slice_get (subs_at def.parts spot.part) spot.sub

-- The name of the subpartition, else that of the partition. An unpartitioned table has no partitions, and so no names.
abbrev pub leaf_of : TableDef → Spot → Option (List ℕ)
leaf_of def spot = if is_whole def.sub then part_name def spot else sub_name def spot

abbrev pub spot_names : TableDef → Spot → List (List ℕ)
spot_names def spot = option_to_list (part_name def spot) ++ option_to_list (leaf_of def spot)

-- the spot's partition or subpartition is one of those named; where none is named, every spot is
abbrev pub is_in_set : TableDef → List (List ℕ) → Spot → Bool
is_in_set def [] spot = true
is_in_set def (name ∷ names) spot = list_any (λ own. is_among own (name ∷ names)) (spot_names def spot)
