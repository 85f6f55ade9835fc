-- New partitions among those that a table by RANGE or LIST has: what they are, and what is refused of them. MySQL 5.7 manual, section
-- 13.1.8.1, "ALTER TABLE Partition Operations", and section 22.3.1, "Management of RANGE and LIST Partitions".
--
-- The list that comes out is asked in the order of CREATE TABLE: how many partitions there are, what each new one writes, and then
-- bounds and names position by position. So a refusal of a bound or a name may tell a partition that the table had before.
use Rattle.std.specs.Prelude.{ℕ, ◌+◌, ◌*◌, Bool, not, ◌&&◌, ◌||◌, ◌==◌, List, [], ◌∷◌, ◌++◌, map, length, unwrap_or, Option, Some, if◌then◌else◌}
use Rattle.pt_ast.specs.declared.written.PartItem.{PartItem}
use Rattle.pt_ast.specs.declared.table.PartBy.{PartBy}
use Rattle.pt_ast.specs.declared.table.PartDef.{PartDef}
use Rattle.pt_ast.specs.declared.table.TableDef.{TableDef}
use Rattle.pt_ast.specs.declared.refusal.Refusal.{Refusal}
use Rattle.pt_ast.specs.declared.refusal.Refusal.TheVariants as refusal
use Rattle.pt_place.specs.Checks.{bad_bounds, is_by_number, is_whole, too_many}
use Rattle.pt_place.specs.First.{first_in, first_of, refused_if}
use Rattle.pt_place.specs.Fitting.{kinds_of}
use Rattle.pt_place.specs.Valid.{first_subs}
use Rattle.pt_written.specs.Complete.{bad_names, bad_written_values}
use Rattle.pt_written.specs.WrittenParts.{bounds_of, first_defined, sub_names, subs_defined}

-- ---- what the new partitions are

-- a new partition has as many subpartitions as each of the table has: their names are those that are written, else made
abbrev pub new_subs : TableDef → PartItem → List (List ℕ)
new_subs def item = if is_whole def.sub then [] else (unwrap_or item.subs (sub_names item.name (first_subs def.parts)))

abbrev pub new_part : TableDef → PartItem → PartDef
new_part def item = record {
  name = item.name;
  bounds = bounds_of (kinds_of def.columns def.by) def.by item.values;
  subs = new_subs def item;
}

-- the new partitions behind those before them, and before those behind
abbrev pub parts_among : TableDef → List PartDef → List PartItem → List PartDef → List PartDef
parts_among def front items behind = front ++ map (new_part def) items ++ behind

-- the table with these partitions
abbrev pub with_parts : TableDef → List PartDef → TableDef
with_parts def parts = record { columns = def.columns; keys = def.keys; by = def.by; sub = def.sub; parts = parts }

-- ---- what is refused of them

-- partitions are defined one by one only under RANGE and LIST
abbrev pub bad_kind : List ℕ → PartBy → Option Refusal
bad_kind table kind = first_of (
    refused_if (is_whole kind) (refusal.NotPartitioned table)
    ∷ refused_if (is_by_number kind) (refusal.OnlyRangeList table)
    ∷ [])

-- how many leaves each partition of the table has
abbrev pub leaves_each : TableDef → ℕ
leaves_each def = if is_whole def.sub then 1 else first_subs def.parts

-- subpartitions are defined by all new partitions or by none, as many as each of the table has; and none where it has none
abbrev pub is_other_number : TableDef → ℕ → ℕ → Bool
is_other_number def first count =
    if is_whole def.sub then not (count == 0) else (not (count == first) || not (count == 0) && not (count == first_subs def.parts))

abbrev pub other_new_subs : TableDef → List PartItem → PartItem → Option Refusal
other_new_subs def items item = refused_if (is_other_number def (first_defined (Some items)) (subs_defined item)) (refusal.SubpartitionsDiffer item.name)

abbrev pub bad_new : List ℕ → TableDef → List PartDef → List PartItem → List PartDef → Option Refusal
bad_new table def front items behind = first_of (
    too_many ((length front + length items + length behind) * leaves_each def)
    ∷ first_in (other_new_subs def items) items
    ∷ first_in (bad_written_values table (kinds_of def.columns def.by) def.by) items
    ∷ bad_bounds def.by (parts_among def front items behind)
    ∷ bad_names (parts_among def front items behind)
    ∷ [])
