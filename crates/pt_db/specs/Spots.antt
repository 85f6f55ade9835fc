-- The spots of a table. MySQL 5.7 manual, section 22.2, "Partitioning Types", with 22.2.6, "Subpartitioning": a table has its
-- partitions, or is whole; and a partition has its subpartitions, or is whole.
use Rattle.std.specs.Prelude.{ℕ, ◌<◌, List, map, length, if◌then◌else◌}
use Rattle.std.specs.List.{flat_map, range_with_len}
use Rattle.pt_ast.specs.declared.database.Spot.{Spot}
use Rattle.pt_ast.specs.declared.table.TableDef.{TableDef}
use Rattle.pt_place.specs.Checks.{is_whole}
use Rattle.pt_place.specs.Place.{subs_at}

-- how many partitions there are: an unpartitioned table is one
abbrev pub part_count : TableDef → ℕ
part_count def = if is_whole def.by then 1 else length def.parts

-- how many subpartitions the partition at a position has: without subpartitioning it is one
abbrev pub sub_count : TableDef → ℕ → ℕ
sub_count def part = if is_whole def.sub then 1 else length (subs_at def.parts part)

abbrev pub spot_at : ℕ → ℕ → Spot
spot_at part sub = record { part = part; sub = sub }

-- the spots of the partition at a position
abbrev pub spots_in : TableDef → ℕ → List Spot
spots_in def part = map (spot_at part) (range_with_len 0 (sub_count def part))

-- the spots in order of definition, those of the first partition first
abbrev pub spots_of : TableDef → List Spot
spots_of def = flat_map (spots_in def) (range_with_len 0 (part_count def))

-- The spot is one of them.
pub record IsSpotOf (def : TableDef) (spot : Spot) : Type 0 where
  pub part : spot.part < part_count def
  pub sub : spot.sub < sub_count def spot.part
