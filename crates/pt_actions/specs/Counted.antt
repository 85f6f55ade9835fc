-- ADD PARTITION PARTITIONS and COALESCE PARTITION: HASH and KEY have more or fewer partitions. MySQL 5.7 manual, section 22.3.2,
-- "Management of HASH and KEY Partitions".
use Rattle.std.specs.Prelude.{ℕ, ◌+◌, ◌-◌, ◌==◌, nat_le, List, [], ◌∷◌, ◌++◌, map, length, take, codes, Option, Result}
use Rattle.std.specs.Fmt.{decimal}
use Rattle.std.specs.List.{range_with_len}
use Rattle.pt_ast.specs.declared.table.PartDef.{PartDef}
use Rattle.pt_ast.specs.declared.table.TableDef.{TableDef}
use Rattle.pt_ast.specs.declared.refusal.Refusal.{Refusal}
use Rattle.pt_ast.specs.declared.refusal.Refusal.TheVariants as refusal
use Rattle.pt_place.specs.Checks.{name_twice, part_names, too_many}
use Rattle.pt_place.specs.First.{first_of, in_turn, refused_if}
use Rattle.pt_written.specs.Complete.{refused_or}
use Rattle.pt_actions.specs.Named.{by_ranges_or_lists, not_partitioned, with_parts}

-- ---- more partitions

-- p and a number
abbrev pub number_name : ℕ → List ℕ
number_name i = codes "p" ++ decimal i

-- HASH and KEY have no bounds and no subpartitions
abbrev pub numbered_part : ℕ → PartDef
numbered_part i = record { name = number_name i; bounds = []; subs = [] }

-- so many more at the end, each named by its position
abbrev pub parts_more : ℕ → List PartDef → List PartDef
parts_more more parts = parts ++ map numbered_part (range_with_len (length parts) more)

-- what is refused of the number: 0, or too many partitions
abbrev pub bad_count : List ℕ → ℕ → TableDef → Option Refusal
bad_count table more def = first_of (
    not_partitioned table def.by
    ∷ by_ranges_or_lists table def.by
    ∷ refused_if (more == 0) (refusal.NoPartitions table)
    ∷ too_many (length def.parts + more)
    ∷ [])

-- what is refused of ADD PARTITION PARTITIONS: the number, and then a name that stands before
abbrev pub bad_more : List ℕ → ℕ → TableDef → Option Refusal
bad_more table more def = first_of (
    bad_count table more def
    ∷ in_turn name_twice (part_names (parts_more more def.parts))
    ∷ [])

-- The definition with so many partitions more, or what is refused.
abbrev pub with_more_of : List ℕ → ℕ → TableDef → Result TableDef Refusal
with_more_of table more def = refused_or (bad_more table more def) (with_parts def (parts_more more def.parts))

-- ---- fewer partitions

-- without the last ones
abbrev pub parts_fewer : ℕ → List PartDef → List PartDef
parts_fewer fewer parts = take (length parts - fewer) parts

-- what is refused of COALESCE PARTITION: a number of 0, or that no partition would be left
abbrev pub bad_fewer : List ℕ → ℕ → TableDef → Option Refusal
bad_fewer table fewer def = first_of (
    not_partitioned table def.by
    ∷ by_ranges_or_lists table def.by
    ∷ refused_if (fewer == 0) (refusal.CoalesceZero table)
    ∷ refused_if (nat_le (length def.parts) fewer) (refusal.DropAll table)
    ∷ [])

-- The definition with so many partitions fewer, or what is refused.
abbrev pub coalesced_of : List ℕ → ℕ → TableDef → Result TableDef Refusal
coalesced_of table fewer def = refused_or (bad_fewer table fewer def) (with_parts def (parts_fewer fewer def.parts))
