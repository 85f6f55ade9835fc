-- What a change of a table's partitions is asked first: whether the table has partitions, by what its rows are partitioned, and
-- whether the partitions are there that the text names. Names are the same but for the case of letters. MySQL 5.7 manual, section
-- 13.1.8.1, "ALTER TABLE Partition Operations", and section 22.3, "Partition Management".
use Rattle.std.specs.Prelude.{ℕ, Bool, true, false, not, List, map, Option}
use Rattle.pt_ast.specs.declared.table.PartBy.{PartBy}
use Rattle.pt_ast.specs.declared.table.PartBy.TheVariants as by
use Rattle.pt_ast.specs.declared.table.PartDef.{PartDef}
use Rattle.pt_ast.specs.declared.table.TableDef.{TableDef}
use Rattle.pt_ast.specs.declared.refusal.Refusal.{Refusal}
use Rattle.pt_ast.specs.declared.refusal.Refusal.TheVariants as refusal
use Rattle.pt_place.specs.Checks.{is_by_number, is_whole}
use Rattle.pt_place.specs.First.{refused_if}
use Rattle.pt_place.specs.Names.{is_among}

-- ---- what the rows are partitioned by

-- by nothing: there are no partitions
abbrev pub not_partitioned : List ℕ → PartBy → Option Refusal
not_partitioned table main = refused_if (is_whole main) (refusal.NotPartitioned table)

-- HASH and KEY take a number of partitions, and none by name
abbrev pub by_a_number : List ℕ → PartBy → Option Refusal
by_a_number table main = refused_if (is_by_number main) (refusal.OnlyRangeList table)

-- by RANGE or LIST, with or without COLUMNS
abbrev pub is_by_values : PartBy → Bool
is_by_values (by.Range expr) = true
is_by_values (by.List expr) = true
is_by_values (by.RangeColumns numbers) = true
is_by_values (by.ListColumns numbers) = true
is_by_values _ = false

-- RANGE and LIST take definitions of partitions, and no number
abbrev pub by_ranges_or_lists : List ℕ → PartBy → Option Refusal
by_ranges_or_lists table main = refused_if (is_by_values main) (refusal.OnlyHashKey table)

-- ---- partitions by their names

-- the names of partitions alone, without their subpartitions'
abbrev pub main_names : List PartDef → List (List ℕ)
main_names parts = map (λ part. part.name) parts

-- no partition has the name
abbrev pub no_part : List PartDef → List ℕ → Option Refusal
no_part parts name = refused_if (not (is_among name (main_names parts))) (refusal.UnknownPartition name)

-- ---- the rest of a definition

-- the definition with these partitions
abbrev pub with_parts : TableDef → List PartDef → TableDef
with_parts def parts = record def { parts = parts }
