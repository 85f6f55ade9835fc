-- The partitions and the columns that a statement lists. MySQL 5.7 manual, section 22.5, "Partition Selection", and section 13.2.5,
-- "INSERT Syntax".
use Rattle.std.specs.Prelude.{ℕ, not, is_none, List, [], ◌∷◌, length, Option, Some, None}
use Rattle.std.specs.List.{filter_map, range_with_len}
use Rattle.pt_ast.specs.declared.table.Column.{Column}
use Rattle.pt_ast.specs.declared.table.TableDef.{TableDef}
use Rattle.pt_ast.specs.declared.refusal.Refusal.{Refusal}
use Rattle.pt_ast.specs.declared.refusal.Refusal.TheVariants as refusal
use Rattle.pt_place.specs.First.{refused_if, first_of, first_in, in_turn}
use Rattle.pt_place.specs.Names.{column_of, is_among}
use Rattle.pt_place.specs.Checks.{is_whole, part_names, twice}

-- ---- partitions

-- a name that is neither a partition's nor a subpartition's
abbrev pub no_part : TableDef → List ℕ → Option Refusal
no_part def name = refused_if (not (is_among name (part_names def.parts))) (refusal.UnknownPartition name)

-- Only a partitioned table has a PARTITION list, and each name in it has to be there.
abbrev pub bad_part_list : TableDef → List ℕ → List (List ℕ) → Option Refusal
bad_part_list def table names = first_of (
    refused_if (is_whole def.by) (refusal.NotPartitioned table)
    ∷ first_in (no_part def) names
    ∷ [])

-- the same, where there is a list
abbrev pub bad_parts : TableDef → List ℕ → Option (List (List ℕ)) → Option Refusal
bad_parts def table (Some names) = bad_part_list def table names
bad_parts def table None = None

-- ---- columns

-- a name that is no column's
abbrev pub no_column : List Column → List ℕ → Option Refusal
no_column columns name = refused_if (is_none (column_of columns name)) (refusal.NoSuchColumn name)

-- first each name has to be there, and then each only once
abbrev pub bad_list : List Column → List (List ℕ) → Option Refusal
bad_list columns names = first_of (
    first_in (no_column columns) names
    ∷ in_turn twice names
    ∷ [])

-- the same, where there is a list
abbrev pub bad_columns : TableDef → Option (List (List ℕ)) → Option Refusal
bad_columns def (Some names) = bad_list def.columns names
bad_columns def None = None

-- The positions of the columns that the values of a row are for: those listed, and without a list all of them, in the order of the table.
abbrev pub targets : TableDef → Option (List (List ℕ)) → List ℕ
targets def (Some names) = filter_map (column_of def.columns) names
targets def None = range_with_len 0 (length def.columns)
