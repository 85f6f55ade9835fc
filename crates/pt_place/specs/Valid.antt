-- What is refused of a complete definition: the first check that fails, in the order of CREATE TABLE. Columns and keys, then the
-- partitioning before the subpartitioning, then the partitions.
use Rattle.std.specs.Prelude.{◌≡◌, ℕ, ◌*◌, ◌<◌, All, Bool, false, not, ◌&&◌, ◌||◌, ◌==◌, List, [], ◌∷◌, map, length, Option, None, if◌then◌else◌}
use Rattle.std.specs.List.{list_any}
use Rattle.pt_value.specs.declared.value.Kind.{Kind}
use Rattle.pt_ast.specs.declared.table.Bound.{Bound}
use Rattle.pt_ast.specs.declared.table.Bound.TheVariants as bound
use Rattle.pt_ast.specs.declared.table.Column.{Column}
use Rattle.pt_ast.specs.declared.table.KeyDef.{KeyDef}
use Rattle.pt_ast.specs.declared.table.PartBy.{PartBy}
use Rattle.pt_ast.specs.declared.table.PartBy.TheVariants as by
use Rattle.pt_ast.specs.declared.table.PartDef.{PartDef}
use Rattle.pt_ast.specs.declared.table.TableDef.{TableDef}
use Rattle.pt_ast.specs.declared.refusal.Arg.TheVariants as arg
use Rattle.pt_ast.specs.declared.refusal.Refusal.{Refusal}
use Rattle.pt_ast.specs.declared.refusal.Refusal.TheVariants as refusal
use Rattle.pt_place.specs.First.{refused_if, first_of, first_in, in_turn}
use Rattle.pt_place.specs.Names.{names_at, names_of}
use Rattle.pt_place.specs.Fitting.{is_in_range, is_of_kind, kinds_of}
use Rattle.pt_place.specs.Checks.{bad_bounds, bad_expr, has_column, is_default_out, is_default_wrong, is_null, is_primary_rank, is_range, is_too_long, is_whole, key_of_none, lacking_key, name_twice, part_names, second_primary, sub_of_number, too_many, twice}

-- ---- columns, in order

-- a column of the primary key has to be NOT NULL
abbrev pub is_nullable_primary : List KeyDef → ℕ → Column → Bool
is_nullable_primary keys number column =
    not column.not_null && list_any (λ key. is_primary_rank key.rank && has_column key number) keys

abbrev pub bad_column : List KeyDef → List Column → Column → Option Refusal
bad_column keys before column = first_of (
    twice (names_of before) column.name
    ∷ refused_if (is_too_long column.kind || is_default_out column.kind column.default) (refusal.OutOfRange (arg.Name column.name))
    ∷ refused_if (is_default_wrong column.kind column.not_null column.default || is_nullable_primary keys (length before) column)
    (refusal.TypeMismatch (arg.Name column.name))
    ∷ [])

-- ---- keys, in order

abbrev pub bad_key : List Column → List KeyDef → KeyDef → Option Refusal
bad_key columns before key = first_of (
    in_turn twice (names_at columns key.columns)
    ∷ second_primary (map (λ other. other.rank) before) key.rank
    ∷ [])

-- ---- what a table is partitioned by

abbrev pub bad_by : List ℕ → List Column → PartBy → Option Refusal
bad_by table columns by.Whole = None
bad_by table columns (by.Range expr) = bad_expr table columns expr
bad_by table columns (by.List expr) = bad_expr table columns expr
bad_by table columns (by.RangeColumns numbers) = in_turn twice (names_at columns numbers)
bad_by table columns (by.ListColumns numbers) = in_turn twice (names_at columns numbers)
bad_by table columns (by.Hash linear expr) = bad_expr table columns expr
bad_by table columns (by.Key linear numbers) = in_turn twice (names_at columns numbers)

-- ---- numbers of partitions

-- how many subpartitions the first partition has
abbrev pub first_subs : List PartDef → ℕ
first_subs [] = 0
first_subs (part ∷ parts) = length part.subs

-- a partitioned table has partitions, and a subpartitioned one subpartitions
abbrev pub is_without_parts : PartBy → PartBy → List PartDef → Bool
is_without_parts main sub parts = not (is_whole main) && length parts == 0 || not (is_whole sub) && first_subs parts == 0

abbrev pub leaf_count : PartBy → List PartDef → ℕ
leaf_count sub parts = length parts * (if is_whole sub then 1 else first_subs parts)

-- each partition has as many as the first
abbrev pub other_subs : List PartDef → PartDef → Option Refusal
other_subs parts part = refused_if (not (length part.subs == first_subs parts)) (refusal.SubpartitionsDiffer part.name)

-- ---- bounds and lists of values

-- LESS THAN allows MAXVALUE and no NULL, IN allows NULL and no MAXVALUE
abbrev pub is_wrong_bound : Bool → Kind → Bound → Bool
is_wrong_bound less k (bound.Val value) = not (is_of_kind k value) || less && is_null value
is_wrong_bound less k bound.Max = not less

abbrev pub is_bound_out : Kind → Bound → Bool
is_bound_out k (bound.Val value) = not (is_in_range k value)
is_bound_out k bound.Max = false

-- some item of a tuple passes the test
abbrev pub has_bound : (Kind → Bound → Bool) → List Kind → List Bound → Bool
has_bound test (k ∷ kinds) (item ∷ items) = test k item || has_bound test kinds items
has_bound test _ _ = false

-- an item is wrong, or there aren't as many as kinds
abbrev pub is_wrong_tuple : Bool → List Kind → List Bound → Bool
is_wrong_tuple less kinds tuple = not (length tuple == length kinds) || has_bound (is_wrong_bound less) kinds tuple

-- one tuple of a range, one and more of a list, none else
abbrev pub is_tuple_count : PartBy → ℕ → Bool
is_tuple_count (by.Range expr) count = count == 1
is_tuple_count (by.RangeColumns numbers) count = count == 1
is_tuple_count (by.List expr) count = not (count == 0)
is_tuple_count (by.ListColumns numbers) count = not (count == 0)
is_tuple_count _ count = count == 0

-- first VALUES of the wrong form or with a wrong item, then a value that is too large
abbrev pub bad_values : List Kind → PartBy → PartDef → Option Refusal
bad_values kinds main part = first_of (
    refused_if (not (is_tuple_count main (length part.bounds)) || list_any (is_wrong_tuple (is_range main) kinds) part.bounds) (refusal.WrongValues part.name)
    ∷ refused_if (list_any (has_bound is_bound_out kinds) part.bounds) (refusal.OutOfRange (arg.Name part.name))
    ∷ [])

-- ---- the whole

-- columns, and then keys, in their order
abbrev pub bad_items : TableDef → Option Refusal
bad_items def = first_of (
    in_turn (bad_column def.keys) def.columns
    ∷ in_turn (bad_key def.columns) def.keys
    ∷ [])

-- the partitioning before the subpartitioning
abbrev pub bad_kinds : List ℕ → TableDef → Option Refusal
bad_kinds table def = first_of (
    sub_of_number table def.by def.sub
    ∷ key_of_none def.by
    ∷ key_of_none def.sub
    ∷ bad_by table def.columns def.by
    ∷ bad_by table def.columns def.sub
    ∷ lacking_key def.columns def.keys def.by def.sub
    ∷ [])

-- how many, then each one's VALUES, then bounds and names position by position
abbrev pub bad_parts : List ℕ → TableDef → Option Refusal
bad_parts table def = first_of (
    refused_if (is_without_parts def.by def.sub def.parts) (refusal.NoPartitions table)
    ∷ too_many (leaf_count def.sub def.parts)
    ∷ first_in (other_subs def.parts) def.parts
    ∷ first_in (bad_values (kinds_of def.columns def.by) def.by) def.parts
    ∷ bad_bounds def.by def.parts
    ∷ in_turn name_twice (part_names def.parts)
    ∷ [])

-- What is refused of a table of this name and definition, if anything.
abbrev pub refusal_of : List ℕ → TableDef → Option Refusal
refusal_of table def = first_of (bad_items def ∷ bad_kinds table def ∷ bad_parts table def ∷ [])

-- A definition is valid where nothing of it is refused. The name of the table stands in the arguments of refusals alone, so any
-- name will do.
abbrev pub IsValid : TableDef → Type 0
IsValid def = (table : List ℕ) × (refusal_of table def ≡ None)

-- ---- what the checks need

-- the positions of columns that a partitioning lists
abbrev pub numbers_of : PartBy → List ℕ
numbers_of (by.RangeColumns numbers) = numbers
numbers_of (by.ListColumns numbers) = numbers
numbers_of (by.Key linear numbers) = numbers
numbers_of _ = []

-- each is below the number of columns
abbrev pub AreBelow : List Column → List ℕ → Type 0
AreBelow columns numbers = All (λ number. number < length columns) numbers

-- Each column number is, as in every storable definition.
pub record ArePlaced (def : TableDef) : Type 0 where
  pub keys : All (λ key. AreBelow def.columns key.columns) def.keys
  pub by : AreBelow def.columns (numbers_of def.by)
  pub sub : AreBelow def.columns (numbers_of def.sub)
