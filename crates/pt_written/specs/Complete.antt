-- The complete definition that a text means, or what is refused of the text: the first check that fails, in the order of CREATE
-- TABLE. MySQL 5.7 manual, section 13.1.18, "CREATE TABLE Syntax".
--
-- It is the order of Valid.antt, and the checks that can be made of the complete definition are the same. Those that can't are made
-- of the text: a column that isn't there, a date that is none, an expression in a bound, a number that is written, a name that
-- comes out too long. Names in refusals are those as written.
use Rattle.std.specs.Prelude.{ℕ, ◌*◌, ℤ, unsigned_abs, Bool, true, false, not, ◌&&◌, ◌||◌, ◌==◌, nat_lt, List, [], ◌∷◌, map, length, is_none, Option, Some, None, Result, Ok, Err}
use Rattle.std.specs.List.{list_any, flat_map}
use Rattle.std.specs.Option.{option_map_or}
use Rattle.pt_value.specs.declared.value.Value.{Value}
use Rattle.pt_value.specs.declared.value.Kind.{Kind}
use Rattle.pt_value.specs.declared.value.Kind.TheVariants as kind
use Rattle.pt_ast.specs.declared.tree.Expr.{Expr}
use Rattle.pt_ast.specs.declared.written.ColOption.{ColOption}
use Rattle.pt_ast.specs.declared.written.Item.{Item}
use Rattle.pt_ast.specs.declared.written.Item.TheVariants as item
use Rattle.pt_ast.specs.declared.written.HashSpec.{HashSpec}
use Rattle.pt_ast.specs.declared.written.HashSpec.TheVariants as hash
use Rattle.pt_ast.specs.declared.written.MainSpec.{MainSpec}
use Rattle.pt_ast.specs.declared.written.MainSpec.TheVariants as main
use Rattle.pt_ast.specs.declared.written.SubSpec.{SubSpec}
use Rattle.pt_ast.specs.declared.written.PartItem.{PartItem}
use Rattle.pt_ast.specs.declared.written.PartSpec.{PartSpec}
use Rattle.pt_ast.specs.declared.written.TableSpec.{TableSpec}
use Rattle.pt_ast.specs.declared.written.BoundSpec.{BoundSpec}
use Rattle.pt_ast.specs.declared.written.BoundSpec.TheVariants as written
use Rattle.pt_ast.specs.declared.table.Column.{Column}
use Rattle.pt_ast.specs.declared.table.KeyDef.{KeyDef}
use Rattle.pt_ast.specs.declared.table.PartBy.{PartBy}
use Rattle.pt_ast.specs.declared.table.PartBy.TheVariants as by
use Rattle.pt_ast.specs.declared.table.PartDef.{PartDef}
use Rattle.pt_ast.specs.declared.table.TableDef.{TableDef}
use Rattle.pt_ast.specs.declared.refusal.Arg.TheVariants as arg
use Rattle.pt_ast.specs.declared.refusal.Refusal.{Refusal}
use Rattle.pt_ast.specs.declared.refusal.Refusal.TheVariants as refusal
use Rattle.pt_expr.specs.declared.kind.ExprKind.{ExprKind}
use Rattle.pt_expr.specs.declared.kind.ExprKind.TheVariants as expr
use Rattle.pt_expr.specs.declared.kind.CheckFault.{CheckFault}
use Rattle.pt_expr.specs.declared.kind.CheckFault.TheVariants as fault
use Rattle.pt_expr.specs.Found.{checked}
use Rattle.pt_place.specs.First.{refused_if, first_of, first_in, in_turn}
use Rattle.pt_place.specs.Names.{column_of, names_in, names_of}
use Rattle.pt_place.specs.Fitting.{is_in_range, kinds_of}
use Rattle.pt_place.specs.Checks.{bad_bounds, bad_expr, is_default_out, is_default_wrong, is_null, is_range, is_some_name, is_too_long, key_of_none, lacking_key, name_twice, second_primary, sub_of_number, too_many, twice}
use Rattle.pt_written.specs.Written.{KeyText, columns_of, default_in, default_written, is_bad_constant, is_not_null, keys_of, keys_written, kind_of, primary_names}
use Rattle.pt_written.specs.WrittenParts.{by_of, first_defined, is_date, part_count, parts_of, sub_count, sub_of, subs_defined, tuples_in, worth}

-- ---- columns, in the order of the text

abbrev pub bad_written_column : Kind → Bool → List ColOption → List (List ℕ) → List ℕ → Option Refusal
bad_written_column k not_null options before name = first_of (
    twice before name
    ∷ refused_if (is_too_long k || is_bad_constant k (default_written options) || is_default_out k (default_in k options)) (refusal.OutOfRange (arg.Name name))
    ∷ refused_if (is_default_wrong k not_null (default_in k options)) (refusal.TypeMismatch (arg.Name name))
    ∷ [])

-- a column among those before it; the keys have their turn later
abbrev pub bad_item : List (List ℕ) → List Item → Item → Option Refusal
bad_item primary before (item.Column name written options) =
    bad_written_column (kind_of written) (is_not_null primary name options) options (names_of (columns_of before)) name
bad_item primary before (item.Key rank name columns) = None

-- ---- lists of columns, and keys in the order of the text

abbrev pub no_column : List Column → List ℕ → Option Refusal
no_column columns name = refused_if (is_none (column_of columns name)) (refusal.NoSuchColumn name)

-- first each name has to be there, and then each only once
abbrev pub bad_list : List Column → List (List ℕ) → Option Refusal
bad_list columns names = first_of (first_in (no_column columns) names ∷ in_turn twice names ∷ [])

abbrev pub bad_written_key : List Column → List KeyText → KeyText → Option Refusal
bad_written_key columns before key = first_of (
    bad_list columns key.columns
    ∷ second_primary (map (λ other. other.rank) before) key.rank
    ∷ [])

-- ---- what a table is partitioned by

abbrev pub bad_hash : List ℕ → List Column → HashSpec → Option Refusal
bad_hash table columns (hash.Hash linear expr) = bad_expr table columns expr
bad_hash table columns (hash.Key linear names) = bad_list columns names

abbrev pub bad_main : List ℕ → List Column → MainSpec → Option Refusal
bad_main table columns (main.Range expr) = bad_expr table columns expr
bad_main table columns (main.List expr) = bad_expr table columns expr
bad_main table columns (main.RangeColumns names) = bad_list columns names
bad_main table columns (main.ListColumns names) = bad_list columns names
bad_main table columns (main.Hash hash) = bad_hash table columns hash

abbrev pub bad_sub : List ℕ → List Column → Option SubSpec → Option Refusal
bad_sub table columns sub = option_map_or (λ (sub : SubSpec). bad_hash table columns sub.hash) sub None

-- ---- numbers of partitions

-- RANGE and LIST need definitions, with or without COLUMNS
abbrev pub needs_parts : MainSpec → Bool
needs_parts (main.Hash hash) = false
needs_parts _ = true

-- the number after PARTITIONS isn't that of the definitions
abbrev pub is_other_count : Option ℤ → Option (List PartItem) → Bool
is_other_count (Some count) (Some parts) = not (unsigned_abs count == length parts)
is_other_count _ _ = false

-- a number of 0, no definitions where they are needed, or another number than theirs
abbrev pub is_without_written : PartSpec → Bool
is_without_written spec =
    part_count spec == 0 || sub_count spec == 0 || needs_parts spec.main && is_none spec.parts || is_other_count spec.count spec.parts

-- subpartitions are defined by all partitions or by none, as many as each one has; and none without SUBPARTITION BY
abbrev pub is_other_subs : Option SubSpec → ℕ → ℕ → ℕ → Bool
is_other_subs (Some sub) first each count = not (count == first) || not (count == 0) && not (count == each)
is_other_subs None first each count = not (count == 0)

abbrev pub other_written_subs : PartSpec → PartItem → Option Refusal
other_written_subs spec part =
    refused_if (is_other_subs spec.sub (first_defined spec.parts) (sub_count spec) (subs_defined part)) (refusal.SubpartitionsDiffer part.name)

-- ---- bounds and lists of values

-- which kinds of expressions an item of this kind may be; NULL has every kind
abbrev pub has_kind : Kind → ExprKind → Bool
has_kind k expr.Any = true
has_kind kind.Int expr.Wide = true
has_kind kind.BigInt expr.Wide = true
has_kind kind.Date expr.Day = true
has_kind (kind.Binary most) expr.Bytes = true
has_kind _ _ = false

-- a mismatch, or a column; and where there is no fault another kind, or under LESS THAN a NULL
abbrev pub is_wrong_finding : Bool → Kind → Value → Result ExprKind CheckFault → Bool
is_wrong_finding less k value (Ok kind) = not (has_kind k kind) || less && is_null value
is_wrong_finding less k value (Err fault.Mismatch) = true
is_wrong_finding less k value (Err (fault.NoColumn name)) = true
is_wrong_finding less k value (Err _) = false

abbrev pub is_wide_finding : Result ExprKind CheckFault → Bool
is_wide_finding (Err fault.TooWide) = true
is_wide_finding _ = false

-- a date text that is none; and where there is no fault a value that is too large
abbrev pub is_out_finding : Kind → Value → Result ExprKind CheckFault → Bool
is_out_finding k value (Ok kind) = not (is_in_range k value)
is_out_finding k value (Err fault.BadDate) = true
is_out_finding k value (Err _) = false

-- an item is a constant: it names no column
abbrev pub item_finding : Kind → Expr → Result ExprKind CheckFault
item_finding k expr = checked [] expr (is_date k)

-- LESS THAN allows MAXVALUE and no NULL, IN allows NULL and no MAXVALUE
abbrev pub is_wrong_item : Bool → Kind → BoundSpec → Bool
is_wrong_item less k written.Max = not less
is_wrong_item less k (written.Value expr) = is_some_name (names_in expr) || is_wrong_finding less k (worth k expr) (item_finding k expr)

abbrev pub is_wide_item : Kind → BoundSpec → Bool
is_wide_item k written.Max = false
is_wide_item k (written.Value expr) = is_wide_finding (item_finding k expr)

abbrev pub is_out_item : Kind → BoundSpec → Bool
is_out_item k written.Max = false
is_out_item k (written.Value expr) = is_out_finding k (worth k expr) (item_finding k expr)

-- some item of a tuple passes the test
abbrev pub has_item : (Kind → BoundSpec → Bool) → List Kind → List BoundSpec → Bool
has_item test (k ∷ kinds) (item ∷ items) = test k item || has_item test kinds items
has_item test _ _ = false

-- an item is wrong, or there aren't as many as kinds
abbrev pub is_wrong_written : Bool → List Kind → List BoundSpec → Bool
is_wrong_written less kinds tuple = not (length tuple == length kinds) || has_item (is_wrong_item less) kinds tuple

-- first VALUES of the wrong form or with a wrong item, then a number that is too wide, then a value that is too large
abbrev pub bad_tuples : List ℕ → List Kind → Bool → List ℕ → Option (List (List BoundSpec)) → Option Refusal
bad_tuples table kinds less name None = Some (refusal.WrongValues name)
bad_tuples table kinds less name (Some tuples) = first_of (
    refused_if (list_any (is_wrong_written less kinds) tuples) (refusal.WrongValues name)
    ∷ refused_if (list_any (has_item is_wide_item kinds) tuples) (refusal.TooWide (arg.Name table))
    ∷ refused_if (list_any (has_item is_out_item kinds) tuples) (refusal.OutOfRange (arg.Name name))
    ∷ [])

abbrev pub bad_written_values : List ℕ → List Kind → PartBy → PartItem → Option Refusal
bad_written_values table kinds kind part = bad_tuples table kinds (is_range kind) part.name (tuples_in kind part.values)

-- the partitions that are written: none are where their names are made
abbrev pub defined : PartSpec → List PartItem
defined spec = option_map_or (λ parts. parts) spec.parts []

-- ---- names of partitions and subpartitions

-- a name, beside that of its partition
abbrev pub Named : Type 0
Named = List ℕ × List ℕ

abbrev pub named_in : PartDef → List Named
named_in part = (part.name, part.name) ∷ map (λ sub. (part.name, sub)) part.subs

-- a name that is made is too long, or a name stands before
abbrev pub bad_name : List Named → Named → Option Refusal
bad_name before named = first_of (
    refused_if (nat_lt 64 (length named.1)) (refusal.DuplicatePartition named.0)
    ∷ name_twice (map (λ other. other.1) before) named.1
    ∷ [])

abbrev pub bad_names : List PartDef → Option Refusal
bad_names parts = in_turn bad_name (flat_map named_in parts)

-- ---- the list of checks of a partitioning, over the columns and keys of the table

abbrev pub bad_parts : List ℕ → List Column → PartBy → PartSpec → Option Refusal
bad_parts table columns kind spec = first_of (
    refused_if (is_without_written spec) (refusal.NoPartitions table)
    ∷ too_many (part_count spec * sub_count spec)
    ∷ first_in (other_written_subs spec) (defined spec)
    ∷ first_in (bad_written_values table (kinds_of columns kind) kind) (defined spec)
    ∷ bad_bounds kind (parts_of (kinds_of columns kind) kind spec)
    ∷ bad_names (parts_of (kinds_of columns kind) kind spec)
    ∷ [])

unfoldable pub bad_spec : List ℕ → List Column → List KeyDef → PartSpec → Option Refusal
bad_spec table columns keys spec =
    let kind = by_of columns keys spec.main in
    let sub = sub_of columns spec.sub in
    first_of (
    sub_of_number table kind sub
    ∷ key_of_none kind
    ∷ key_of_none sub
    ∷ bad_main table columns spec.main
    ∷ bad_sub table columns spec.sub
    ∷ lacking_key columns keys kind sub
    ∷ bad_parts table columns kind spec
    ∷ [])

abbrev pub bad_spec_if : List ℕ → List Column → List KeyDef → Option PartSpec → Option Refusal
bad_spec_if table columns keys None = None
bad_spec_if table columns keys (Some spec) = bad_spec table columns keys spec

-- ---- the whole

-- what is refused of a table of this name and text, if anything
unfoldable pub written_refusal : List ℕ → TableSpec → Option Refusal
written_refusal table spec =
    let columns = columns_of spec.items in
    first_of (
    in_turn (bad_item (primary_names spec.items)) spec.items
    ∷ in_turn (bad_written_key columns) (keys_written spec.items)
    ∷ bad_spec_if table columns (keys_of columns spec.items) spec.by
    ∷ [])

-- a table of these columns and keys, unpartitioned or partitioned so
abbrev pub partitioned : List Column → List KeyDef → Option PartSpec → TableDef
partitioned columns keys None = record { columns = columns; keys = keys; by = by.Whole; sub = by.Whole; parts = [] }
partitioned columns keys (Some spec) =
    let kind = by_of columns keys spec.main in
    record {
      columns = columns;
      keys = keys;
      by = kind;
      sub = sub_of columns spec.sub;
      parts = parts_of (kinds_of columns kind) kind spec;
    }

-- the definition that the text means, where nothing is refused
unfoldable pub definition_of : TableSpec → TableDef
definition_of spec = let columns = columns_of spec.items in partitioned columns (keys_of columns spec.items) spec.by

abbrev pub refused_or : {A : Type 0} → Option Refusal → A → Result A Refusal
refused_or (Some refusal) made = Err refusal
refused_or None made = Ok made

-- The complete definition of a table of this name and text, or what is refused.
abbrev pub complete_of : List ℕ → TableSpec → Result TableDef Refusal
complete_of table spec = refused_or (written_refusal table spec) (definition_of spec)
