-- The checks that a definition as written and a complete one share, each with its refusal. MySQL 5.7 manual, section 13.1.18, "CREATE
-- TABLE Syntax"; section 22.2, "Partitioning Types"; and section 22.6, "Restrictions and Limitations on Partitioning".
use Rattle.std.specs.Prelude.{ℕ, ◌-◌, ◌^◌, Bool, true, false, not, ◌&&◌, ◌||◌, ◌==◌, nat_lt, min, List, [], ◌∷◌, ◌++◌, map, filter, Option, Some, None, Result, Ok, Err, slice_index_or, if◌then◌else◌}
use Rattle.std.specs.List.{list_any, list_all, flat_map}
use Rattle.pt_value.specs.declared.value.Value.{Value}
use Rattle.pt_value.specs.declared.value.Value.TheVariants as value
use Rattle.pt_value.specs.declared.value.Kind.{Kind}
use Rattle.pt_value.specs.declared.value.Kind.TheVariants as kind
use Rattle.pt_ast.specs.declared.tree.Expr.{Expr}
use Rattle.pt_ast.specs.declared.table.Column.{Column}
use Rattle.pt_ast.specs.declared.table.Rank.{Rank}
use Rattle.pt_ast.specs.declared.table.Rank.TheVariants as rank
use Rattle.pt_ast.specs.declared.table.KeyDef.{KeyDef}
use Rattle.pt_ast.specs.declared.table.PartBy.{PartBy}
use Rattle.pt_ast.specs.declared.table.PartBy.TheVariants as by
use Rattle.pt_ast.specs.declared.table.PartDef.{PartDef}
use Rattle.pt_ast.specs.declared.refusal.Arg.{Arg}
use Rattle.pt_ast.specs.declared.refusal.Arg.TheVariants as arg
use Rattle.pt_ast.specs.declared.refusal.Refusal.{Refusal}
use Rattle.pt_ast.specs.declared.refusal.Refusal.TheVariants as refusal
use Rattle.pt_ast.specs.Ranges.{range_fault}
use Rattle.pt_ast.specs.Lists.{list_fault}
use Rattle.pt_expr.specs.declared.kind.ExprKind.{ExprKind}
use Rattle.pt_expr.specs.declared.kind.ExprKind.TheVariants as expr
use Rattle.pt_expr.specs.declared.kind.CheckFault.{CheckFault}
use Rattle.pt_expr.specs.declared.kind.CheckFault.TheVariants as fault
use Rattle.pt_expr.specs.Found.{checked}
use Rattle.pt_place.specs.First.{refused_if, first_in}
use Rattle.pt_place.specs.Fitting.{is_in_range, is_of_kind}
use Rattle.pt_place.specs.Names.{columns_used, is_among, names_in}

-- ---- columns

-- the name stands before, in a list of columns
abbrev pub twice : List (List ℕ) → List ℕ → Option Refusal
twice before name = refused_if (is_among name before) (refusal.DuplicateColumn (arg.Name name))

-- a VARBINARY of more than 4096 bytes
abbrev pub is_too_long : Kind → Bool
is_too_long (kind.Binary most) = nat_lt 4096 most
is_too_long _ = false

abbrev pub is_null : Value → Bool
is_null value.Null = true
is_null _ = false

-- a default that the column's kind has no room for
abbrev pub is_default_out : Kind → Option Value → Bool
is_default_out k (Some value) = not (is_in_range k value)
is_default_out k None = false

-- a default of another kind, or NULL in a NOT NULL column
abbrev pub is_default_wrong : Kind → Bool → Option Value → Bool
is_default_wrong k not_null (Some value) = not (is_of_kind k value) || not_null && is_null value
is_default_wrong k not_null None = false

-- ---- keys

abbrev pub is_primary_rank : Rank → Bool
is_primary_rank rank.Primary = true
is_primary_rank _ = false

abbrev pub is_unique_rank : Rank → Bool
is_unique_rank rank.Unique = true
is_unique_rank _ = false

-- a primary key after these
abbrev pub second_primary : List Rank → Rank → Option Refusal
second_primary before own = refused_if (is_primary_rank own && list_any is_primary_rank before) (refusal.DuplicateColumn arg.Primary)

-- the keys that are unique, the primary one first
abbrev pub unique_keys : List KeyDef → List KeyDef
unique_keys keys = filter (λ key. is_primary_rank key.rank) keys ++ filter (λ key. is_unique_rank key.rank) keys

abbrev pub key_arg : KeyDef → Arg
key_arg key = if is_primary_rank key.rank then arg.Primary else arg.Name key.name

abbrev pub has_column : KeyDef → ℕ → Bool
has_column key number = list_any (λ own. own == number) key.columns

-- each unique key has every column that the partitioning and the subpartitioning use
abbrev pub lacking_key : List Column → List KeyDef → PartBy → PartBy → Option Refusal
lacking_key columns keys main sub =
    let used = columns_used columns main ++ columns_used columns sub in
    first_in (λ key. refused_if (not (list_all (has_column key) used)) (refusal.KeyNeedsColumns (key_arg key))) (unique_keys keys)

-- ---- kinds of partitioning

-- by HASH or KEY
abbrev pub is_by_number : PartBy → Bool
is_by_number (by.Hash linear expr) = true
is_by_number (by.Key linear numbers) = true
is_by_number _ = false

abbrev pub is_whole : PartBy → Bool
is_whole by.Whole = true
is_whole _ = false

-- by RANGE, with or without COLUMNS
abbrev pub is_range : PartBy → Bool
is_range (by.Range expr) = true
is_range (by.RangeColumns numbers) = true
is_range _ = false

-- SUBPARTITION BY under HASH or KEY
abbrev pub sub_of_number : List ℕ → PartBy → PartBy → Option Refusal
sub_of_number table main sub = refused_if (is_by_number main && not (is_whole sub)) (refusal.OnlyRangeList table)

abbrev pub is_key_of_none : PartBy → Bool
is_key_of_none (by.Key linear []) = true
is_key_of_none _ = false

-- KEY without columns
abbrev pub key_of_none : PartBy → Option Refusal
key_of_none kind = refused_if (is_key_of_none kind) (refusal.KeyNeedsColumns arg.Key)

-- ---- partitioning expressions

abbrev pub of_fault : List ℕ → CheckFault → Refusal
of_fault table (fault.NoColumn name) = refusal.NoSuchColumn name
of_fault table fault.Mismatch = refusal.TypeMismatch (arg.Name table)
of_fault table fault.TooWide = refusal.TooWide (arg.Name table)
of_fault table fault.BadDate = refusal.OutOfRange (arg.Name table)

abbrev pub is_integer : ExprKind → Bool
is_integer expr.Wide = true
is_integer _ = false

abbrev pub is_some_name : List (List ℕ) → Bool
is_some_name [] = false
is_some_name (name ∷ names) = true

-- its first fault, and then it has to be an integer and name a column
abbrev pub of_finding : List ℕ → Bool → Result ExprKind CheckFault → Option Refusal
of_finding table names (Err fault) = Some (of_fault table fault)
of_finding table names (Ok kind) = refused_if (not (is_integer kind && names)) (refusal.BadFunction table)

abbrev pub bad_expr : List ℕ → List Column → Expr → Option Refusal
bad_expr table columns expr = of_finding table (is_some_name (names_in expr)) (checked columns expr false)

-- ---- partitions

-- the number that a refusal tells: at most the greatest of 64 bits
abbrev pub told : ℕ → ℕ
told count = min count (2 ^ 64 - 1)

-- more than 8192
abbrev pub too_many : ℕ → Option Refusal
too_many count = refused_if (nat_lt 8192 (told count)) (refusal.TooManyPartitions (told count))

-- the name of the partition at a position
abbrev pub part_name_at : List PartDef → ℕ → List ℕ
part_name_at parts i = slice_index_or (map (λ part. part.name) parts) i []

-- the first position with a MAXVALUE that isn't last, or with a bound that isn't above the one before
abbrev pub of_range_fault : List PartDef → Option (ℕ × ℕ) → Option Refusal
of_range_fault parts None = None
of_range_fault parts (Some fault) =
    Some (if fault.1 == 31 then refusal.MaxvalueNotLast (part_name_at parts fault.0) else refusal.NotIncreasing (part_name_at parts fault.0))

-- the first position with a value that stands before
abbrev pub of_list_fault : List PartDef → Option ℕ → Option Refusal
of_list_fault parts None = None
of_list_fault parts (Some i) = Some (refusal.ValueTwice (part_name_at parts i))

abbrev pub bad_bounds : PartBy → List PartDef → Option Refusal
bad_bounds (by.Range expr) parts = of_range_fault parts (range_fault parts)
bad_bounds (by.RangeColumns numbers) parts = of_range_fault parts (range_fault parts)
bad_bounds (by.List expr) parts = of_list_fault parts (list_fault parts)
bad_bounds (by.ListColumns numbers) parts = of_list_fault parts (list_fault parts)
bad_bounds _ parts = None

-- the names of partitions and subpartitions, a partition before its subpartitions
abbrev pub part_names : List PartDef → List (List ℕ)
part_names parts = flat_map (λ part. part.name ∷ part.subs) parts

-- the name of a partition or a subpartition stands before
abbrev pub name_twice : List (List ℕ) → List ℕ → Option Refusal
name_twice before name = refused_if (is_among name before) (refusal.DuplicatePartition name)
