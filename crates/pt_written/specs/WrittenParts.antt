-- What the text of a partitioning means: what the rows are partitioned by, names that aren't written, numbers, bounds and lists. MySQL
-- 5.7 manual, section 22.2, "Partitioning Types".
use Rattle.std.specs.Prelude.{ℕ, zero, suc, unsigned_abs, Bool, true, false, List, [], ◌∷◌, ◌++◌, map, length, codes, unwrap_or, Option, Some, None}
use Rattle.std.specs.List.{range_with_len}
use Rattle.std.specs.Option.{option_and_then, option_map, option_map_or}
use Rattle.std.specs.Fmt.{decimal}
use Rattle.pt_value.specs.declared.value.Value.{Value}
use Rattle.pt_value.specs.declared.value.Kind.{Kind}
use Rattle.pt_value.specs.declared.value.Kind.TheVariants as kind
use Rattle.pt_ast.specs.declared.tree.Expr.{Expr, fold-Expr}
use Rattle.pt_ast.specs.declared.tree.Expr.TheOpen.{Expr-F}
use Rattle.pt_ast.specs.declared.tree.Expr.TheViews.{roll-Expr}
use Rattle.pt_ast.specs.declared.tree.Expr.TheVariants as tree
use Rattle.pt_ast.specs.declared.written.HashSpec.{HashSpec}
use Rattle.pt_ast.specs.declared.written.HashSpec.TheVariants as hash
use Rattle.pt_ast.specs.declared.written.MainSpec.{MainSpec}
use Rattle.pt_ast.specs.declared.written.MainSpec.TheVariants as main
use Rattle.pt_ast.specs.declared.written.SubSpec.{SubSpec}
use Rattle.pt_ast.specs.declared.written.PartItem.{PartItem}
use Rattle.pt_ast.specs.declared.written.PartSpec.{PartSpec}
use Rattle.pt_ast.specs.declared.written.ValuesSpec.{ValuesSpec}
use Rattle.pt_ast.specs.declared.written.ValuesSpec.TheVariants as values
use Rattle.pt_ast.specs.declared.written.BoundSpec.{BoundSpec}
use Rattle.pt_ast.specs.declared.written.BoundSpec.TheVariants as written
use Rattle.pt_ast.specs.declared.written.Entry.{Entry}
use Rattle.pt_ast.specs.declared.written.Entry.TheVariants as entry
use Rattle.pt_ast.specs.declared.table.Bound.{Bound}
use Rattle.pt_ast.specs.declared.table.Bound.TheVariants as bound
use Rattle.pt_ast.specs.declared.table.Column.{Column}
use Rattle.pt_ast.specs.declared.table.KeyDef.{KeyDef}
use Rattle.pt_ast.specs.declared.table.PartBy.{PartBy}
use Rattle.pt_ast.specs.declared.table.PartBy.TheVariants as by
use Rattle.pt_ast.specs.declared.table.PartDef.{PartDef}
use Rattle.pt_expr.specs.Values.{whole_value}
use Rattle.pt_written.specs.Written.{columns_for_rows, own_name, places_of}

-- ---- what the rows are partitioned by

abbrev pub renaming : List Column → Expr-F Expr → Expr
renaming columns (Expr-F.Column name) = tree.Column (own_name columns name)
renaming columns node = roll-Expr node

-- the expression, with each column named so
abbrev pub renamed : List Column → Expr → Expr
renamed columns = fold-Expr Expr (renaming columns)

-- KEY without columns takes these
abbrev pub by_hash : List Column → List ℕ → HashSpec → PartBy
by_hash columns instead (hash.Hash linear expr) = by.Hash linear (renamed columns expr)
by_hash columns instead (hash.Key linear []) = by.Key linear instead
by_hash columns instead (hash.Key linear (name ∷ names)) = by.Key linear (places_of columns (name ∷ names))

-- KEY without columns takes those of a key of the table
abbrev pub by_of : List Column → List KeyDef → MainSpec → PartBy
by_of columns keys (main.Range expr) = by.Range (renamed columns expr)
by_of columns keys (main.List expr) = by.List (renamed columns expr)
by_of columns keys (main.RangeColumns names) = by.RangeColumns (places_of columns names)
by_of columns keys (main.ListColumns names) = by.ListColumns (places_of columns names)
by_of columns keys (main.Hash hash) = by_hash columns (columns_for_rows columns keys) hash

-- SUBPARTITION BY KEY takes none but those that it names
abbrev pub sub_of : List Column → Option SubSpec → PartBy
sub_of columns (Some sub) = by_hash columns [] sub.hash
sub_of columns None = by.Whole

-- ---- numbers

-- how many partitions: those that are defined, else the number after PARTITIONS, else one
abbrev pub part_count : PartSpec → ℕ
part_count spec = option_map_or (λ parts. length parts) spec.parts (option_map_or unsigned_abs spec.count 1)

-- how many subpartitions a partition defines
abbrev pub subs_defined : PartItem → ℕ
subs_defined part = option_map_or (λ names. length names) part.subs 0

abbrev pub first_defined : Option (List PartItem) → ℕ
first_defined (Some (part ∷ parts)) = subs_defined part
first_defined _ = 0

abbrev pub one_at_least : ℕ → ℕ
one_at_least zero = 1
one_at_least (suc n) = suc n

-- the number after SUBPARTITIONS
abbrev pub subs_stated : Option SubSpec → Option ℕ
subs_stated sub = option_and_then (λ (own : SubSpec). option_map unsigned_abs own.count) sub

-- How many subpartitions each partition has: the number after SUBPARTITIONS, else as many as the first partition defines, else one.
-- Subpartitions that are defined without SUBPARTITION BY count too, though they are refused later.
abbrev pub sub_count : PartSpec → ℕ
sub_count spec = unwrap_or (subs_stated spec.sub) (one_at_least (first_defined spec.parts))

-- ---- bounds and lists of values

abbrev pub is_date : Kind → Bool
is_date kind.Date = true
is_date _ = false

-- the value of a constant expression as an item of this kind: no column is there to be named
abbrev pub worth : Kind → Expr → Value
worth k expr = whole_value [] expr (is_date k) []

abbrev pub bound_of : Kind → BoundSpec → Bound
bound_of k (written.Value expr) = bound.Val (worth k expr)
bound_of k written.Max = bound.Max

abbrev pub tuple_of : List Kind → List BoundSpec → List Bound
tuple_of (k ∷ kinds) (item ∷ items) = bound_of k item ∷ tuple_of kinds items
tuple_of _ _ = []

abbrev pub entry_items : Entry → List BoundSpec
entry_items (entry.One item) = item ∷ []
entry_items (entry.Many items) = items

-- LESS THAN MAXVALUE is LESS THAN (MAXVALUE)
abbrev pub range_tuples : Option ValuesSpec → Option (List (List BoundSpec))
range_tuples (Some values.LessMax) = Some ((written.Max ∷ []) ∷ [])
range_tuples (Some (values.Less items)) = Some (items ∷ [])
range_tuples _ = None

abbrev pub list_tuples : Option ValuesSpec → Option (List (List BoundSpec))
list_tuples (Some (values.Among entries)) = Some (map entry_items entries)
list_tuples _ = None

abbrev pub no_tuples : Option ValuesSpec → Option (List (List BoundSpec))
no_tuples None = Some []
no_tuples _ = None

-- the tuples that VALUES writes, None where it isn't of the form
abbrev pub tuples_in : PartBy → Option ValuesSpec → Option (List (List BoundSpec))
tuples_in (by.Range expr) values = range_tuples values
tuples_in (by.RangeColumns numbers) values = range_tuples values
tuples_in (by.List expr) values = list_tuples values
tuples_in (by.ListColumns numbers) values = list_tuples values
tuples_in _ values = no_tuples values

abbrev pub bounds_of : List Kind → PartBy → Option ValuesSpec → List (List Bound)
bounds_of kinds kind values = option_map_or (λ tuples. map (tuple_of kinds) tuples) (tuples_in kind values) []

-- ---- partitions

-- the partition's name, `sp`, and a number from 0
abbrev pub sub_names : List ℕ → ℕ → List (List ℕ)
sub_names name count = map (λ i. name ++ codes "sp" ++ decimal i) (range_with_len 0 count)

-- the names that are written, else those that are made
abbrev pub subs_named : Option SubSpec → ℕ → List ℕ → Option (List (List ℕ)) → List (List ℕ)
subs_named None count name written = []
subs_named (Some sub) count name (Some names) = names
subs_named (Some sub) count name None = sub_names name count

abbrev pub part_in : List Kind → PartBy → Option SubSpec → ℕ → PartItem → PartDef
part_in kinds kind sub count part = record {
  name = part.name;
  bounds = bounds_of kinds kind part.values;
  subs = subs_named sub count part.name part.subs;
}

-- p and a number from 0
abbrev pub part_made : Option SubSpec → ℕ → ℕ → PartDef
part_made sub count i =
    let name = codes "p" ++ decimal i in
    record { name = name; bounds = []; subs = subs_named sub count name None }

abbrev pub parts_of : List Kind → PartBy → PartSpec → List PartDef
parts_of kinds kind spec =
    option_map_or (λ parts. map (part_in kinds kind spec.sub (sub_count spec)) parts) spec.parts
    (map (part_made spec.sub (sub_count spec)) (range_with_len 0 (part_count spec)))
