-- Which spots of a table a condition keeps. MySQL 5.7 manual, section 22.4, "Partition Pruning", and section 22.5, "Partition Selection".
use Rattle.std.specs.Prelude.{◌≡◌, ℕ, ◌≤◌, ◌↔◌, IsTrue, Bool, true, false, ◌==◌, List, [], ◌∷◌, filter, length, slice_index_or, Option, Some, None, if◌then◌else◌}
use Rattle.std.specs.List.{list_all}
use Rattle.pt_value.specs.Fits.{DayFits, IntFits}
use Rattle.pt_value.specs.declared.value.Value.{Value}
use Rattle.pt_value.specs.declared.value.Value.TheVariants as value
use Rattle.pt_value.specs.declared.value.Kind.{Kind}
use Rattle.pt_value.specs.declared.value.Kind.TheVariants as kind
use Rattle.pt_ast.specs.declared.tree.Cond.{Cond}
use Rattle.pt_ast.specs.declared.tree.Expr.{Expr}
use Rattle.pt_ast.specs.declared.tree.Expr.TheViews.{out-Expr}
use Rattle.pt_ast.specs.declared.tree.Expr.TheOpen.{Expr-F}
use Rattle.pt_ast.specs.declared.tree.Func.{Func}
use Rattle.pt_ast.specs.declared.tree.Func.TheVariants as func
use Rattle.pt_ast.specs.declared.table.Column.{Column}
use Rattle.pt_ast.specs.declared.table.PartBy.{PartBy}
use Rattle.pt_ast.specs.declared.table.PartBy.TheVariants as by
use Rattle.pt_ast.specs.declared.table.TableDef.{TableDef}
use Rattle.pt_ast.specs.declared.database.Spot.{Spot}
use Rattle.pt_interval.specs.Instances.{are_bytes}
use Rattle.pt_interval.specs.Counting.{IsAmong}
use Rattle.pt_place.specs.Names.{columns_in}
use Rattle.pt_place.specs.Place.{is_in_set, numbered, part_of, subs_at}
use Rattle.pt_db.specs.Spots.{IsSpotOf, spots_of}
use Rattle.pt_reach.specs.May.{may_hold}

-- ---- the column of a level, by its position: a level is the partitioning or the subpartitioning

-- the one that all of these are
abbrev pub sole : List ℕ → Option ℕ
sole [] = None
sole (c ∷ rest) = if list_all (λ other. other == c) rest then Some c else None

abbrev pub first : List ℕ → Option ℕ
first [] = None
first (c ∷ rest) = Some c

abbrev pub alone : List ℕ → Option ℕ
alone (c ∷ []) = Some c
alone _ = None

-- the one that its expression names, the first one of COLUMNS, and that of KEY over one
abbrev pub level_column : List Column → PartBy → Option ℕ
level_column columns by.Whole = None
level_column columns (by.Range expr) = sole (columns_in columns expr)
level_column columns (by.List expr) = sole (columns_in columns expr)
level_column columns (by.RangeColumns numbers) = first numbers
level_column columns (by.ListColumns numbers) = first numbers
level_column columns (by.Hash linear expr) = sole (columns_in columns expr)
level_column columns (by.Key linear numbers) = alone numbers

-- ---- whether all its values are followed, however many they are

abbrev pub is_name : Expr-F Expr → Bool
is_name (Expr-F.Column name) = true
is_name _ = false

abbrev pub is_year_or_days : Func → Bool
is_year_or_days func.Year = true
is_year_or_days func.ToDays = true
is_year_or_days _ = false

-- a column, its YEAR or its TO_DAYS
abbrev pub is_followed : Expr-F Expr → Bool
is_followed (Expr-F.Column name) = true
is_followed (Expr-F.Call called part) = if is_year_or_days called then is_name (out-Expr part) else false
is_followed _ = false

-- RANGE and LIST over such an expression, and COLUMNS
abbrev pub follows_all : PartBy → Bool
follows_all (by.Range expr) = is_followed (out-Expr expr)
follows_all (by.List expr) = is_followed (out-Expr expr)
follows_all (by.RangeColumns numbers) = true
follows_all (by.ListColumns numbers) = true
follows_all _ = false

-- ---- rows that a condition leaves

abbrev pub BytesOf : Kind → List ℕ → Type 0
BytesOf (kind.Binary most) bytes = are_bytes bytes ≡ true
BytesOf _ bytes = ⊥

-- a value of the kind, or NULL: bytes of any length
abbrev pub IsOfKind : Kind → Value → Type 0
IsOfKind k value.Null = Unit {0}
IsOfKind k (value.Int n) = IntFits k n
IsOfKind k (value.Day day) = DayFits k day
IsOfKind k (value.Bytes bytes) = BytesOf k bytes

abbrev pub AreOfKinds : List Column → List Value → Type 0
AreOfKinds [] [] = Unit {0}
AreOfKinds (column ∷ columns) (cell ∷ cells) = IsOfKind column.kind cell × AreOfKinds columns cells
AreOfKinds _ _ = ⊥

abbrev pub cell_at : List Value → ℕ → Value
cell_at cells c = slice_index_or cells c value.Null

-- cells of the columns' kinds, and the condition may hold at that of column c. The other cells are any, also NULL in a NOT NULL column
pub record IsLeft (columns : List Column) (c : ℕ) (cond : Option Cond) (cells : List Value) : Type 0 where
  pub kinds : AreOfKinds columns cells
  pub may : may_hold columns c cond (cell_at cells c) ≡ true

-- ---- parts of a level, where `placed` tells the part of a row

-- some row that is left is placed here
abbrev pub IsReached : List Column → ℕ → Option Cond → (List Value → Option ℕ) → ℕ → Type 0
IsReached columns c cond placed part = (cells : List Value) × IsLeft columns c cond cells × (placed cells ≡ Some part)

-- at most 64 values are left of the column, NULL among them if it is
abbrev pub AreFew : List Column → ℕ → Option Cond → Type 0
AreFew columns c cond = (values : List Value) × (length values ≤ 64) × ((cells : List Value) → IsLeft columns c cond cells → IsAmong (cell_at cells c) values)

-- without a column every part is kept, and one that follows no values where they are many
abbrev pub IsKeptOf : List Column → Option Cond → Bool → Option ℕ → (List Value → Option ℕ) → ℕ → Type 0
IsKeptOf columns cond all None placed part = Unit {0}
IsKeptOf columns cond true (Some c) placed part = IsReached columns c cond placed part
IsKeptOf columns cond false (Some c) placed part = AreFew columns c cond → IsReached columns c cond placed part

abbrev pub IsKeptPart : List Column → Option Cond → PartBy → (List Value → Option ℕ) → ℕ → Type 0
IsKeptPart columns cond kind placed part = IsKeptOf columns cond (follows_all kind) (level_column columns kind) placed part

-- ---- spots

-- the subpartition of a row within the partition at a position
abbrev pub sub_in : TableDef → ℕ → List Value → Option ℕ
sub_in def part cells = Some (numbered def.columns def.sub (length (subs_at def.parts part)) cells)

-- both levels keep the spot, and the list of partitions names it
pub record IsKept (def : TableDef) (names : List (List ℕ)) (cond : Option Cond) (spot : Spot) : Type 0 where
  pub part : IsKeptPart def.columns cond def.by (part_of def.columns def.by def.parts) spot.part
  pub sub : IsKeptPart def.columns cond def.sub (sub_in def spot.part) spot.sub
  pub named : is_in_set def names spot ≡ true

-- the spots that are kept, in order of definition
abbrev pub AreKept : TableDef → List (List ℕ) → Option Cond → List Spot → Type 0
AreKept def names cond spots =
    (keeps : Spot → Bool) × ((spot : Spot) → IsSpotOf def spot → IsTrue (keeps spot) ↔ IsKept def names cond spot) × (spots ≡ filter keeps (spots_of def))
