-- Storable definitions: the rules of expressions, and those that make a definition one of a file.
use Rattle.std.specs.Prelude.{◌≡◌, ℕ, ◌<◌, ◌≤◌, ℤ, List, [], length, All, Any, Option, Some, None, IfSome, codes}
use Rattle.pt_value.specs.Fits.{FitsDate}
use Rattle.pt_value.specs.declared.value.Value.{Value}
use Rattle.pt_value.specs.declared.value.Value.TheVariants as value
use Rattle.pt_ast.specs.declared.tree.Expr.{Expr, every-Expr}
use Rattle.pt_ast.specs.declared.tree.Expr.TheOpen.{Expr-F}
use Rattle.pt_ast.specs.declared.table.Column.{Column}
use Rattle.pt_ast.specs.declared.table.Rank.{Rank}
use Rattle.pt_ast.specs.declared.table.Rank.TheVariants as rank
use Rattle.pt_ast.specs.declared.table.KeyDef.{KeyDef}
use Rattle.pt_ast.specs.declared.table.PartBy.{PartBy}
use Rattle.pt_ast.specs.declared.table.PartBy.TheVariants as by
use Rattle.pt_ast.specs.declared.table.Bound.{Bound}
use Rattle.pt_ast.specs.declared.table.Bound.TheVariants as bound
use Rattle.pt_ast.specs.declared.table.PartDef.{PartDef}
use Rattle.pt_ast.specs.declared.table.TableDef.{TableDef}
use Rattle.pt_ast.specs.Storable.{HasAtLeast, IsCounted}
use Rattle.pt_ast.specs.StorableExpr.{IsStorableExpr}

-- ---- values and columns

-- a byte string has at most 65,535 bytes
abbrev pub IsShort : List ℕ → Type 0
IsShort bytes = length bytes ≤ 65_535

abbrev pub IsShortValue : Value → Type 0
IsShortValue value.Null = Unit {0}
IsShortValue (value.Int n) = Unit {0}
IsShortValue (value.Day day) = Unit {0}
IsShortValue (value.Bytes bytes) = IsShort bytes

abbrev pub IsStorableColumn : Column → Type 0
IsStorableColumn column = IfSome column.default IsShortValue

-- positions in a table of this many columns
abbrev pub ArePositions : ℕ → List ℕ → Type 0
ArePositions width numbers = IsCounted numbers × All (λ number. number < width) numbers

-- and one at least
abbrev pub AreSomePositions : ℕ → List ℕ → Type 0
AreSomePositions width numbers = HasAtLeast 1 numbers × ArePositions width numbers

abbrev pub IsNamedByRank : Rank → List ℕ → Type 0
IsNamedByRank rank.Primary name = name ≡ codes "PRIMARY"
IsNamedByRank rank.Unique name = Unit {0}
IsNamedByRank rank.Plain name = Unit {0}

-- a primary key is named PRIMARY
pub record IsStorableKey (width : ℕ) (key : KeyDef) : Type 0 where
  pub columns : AreSomePositions width key.columns
  pub name : IsNamedByRank key.rank key.name

-- ---- expressions

abbrev pub IsFitDate : Option ℤ → Type 0
IsFitDate (Some day) = FitsDate day
IsFitDate None = ⊥

-- One node: a column is named as the list of columns writes it, a byte string is short, and a date fits DATE.
abbrev pub IsKeptNode : List Column → Expr-F Expr → Type 0
IsKeptNode columns (Expr-F.Text bytes) = IsShort bytes
IsKeptNode columns (Expr-F.Hex bytes) = IsShort bytes
IsKeptNode columns (Expr-F.Date day) = IsFitDate day
IsKeptNode columns (Expr-F.Column name) = Any (λ column. column.name ≡ name) columns
IsKeptNode columns _ = Unit {0}

pub record IsKeptExpr (columns : List Column) (expr : Expr) : Type 0 where
  pub storable : IsStorableExpr expr
  pub nodes : every-Expr (IsKeptNode columns) expr

-- ---- partitions

abbrev pub IsStorableBy : List Column → PartBy → Type 0
IsStorableBy columns by.Whole = Unit {0}
IsStorableBy columns (by.Range expr) = IsKeptExpr columns expr
IsStorableBy columns (by.List expr) = IsKeptExpr columns expr
IsStorableBy columns (by.RangeColumns numbers) = AreSomePositions (length columns) numbers
IsStorableBy columns (by.ListColumns numbers) = AreSomePositions (length columns) numbers
IsStorableBy columns (by.Hash linear expr) = IsKeptExpr columns expr
IsStorableBy columns (by.Key linear numbers) = ArePositions (length columns) numbers

-- subpartitions are by a number, or there are none
abbrev pub IsSub : PartBy → Type 0
IsSub by.Whole = Unit {0}
IsSub (by.Hash linear expr) = Unit {0}
IsSub (by.Key linear numbers) = Unit {0}
IsSub _ = ⊥

abbrev pub IsShortBound : Bound → Type 0
IsShortBound (bound.Val value) = IsShortValue value
IsShortBound bound.Max = Unit {0}

-- a tuple has this many items
pub record IsStorableTuple (width : ℕ) (tuple : List Bound) : Type 0 where
  pub items : length tuple ≡ width
  pub short : All IsShortBound tuple

-- one tuple of a range, one and more of a list, none else; an item a column under COLUMNS, else one
abbrev pub AreBoundsOf : PartBy → List (List Bound) → Type 0
AreBoundsOf by.Whole tuples = ⊥
AreBoundsOf (by.Range expr) tuples = (length tuples ≡ 1) × All (IsStorableTuple 1) tuples
AreBoundsOf (by.List expr) tuples = HasAtLeast 1 tuples × All (IsStorableTuple 1) tuples
AreBoundsOf (by.RangeColumns numbers) tuples = (length tuples ≡ 1) × All (IsStorableTuple (length numbers)) tuples
AreBoundsOf (by.ListColumns numbers) tuples = HasAtLeast 1 tuples × All (IsStorableTuple (length numbers)) tuples
AreBoundsOf (by.Hash linear expr) tuples = tuples ≡ []
AreBoundsOf (by.Key linear numbers) tuples = tuples ≡ []

-- a partition names subpartitions only where there are some
abbrev pub AreSubsOf : PartBy → List (List ℕ) → Type 0
AreSubsOf by.Whole names = names ≡ []
AreSubsOf _ names = IsCounted names

pub record IsStorablePartDef (main sub : PartBy) (part : PartDef) : Type 0 where
  pub bounds : AreBoundsOf main part.bounds
  pub subs : AreSubsOf sub part.subs

-- an unpartitioned table has no partitions and no subpartitions
abbrev pub IsWholeAlone : PartBy → PartBy → List PartDef → Type 0
IsWholeAlone by.Whole sub parts = (sub ≡ by.Whole) × (parts ≡ [])
IsWholeAlone _ sub parts = Unit {0}

-- ---- the whole

pub record IsStorableDef (def : TableDef) : Type 0 where
  pub some : HasAtLeast 1 def.columns
  pub most : length def.columns ≤ 1_000_000
  pub columns : All IsStorableColumn def.columns
  pub few : IsCounted def.keys
  pub keys : All (IsStorableKey (length def.columns)) def.keys
  pub by : IsStorableBy def.columns def.by
  pub sub : IsStorableBy def.columns def.sub × IsSub def.sub
  pub alone : IsWholeAlone def.by def.sub def.parts
  pub counted : IsCounted def.parts
  pub parts : All (IsStorablePartDef def.by def.sub) def.parts
