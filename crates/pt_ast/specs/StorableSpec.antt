-- Storable tables as written.
use Rattle.std.specs.Prelude.{◌≤◌, Bool, true, false, List, All, IfSome, count_by}
use Rattle.pt_ast.specs.declared.written.Literal.{Literal}
use Rattle.pt_ast.specs.declared.written.Literal.TheVariants as literal
use Rattle.pt_ast.specs.declared.written.KindSpec.{KindSpec}
use Rattle.pt_ast.specs.declared.written.KindSpec.TheVariants as kind
use Rattle.pt_ast.specs.declared.written.ColOption.{ColOption}
use Rattle.pt_ast.specs.declared.written.ColOption.TheVariants as option
use Rattle.pt_ast.specs.declared.written.Item.{Item}
use Rattle.pt_ast.specs.declared.written.Item.TheVariants as item
use Rattle.pt_ast.specs.declared.written.HashSpec.{HashSpec}
use Rattle.pt_ast.specs.declared.written.HashSpec.TheVariants as hash
use Rattle.pt_ast.specs.declared.written.MainSpec.{MainSpec}
use Rattle.pt_ast.specs.declared.written.MainSpec.TheVariants as main
use Rattle.pt_ast.specs.declared.written.BoundSpec.{BoundSpec}
use Rattle.pt_ast.specs.declared.written.BoundSpec.TheVariants as bound
use Rattle.pt_ast.specs.declared.written.Entry.{Entry}
use Rattle.pt_ast.specs.declared.written.Entry.TheVariants as entry
use Rattle.pt_ast.specs.declared.written.ValuesSpec.{ValuesSpec}
use Rattle.pt_ast.specs.declared.written.ValuesSpec.TheVariants as values
use Rattle.pt_ast.specs.declared.written.SubSpec.{SubSpec}
use Rattle.pt_ast.specs.declared.written.PartItem.{PartItem}
use Rattle.pt_ast.specs.declared.written.PartSpec.{PartSpec}
use Rattle.pt_ast.specs.declared.written.TableSpec.{TableSpec}
use Rattle.pt_ast.specs.Storable.{HasAtLeast, IsCounted, IsNotNegative}
use Rattle.pt_ast.specs.StorableExpr.{IsStorableExpr}

-- ---- columns and keys

-- no number is negative
abbrev pub IsStorableLiteral : Literal → Type 0
IsStorableLiteral (literal.Number minus n) = IsNotNegative n
IsStorableLiteral (literal.Text bytes) = IsCounted bytes
IsStorableLiteral (literal.Hex bytes) = IsCounted bytes
IsStorableLiteral (literal.Date day) = Unit {0}
IsStorableLiteral literal.Null = Unit {0}

-- no length is negative
abbrev pub IsStorableKind : KindSpec → Type 0
IsStorableKind kind.Int = Unit {0}
IsStorableKind kind.BigInt = Unit {0}
IsStorableKind kind.Date = Unit {0}
IsStorableKind (kind.Binary most) = IsNotNegative most

abbrev pub IsStorableOption : ColOption → Type 0
IsStorableOption (option.Default literal) = IsStorableLiteral literal
IsStorableOption _ = Unit {0}

-- a key names a column
abbrev pub IsStorableItem : Item → Type 0
IsStorableItem (item.Column name kind options) = IsStorableKind kind × IsCounted options × All IsStorableOption options
IsStorableItem (item.Key rank name columns) = HasAtLeast 1 columns

abbrev pub is_column : Item → Bool
is_column (item.Column name kind options) = true
is_column (item.Key rank name columns) = false

-- ---- partitions

-- the columns of KEY may be none
abbrev pub IsStorableHash : HashSpec → Type 0
IsStorableHash (hash.Hash linear expr) = IsStorableExpr expr
IsStorableHash (hash.Key linear columns) = IsCounted columns

abbrev pub IsStorableMain : MainSpec → Type 0
IsStorableMain (main.Range expr) = IsStorableExpr expr
IsStorableMain (main.List expr) = IsStorableExpr expr
IsStorableMain (main.RangeColumns columns) = HasAtLeast 1 columns
IsStorableMain (main.ListColumns columns) = HasAtLeast 1 columns
IsStorableMain (main.Hash hash) = IsStorableHash hash

abbrev pub IsStorableBound : BoundSpec → Type 0
IsStorableBound bound.Max = Unit {0}
IsStorableBound (bound.Value expr) = IsStorableExpr expr

abbrev pub IsStorableEntry : Entry → Type 0
IsStorableEntry (entry.One bound) = IsStorableBound bound
IsStorableEntry (entry.Many bounds) = HasAtLeast 1 bounds × All IsStorableBound bounds

abbrev pub IsStorableValues : ValuesSpec → Type 0
IsStorableValues values.LessMax = Unit {0}
IsStorableValues (values.Less bounds) = HasAtLeast 1 bounds × All IsStorableBound bounds
IsStorableValues (values.Among entries) = HasAtLeast 1 entries × All IsStorableEntry entries

-- names of subpartitions are some, where they are written
pub record IsStorablePart (part : PartItem) : Type 0 where
  pub values : IfSome part.values IsStorableValues
  pub subs : IfSome part.subs (HasAtLeast 1)

-- definitions of partitions, of which there is one at least
abbrev pub AreStorableParts : List PartItem → Type 0
AreStorableParts parts = HasAtLeast 1 parts × All IsStorablePart parts

pub record IsStorableSub (sub : SubSpec) : Type 0 where
  pub hash : IsStorableHash sub.hash
  pub count : IfSome sub.count IsNotNegative

pub record IsStorablePartSpec (spec : PartSpec) : Type 0 where
  pub main : IsStorableMain spec.main
  pub count : IfSome spec.count IsNotNegative
  pub sub : IfSome spec.sub IsStorableSub
  pub parts : IfSome spec.parts AreStorableParts

-- ---- the whole

pub record IsStorableSpec (spec : TableSpec) : Type 0 where
  pub some : HasAtLeast 1 spec.items
  pub items : All IsStorableItem spec.items
  pub columns : count_by is_column spec.items ≤ 1_000_000
  pub by : IfSome spec.by IsStorablePartSpec
