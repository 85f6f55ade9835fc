-- What the types of a definition say of its numbers, names and bytes: each value of the code is so.
use Rattle.std.specs.Prelude.{◌<◌, ◌^◌, All, IfSome}
use Rattle.std.specs.Int.{w32, w64, w128}
use Rattle.std.specs.Int.RustNames.{FitsSigned}
use Rattle.pt_value.specs.Ident.{IsIdent}
use Rattle.pt_value.specs.declared.value.Value.{Value}
use Rattle.pt_value.specs.declared.value.Value.TheVariants as value
use Rattle.pt_value.specs.declared.value.Kind.{Kind}
use Rattle.pt_value.specs.declared.value.Kind.TheVariants as kind
use Rattle.pt_bytes.specs.Numbers.{AreBytes}
use Rattle.pt_ast.specs.declared.tree.Expr.{Expr, every-Expr}
use Rattle.pt_ast.specs.declared.tree.Expr.TheOpen.{Expr-F}
use Rattle.pt_ast.specs.declared.table.Column.{Column}
use Rattle.pt_ast.specs.declared.table.PartBy.{PartBy}
use Rattle.pt_ast.specs.declared.table.PartBy.TheVariants as by
use Rattle.pt_ast.specs.declared.table.Bound.{Bound}
use Rattle.pt_ast.specs.declared.table.Bound.TheVariants as bound
use Rattle.pt_ast.specs.declared.table.PartDef.{PartDef}
use Rattle.pt_ast.specs.declared.table.TableDef.{TableDef}

-- an i64, an i32, bytes
abbrev pub FitsCell : Value → Type 0
FitsCell value.Null = Unit {0}
FitsCell (value.Int n) = FitsSigned w64 n
FitsCell (value.Day day) = FitsSigned w32 day
FitsCell (value.Bytes bytes) = AreBytes bytes

-- a u16
abbrev pub FitsKind : Kind → Type 0
FitsKind (kind.Binary most) = most < 2 ^ 16
FitsKind _ = Unit {0}

pub record FitsColumn (column : Column) : Type 0 where
  pub name : IsIdent column.name
  pub kind : FitsKind column.kind
  pub default : IfSome column.default FitsCell

-- One node: an i128, bytes. A column's name is one of the list of columns, and a day is within DATE.
abbrev pub FitsNode : Expr-F Expr → Type 0
FitsNode (Expr-F.Number n) = FitsSigned w128 n
FitsNode (Expr-F.Text bytes) = AreBytes bytes
FitsNode (Expr-F.Hex bytes) = AreBytes bytes
FitsNode _ = Unit {0}

abbrev pub FitsExpr : Expr → Type 0
FitsExpr expr = every-Expr FitsNode expr

abbrev pub FitsBy : PartBy → Type 0
FitsBy (by.Range expr) = FitsExpr expr
FitsBy (by.List expr) = FitsExpr expr
FitsBy (by.Hash linear expr) = FitsExpr expr
FitsBy _ = Unit {0}

abbrev pub FitsBound : Bound → Type 0
FitsBound (bound.Val cell) = FitsCell cell
FitsBound bound.Max = Unit {0}

pub record FitsPart (part : PartDef) : Type 0 where
  pub name : IsIdent part.name
  pub bounds : All (λ tuple. All FitsBound tuple) part.bounds
  pub subs : All IsIdent part.subs

pub record FitsDef (def : TableDef) : Type 0 where
  pub columns : All FitsColumn def.columns
  pub keys : All (λ key. IsIdent key.name) def.keys
  pub by : FitsBy def.by
  pub sub : FitsBy def.sub
  pub parts : All FitsPart def.parts
