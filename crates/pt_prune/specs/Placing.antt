-- For the code: what placing takes of a valid definition. Nothing public cites these.
use Rattle.std.specs.Prelude.{◌≡◌, ℕ, ◌<◌, false, List, None, IsOk}
use Rattle.pt_ast.specs.declared.table.Column.{Column}
use Rattle.pt_ast.specs.declared.table.PartBy.{PartBy}
use Rattle.pt_ast.specs.declared.table.PartBy.TheVariants as by
use Rattle.pt_ast.specs.declared.table.PartDef.{PartDef}
use Rattle.pt_ast.specs.Ranges.{range_fault}
use Rattle.pt_expr.specs.Found.{checked}

-- the expression is sound, bounds rise, and there is a part
abbrev pub CanPlace : List Column → PartBy → List PartDef → ℕ → Type 0
CanPlace columns (by.Range expr) parts count = IsOk (checked columns expr false) × (range_fault parts ≡ None)
CanPlace columns (by.List expr) parts count = IsOk (checked columns expr false)
CanPlace columns (by.Hash linear expr) parts count = IsOk (checked columns expr false) × (0 < count)
CanPlace columns (by.Key linear numbers) parts count = 0 < count
CanPlace columns _ parts count = Unit {0}
