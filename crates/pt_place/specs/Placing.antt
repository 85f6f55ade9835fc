-- For the code of `place`: what it takes of a valid definition. Nothing public cites these.
use Rattle.std.specs.Prelude.{◌≡◌, ℕ, ◌<◌, ◌^◌, false, List, length, None, IsOk}
use Rattle.pt_ast.specs.declared.table.Column.{Column}
use Rattle.pt_ast.specs.declared.table.PartBy.{PartBy}
use Rattle.pt_ast.specs.declared.table.PartBy.TheVariants as by
use Rattle.pt_ast.specs.declared.table.TableDef.{TableDef}
use Rattle.pt_ast.specs.Ranges.{range_fault}
use Rattle.pt_expr.specs.Found.{checked}

-- the number of parts is one of 32 bits, and not 0
abbrev pub IsCount : ℕ → Type 0
IsCount count = (0 < count) × (count < 2 ^ 32)

-- the expression is sound, and there are parts
abbrev pub CanNumber : List Column → PartBy → ℕ → Type 0
CanNumber columns (by.Hash linear expr) count = IsOk (checked columns expr false) × IsCount count
CanNumber columns (by.Key linear numbers) count = IsCount count
CanNumber columns _ count = Unit {0}

-- the expression is sound, bounds rise, and there is a part
abbrev pub CanFindBy : TableDef → PartBy → Type 0
CanFindBy def (by.Range expr) = IsOk (checked def.columns expr false) × (range_fault def.parts ≡ None)
CanFindBy def (by.RangeColumns numbers) = range_fault def.parts ≡ None
CanFindBy def (by.List expr) = IsOk (checked def.columns expr false)
CanFindBy def (by.ListColumns numbers) = Unit {0}
CanFindBy def kind = CanNumber def.columns kind (length def.parts)

pub record CanFind (def : TableDef) : Type 0 where
  pub by : CanFindBy def def.by
  pub few : length def.parts < 2 ^ 32
