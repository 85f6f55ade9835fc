-- Where a probe is found.
use Rattle.std.specs.Prelude.{ℕ, List, [], ◌∷◌, Option}
use Rattle.pt_ast.specs.declared.table.PartDef.{PartDef}
use Rattle.pt_ast.specs.Bounds.{value_of, cells_at}
use Rattle.pt_ast.specs.Ranges.{range_part, range_columns_part}
use Rattle.pt_ast.specs.Lists.{list_part}
use Rattle.pt_bounds.specs.declared.probe.Probe.{Probe}
use Rattle.pt_bounds.specs.declared.probe.Probe.TheVariants as probe

-- by RANGE, or by RANGE COLUMNS
abbrev pub range_found : List PartDef → Probe → Option ℕ
range_found parts (probe.Value value) = range_part parts value
range_found parts (probe.Columns cells columns) = range_columns_part parts (cells_at cells.now columns.now)

-- by LIST, or by LIST COLUMNS
abbrev pub list_found : List PartDef → Probe → Option ℕ
list_found parts (probe.Value value) = list_part parts (value_of value ∷ [])
list_found parts (probe.Columns cells columns) = list_part parts (cells_at cells.now columns.now)
