-- In the shape of the code: what a tuple is compared with, item by item. Nothing public cites these.
use Rattle.std.specs.Prelude.{List, [], ◌∷◌, map}
use Rattle.pt_value.specs.Cell.{lent}
use Rattle.pt_ast.specs.declared.table.Bound.{Bound}
use Rattle.pt_ast.specs.declared.table.Bound.TheVariants.{Val, Max}
use Rattle.pt_ast.specs.Bounds.{value_of, cells_at}
use Rattle.pt_bounds.specs.declared.probe.Probe.{Probe}
use Rattle.pt_bounds.specs.declared.probe.Probe.TheVariants as probe
use Rattle.pt_bounds.specs.declared.compare.Item.{Item}
use Rattle.pt_bounds.specs.declared.compare.Item.TheVariants as item
use Rattle.pt_bounds.specs.declared.compare.Sought.{Sought}
use Rattle.pt_bounds.specs.declared.compare.Sought.TheVariants as sought

abbrev pub seen : Item → Bound
seen (item.Cell cell) = Val (lent cell)
seen item.Max = Max

abbrev pub items_of : Sought → List Bound
items_of (sought.Value value) = Val (value_of value) ∷ []
items_of (sought.Columns cells columns) = map Val (cells_at cells.now columns.now)
items_of (sought.Tuple bounds) = bounds.now

abbrev pub probed : Probe → List Bound
probed (probe.Value value) = Val (value_of value) ∷ []
probed (probe.Columns cells columns) = map Val (cells_at cells.now columns.now)
