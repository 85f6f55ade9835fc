-- A cell is the value that it lends, and a number of a calculation the integer of that size.
use Rattle.pt_value.specs.declared.value.Value.{Value}
use Rattle.pt_value.specs.declared.value.Value.TheVariants.{Null, Int, Day, Bytes}
use Rattle.pt_value.specs.declared.value.Cell.{Cell}
use Rattle.pt_value.specs.declared.value.Cell.TheVariants as cell

abbrev pub lent : Cell → Value
lent cell.Null = Null
lent (cell.Wide n) = Int n
lent (cell.Day day) = Day day
lent (cell.Bytes bytes) = Bytes bytes.now
