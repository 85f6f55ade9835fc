use Rattle.pt_rowfile.proofs.WrittenParts.{size_day, size_int, size_text}
use Rattle.pt_rowfile.proofs.written.cell_size.Goals as goal

pub returns-in-Int-clause-size : goal.returns-in-Int-clause-size
returns-in-Int-clause-size c = size_int c.args.cell.now _ c.in-Int.is

pub returns-in-Day-clause-size : goal.returns-in-Day-clause-size
returns-in-Day-clause-size c = size_day c.args.cell.now _ c.in-Day.is

pub returns-in-Bytes-clause-size : goal.returns-in-Bytes-clause-size
returns-in-Bytes-clause-size c = size_text c.args.cell.now _ c.items.result.now c.in-Bytes.is c.items.ensures
