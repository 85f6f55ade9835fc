use Rattle.std.proofs.Common.{◌<◌, ap, ◌∙◌, rules}
use Rattle.std.specs.Option.{option_map}
use Rattle.pt_rowfile.specs.Reader.{cell_at, cells_at}
use Rattle.pt_rowfile.proofs.Cells.{behind, cells_end, cells_fail, cells_preserved}
use Rattle.pt_rowfile.proofs.Taken.{takes_none, takes_some}
use Rattle.pt_rowfile.proofs.source.Source.cells.Goals as goal

pub returns-in_default : goal.returns-in_default
returns-in_default c =
    let some : 0 < c.loop-left.left = search rules in
    let none = takes_none c.in_ok-cell.field-0 c.cell.new.self (cell_at c.loop-left.self) (search rules) c.in_ok-cell.ensures in
    c.loop-left.invariant ∙ ap (option_map (behind c.loop-left.cells)) (cells_fail c.loop-left.left c.loop-left.self some none)

pub loop-left-preserved : goal.loop-left-preserved
loop-left-preserved c =
    let some : 0 < c.loop-left.left = search rules in
    let read = takes_some c.in_ok-cell.field-0 c.in-Some.cell c.cell.new.self (cell_at c.loop-left.self) (search rules) c.in_ok-cell.ensures in
    cells_preserved (cells_at c.args.count c.args.self.now) c.loop-left.cells c.push.new.self c.loop-left.left c.loop-left.self c.cell.new.self c.in-Some.cell c.loop-left.invariant some read (search rules)

pub returns : goal.returns
returns c = cells_end (cells_at c.args.count c.args.self.now) c.loop-left.cells c.loop-left.left c.loop-left.self c.loop-left.invariant (search rules)
