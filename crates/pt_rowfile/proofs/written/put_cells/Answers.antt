use Rattle.std.proofs.Common.{subst}
use Rattle.std.proofs.lemmas.List.Elements.{All-more}
use Rattle.pt_rowfile.specs.Cells.{IsCell}
use Rattle.pt_rowfile.proofs.WrittenParts.{cells_written}
use Rattle.pt_rowfile.proofs.written.put_cells.Goals as goal

pub loop-cell-preserved : goal.loop-cell-preserved
loop-cell-preserved c = record {
  written = cells_written c.args.out.now.items c.loop-cell.out.items c.put_cell.new.out.items c.args.cells.now c.loop-cell.cell-index c.cell-item.result c.loop-cell-test.true c.cell-item.is c.loop-cell.invariant.written
      c.in_ok-put_cell.ensures.written;
  cells = All-more IsCell c.args.cells.now c.loop-cell.cell-index c.cell-item.result c.loop-cell-test.true c.loop-cell.invariant.cells
      (subst IsCell c.cell-item.is c.in_ok-put_cell.ensures.cell);
}
