use Rattle.pt_update.proofs.RowEnds.{placed_whole}
use Rattle.pt_update.proofs.checking.moved_row.Goals as goal

pub returns-clause-placed : goal.returns-clause-placed
returns-clause-placed c = placed_whole c.args.def.now c.in_ok-cells.cells c.in_ok-cells.ensures.fitting c.in_ok-cells.ensures.filled c.placed_cells.result c.placed_cells.ensures.placed
