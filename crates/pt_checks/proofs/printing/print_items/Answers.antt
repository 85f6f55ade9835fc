use Rattle.pt_checks.proofs.Fitting.{cells_show}
use Rattle.pt_checks.proofs.printing.print_items.Goals as goal

pub print_cells-requires : goal.print_cells-requires
print_cells-requires c = rw c.items-in-None.ensures (cells_show c.args.columns.now c.args.cells.now c.requires.fitting)
