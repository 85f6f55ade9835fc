use Rattle.std.proofs.Common.{ap, length, arith}
use Rattle.pt_expr.proofs.Nodes.{fitting_length}
use Rattle.pt_checks.proofs.Fitting.{defaults_fit}
use Rattle.pt_checks.proofs.new_row.new_cells.Goals as goal

pub row_of-requires-clause-defaults : goal.row_of-requires-clause-defaults
row_of-requires-clause-defaults c = defaults_fit c.args.def.now c.requires.valid

pub lacks_value-requires : goal.lacks_value-requires
lacks_value-requires c = omega (arith, ap length c.items-7.ensures, ap length c.as_slice.ensures.value, fitting_length _ _ c.in_ok-cells.ensures.fitting)
