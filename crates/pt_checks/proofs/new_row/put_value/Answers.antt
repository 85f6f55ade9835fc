use Rattle.std.proofs.Common.{arith}
use Rattle.pt_expr.proofs.Nodes.{fitting_length}
use Rattle.pt_checks.proofs.Fitting.{set_fits}
use Rattle.pt_checks.proofs.new_row.put_value.Goals as goal

pub index_mut-requires : goal.index_mut-requires
index_mut-requires c = omega (arith, c.args.cells.now.ok, c.requires.below, fitting_length c.args.columns.now c.args.cells.now.items c.requires.fitting)

pub returns-in_ok-value-in-Value-clause-fitting : goal.returns-in_ok-value-in-Value-clause-fitting
returns-in_ok-value-in-Value-clause-fitting c =
    let given = rw c.in-Value.is at c.requires.given in
    set_fits c.args.columns.now c.args.cells.now.items c.args.at _ c.requires.fitting (rw (c.in_ok-value-in-Value.ensures, c.kind_at.ensures) given.1)
