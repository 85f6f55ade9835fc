use Rattle.std.proofs.Common.{sym, subst}
use Rattle.pt_value.specs.Fits.{Fits}
use Rattle.pt_expr.specs.Columns.{AreFitting}
use Rattle.pt_prune.proofs.Rows.{fitting_with}
use Rattle.pt_prune.proofs.placing.number_at.Goals as goal

pub number_of-requires-clause-fitting : goal.number_of-requires-clause-fitting
number_of-requires-clause-fitting c =
    let fits = subst (λ k. Fits k c.args.value) c.kind_at.ensures (c.fits.ensures.0 c.if-not-fits.false) in
    subst (AreFitting c.args.columns.now) (sym c.in_ok-row.ensures) (fitting_with c.args.columns.now c.args.at c.args.value c.requires.within fits)
