use Rattle.std.proofs.Common.{All, List, refl, sym, subst}
use Rattle.pt_ast.specs.declared.database.Row.{Row}
use Rattle.pt_rowfile.specs.Rows.{SpellsRows}
use Rattle.pt_holds.specs.Fit.{FitsSpot}
use Rattle.pt_session.proofs.Unfit.{fit_rows, unfit_rows}
use Rattle.pt_session.proofs.looking.fitting_rows.Goals as goal

pub returns-in-None-clause-fit : goal.returns-in-None-clause-fit
returns-in-None-clause-fit c =
    fit_rows c.args.next c.args.def.now c.args.spot c.args.bytes.now c.in_ok-rows.rows c.in_ok-rows.ensures.rows
    (subst (λ (rows : List Row). All (FitsSpot c.args.next c.args.def.now c.args.spot) rows) c.items.ensures c.in-None.ensures)

pub returns-in-Some-clause-bad : goal.returns-in-Some-clause-bad
returns-in-Some-clause-bad c = (
  refl,
  unfit_rows c.args.next c.args.def.now c.args.spot c.args.bytes.now c.items.result.now c.in-Some.place
      (subst (λ (rows : List Row). SpellsRows c.args.bytes.now rows) (sym c.items.ensures) c.in_ok-rows.ensures.rows) c.in-Some.ensures,
)
