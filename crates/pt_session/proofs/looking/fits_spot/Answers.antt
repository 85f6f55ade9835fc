use Rattle.std.proofs.Common.{sym, ◌∙◌, arith, subst, ◌↔◌, true≢false}
use Rattle.std.specs.Prelude.{Bool, IsTrue}
use Rattle.pt_holds.specs.Fit.{FitsSpot}
use Rattle.pt_session.proofs.Taken.{fits_taken, fits_there, taken_fit}
use Rattle.pt_session.proofs.looking.fits_spot.Goals as goal

pub returns-then-not-are_taken : goal.returns-then-not-are_taken
returns-then-not-are_taken c = (
  λ never. absurd (cc),
  λ fits. absurd (true≢false (sym (c.are_taken.ensures.1 (fits_taken c.args.next c.args.def.now c.args.spot c.args.row.now fits)) ∙ c.if-not-are_taken.true)),
)

pub is_at-requires-clause-fitting : goal.is_at-requires-clause-fitting
is_at-requires-clause-fitting c = (taken_fit c.args.def.now.columns c.args.row.now.cells (c.are_taken.ensures.0 c.if-not-are_taken.false)).0

pub returns : goal.returns
returns c =
    subst (λ (there : Bool). IsTrue there ↔ FitsSpot c.args.next c.args.def.now c.args.spot c.args.row.now) (sym c.is_at.ensures)
    (fits_there c.args.next c.args.def.now c.args.spot c.args.row.now (omega (arith, c.if-row-next.false)) (c.are_taken.ensures.0 c.if-not-are_taken.false))
