use Rattle.std.proofs.Common.{sym, ◌∙◌, true≢false}
use Rattle.pt_session.proofs.Unfit.{unfit_seen}
use Rattle.pt_session.proofs.looking.unfit_place.Goals as goal

pub returns : goal.returns
returns c =
    unfit_seen c.args.next c.args.def.now c.args.spot c.args.bytes.now c.args.row.now c.put_place.result c.requires.left
    (λ fits. true≢false (sym (c.fits_spot.ensures.1 fits) ∙ c.if-fits_spot.false)) c.put_place.ensures
