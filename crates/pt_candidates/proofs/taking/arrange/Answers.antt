use Rattle.std.proofs.Common.{sym, subst}
use Rattle.std.specs.List.{All}
use Rattle.pt_db.specs.Sound.{IsSoundRow}
use Rattle.pt_candidates.proofs.Kept.{arranged_all}
use Rattle.pt_candidates.proofs.taking.arrange.Goals as goal

pub returns-clause-sound : goal.returns-clause-sound
returns-clause-sound c next all =
    let def = c.args.def.now in
    subst (All (IsSoundRow next def)) (sym c.in_ok-taken.ensures) (arranged_all (IsSoundRow next def) def.columns c.args.tail.now c.args.rows all)
