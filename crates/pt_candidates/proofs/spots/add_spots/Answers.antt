use Rattle.std.proofs.Common.{◌∙◌, sym}
use Rattle.pt_checks.specs.Wanted.{is_named_spot}
use Rattle.pt_db.specs.Spots.{spot_at}
use Rattle.pt_candidates.proofs.Steps.{sub_added, sub_passed}
use Rattle.pt_candidates.proofs.spots.add_spots.Goals as goal
use Rattle.pt_candidates.proofs.spots.add_spots.Goals.{then-is_named_spot+in_ok-push, else-is_named_spot}

pub loop-sub-preserved : goal.loop-sub-preserved
loop-sub-preserved c =
    let named = is_named_spot c.args.def.now c.args.parts.now in
    let spot = spot_at c.args.part in
    elim c.if-is_named_spot.branch [
      | then-is_named_spot+in_ok-push w ↦ sub_added named spot c.loop-sub.sub c.args.found.now c.loop-sub.found c.if-is_named_spot.found c.loop-sub.invariant (sym c.is_named_spot.ensures ∙ w.if-is_named_spot.true) (w.found-is ∙ w.in_ok-push.ensures.ok)
      | else-is_named_spot w ↦ w.found-is ∙ sub_passed named spot c.loop-sub.sub c.args.found.now c.loop-sub.found c.loop-sub.invariant (sym c.is_named_spot.ensures ∙ w.if-is_named_spot.false)
    ]
