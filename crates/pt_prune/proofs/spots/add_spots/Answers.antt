use Rattle.std.proofs.Common.{◌∙◌, sym}
use Rattle.pt_db.specs.Spots.{spot_at}
use Rattle.pt_prune.specs.Marks.{keeps}
use Rattle.pt_prune.proofs.Turns.{sub_added, sub_passed}
use Rattle.pt_prune.proofs.spots.add_spots.Goals as goal
use Rattle.pt_prune.proofs.spots.add_spots.Goals.{then-is_kept+in_ok-push, else-is_kept}

pub loop-sub-preserved : goal.loop-sub-preserved
loop-sub-preserved c =
    let test = keeps c.args.def.now c.args.names.now c.args.parts.now c.args.subs.now in
    let spot = spot_at c.args.part in
    elim c.if-is_kept.branch [
      | then-is_kept+in_ok-push w ↦ rw w.found-is (sub_added test spot c.loop-sub.sub c.args.found.now.items c.loop-sub.found.items w.push.new.self.items c.loop-sub.invariant (sym c.is_kept.ensures ∙ w.if-is_kept.true) w.in_ok-push.ensures.items)
      | else-is_kept w ↦ rw w.found-is (sub_passed test spot c.loop-sub.sub c.args.found.now.items c.loop-sub.found.items c.loop-sub.invariant (sym c.is_kept.ensures ∙ w.if-is_kept.false))
    ]
