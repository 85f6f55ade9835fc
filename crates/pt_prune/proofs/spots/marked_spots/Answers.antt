use Rattle.std.proofs.Common.{◌++◌, ◌∙◌, ap, filter, sym}
use Rattle.pt_prune.specs.Marks.{keeps}
use Rattle.pt_db.specs.Spots.{spots_in}
use Rattle.pt_prune.proofs.Turns.{parts_more}
use Rattle.pt_prune.proofs.spots.marked_spots.Goals as goal

pub loop-part-preserved : goal.loop-part-preserved
loop-part-preserved c =
    let named = keeps c.args.def.now c.args.names.now c.args.parts.now c.args.subs.now in
    let part = c.loop-part.part in
    c.in_ok-add_spots.ensures ∙ ap (λ spots. spots ++ filter named (spots_in c.args.def.now part)) c.loop-part.invariant ∙ sym (parts_more named (spots_in c.args.def.now) part)
