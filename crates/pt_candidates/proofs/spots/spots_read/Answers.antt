use Rattle.std.proofs.Common.{◌++◌, ◌∙◌, ap, filter, sym}
use Rattle.pt_checks.specs.Wanted.{is_named_spot}
use Rattle.pt_db.specs.Spots.{spots_in}
use Rattle.pt_candidates.proofs.Steps.{parts_more}
use Rattle.pt_candidates.proofs.spots.spots_read.Goals as goal

pub loop-part-preserved : goal.loop-part-preserved
loop-part-preserved c =
    let named = is_named_spot c.args.def.now c.args.parts.now in
    let part = c.loop-part.part in
    c.in_ok-add_spots.ensures ∙ ap (λ spots. spots ++ filter named (spots_in c.args.def.now part)) c.loop-part.invariant ∙ sym (parts_more named (spots_in c.args.def.now) part)
