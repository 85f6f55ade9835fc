use Rattle.std.proofs.Common.{sym, ap, ◌∙◌, ◌++◌, ◌∷◌, []}
use Rattle.pt_checks.proofs.Positions.{one_more}
use Rattle.pt_checks.proofs.named.all.Goals as goal

pub loop-at-preserved : goal.loop-at-preserved
loop-at-preserved c = c.in_ok-push.ensures.ok ∙ ap (λ l. l ++ c.loop-at.at ∷ []) c.loop-at.invariant ∙ sym (one_more c.loop-at.at)
