use Rattle.std.proofs.Common.{◌≡◌, drop, map}
use Rattle.pt_expr.specs.FoundCond.{all_verdict, checked_cond}
use Rattle.pt_expr.proofs.typing_cond.+check_cond.Given as goal

abbrev pub invariant-loop-part : goal.invariant-loop-part
invariant-loop-part l = all_verdict (map (checked_cond l.columns) (drop l.part-index l.part-items)) ≡ checked_cond l.columns l.cond
