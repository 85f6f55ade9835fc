use Rattle.std.proofs.Common.{ap, ◌∙◌}
use Rattle.std.specs.Ordering.{is_gt}
use Rattle.pt_value.specs.Value.{value_cmp}
use Rattle.pt_followed.proofs.Edges.{above_it}
use Rattle.pt_followed.proofs.sides.past_item.Goals as goal

pub returns-in-Val : goal.returns-in-Val
returns-in-Val c = λ v. rw c.in-Val.is (ap (λ k. is_gt (value_cmp v k)) c.cell.ensures ∙ above_it v c.in-Val.value)
