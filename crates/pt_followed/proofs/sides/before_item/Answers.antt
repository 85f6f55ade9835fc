use Rattle.std.proofs.Common.{ap, ◌∙◌}
use Rattle.std.specs.Ordering.{is_lt}
use Rattle.pt_value.specs.Value.{value_cmp}
use Rattle.pt_followed.proofs.Edges.{below_it}
use Rattle.pt_followed.proofs.sides.before_item.Goals as goal

pub returns-in-Val : goal.returns-in-Val
returns-in-Val c = λ v. rw c.in-Val.is (ap (λ k. is_lt (value_cmp v k)) c.cell.ensures ∙ below_it v c.in-Val.value)
