use Rattle.std.proofs.Common.{◌∙◌, ap}
use Rattle.pt_expr.specs.Values.{day_or_null}
use Rattle.pt_expr.proofs.values.as_day.Goals as goal

pub returns-in-Bytes : goal.returns-in-Bytes
returns-in-Bytes c = rw c.in-Bytes.is (c.day_cell.ensures ∙ ap day_or_null c.day_of_text.ensures.value)
