use Rattle.std.proofs.Common.{◌∙◌, sym}
use Rattle.pt_value.specs.Text.{day_of}
use Rattle.pt_expr.proofs.Spelling.{day_in-or_null}
use Rattle.pt_expr.proofs.values.day_of.Goals as goal

pub returns-in-Bytes-clause-value : goal.returns-in-Bytes-clause-value
returns-in-Bytes-clause-value c = rw c.in-Bytes.is (c.day_of_text.ensures.value ∙ sym (day_in-or_null (day_of c.in-Bytes.bytes.now)))
