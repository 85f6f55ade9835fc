use Rattle.std.proofs.Common.{◌∙◌}
use Rattle.pt_token.proofs.Opening.{opened-ends}
use Rattle.pt_token.proofs.comment.opened_end.Goals as goal

pub returns-clause-value : goal.returns-clause-value
returns-clause-value c = c.closing.ensures.value ∙ opened-ends c.args.bytes.now
