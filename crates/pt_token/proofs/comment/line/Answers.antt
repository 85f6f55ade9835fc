use Rattle.std.proofs.Common.{length, ap, ◌∙◌}
use Rattle.std.specs.Prelude.{unwrap_or}
use Rattle.pt_token.proofs.Ending.{line-ends}
use Rattle.pt_token.proofs.comment.line.Goals as goal

pub returns-clause-value : goal.returns-clause-value
returns-clause-value c = c.unwrap_or.ensures ∙ ap (λ end. unwrap_or end (length c.args.bytes.now)) (c.closing.ensures.value ∙ line-ends c.args.bytes.now)
