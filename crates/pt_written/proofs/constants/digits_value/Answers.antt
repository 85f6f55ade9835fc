use Rattle.std.proofs.Common.{◌∙◌}
use Rattle.pt_written.proofs.Digits.{cut_last}
use Rattle.pt_written.proofs.constants.digits_value.Goals as goal

pub returns : goal.returns
returns c = c.digits_cut.ensures ∙ cut_last 0 c.args.bytes.now
