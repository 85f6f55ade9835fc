use Rattle.std.proofs.Common.{◌∙◌}
use Rattle.pt_written.specs.Written.{keys_written}
use Rattle.pt_written.proofs.KeyTexts.{in_turns}
use Rattle.pt_written.proofs.key_texts.bad_keys.Goals as goal

pub returns : goal.returns
returns c = c.bad_keys_after.ensures ∙ in_turns c.args.columns.now (keys_written c.args.items.now)
