use Rattle.std.proofs.Common.{refl, ap, ◌∙◌}
use Rattle.pt_written.specs.Reading.{is_beyond, sized}
use Rattle.pt_written.proofs.Digits.{digits_beyond}
use Rattle.pt_written.proofs.constants.is_digits_out.Goals as goal

pub returns : goal.returns
returns c = c.is_beyond.ensures ∙ ap (is_beyond c.args.kind) c.integer_in.ensures ∙ digits_beyond c.args.kind c.args.bytes.now (sized c.args.bytes.now) c.requires refl
