use Rattle.std.proofs.Common.{◌∙◌, ap, map, List, ℕ}
use Rattle.std.specs.Char.{to_ascii_lowercase}
use Rattle.pt_plain.specs.Padded.{padded_to}
use Rattle.pt_names.proofs.Spots.{padded_lowered}
use Rattle.pt_names.proofs.made.lowered.Goals as goal

pub returns : goal.returns
returns c =
    c.make_ascii_lowercase.ensures.after ∙ ap (map to_ascii_lowercase) c.padded-small.ensures ∙ ap (λ (bytes : List ℕ). map to_ascii_lowercase (padded_to 64 bytes)) c.bytes.ensures.value
    ∙ padded_lowered c.args.name.now
