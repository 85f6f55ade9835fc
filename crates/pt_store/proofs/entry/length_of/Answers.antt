use Rattle.std.proofs.Common.{◌∙◌, ap}
use Rattle.std.specs.Option.{option_map}
use Rattle.pt_store.proofs.Kept.{found_length}
use Rattle.pt_store.proofs.entry.length_of.Goals as goal

pub returns-in_err-entry : goal.returns-in_err-entry
returns-in_err-entry c = rw c.from_residual.ensures (ap (option_map (λ e. e.length)) c.in_err-entry.ensures ∙ found_length c.args.entries.now c.args.name.now)

pub returns : goal.returns
returns c = ap (option_map (λ e. e.length)) c.in_ok-entry.ensures ∙ found_length c.args.entries.now c.args.name.now
