use Rattle.std.proofs.Common.{◌∙◌, sym}
use Rattle.pt_file_cases.proofs.Fitting.{giver}
use Rattle.pt_file_cases.proofs.allowed.is_given.Goals as goal

pub returns : goal.returns
returns c = λ yes. giver c.args.acts.now c.args.name.now (sym c.any_gives.ensures ∙ yes)
