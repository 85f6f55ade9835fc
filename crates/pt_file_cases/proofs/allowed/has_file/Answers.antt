use Rattle.std.proofs.Common.{◌∙◌, sym}
use Rattle.pt_file_cases.proofs.Fitting.{has_bytes}
use Rattle.pt_file_cases.proofs.allowed.has_file.Goals as goal

pub returns : goal.returns
returns c = λ yes. has_bytes c.args.files.now c.args.name.now (sym c.any_file.ensures ∙ yes)
