use Rattle.std.proofs.Common.{◌≡◌}
use Rattle.pt_session.proofs.TableFiles.{files_before}
use Rattle.pt_session.proofs.files.files_of.Given as goal

abbrev pub invariant-loop-part : goal.invariant-loop-part
invariant-loop-part l = l.names ≡ files_before l.name l.def l.part
