use Rattle.std.proofs.Common.{◌≡◌, ◌++◌}
use Rattle.pt_session.proofs.TableFiles.{sub_files}
use Rattle.pt_session.proofs.files.add_files.Given as goal

abbrev pub invariant-loop-sub : goal.invariant-loop-sub
invariant-loop-sub l = l.names ≡ l.initial.names ++ sub_files l.name l.def l.part l.sub
