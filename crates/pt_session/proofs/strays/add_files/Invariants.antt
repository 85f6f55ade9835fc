use Rattle.std.proofs.Common.{take}
use Rattle.pt_session.specs.Opening.{has}
use Rattle.pt_session.proofs.RowFiles.{AddsListed}
use Rattle.pt_session.proofs.strays.add_files.Given as goal

abbrev pub invariant-loop-file : goal.invariant-loop-file
invariant-loop-file l = AddsListed l.store (has l.initial.needed) (has l.needed) (take l.file-index l.file-items)
