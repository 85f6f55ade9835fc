use Rattle.std.proofs.Common.{take}
use Rattle.pt_host.specs.Images.{AreSame}
use Rattle.pt_store.specs.Batch.{added}
use Rattle.pt_store.specs.Contents.{files_in}
use Rattle.pt_store.proofs.contents.add_batch.Given as goal

abbrev pub invariant-loop-name : goal.invariant-loop-name
invariant-loop-name l = AreSame (added (take l.name-index l.batch) (files_in l.initial.contents)) (files_in l.contents)
