use Rattle.std.proofs.Common.{take}
use Rattle.pt_host.specs.Images.{AreSame}
use Rattle.pt_store.specs.Reshape.{with_shadows}
use Rattle.pt_store.specs.Contents.{files_in}
use Rattle.pt_store.proofs.contents.put_shadows.Given as goal

abbrev pub invariant-loop-name : goal.invariant-loop-name
invariant-loop-name l = AreSame (with_shadows (take l.name-index l.fresh) (files_in l.initial.contents)) (files_in l.contents)
