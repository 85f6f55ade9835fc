use Rattle.std.proofs.Common.{take}
use Rattle.pt_host.specs.Images.{AreSame}
use Rattle.pt_ddl_log.specs.Chain.{act_on}
use Rattle.pt_store.specs.Contents.{files_in}
use Rattle.pt_store.proofs.contents.do_acts.Given as goal

abbrev pub invariant-loop-act : goal.invariant-loop-act
invariant-loop-act l = AreSame (act_on (take l.act-index l.acts) (files_in l.initial.contents)) (files_in l.contents)
