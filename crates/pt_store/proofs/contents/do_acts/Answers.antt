use Rattle.std.proofs.Common.{take, sym, subst}
use Rattle.pt_host.specs.Images.{AreSame}
use Rattle.pt_ddl_log.specs.Chain.{act_on}
use Rattle.pt_store.specs.Contents.{files_in}
use Rattle.pt_store.proofs.Maps.{acts_more, taken}
use Rattle.pt_store.proofs.contents.do_acts.Goals as goal

pub loop-act-preserved : goal.loop-act-preserved
loop-act-preserved c =
    let f = files_in c.args.contents.now in
    let h = files_in c.do_act.new.contents in
    subst (λ acts. AreSame (act_on acts f) h) (sym (taken c.args.acts.now c.loop-act.act-index c.act-item.result c.loop-act-test.true c.act-item.is))
    (acts_more (take c.loop-act.act-index c.args.acts.now) c.act-item.result f (files_in c.loop-act.contents) h c.loop-act.invariant c.in_ok-do_act.ensures)
