use Rattle.std.proofs.Common.{subst}
use Rattle.pt_host.specs.Images.{AreSame}
use Rattle.pt_ddl_log.specs.Chain.{act_on}
use Rattle.pt_store.specs.Contents.{files_in}
use Rattle.pt_store.specs.Reshape.{IsReshaped}
use Rattle.pt_store.proofs.Next.{reshaped_is, reshaped_names}
use Rattle.pt_store.proofs.changes.reshaped.Goals as goal

pub returns-clause-names : goal.returns-clause-names
returns-clause-names g c =
    let does = subst (λ acts. AreSame (act_on acts (files_in c.put_shadows.new.contents)) (files_in c.do_acts.new.contents)) c.items.ensures c.in_ok-do_acts.ensures in
    reshaped_names c.args.entries.now c.in_ok-contents.contents.entries c.in_ok-files.files c.args.fresh.now c.args.chain.now c.in_ok-contents.ensures.names
    (reshaped_is c.args.entries.now c.in_ok-contents.contents c.requires.order c.in_ok-contents.ensures.names c.args.fresh.now c.args.chain.now c.put_shadows.new.contents c.do_acts.new.contents c.in_ok-files.files
    c.in_ok-files.ensures.rising c.in_ok-files.ensures.files c.in_ok-put_shadows.ensures does)

pub returns-clause-files : goal.returns-clause-files
returns-clause-files g c = λ tells.
    let does = subst (λ acts. AreSame (act_on acts (files_in c.put_shadows.new.contents)) (files_in c.do_acts.new.contents)) c.items.ensures c.in_ok-do_acts.ensures in
    subst (λ map. IsReshaped c.args.fresh.now c.args.chain.now map c.in_ok-files.files) (c.in_ok-contents.ensures.files tells)
    (reshaped_is c.args.entries.now c.in_ok-contents.contents c.requires.order c.in_ok-contents.ensures.names c.args.fresh.now c.args.chain.now c.put_shadows.new.contents c.do_acts.new.contents c.in_ok-files.files
    c.in_ok-files.ensures.rising c.in_ok-files.ensures.files c.in_ok-put_shadows.ensures does)
