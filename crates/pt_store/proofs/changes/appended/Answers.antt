use Rattle.std.proofs.Common.{ap, ◌∙◌}
use Rattle.pt_store.specs.Batch.{appended}
use Rattle.pt_store.proofs.Next.{appended_is, appended_named}
use Rattle.pt_store.proofs.changes.appended.Goals as goal

pub returns-clause-names : goal.returns-clause-names
returns-clause-names g c =
    appended_named c.args.entries.now c.in_ok-contents.contents c.requires.order c.in_ok-contents.ensures.names c.args.batch.now c.add_batch.new.contents c.in_ok-files.files
    c.in_ok-files.ensures.rising c.in_ok-files.ensures.files c.in_ok-add_batch.ensures

pub returns-clause-files : goal.returns-clause-files
returns-clause-files g c = λ tells.
    appended_is c.args.entries.now c.in_ok-contents.contents c.requires.order c.in_ok-contents.ensures.names c.args.batch.now c.add_batch.new.contents c.in_ok-files.files
    c.in_ok-files.ensures.rising c.in_ok-files.ensures.files c.in_ok-add_batch.ensures
    ∙ ap (appended c.args.batch.now) (c.in_ok-contents.ensures.files tells)
