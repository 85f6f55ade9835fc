use Rattle.std.proofs.Common.{ap, take, drop, ◌∙◌}
use Rattle.pt_host.proofs.Runs.{looks_then}
use Rattle.pt_host.specs.Disk.{Fs, shown}
use Rattle.pt_left.specs.Left.{whole_name}
use Rattle.pt_store.specs.Entries.{bytes_of}
use Rattle.pt_store.proofs.Fetched.{one_more, names_more, files_more}
use Rattle.pt_store.proofs.fetch.read_contents.Goals as goal

pub returns-in_err-insert-clause-looks : goal.returns-in_err-insert-clause-looks
returns-in_err-insert-clause-looks g c tells = looks_then _ _ _ (c.loop-entry.invariant.looks tells) (c.in_ok-bytes.ensures.looks tells)

pub loop-entry-preserved : goal.loop-entry-preserved
loop-entry-preserved g c =
    let entries = c.args.entries.now in
    let i = c.loop-entry.entry-index in
    let entry = c.entry-item.result in
    let before = c.loop-entry.contents.entries in
    let after = c.insert.new.self.entries in
    let more = one_more entries i entry c.requires.order c.loop-entry-test.true c.entry-item.is before after c.of.result c.loop-entry.invariant.named c.in_ok-insert.ensures.entries in
    record {
      named = names_more entries i entry c.requires.order c.loop-entry-test.true c.entry-item.is before after c.of.result c.loop-entry.invariant.named more;
      read = λ tells.
          files_more entries i entry c.requires.order c.loop-entry-test.true c.entry-item.is (bytes_of (shown (g.H.Host.world c.args.host.now).now.fs whole_name)) before after c.of.result (c.loop-entry.invariant.read tells)
          (c.of.ensures ∙ c.in_ok-bytes.ensures.bytes tells ∙ ap (λ (fs : Fs). take entry.length (drop entry.place (bytes_of (shown fs whole_name)))) (c.loop-entry.invariant.looks tells).now.fs)
          more;
      looks = λ tells. looks_then _ _ _ (c.loop-entry.invariant.looks tells) (c.in_ok-bytes.ensures.looks tells);
      counts = c.in_ok-bytes.ensures.counts ∙ c.loop-entry.invariant.counts;
    }
