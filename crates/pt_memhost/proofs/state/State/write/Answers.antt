use Rattle.std.proofs.Common.{◌∙◌, ap, sym}
use Rattle.pt_host.specs.Disk.{Fs, on_file, present}
use Rattle.pt_memhost.specs.Story.{torn_by}
use Rattle.pt_memhost.proofs.Mirrored.{capped_more}
use Rattle.pt_memhost.proofs.state.State.write.Goals as goal

pub returns-clause-kept : goal.returns-clause-kept
returns-clause-kept c = λ w m. record {
  input_is = m.input_is;
  said_is = m.said_is;
  fs_is = ap (λ (fs : Fs). on_file (present fs c.args.name.now) (torn_by c.args.at c.args.count c.args.bytes.now) fs) m.fs_is ∙ sym c.in_ok-put.ensures.kept;
  syncs_is = m.syncs_is;
  written_is = capped_more _ w.now.bytes c.args.count _ m.written_is c.saturating_add-self.ensures;
}
