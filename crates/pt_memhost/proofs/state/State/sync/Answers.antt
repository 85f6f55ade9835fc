use Rattle.std.proofs.Common.{◌∙◌, ap, sym}
use Rattle.pt_host.specs.Disk.{Fs, on_file, present, synced}
use Rattle.pt_memhost.proofs.Mirrored.{capped_more}
use Rattle.pt_memhost.proofs.state.State.sync.Goals as goal

pub returns-clause-mirrors : goal.returns-clause-mirrors
returns-clause-mirrors c = λ w m. record {
  input_is = m.input_is;
  said_is = m.said_is;
  fs_is = ap (λ (fs : Fs). on_file (present fs c.args.name.now) synced fs) m.fs_is ∙ sym c.sync.ensures;
  syncs_is = capped_more _ w.now.syncs 1 _ m.syncs_is c.saturating_add-self.ensures;
  written_is = m.written_is;
}
