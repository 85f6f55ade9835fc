use Rattle.std.proofs.Common.{◌∙◌, ap, sym, subst}
use Rattle.pt_host.specs.Disk.{Fs, IsSound, shown}
use Rattle.pt_memhost.specs.Story.{Story, world_of}
use Rattle.pt_memhost.specs.Law.{law}
use Rattle.pt_memhost.proofs.kept.Kept.file.Goals as goal

pub file-requires : goal.file-requires
file-requires c = subst IsSound c.self.invariant.fs_is (law _)

pub returns : goal.returns
returns c =
    c.file.ensures
    ∙ ap (λ (fs : Fs). shown fs c.args.name.now) (sym c.self.invariant.fs_is)
    ∙ ap (λ (story : Story). shown (world_of story).now.fs c.args.name.now) c.self.view_is
