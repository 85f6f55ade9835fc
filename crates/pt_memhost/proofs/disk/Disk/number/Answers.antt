use Rattle.std.proofs.Common.{◌∙◌, ap, Option, ℕ, List}
use Rattle.pt_memhost.specs.Held.{fs_of}
use Rattle.pt_memhost.proofs.Held.{number_made}
use Rattle.pt_memhost.proofs.disk.Disk.number.Goals as goal

pub returns-clause-bound : goal.returns-clause-bound
returns-clause-bound c =
    number_made (fs_of c.args.self.now) c.args.name.now _ c.requires
    (c.copied.ensures ∙ c.get.ensures.value ∙ ap (λ (names : List ℕ → Option ℕ). names c.args.name.now) c.args.self.now.seen)
