use Rattle.std.proofs.Common.{rules}
use Rattle.pt_host.specs.Listed.{by_name}
use Rattle.pt_memhost.specs.Law.{law}
use Rattle.pt_memhost.specs.Story.{world_of}
use Rattle.pt_memhost.proofs.Picked.{image_if_picked}
use Rattle.pt_memhost.proofs.kept.Kept.pick.Goals as goal

pub returns-clause-image : goal.returns-clause-image
returns-clause-image c = image_if_picked c.args.choice (world_of c.args.self.now).now.fs (by_name c.in_ok-image.image.files) (law c.args.self.now) (search rules)
