use Rattle.std.proofs.Common.{◌∙◌}
use Rattle.std.proofs.lemmas.Iterator.Consumers.{nth_from_yields_List, YieldsList-from_rest}
use Rattle.pt_memhost.specs.Held.{fs_of}
use Rattle.pt_memhost.proofs.Held.{name_at}
use Rattle.pt_memhost.proofs.disk.Disk.name_at.Goals as goal

pub returns : goal.returns
returns c =
    name_at (fs_of c.args.self.now) c.args.self.now.names c.args.i _ c.keys.ensures.ordered c.args.self.now.seen
    (c.copied.ensures ∙ nth_from_yields_List c.nth.result c.nth.new.self c.args.i c.nth.ensures.ran (YieldsList-from_rest _ c.keys.ensures.rest))
