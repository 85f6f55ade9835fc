use Rattle.std.proofs.Common.{rules, ◌/◌, length, take, arith, length-take}
use Rattle.pt_memhost.specs.Memory.{world_in}
use Rattle.pt_memhost.proofs.Halves.{torn_fails}
use Rattle.pt_memhost.proofs.host.calls.MemHostHost.write_at.Goals as goal

pub returns-in_ok-run-in-Ordered-clause-failed : goal.returns-in_ok-run-in-Ordered-clause-failed
returns-in_ok-run-in-Ordered-clause-failed c =
    torn_fails (world_in c.args.self.now) _ c.args.name.now c.args.at (length c.args.bytes.now) (take (length c.args.bytes.now / 2) c.args.bytes.now) c.requires
    (simp length-take (omega arith)) (search rules)
