use Rattle.std.proofs.Common.{rules, ◌/◌, length}
use Rattle.pt_memhost.proofs.Halves.{said_fails}
use Rattle.pt_memhost.proofs.host.calls.MemHostHost.say.Goals as goal

pub returns-in_ok-run-in-Ordered-clause-failed : goal.returns-in_ok-run-in-Ordered-clause-failed
returns-in_ok-run-in-Ordered-clause-failed c = said_fails _ _ c.args.bytes.now (length c.args.bytes.now / 2) (search rules)
