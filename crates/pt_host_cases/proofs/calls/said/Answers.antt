use Rattle.pt_host_cases.proofs.Saying.{said_dir}
use Rattle.pt_host_cases.proofs.calls.said.Goals as goal

pub returns : goal.returns
returns g c = said_dir _ (g.H.Host.world c.args.host.now) (g.H.Host.world c.say-answer.new.self) c.say-answer.result c.say-answer.ensures.ok c.say-answer.ensures.failed
