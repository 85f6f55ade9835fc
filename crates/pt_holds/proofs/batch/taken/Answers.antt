use Rattle.std.proofs.Common.{None}
use Rattle.pt_store.proofs.Maps.{put_in}
use Rattle.pt_holds.proofs.batch.taken.Goals as goal

pub returns-in-Some-clause-rest : goal.returns-in-Some-clause-rest
returns-in-Some-clause-rest c = put_in c.args.texts.now c.remove.new.self c.args.name.now None c.remove.ensures.updates.0
