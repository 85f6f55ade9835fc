use Rattle.pt_db.proofs.Found.{not_absent}
use Rattle.pt_db.proofs.changes.place_for.Goals as goal

pub returns-in-Ok : goal.returns-in-Ok
returns-in-Ok c = absurd (not_absent c.args.tables.now c.args.name.now c.in-Ok.place c.in-Ok.ensures c.requires.new)
