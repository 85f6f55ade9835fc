use Rattle.pt_db.proofs.Sounds.{removed_sound}
use Rattle.pt_flat.proofs.definitions.drop_table.Goals as goal

pub returns-clause-sound : goal.returns-clause-sound
returns-clause-sound c = rw (c.remove_table.ensures) (removed_sound c.args.db.now c.args.name.now c.requires)
