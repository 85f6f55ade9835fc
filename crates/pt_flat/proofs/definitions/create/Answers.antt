use Rattle.pt_flat.proofs.definitions.create.Goals as goal

pub returns-in-Ok-clause-sound : goal.returns-in-Ok-clause-sound
returns-in-Ok-clause-sound c = c.add_fresh.ensures.sound c.in-Ok.ensures.storable (c.args.name.now, c.in-Ok.ensures.valid)
