use Rattle.std.proofs.Common.{◌≡◌, Some, rules}
use Rattle.pt_db.specs.Lookup.{table_of}
use Rattle.pt_db.proofs.Sounds.{sound_table}
use Rattle.pt_flat.proofs.definitions.like.Goals as goal

pub returns-clause-sound : goal.returns-clause-sound
returns-clause-sound c =
    let at : table_of c.args.db.now c.args.other.now ≡ Some c.in-Some.source.now = search rules in
    let has = sound_table c.args.db.now c.requires c.args.other.now c.in-Some.source.now at in
    c.add_fresh.ensures.sound (rw c.in_ok-def.ensures has.storable) (rw c.in_ok-def.ensures has.valid)
