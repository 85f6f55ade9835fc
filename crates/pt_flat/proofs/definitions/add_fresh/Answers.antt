use Rattle.std.proofs.Common.{rules}
use Rattle.pt_value.specs.Ident.{IsIdent}
use Rattle.pt_db.proofs.Sounds.{added_sound}
use Rattle.pt_flat.proofs.definitions.add_fresh.Goals as goal

pub returns-clause-sound : goal.returns-clause-sound
returns-clause-sound c storable valid =
    let ident : IsIdent c.args.name.now = search rules in
    rw (c.in_ok-add_table.ensures.ok, c.new.ensures) (added_sound c.args.db.now c.args.name.now c.args.def c.requires.sound ident storable valid)
