use Rattle.std.proofs.Common.{subst, sym}
use Rattle.pt_db.specs.Sound.{IsSound}
use Rattle.pt_altered.proofs.Sound.{kept_sound}
use Rattle.pt_altered.proofs.keeping.keep.Goals as goal

pub returns-clause-sound : goal.returns-clause-sound
returns-clause-sound c sound is = subst IsSound (sym c.replace_both.ensures) (kept_sound c.args.db.now c.args.name.now c.args.def c.args.rows sound is)
