use Rattle.pt_db.proofs.Sounds.{added_sound, empty_sound, filled_sound, removed_sound}
use Rattle.pt_db.proofs.laws.changes_keep_sound.Goals as goal

pub returns : goal.returns
returns c = record { empty = empty_sound; added = added_sound; removed = removed_sound; filled = filled_sound }
