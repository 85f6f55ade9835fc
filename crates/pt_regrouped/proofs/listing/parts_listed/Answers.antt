use Rattle.std.proofs.Common.{sym}
use Rattle.pt_complete.proofs.Sound.{sound_parts}
use Rattle.pt_regrouped.proofs.listing.parts_listed.Goals as goal

pub parts_bounded-requires-clause-sound : goal.parts_bounded-requires-clause-sound
parts_bounded-requires-clause-sound c =
    sound_parts c.args.table.now c.args.def.now.columns c.args.def.now.by c.args.items.now (sym c.in_default-all_bad_written_values.ensures)
