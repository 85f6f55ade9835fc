use Rattle.std.proofs.Common.{rules, w32, SFits}
use Rattle.std.proofs.lemmas.Int.{to_z-of_z}
use Rattle.pt_followed.proofs.Calendar.{day_passed}
use Rattle.pt_followed.proofs.days.value_at.Goals as goal

pub year-requires : goal.year-requires
year-requires c =
    let fits : SFits w32 c.day_at.result = search rules in
    day_passed c.args.place c.day_at.result _ (to_z-of_z w32 c.day_at.result fits) c.day_at.ensures c.requires.place

pub to_days-requires : goal.to_days-requires
to_days-requires c =
    let fits : SFits w32 c.day_at-in_default.result = search rules in
    day_passed c.args.place c.day_at-in_default.result _ (to_z-of_z w32 c.day_at-in_default.result fits) c.day_at-in_default.ensures c.requires.place
