use Rattle.std.proofs.Common.{arith, rules, w32, SFits}
use Rattle.std.proofs.lemmas.Int.{ints, to_z-of_z}
use Rattle.pt_followed.proofs.Calendar.{below_first, first_off}
use Rattle.pt_followed.proofs.days.before_day.Goals as goal

pub returns-in-Some : goal.returns-in-Some
returns-in-Some c =
    let fits : SFits w32 c.first_day.result = search rules in
    below_first c.args.func c.requires c.in-Some.number c.first_day.result _ (first_off c.args.func c.in-Some.number _ c.first_day.result c.first_day.ensures (omega (arith, ints))) c.args.high.now (to_z-of_z w32 c.first_day.result fits) c.in-Some.ensures
