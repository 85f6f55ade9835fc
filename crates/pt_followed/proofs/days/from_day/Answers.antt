use Rattle.std.proofs.Common.{arith, rules, w32, SFits}
use Rattle.std.proofs.lemmas.Int.{ints, to_z-of_z}
use Rattle.pt_followed.proofs.Calendar.{first_off, from_first}
use Rattle.pt_followed.proofs.days.from_day.Goals as goal

pub returns-in-Some-number_in : goal.returns-in-Some-number_in
returns-in-Some-number_in c =
    let fits : SFits w32 c.first_day.result = search rules in
    rw c.in-Some.is
    (from_first c.args.func c.requires c.in-Some-number_in.number c.first_day.result _ (first_off c.args.func c.in-Some-number_in.number _ c.first_day.result c.first_day.ensures (omega (arith, ints))) c.in-Some.bounds.now
    (to_z-of_z w32 c.first_day.result fits) c.in-Some-number_in.ensures)
