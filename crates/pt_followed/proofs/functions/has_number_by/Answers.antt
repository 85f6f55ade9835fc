use Rattle.std.proofs.Common.{arith, refl, rules, w32, SFits, pos, ◌+ℤ◌}
use Rattle.std.proofs.lemmas.Int.{ints, to_z-of_z}
use Rattle.pt_followed.proofs.Calendar.{first_off}
use Rattle.pt_followed.proofs.Comings.{number_item}
use Rattle.pt_followed.proofs.functions.has_number_by.Goals as goal

pub returns : goal.returns
returns c =
    let fits : SFits w32 c.first_day.result = search rules in
    let fits_too : SFits w32 c.first_day-2.result = search rules in
    number_item c.args.func c.requires.func c.args.set.now c.requires.days c.in_ok-has.has c.args.number (c.args.number +ℤ pos 1) _ _ c.first_day.result c.first_day-2.result refl
    (first_off c.args.func c.args.number _ c.first_day.result c.first_day.ensures (omega (arith, ints)))
    (first_off c.args.func (c.args.number +ℤ pos 1) _ c.first_day-2.result c.first_day-2.ensures (omega (arith, ints)))
    (to_z-of_z w32 c.first_day.result fits) (to_z-of_z w32 c.first_day-2.result fits_too) c.in_ok-has.ensures
