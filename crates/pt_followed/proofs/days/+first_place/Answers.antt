use Rattle.std.proofs.Common.{arith, rules, SFits, ◌<ℤ◌, ◌≤ℤ◌}
use Rattle.std.proofs.lemmas.Int.{ints, to_z-of_z}
use Rattle.std.specs.Int.{w128}
use Rattle.pt_followed.specs.Places.{value_from}
use Rattle.pt_followed.proofs.Calendar.{ends_before, ends_behind, ends_on}
use Rattle.pt_followed.proofs.days.+first_place.Goals as goal

pub first_place-requires : goal.first_place-requires
first_place-requires t c =
    let less : value_from c.args.func c.middle_of-middle.result <ℤ c.args.number = omega (arith, ints, c.value_at.ensures) in
    let fits : SFits w128 c.args.number = search rules in (
      omega arith,
      (
        c.requires.func,
        ends_on c.args.func c.args.number _ _ _ (to_z-of_z w128 c.args.number fits)
            (ends_behind c.args.func c.args.number c.args.low c.args.high c.middle_of-middle.result c.requires.func c.requires.ends c.middle_of-middle.ensures.from c.middle_of-middle.ensures.before less),
      ),
    )

pub first_place-requires-2 : goal.first_place-requires-2
first_place-requires-2 t c =
    let most : c.args.number ≤ℤ value_from c.args.func c.middle_of-middle.result = omega (arith, ints, c.value_at.ensures) in
    let fits : SFits w128 c.args.number = search rules in (
      omega arith,
      (
        c.requires.func,
        ends_on c.args.func c.args.number _ _ _ (to_z-of_z w128 c.args.number fits)
            (ends_before c.args.func c.args.number c.args.low c.args.high c.middle_of-middle.result c.requires.func c.requires.ends c.middle_of-middle.ensures.from c.middle_of-middle.ensures.before most),
      ),
    )
