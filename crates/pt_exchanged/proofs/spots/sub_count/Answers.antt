use Rattle.std.proofs.Common.{ap, arith, length, sym}
use Rattle.std.proofs.lemmas.Bool.{ltb-true}
use Rattle.pt_place.specs.Place.{subs_at}
use Rattle.pt_exchanged.proofs.Few.{few_subs, subs_found}
use Rattle.pt_exchanged.proofs.spots.sub_count.Goals as goal

pub overflow_cast-result : goal.overflow_cast-result
overflow_cast-result c =
    let found = c.in-Some.ensures.lookup in
    let own = subs_found c.items.result.now c.args.part c.in-Some.own.now (ltb-true _ _ (sym found.0)) found.1 in
    omega (arith, few_subs c.args.def.now c.requires.valid c.args.part (sym c.if-is_whole.ensures), ap length c.items-in-Some.ensures, ap length own, ap (λ parts. length (subs_at parts c.args.part)) c.items.ensures)
