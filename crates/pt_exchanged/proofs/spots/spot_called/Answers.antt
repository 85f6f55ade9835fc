use Rattle.std.proofs.Common.{◌≡◌, ◌<◌, None, find, rules, sym, subst}
use Rattle.std.specs.List.{flat_map, range_with_len}
use Rattle.pt_db.specs.Spots.{part_count, spots_in}
use Rattle.pt_exchanged.specs.Exchanged.{is_called}
use Rattle.pt_exchanged.proofs.Finds.{found_there, none_more}
use Rattle.pt_exchanged.proofs.spots.spot_called.Goals as goal

pub returns-in-Some : goal.returns-in-Some
returns-in-Some c =
    let within : c.loop-part.part < part_count c.args.def.now = subst (λ n. c.loop-part.part < n) c.part_count-part-end.ensures (search rules) in
    sym (found_there (is_called c.args.def.now c.args.name.now) (spots_in c.args.def.now) c.loop-part.part (part_count c.args.def.now) c.in-Some.spot within c.loop-part.invariant (sym c.in-Some.ensures))

pub loop-part-preserved : goal.loop-part-preserved
loop-part-preserved c = none_more (is_called c.args.def.now c.args.name.now) (spots_in c.args.def.now) c.loop-part.part c.loop-part.invariant (search rules)

pub returns : goal.returns
returns c =
    let all : c.loop-part.part ≡ part_count c.args.def.now = search rules in
    sym (subst (λ n. find (is_called c.args.def.now c.args.name.now) (flat_map (spots_in c.args.def.now) (range_with_len 0 n)) ≡ None) all c.loop-part.invariant)
