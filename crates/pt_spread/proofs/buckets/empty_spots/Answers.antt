use Rattle.std.proofs.Common.{◌≡◌, map, ap, ◌∙◌, arith}
use Rattle.std.specs.List.{flat_map, range_with_len}
use Rattle.pt_db.specs.Spots.{part_count, spots_in}
use Rattle.pt_spread.specs.Spread.{beside_none}
use Rattle.pt_spread.proofs.Listed.{part_more}
use Rattle.pt_spread.proofs.buckets.empty_spots.Goals as goal

pub loop-part-preserved : goal.loop-part-preserved
loop-part-preserved c = part_more c.args.def.now c.loop-part.part c.loop-part.found.items c.add_spots.new.found.items c.loop-part.invariant c.in_ok-add_spots.ensures

pub returns : goal.returns
returns c =
    let all : c.loop-part.part ≡ part_count c.args.def.now = grind arith in
    c.loop-part.invariant ∙ ap (λ n. map beside_none (flat_map (spots_in c.args.def.now) (range_with_len 0 n))) all
