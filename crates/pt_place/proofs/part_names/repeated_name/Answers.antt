use Rattle.std.proofs.Common.{sym}
use Rattle.pt_place.proofs.PartNames.{part_found, part_more}
use Rattle.pt_place.proofs.part_names.repeated_name.Goals as goal

pub returns-in-Some : goal.returns-in-Some
returns-in-Some c = part_found c.args.parts.now c.loop-at.at c.index-parts-at.result c.loop-at-test.true c.index-parts-at.is c.in-Some.refusal _ c.loop-at.invariant (sym c.in-Some.ensures)

pub loop-at-preserved : goal.loop-at-preserved
loop-at-preserved c = part_more c.args.parts.now c.loop-at.at c.index-parts-at.result c.loop-at-test.true c.index-parts-at.is _ c.loop-at.invariant (sym c.in_default.ensures)
