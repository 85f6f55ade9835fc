use Rattle.std.proofs.Common.{◌∙◌, sym}
use Rattle.pt_place.proofs.Passing.{can_find, can_sub}
use Rattle.pt_place.proofs.placing.place.Goals as goal

pub part_of-requires-clause-can : goal.part_of-requires-clause-can
part_of-requires-clause-can c = can_find c.args.def.now c.requires.valid

pub sub_of-requires-clause-can : goal.sub_of-requires-clause-can
sub_of-requires-clause-can c = can_sub c.args.def.now c.args.cells.now c.in_ok-part.part c.requires.valid (sym c.part_of.ensures.value ∙ c.in_ok-part.was)
