use Rattle.std.proofs.Common.{sym, ap, ◌∙◌}
use Rattle.pt_ast.specs.Lists.{list_fault}
use Rattle.pt_place.proofs.Faults.{list_fault_below}
use Rattle.pt_place.proofs.bounds.bad_lists.Goals as goal

pub part_name-requires : goal.part_name-requires
part_name-requires c = list_fault_below c.args.parts.now c.in-Some.at (ap list_fault (sym c.of.ensures) ∙ sym c.in-Some.ensures)
