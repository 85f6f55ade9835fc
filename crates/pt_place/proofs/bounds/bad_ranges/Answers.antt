use Rattle.std.proofs.Common.{sym, ap, ◌∙◌}
use Rattle.pt_ast.specs.Ranges.{range_fault}
use Rattle.pt_place.proofs.Faults.{range_fault_below}
use Rattle.pt_place.proofs.bounds.bad_ranges.Goals as goal

pub of_fault-requires : goal.of_fault-requires
of_fault-requires c = range_fault_below c.args.parts.now c.in-Some.fault (ap range_fault (sym c.of.ensures) ∙ sym c.in-Some.ensures)
