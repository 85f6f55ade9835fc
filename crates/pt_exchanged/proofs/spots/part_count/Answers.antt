use Rattle.std.proofs.Common.{ap, arith, length}
use Rattle.pt_exchanged.proofs.Few.{few_parts}
use Rattle.pt_exchanged.proofs.spots.part_count.Goals as goal

pub overflow_cast-result : goal.overflow_cast-result
overflow_cast-result c = omega (arith, few_parts c.args.def.now c.requires.valid, ap length c.items.ensures)
