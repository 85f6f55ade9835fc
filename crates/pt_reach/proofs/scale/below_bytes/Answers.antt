use Rattle.std.proofs.Common.{ap, ◌∙◌}
use Rattle.pt_interval.specs.Instances.{are_bytes}
use Rattle.pt_reach.proofs.Orders.{told_bytes}
use Rattle.pt_reach.proofs.scale.below_bytes.Goals as goal

pub below-requires : goal.below-requires
below-requires c = ap are_bytes c.in_ok-end.ensures ∙ told_bytes c.args.bytes.now c.type_inv.bytes
