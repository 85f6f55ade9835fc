use Rattle.std.proofs.Common.{ap, ◌∙◌}
use Rattle.pt_interval.specs.Instances.{are_bytes}
use Rattle.pt_reach.proofs.Orders.{told_bytes}
use Rattle.pt_reach.proofs.scale.equal_bytes.Goals as goal

pub point-requires : goal.point-requires
point-requires c = ap are_bytes c.in_ok-value.ensures ∙ told_bytes c.args.bytes.now c.type_inv.bytes
