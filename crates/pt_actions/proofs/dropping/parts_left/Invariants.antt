use Rattle.std.proofs.Common.{◌≡◌}
use Rattle.pt_actions.specs.Dropped.{parts_left}
use Rattle.pt_actions.proofs.dropping.parts_left.Given as goal

abbrev pub invariant-loop-part : goal.invariant-loop-part
invariant-loop-part l = l.left ≡ parts_left l.named l.yielded
