use Rattle.std.proofs.Common.{◌≡◌, take}
use Rattle.pt_actions.specs.Named.{main_names}
use Rattle.pt_actions.proofs.naming.main_names.Given as goal

abbrev pub invariant-loop-part : goal.invariant-loop-part
invariant-loop-part l = l.names ≡ main_names (take l.part-index l.parts)
