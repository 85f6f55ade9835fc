use Rattle.std.proofs.Common.{◌≡◌, ◌++◌, take, map}
use Rattle.pt_regrouped.specs.Steps.{bare}
use Rattle.pt_regrouped.proofs.bounding.put_old.Given as goal

abbrev pub invariant-loop-part : goal.invariant-loop-part
invariant-loop-part l = l.parts ≡ l.initial.parts ++ map bare (take l.part-index l.old)
