use Rattle.std.proofs.Common.{◌≡◌, ◌++◌, take, map}
use Rattle.pt_regrouped.specs.NewParts.{new_part}
use Rattle.pt_regrouped.specs.Steps.{bare}
use Rattle.pt_regrouped.proofs.bounding.put_new.Given as goal

abbrev pub invariant-loop-item : goal.invariant-loop-item
invariant-loop-item l = l.parts ≡ l.initial.parts ++ map bare (map (new_part l.def) (take l.item-index l.items))
