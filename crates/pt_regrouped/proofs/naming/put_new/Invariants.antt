use Rattle.std.proofs.Common.{map}
use Rattle.pt_regrouped.specs.NewParts.{new_part}
use Rattle.pt_regrouped.proofs.Beside.{AreAdded}
use Rattle.pt_regrouped.proofs.naming.put_new.Given as goal

abbrev pub invariant-loop-item : goal.invariant-loop-item
invariant-loop-item l = AreAdded l.initial.parts (map (new_part l.def) l.items) l.item-index l.names l.parts
