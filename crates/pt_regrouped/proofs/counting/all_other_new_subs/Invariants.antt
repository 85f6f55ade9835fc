use Rattle.std.proofs.Common.{◌≡◌, drop}
use Rattle.pt_place.specs.First.{first_in}
use Rattle.pt_regrouped.specs.NewParts.{other_new_subs}
use Rattle.pt_regrouped.proofs.counting.all_other_new_subs.Given as goal

abbrev pub invariant-loop-item : goal.invariant-loop-item
invariant-loop-item l = first_in (other_new_subs l.def l.items) (drop l.item-index l.items) ≡ first_in (other_new_subs l.def l.items) l.items
