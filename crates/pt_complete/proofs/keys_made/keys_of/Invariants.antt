use Rattle.std.proofs.Common.{◌≡◌, take}
use Rattle.pt_written.specs.Written.{keys_of}
use Rattle.pt_complete.proofs.keys_made.keys_of.Given as goal

abbrev pub invariant-loop-item : goal.invariant-loop-item
invariant-loop-item l = l.keys ≡ keys_of l.columns (take l.item-index l.items)
