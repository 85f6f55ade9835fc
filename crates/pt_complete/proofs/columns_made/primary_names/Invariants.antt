use Rattle.std.proofs.Common.{◌≡◌, take}
use Rattle.pt_written.specs.Written.{primary_names}
use Rattle.pt_complete.proofs.columns_made.primary_names.Given as goal

abbrev pub invariant-loop-item : goal.invariant-loop-item
invariant-loop-item l = l.names ≡ primary_names (take l.item-index l.items)
