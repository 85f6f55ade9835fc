use Rattle.std.proofs.Common.{◌≡◌, ◌++◌, take}
use Rattle.std.specs.List.{flat_map}
use Rattle.pt_bytes.specs.Numbers.{le_bytes}
use Rattle.pt_defs.proofs.put_item.put_positions.Given as goal

abbrev pub invariant-loop-number : goal.invariant-loop-number
invariant-loop-number l = l.out.items ≡ l.initial.out.items ++ flat_map (le_bytes 4) (take l.number-index l.items)
