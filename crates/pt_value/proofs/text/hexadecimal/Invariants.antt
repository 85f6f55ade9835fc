use Rattle.std.proofs.Common.{◌≡◌, ◌++◌, take, codes}
use Rattle.std.specs.List.{flat_map}
use Rattle.pt_value.specs.Text.{hex}
use Rattle.pt_value.proofs.text.hexadecimal.Given as goal

abbrev pub invariant-loop-b : goal.invariant-loop-b
invariant-loop-b l = l.text.items ≡ codes "X'" ++ flat_map hex (take l.b-index l.bytes)
