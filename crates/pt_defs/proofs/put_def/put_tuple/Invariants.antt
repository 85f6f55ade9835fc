use Rattle.std.proofs.Common.{◌≡◌, ◌++◌, take}
use Rattle.std.specs.List.{flat_map}
use Rattle.pt_defs.specs.Spelling.{bound_text}
use Rattle.pt_defs.proofs.put_def.put_tuple.Given as goal

abbrev pub invariant-loop-bound : goal.invariant-loop-bound
invariant-loop-bound l = l.out.items ≡ l.initial.out.items ++ flat_map bound_text (take l.bound-index l.items)
