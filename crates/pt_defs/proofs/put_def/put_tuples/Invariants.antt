use Rattle.std.proofs.Common.{◌≡◌, ◌++◌, take}
use Rattle.std.specs.List.{flat_map}
use Rattle.pt_defs.specs.Spelling.{tuple_text}
use Rattle.pt_defs.proofs.put_def.put_tuples.Given as goal

abbrev pub invariant-loop-tuple : goal.invariant-loop-tuple
invariant-loop-tuple l = l.out.items ≡ l.initial.out.items ++ flat_map tuple_text (take l.tuple-index l.items)
