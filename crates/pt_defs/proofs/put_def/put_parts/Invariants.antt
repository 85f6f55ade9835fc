use Rattle.std.proofs.Common.{◌≡◌, ◌++◌, take}
use Rattle.std.specs.List.{flat_map}
use Rattle.pt_defs.specs.Spelling.{part_text}
use Rattle.pt_defs.proofs.put_def.put_parts.Given as goal

abbrev pub invariant-loop-part : goal.invariant-loop-part
invariant-loop-part l = l.out.items ≡ l.initial.out.items ++ flat_map (part_text l.def.by l.def.sub) (take l.part-index l.items)
