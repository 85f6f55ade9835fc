use Rattle.std.proofs.Common.{length, take}
use Rattle.pt_store.proofs.Writing.{Writing}
use Rattle.pt_store.proofs.spell.spell.Given as goal

abbrev pub invariant-loop-name : goal.invariant-loop-name
invariant-loop-name l = Writing (length l.files) l.out.items l.entries (take l.name-index l.files)
