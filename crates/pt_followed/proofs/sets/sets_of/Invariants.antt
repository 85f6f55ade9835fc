use Rattle.std.proofs.Common.{take}
use Rattle.std.specs.Option.{option_copied}
use Rattle.pt_followed.specs.Steps.{AreSetsOf}
use Rattle.pt_followed.proofs.sets.sets_of.Given as goal

abbrev pub invariant-loop-number : goal.invariant-loop-number
invariant-loop-number l = AreSetsOf l.columns l.at (option_copied l.cond) (take l.number-index l.numbers) l.sets.items
