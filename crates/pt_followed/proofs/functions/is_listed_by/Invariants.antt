use Rattle.std.proofs.Common.{Some, drop}
use Rattle.pt_followed.specs.Steps.{IsSomeEntry, come_to}
use Rattle.pt_followed.proofs.functions.is_listed_by.Given as goal

abbrev pub invariant-loop-entry : goal.invariant-loop-entry
invariant-loop-entry l = IsSomeEntry (come_to (Some l.func)) l.set l.part.bounds → IsSomeEntry (come_to (Some l.func)) l.set (drop l.entry-index l.entry-items)
