use Rattle.std.proofs.Common.{◌≡◌, drop}
use Rattle.std.specs.List.{list_all}
use Rattle.pt_place.specs.Checks.{has_column}
use Rattle.pt_place.proofs.used.has_all.Given as goal

abbrev pub invariant-loop-number : goal.invariant-loop-number
invariant-loop-number l = list_all (has_column l.key) (drop l.number-index l.numbers) ≡ list_all (has_column l.key) l.numbers
