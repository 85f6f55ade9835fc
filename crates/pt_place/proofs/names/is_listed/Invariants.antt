use Rattle.std.proofs.Common.{◌≡◌, drop}
use Rattle.pt_place.specs.Names.{is_among, names_at}
use Rattle.pt_place.proofs.names.is_listed.Given as goal

abbrev pub invariant-loop-number : goal.invariant-loop-number
invariant-loop-number l = is_among l.name (names_at l.columns (drop l.number-index l.numbers)) ≡ is_among l.name (names_at l.columns l.numbers)
