use Rattle.std.proofs.Common.{◌≡◌, drop}
use Rattle.pt_place.specs.Names.{names_in}
use Rattle.pt_place.specs.Used.{has_names, named}
use Rattle.pt_place.proofs.used.+has_named.Given as goal

abbrev pub invariant-loop-part : goal.invariant-loop-part
invariant-loop-part l = has_names l.key l.columns (named (drop l.part-index l.part-items)) ≡ has_names l.key l.columns (names_in l.expr)

abbrev pub invariant-loop-part-2 : goal.invariant-loop-part-2
invariant-loop-part-2 l = has_names l.key l.columns (named (drop l.part-index l.part-items)) ≡ has_names l.key l.columns (names_in l.expr)
