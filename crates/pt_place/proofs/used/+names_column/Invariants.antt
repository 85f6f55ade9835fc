use Rattle.std.proofs.Common.{◌≡◌, drop}
use Rattle.pt_place.specs.Checks.{is_some_name}
use Rattle.pt_place.specs.Names.{names_in}
use Rattle.pt_place.specs.Used.{named}
use Rattle.pt_place.proofs.used.+names_column.Given as goal

abbrev pub invariant-loop-part : goal.invariant-loop-part
invariant-loop-part l = is_some_name (named (drop l.part-index l.part-items)) ≡ is_some_name (names_in l.expr)

abbrev pub invariant-loop-part-2 : goal.invariant-loop-part-2
invariant-loop-part-2 l = is_some_name (named (drop l.part-index l.part-items)) ≡ is_some_name (names_in l.expr)
