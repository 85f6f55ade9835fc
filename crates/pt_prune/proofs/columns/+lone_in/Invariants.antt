use Rattle.std.proofs.Common.{◌≡◌, drop}
use Rattle.std.specs.Prelude.{fold}
use Rattle.pt_place.specs.Names.{names_in}
use Rattle.pt_place.specs.Used.{named}
use Rattle.pt_prune.specs.Lone.{with_name}
use Rattle.pt_prune.proofs.columns.+lone_in.Given as goal

abbrev pub invariant-loop-part : goal.invariant-loop-part
invariant-loop-part l = fold (with_name l.columns) l.lone (named (drop l.part-index l.part-items)) ≡ fold (with_name l.columns) l.fn.before (names_in l.expr)

abbrev pub invariant-loop-part-2 : goal.invariant-loop-part-2
invariant-loop-part-2 l = fold (with_name l.columns) l.lone (named (drop l.part-index l.part-items)) ≡ fold (with_name l.columns) l.fn.before (names_in l.expr)
