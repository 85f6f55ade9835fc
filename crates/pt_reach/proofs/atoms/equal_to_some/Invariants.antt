use Rattle.std.proofs.Common.{◌≡◌, true, ◌||◌, drop, map}
use Rattle.std.specs.List.{list_any}
use Rattle.pt_expr.specs.Truths.{equals, operand}
use Rattle.pt_reach.specs.Steps.{has_some}
use Rattle.pt_reach.proofs.atoms.equal_to_some.Given as goal

abbrev pub invariant-loop-item : goal.invariant-loop-item
invariant-loop-item g l =
    (v : g.row.T.Denot) → g.T.Line.is_value v ≡ true
    → (has_some g.T.Line.cmp l.sets.items v || list_any (equals (g.T.Scale.value v)) (map (operand l.columns l.nulls l.dates) (drop l.item-index l.item-items)))
    ≡ list_any (equals (g.T.Scale.value v)) (map (operand l.columns l.nulls l.dates) l.list)
