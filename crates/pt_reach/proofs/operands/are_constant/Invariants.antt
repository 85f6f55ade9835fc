use Rattle.std.proofs.Common.{◌≡◌, drop}
use Rattle.std.specs.List.{list_all}
use Rattle.pt_reach.specs.May.{is_constant}
use Rattle.pt_reach.proofs.operands.are_constant.Given as goal

abbrev pub invariant-loop-expr : goal.invariant-loop-expr
invariant-loop-expr l = list_all is_constant (drop l.expr-index l.expr-items) ≡ list_all is_constant l.list
