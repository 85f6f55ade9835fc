use Rattle.std.proofs.Common.{◌≡◌, drop}
use Rattle.pt_place.specs.First.{first_in}
use Rattle.pt_checks.specs.Queries.{bad_item}
use Rattle.pt_checks.proofs.queries.bad_exprs.Given as goal

abbrev pub invariant-loop-expr : goal.invariant-loop-expr
invariant-loop-expr l = first_in (bad_item l.table l.columns) (drop l.expr-index l.exprs) ≡ first_in (bad_item l.table l.columns) l.exprs
