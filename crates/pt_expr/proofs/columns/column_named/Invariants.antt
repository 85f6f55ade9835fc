use Rattle.std.proofs.Common.{◌≡◌, drop}
use Rattle.pt_expr.specs.Columns.{column_named}
use Rattle.pt_expr.proofs.columns.column_named.Given as goal

abbrev pub invariant-loop-column : goal.invariant-loop-column
invariant-loop-column l = column_named l.name (drop l.column-index l.column-items) ≡ column_named l.name l.columns
