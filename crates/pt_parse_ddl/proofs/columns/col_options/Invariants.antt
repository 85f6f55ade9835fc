-- What was kept so far, and what will be kept of what is still to come, are what is kept.
use Rattle.std.proofs.Common.{◌≡◌, ◌≤◌, ◌-◌, length, drop}
use Rattle.pt_parse_ddl.specs.ColumnReader.{col_options}
use Rattle.pt_parse_expr.proofs.Many.{behind}
use Rattle.pt_parse_ddl.proofs.columns.col_options.Given as goal

abbrev pub invariant-loop-options : goal.invariant-loop-options
invariant-loop-options l = record {
  so_far : col_options (drop l.fn.at l.symbols) ≡ behind l.options (col_options (drop l.next l.symbols));
  low : l.fn.at ≤ l.next;
  high : l.next ≤ length l.symbols;
}

abbrev pub decreases-loop-options : goal.decreases-loop-options
decreases-loop-options l = length l.symbols - l.next
