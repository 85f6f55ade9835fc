-- What was read so far, and what is still to come, are what there is.
use Rattle.std.proofs.Common.{◌≡◌, ◌≤◌, ◌-◌, [], ◌∷◌, length, drop}
use Rattle.pt_parse_expr.specs.Reader.{many}
use Rattle.pt_parse_expr.proofs.Many.{behind}
use Rattle.pt_parse_ddl.specs.Steps.{next_item}
use Rattle.pt_parse_ddl.proofs.rules.more_items.Given as goal

abbrev pub invariant-loop-items : goal.invariant-loop-items
invariant-loop-items g l = record {
  so_far : behind (l.fn.first ∷ []) (many (next_item g.R.Rule.reading) (drop l.fn.at l.symbols)) ≡ behind l.items (many (next_item g.R.Rule.reading) (drop l.next l.symbols));
  low : l.fn.at ≤ l.next;
  high : l.next ≤ length l.symbols;
}

abbrev pub decreases-loop-items : goal.decreases-loop-items
decreases-loop-items g l = length l.symbols - l.next
