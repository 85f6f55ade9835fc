-- What was read so far, and what is still to come, are what there is.
use Rattle.std.proofs.Common.{◌≡◌, ◌≤◌, ◌-◌, length, drop}
use Rattle.pt_parse_expr.specs.Reader.{found, many, next_factor}
use Rattle.pt_parse_expr.proofs.Many.{behind}
use Rattle.pt_parse_expr.proofs.grammar.Grammar.factors.Given as goal

abbrev pub invariant-loop-factors : goal.invariant-loop-factors
invariant-loop-factors g l = record {
  so_far : many (next_factor (found l.self.depth)) (drop l.fn.at l.symbols) ≡ behind l.factors (many (next_factor (found l.self.depth)) (drop l.next l.symbols));
  low : l.fn.at ≤ l.next;
  high : l.next ≤ length l.symbols;
}

abbrev pub decreases-loop-factors : goal.decreases-loop-factors
decreases-loop-factors g l = length l.symbols - l.next
