-- What was read so far, and what is still to come, are what there is.
use Rattle.std.proofs.Common.{◌≡◌, ◌≤◌, ◌-◌, length, drop}
use Rattle.pt_parse_expr.specs.Reader.{found, many, next_negation}
use Rattle.pt_parse_expr.proofs.Many.{behind}
use Rattle.pt_parse_expr.proofs.grammar.Grammar.negations.Given as goal

abbrev pub invariant-loop-negations : goal.invariant-loop-negations
invariant-loop-negations g l = record {
  so_far : many (next_negation (found l.self.depth)) (drop l.fn.at l.symbols) ≡ behind l.negations (many (next_negation (found l.self.depth)) (drop l.next l.symbols));
  low : l.fn.at ≤ l.next;
  high : l.next ≤ length l.symbols;
}

abbrev pub decreases-loop-negations : goal.decreases-loop-negations
decreases-loop-negations g l = length l.symbols - l.next
