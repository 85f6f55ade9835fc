-- What was read so far, and what is still to come, are what there is.
use Rattle.std.proofs.Common.{◌≡◌, ◌≤◌, ◌-◌, length, drop}
use Rattle.pt_parse_expr.specs.Reader.{found, many, next_term}
use Rattle.pt_parse_expr.proofs.Many.{behind}
use Rattle.pt_parse_expr.proofs.grammar.Grammar.terms.Given as goal

abbrev pub invariant-loop-terms : goal.invariant-loop-terms
invariant-loop-terms g l = record {
  so_far : many (next_term (found l.self.depth)) (drop l.fn.at l.symbols) ≡ behind l.terms (many (next_term (found l.self.depth)) (drop l.next l.symbols));
  low : l.fn.at ≤ l.next;
  high : l.next ≤ length l.symbols;
}

abbrev pub decreases-loop-terms : goal.decreases-loop-terms
decreases-loop-terms g l = length l.symbols - l.next
