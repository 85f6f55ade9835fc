-- What was read so far, and what is still to come, are what there is.
use Rattle.std.proofs.Common.{◌≡◌, ◌≤◌, ◌-◌, length, drop}
use Rattle.pt_parse_expr.specs.Reader.{found, many, next_conjunction}
use Rattle.pt_parse_expr.proofs.Many.{behind}
use Rattle.pt_parse_expr.proofs.grammar.Grammar.conjunctions.Given as goal

abbrev pub invariant-loop-conjunctions : goal.invariant-loop-conjunctions
invariant-loop-conjunctions g l = record {
  so_far : many (next_conjunction (found l.self.depth)) (drop l.fn.at l.symbols) ≡ behind l.conjunctions (many (next_conjunction (found l.self.depth)) (drop l.next l.symbols));
  low : l.fn.at ≤ l.next;
  high : l.next ≤ length l.symbols;
}

abbrev pub decreases-loop-conjunctions : goal.decreases-loop-conjunctions
decreases-loop-conjunctions g l = length l.symbols - l.next
