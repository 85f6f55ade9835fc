-- What was read so far, and what is still to come, are what there is.
use Rattle.std.proofs.Common.{◌≡◌, ◌≤◌, ◌-◌, length, drop}
use Rattle.pt_parse_expr.specs.Reader.{found, many, next_more}
use Rattle.pt_parse_expr.proofs.Many.{behind}
use Rattle.pt_parse_expr.proofs.grammar.Grammar.mores.Given as goal

abbrev pub invariant-loop-mores : goal.invariant-loop-mores
invariant-loop-mores g l = record {
  so_far : many (next_more (found l.self.depth)) (drop l.fn.at l.symbols) ≡ behind l.mores (many (next_more (found l.self.depth)) (drop l.next l.symbols));
  low : l.fn.at ≤ l.next;
  high : l.next ≤ length l.symbols;
}

abbrev pub decreases-loop-mores : goal.decreases-loop-mores
decreases-loop-mores g l = length l.symbols - l.next
