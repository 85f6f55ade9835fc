-- What is left behind the place is what is left behind the first place.
use Rattle.std.proofs.Common.{◌≡◌, ◌≤◌, ◌-◌, length, drop}
use Rattle.pt_parse_expr.specs.Reader.{many}
use Rattle.pt_parse_ddl.proofs.rules.skipped.Given as goal

abbrev pub invariant-loop-behind : goal.invariant-loop-behind
invariant-loop-behind g l = record {
  ahead : (many g.S.Skip.skipping (drop l.fn.at l.symbols)).1 ≡ (many g.S.Skip.skipping (drop l.next l.symbols)).1;
  low : l.fn.at ≤ l.next;
  high : l.next ≤ length l.symbols;
}

abbrev pub decreases-loop-behind : goal.decreases-loop-behind
decreases-loop-behind g l = length l.symbols - l.next
