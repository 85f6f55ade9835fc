-- So many are open behind the tokens so far, and behind none of these were there too many.
use Rattle.std.proofs.Common.{◌≡◌, ℕ, ◌≤◌, take}
use Rattle.pt_parse_expr.specs.Limits.{open_behind}
use Rattle.pt_parse_expr.specs.Symbols as spec
use Rattle.pt_parse_expr.proofs.limits.deep.Given as goal

abbrev pub invariant-loop-token : goal.invariant-loop-token
invariant-loop-token l = record {
  height : l.height ≡ open_behind (take l.token-index (spec.symbols l.piece l.tokens.items));
  low : (n : ℕ) → n ≤ l.token-index → open_behind (take n (spec.symbols l.piece l.tokens.items)) ≤ 64;
}
