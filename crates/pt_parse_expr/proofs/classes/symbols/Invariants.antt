-- The symbols of the tokens so far.
use Rattle.std.proofs.Common.{◌≡◌, take}
use Rattle.pt_parse_expr.specs.Symbols as spec
use Rattle.pt_parse_expr.proofs.classes.symbols.Given as goal

abbrev pub invariant-loop-token : goal.invariant-loop-token
invariant-loop-token l = l.symbols.items ≡ spec.symbols l.piece (take l.token-index l.tokens)
