use Rattle.pt_parse_expr.specs.Symbols.{symbol}
use Rattle.pt_parse_expr.proofs.Marks.{not_a_sign}
use Rattle.pt_parse_expr.proofs.limits.height_behind.Goals as goal

pub returns-in_default : goal.returns-in_default
unfolding symbol
returns-in_default c = not_a_sign c.args.token.now.kind _ c.args.height c.in_default.not-Sign
