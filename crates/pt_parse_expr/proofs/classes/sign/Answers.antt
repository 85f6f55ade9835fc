use Rattle.std.proofs.Common.{◌∙◌, sym}
use Rattle.pt_parse_expr.proofs.Marks.{has_mark}
use Rattle.pt_parse_expr.proofs.classes.sign.Goals as goal

pub unreachable-requires : goal.unreachable-requires
unreachable-requires c = has_mark c.args.bytes.now c.requires (sym c.sign.ensures ∙ c.in-None.is)
