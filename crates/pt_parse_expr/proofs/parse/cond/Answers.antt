use Rattle.std.proofs.Common.{sym, subst}
use Rattle.pt_parse_expr.specs.Limits.{AreStorable}
use Rattle.pt_parse_expr.proofs.parse.cond.Goals as goal

pub longest_cond-requires-clause-storable : goal.longest_cond-requires-clause-storable
longest_cond-requires-clause-storable c = subst AreStorable (sym c.deref-in-Ok.ensures.value) (c.in-Ok.ensures.storable c.requires.small)
