use Rattle.std.proofs.Common.{sym, ap, ◌∙◌}
use Rattle.pt_ast.specs.declared.tree.Expr.TheViews.{out-Expr}
use Rattle.pt_reach.specs.Kept.{follows_all}
use Rattle.pt_followed.proofs.Followed.{own_named}
use Rattle.pt_followed.proofs.reached.by_list.Goals as goal

pub by_own_list-requires-clause-own : goal.by_own_list-requires-clause-own
by_own_list-requires-clause-own c = own_named (out-Expr c.args.expr.now) (sym (ap follows_all c.requires.kind) ∙ c.requires.followed) (sym c.in-None.is ∙ c.called.ensures)
