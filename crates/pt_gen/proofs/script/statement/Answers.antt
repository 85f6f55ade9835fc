use Rattle.std.proofs.Common.{◌≡◌, ◌<◌, subst, arith}
use Rattle.std.specs.Prelude.{IfOk}
use Rattle.pt_ast.specs.declared.statement.Stmt.{Stmt}
use Rattle.pt_gen.proofs.Places.{at_first, at_insert, at_last}
use Rattle.pt_gen.proofs.script.statement.Goals as goal

pub returns-then-i-eq0 : goal.returns-then-i-eq0
returns-then-i-eq0 c = subst (λ (own : Stmt). IfOk c.created.result (λ statement. statement ≡ own)) (at_first c.args.n c.args.i c.if-i-eq0.true) c.created.ensures

pub returns-then-i-n : goal.returns-then-i-n
returns-then-i-n c = subst (λ (own : Stmt). IfOk c.inserted.result (λ statement. statement ≡ own)) (at_insert c.args.n c.args.i c.if-i-eq0.false c.if-i-n.true) c.inserted.ensures

pub returns : goal.returns
returns c =
    let other = c.if-i-n.false in
    let behind : c.args.n < c.args.i = omega (arith, other) in
    subst (λ (own : Stmt). IfOk c.last.result (λ statement. statement ≡ own)) (at_last c.args.n c.args.i behind) c.last.ensures
