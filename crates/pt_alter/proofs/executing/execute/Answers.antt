use Rattle.std.proofs.Common.{sym, subst}
use Rattle.pt_ast.specs.declared.statement.Stmt.{Stmt}
use Rattle.pt_flat.specs.Step.{step}
use Rattle.pt_session.specs.Leaves.{Tells}
use Rattle.pt_alter.proofs.executing.execute.Goals as goal

pub returns-in-Create-clause-told : goal.returns-in-Create-clause-told
returns-in-Create-clause-told g c tells map is =
    subst (λ (stmt : Stmt). Tells (λ db. step db stmt) c.args.session.now c.create.new.session map (g.H.Host.world c.args.host.now) (g.H.Host.world c.create.new.host) c.create.result) (sym c.in-Create.is) (c.create.ensures.told tells map is)

pub returns-in-Like-clause-told : goal.returns-in-Like-clause-told
returns-in-Like-clause-told g c tells map is =
    subst (λ (stmt : Stmt). Tells (λ db. step db stmt) c.args.session.now c.like.new.session map (g.H.Host.world c.args.host.now) (g.H.Host.world c.like.new.host) c.like.result) (sym c.in-Like.is) (c.like.ensures.told tells map is)

pub returns-in-Drop-clause-told : goal.returns-in-Drop-clause-told
returns-in-Drop-clause-told g c tells map is =
    subst (λ (stmt : Stmt). Tells (λ db. step db stmt) c.args.session.now c.drop_table.new.session map (g.H.Host.world c.args.host.now) (g.H.Host.world c.drop_table.new.host) c.drop_table.result) (sym c.in-Drop.is) (c.drop_table.ensures.told tells map is)
