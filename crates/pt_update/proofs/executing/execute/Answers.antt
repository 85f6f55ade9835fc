use Rattle.std.proofs.Common.{subst, sym}
use Rattle.pt_ast.specs.declared.statement.Stmt.{Stmt}
use Rattle.pt_flat.specs.Step.{step}
use Rattle.pt_session.specs.Leaves.{Tells}
use Rattle.pt_update.proofs.executing.execute.Goals as goal

pub returns-in-Update-clause-told : goal.returns-in-Update-clause-told
returns-in-Update-clause-told g c tells map store =
    subst (λ (stmt : Stmt). Tells (λ db. step db stmt) c.args.session.now c.update.new.session map (g.H.Host.world c.args.host.now) (g.H.Host.world c.update.new.host) c.update.result) (sym c.in-Update.is)
    (c.update.ensures.told tells map store)

pub returns-in-Delete-clause-told : goal.returns-in-Delete-clause-told
returns-in-Delete-clause-told g c tells map store =
    subst (λ (stmt : Stmt). Tells (λ db. step db stmt) c.args.session.now c.delete.new.session map (g.H.Host.world c.args.host.now) (g.H.Host.world c.delete.new.host) c.delete.result) (sym c.in-Delete.is)
    (c.delete.ensures.told tells map store)
