use Rattle.std.proofs.Common.{subst, sym}
use Rattle.pt_ast.specs.declared.statement.Stmt.{Stmt}
use Rattle.pt_flat.specs.Step.{step}
use Rattle.pt_session.specs.Leaves.{Tells}
use Rattle.pt_store.proofs.Steps.{no_look}
use Rattle.pt_select.proofs.executing.execute.Goals as goal

pub returns-in-Select-clause-told : goal.returns-in-Select-clause-told
returns-in-Select-clause-told g c tells map store =
    subst (λ (stmt : Stmt). Tells (λ db. step db stmt) c.args.session.now c.args.session.now map (g.H.Host.world c.args.host.now) (g.H.Host.world c.select.new.host) c.select.result) (sym c.in-Select.is)
    (c.select.ensures.told tells map store)

pub returns-in-Show-clause-told : goal.returns-in-Show-clause-told
returns-in-Show-clause-told g c tells map store =
    subst (λ (stmt : Stmt). Tells (λ db. step db stmt) c.args.session.now c.args.session.now map (g.H.Host.world c.args.host.now) (g.H.Host.world c.args.host.now) c.show.result) (sym c.in-Show.is)
    (c.show.ensures.told map (g.H.Host.world c.args.host.now) store)

pub returns-in-Show-clause-looks : goal.returns-in-Show-clause-looks
returns-in-Show-clause-looks g c tells map store = no_look _ map _ store
