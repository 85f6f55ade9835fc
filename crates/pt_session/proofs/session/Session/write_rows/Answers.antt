use Rattle.std.proofs.Common.{inr}
use Rattle.std.proofs.lemmas.Result.{err_from_is_err_and}
use Rattle.pt_store.specs.Batch.{appended}
use Rattle.pt_store.proofs.Steps.{stopped_step}
use Rattle.pt_session.proofs.Executing.{leaves_stopped}
use Rattle.pt_session.proofs.Writes.{err_over, over_with, still_open, stopped_defs, stopped_over, written_defs, written_holds, written_over}
use Rattle.pt_session.proofs.session.Session.write_rows.Goals as goal

pub returns-in_err-batch-clause-told : goal.returns-in_err-batch-clause-told
returns-in_err-batch-clause-told g c tells map is =
    let p = err_from_is_err_and c.from_residual.result c.from_residual.ensures.1 in (
      map,
      stopped_step c.args.self.now.store map map p.0 c.from_residual.result (g.H.Host.world c.args.host.now) p.1 is,
      λ over. stopped_over c.args.self.now map map p.0 c.from_residual.result p.1 over,
      λ db later stands change. leaves_stopped c.args.self.now map db stands later p.0 c.from_residual.result p.1,
    )

pub returns-in-Ok-clause-told : goal.returns-in-Ok-clause-told
returns-in-Ok-clause-told g c tells map is = (
  appended c.in_ok-batch.batch map,
  c.in-Ok.ensures.told tells map is,
  λ over. written_over c.args.self.now c.args.change.now c.in_ok-batch.batch c.requires.open c.in_ok-batch.ensures.of c.requires.change c.append.new.self map (g.H.Host.world c.args.host.now) is over,
  λ db later stands change.
      let holds = written_holds c.args.self.now c.args.change.now c.in_ok-batch.batch c.requires.open c.in_ok-batch.ensures.of c.requires.change map (g.H.Host.world c.args.host.now) db later is stands change in
      record { between = inr holds; holds = holds; defs = written_defs c.args.self.now c.append.new.self c.args.change.now db later stands.defs change },
)

pub returns-in-Ok-clause-open : goal.returns-in-Ok-clause-open
returns-in-Ok-clause-open g c = still_open c.args.self.now c.args.change.now c.in_ok-batch.batch c.requires.open c.in_ok-batch.ensures.of c.requires.change c.append.new.self c.in-Ok.ensures.after

pub returns-clause-told : goal.returns-clause-told
returns-clause-told g c tells map is = (
  appended c.in_ok-batch.batch map,
  c.in-Err.ensures.told tells map is,
  λ over. err_over (Unit {0}) (record c.args.self.now { store = c.append.new.self }) map (appended c.in_ok-batch.batch map) c.in-Err.stop (over_with c.args.self.now c.append.new.self map over),
  λ db later stands change.
      let holds = written_holds c.args.self.now c.args.change.now c.in_ok-batch.batch c.requires.open c.in_ok-batch.ensures.of c.requires.change map (g.H.Host.world c.args.host.now) db later is stands change in
      record { between = inr holds; holds = tt; defs = stopped_defs c.args.self.now c.append.new.self c.in-Err.stop db later stands.defs },
)
