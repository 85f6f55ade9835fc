use Rattle.std.proofs.Common.{subst, sym}
use Rattle.pt_flat.specs.Insert.{insert_rows}
use Rattle.pt_flat.specs.Step.{step}
use Rattle.pt_session.specs.Leaves.{Tells}
use Rattle.pt_dml.proofs.executing.execute.Goals as goal

pub returns-in-Insert-clause-told : goal.returns-in-Insert-clause-told
returns-in-Insert-clause-told g c tells map is =
    subst (λ s. Tells (λ db. step db s) c.args.session.now c.insert_rows.new.session map (g.H.Host.world c.args.host.now) (g.H.Host.world c.insert_rows.new.host) c.insert_rows.result) (sym c.in-Insert.is)
    (subst (λ how. Tells (λ db. insert_rows how db c.in-Insert.new) c.args.session.now c.insert_rows.new.session map (g.H.Host.world c.args.host.now) (g.H.Host.world c.insert_rows.new.host) c.insert_rows.result) c.insert_mode.ensures
    (c.insert_rows.ensures.told tells map is))

pub returns-in-Replace-clause-told : goal.returns-in-Replace-clause-told
returns-in-Replace-clause-told g c tells map is =
    subst (λ s. Tells (λ db. step db s) c.args.session.now c.insert_rows-in-Replace.new.session map (g.H.Host.world c.args.host.now) (g.H.Host.world c.insert_rows-in-Replace.new.host) c.insert_rows-in-Replace.result) (sym c.in-Replace.is)
    (c.insert_rows-in-Replace.ensures.told tells map is)
