use Rattle.std.proofs.Common.{Err, ap, refl, subst, sym, ◌∙◌}
use Rattle.pt_db.specs.Outcome.{reply_of}
use Rattle.pt_session.specs.Leaves.{Tells}
use Rattle.std.proofs.lemmas.Result.{err_from_is_err_and}
use Rattle.pt_host.specs.Listed.{FileList, by_name}
use Rattle.pt_holds.specs.Bad.{Bad}
use Rattle.pt_session.specs.Session.{IsOver}
use Rattle.pt_session.proofs.Telling.{refused_tells, short_tells, stopped_tells}
use Rattle.pt_flat.specs.Insert.{insert_rows}
use Rattle.pt_store.specs.Stops.{IfBad}
use Rattle.pt_store.specs.Store.{IsStore}
use Rattle.pt_dml.specs.declared.work.Work.{Work}
use Rattle.pt_books.specs.Halts.{stop_of}
use Rattle.pt_dml.specs.Inserts.{Inserts}
use Rattle.pt_books.proofs.Exits.{Names, stop_bad, stop_none, tells_behind}
use Rattle.pt_dml.proofs.Ends.{refused_means}
use Rattle.pt_dml.proofs.inserting.insert_rows.Goals as goal

pub returns-in_err-refusal_reply-in-Err-Refused-clause-told : goal.returns-in_err-refusal_reply-in-Err-Refused-clause-told
returns-in_err-refusal_reply-in-Err-Refused-clause-told g c tells map is =
    let p = err_from_is_err_and c.from_residual.result c.from_residual.ensures.1 in
    short_tells (λ db. insert_rows c.args.mode db c.args.new.now) c.args.session.now map (g.H.Host.world c.args.host.now) (g.H.Host.world c.inserted.new.host) is (c.inserted.ensures.looks tells map is) p.0 c.from_residual.result p.1 p.2

pub returns-in-Ok-clause-told : goal.returns-in-Ok-clause-told
returns-in-Ok-clause-told g c tells map is =
    let look = c.inserted.ensures.looks tells map is in
    tells_behind (λ db. insert_rows c.args.mode db c.args.new.now) c.args.session.now c.keep.new.session map (g.H.Host.world c.args.host.now) (g.H.Host.world c.inserted.new.host) (g.H.Host.world c.keep.new.host) c.keep.result is look
    (c.keep.ensures.told tells map look.stands)

pub returns-in_ok-refusal_reply-in-Err-Refused-clause-told : goal.returns-in_ok-refusal_reply-in-Err-Refused-clause-told
returns-in_ok-refusal_reply-in-Err-Refused-clause-told g c tells map is =
    let look = c.inserted.ensures.looks tells map is in
    refused_tells (λ db. insert_rows c.args.mode db c.args.new.now) c.args.session.now map (g.H.Host.world c.args.host.now) (g.H.Host.world c.inserted.new.host) is look c.in-Err-Refused.refusal c.in_ok-refusal_reply-in-Err-Refused.field-0
    (λ db stands. refused_means c.args.mode db c.args.new.now c.in-Err-Refused.refusal (subst (λ h. Inserts c.args.mode db c.args.new.now (Err h)) c.in-Err-Refused.field-0-is (c.in-Err-Refused.ensures.inserts tells map is db stands)))
    (c.in_ok-refusal_reply-in-Err-Refused.ensures ∙ ap (λ r. reply_of (Err r)) c.in-Err-Refused.refusal-is)

pub returns-in-Err-Stopped-clause-told : goal.returns-in-Err-Stopped-clause-told
returns-in-Err-Stopped-clause-told g c tells map is =
    let w = g.H.Host.world c.args.host.now in
    let stop = c.in-Err-Stopped.stop in
    let had : Names c.args.session.now map w tells is stop = subst
    (λ h. IfBad (stop_of {T = Work} (Err h)) (λ name place. g.H.Host.tells → (files : FileList) → IsStore c.args.session.now.store files (g.H.Host.world c.args.host.now) → IsOver c.args.session.now (by_name files) → Bad (by_name files) name place))
    c.in-Err-Stopped.field-0-is c.in-Err-Stopped.ensures.bad in
    subst (λ s. Tells (λ db. insert_rows c.args.mode db c.args.new.now) c.args.session.now c.args.session.now map w (g.H.Host.world c.inserted.new.host) (Err s)) (sym c.in-Err-Stopped.stop-is)
    (stopped_tells (λ db. insert_rows c.args.mode db c.args.new.now) c.args.session.now map w (g.H.Host.world c.inserted.new.host) is (c.inserted.ensures.looks tells map is) stop (Err stop) refl
    (stop_bad c.args.session.now map w tells is stop had) (stop_none c.args.session.now map w tells is stop had))
