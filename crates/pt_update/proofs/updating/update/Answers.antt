use Rattle.std.proofs.Common.{Err, ap, length, refl, subst, ◌∙◌}
use Rattle.std.proofs.lemmas.Result.{err_from_is_err_and}
use Rattle.pt_host.specs.Listed.{FileList, by_name}
use Rattle.pt_holds.specs.Bad.{Bad}
use Rattle.pt_db.specs.Texts.{answered, counts_text}
use Rattle.pt_store.specs.Stops.{IfBad}
use Rattle.pt_store.specs.Store.{IsStore}
use Rattle.pt_session.specs.Session.{IsOver}
use Rattle.pt_session.proofs.Telling.{refused_tells, short_tells, stopped_tells}
use Rattle.pt_books.specs.Halts.{stop_of}
use Rattle.pt_books.proofs.Exits.{Names, stop_bad, stop_none, tells_behind}
use Rattle.pt_flat.specs.Update.{update}
use Rattle.pt_update.specs.declared.updating.Moved.{Moved}
use Rattle.pt_update.specs.Updates.{Updates}
use Rattle.pt_update.proofs.updating.update.Goals as goal

pub returns-in_err-refusal_reply-in-Err-Refused-clause-told : goal.returns-in_err-refusal_reply-in-Err-Refused-clause-told
returns-in_err-refusal_reply-in-Err-Refused-clause-told g c tells map is =
    let p = err_from_is_err_and c.from_residual-in_err-refusal_reply-in-Err-Refused.result c.from_residual-in_err-refusal_reply-in-Err-Refused.ensures.1 in
    short_tells (λ db. update db c.args.table.now c.args.parts.now c.args.assigns.now c.args.tail.now) c.args.session.now map (g.H.Host.world c.args.host.now) (g.H.Host.world c.updated.new.host) is (c.updated.ensures.looks tells map is) p.0 c.from_residual-in_err-refusal_reply-in-Err-Refused.result p.1 p.2

pub returns-in_err-reply-in-Ok-clause-told : goal.returns-in_err-reply-in-Ok-clause-told
returns-in_err-reply-in-Ok-clause-told g c tells map is =
    let p = err_from_is_err_and c.from_residual.result c.from_residual.ensures.1 in
    short_tells (λ db. update db c.args.table.now c.args.parts.now c.args.assigns.now c.args.tail.now) c.args.session.now map (g.H.Host.world c.args.host.now) (g.H.Host.world c.updated.new.host) is (c.updated.ensures.looks tells map is) p.0 c.from_residual.result p.1 p.2

pub returns-in_ok-reply-in-Ok-clause-told : goal.returns-in_ok-reply-in-Ok-clause-told
returns-in_ok-reply-in-Ok-clause-told g c tells map is =
    let look = c.updated.ensures.looks tells map is in
    tells_behind (λ db. update db c.args.table.now c.args.parts.now c.args.assigns.now c.args.tail.now) c.args.session.now c.keep.new.session map (g.H.Host.world c.args.host.now) (g.H.Host.world c.updated.new.host) (g.H.Host.world c.keep.new.host) c.keep.result is look
    (c.keep.ensures.told tells map look.stands (λ db. update db c.args.table.now c.args.parts.now c.args.assigns.now c.args.tail.now) (counts_text c.in-Ok.done.matched (length c.in-Ok.done.change.puts)) (c.in_ok-reply-in-Ok.ensures ∙ ap (λ xs. answered (counts_text c.in-Ok.done.matched (length xs))) c.items.ensures) (λ db stands. c.in-Ok.ensures.updates tells map is db stands))

pub returns-in_ok-refusal_reply-in-Err-Refused-clause-told : goal.returns-in_ok-refusal_reply-in-Err-Refused-clause-told
returns-in_ok-refusal_reply-in-Err-Refused-clause-told g c tells map is =
    let look = c.updated.ensures.looks tells map is in
    refused_tells (λ db. update db c.args.table.now c.args.parts.now c.args.assigns.now c.args.tail.now) c.args.session.now map (g.H.Host.world c.args.host.now) (g.H.Host.world c.updated.new.host) is look c.in-Err-Refused.refusal c.in_ok-refusal_reply-in-Err-Refused.field-0
    (λ db stands. subst (λ h. Updates db c.args.table.now c.args.parts.now c.args.assigns.now c.args.tail.now (Err h)) c.in-Err-Refused.field-0-is (c.in-Err-Refused.ensures.updates tells map is db stands))
    c.in_ok-refusal_reply-in-Err-Refused.ensures

pub returns-in-Err-Stopped-clause-told : goal.returns-in-Err-Stopped-clause-told
returns-in-Err-Stopped-clause-told g c tells map is =
    let w = g.H.Host.world c.args.host.now in
    let stop = c.in-Err-Stopped.stop in
    let had : Names c.args.session.now map w tells is stop = subst
    (λ h. IfBad (stop_of {T = Moved} (Err h)) (λ name place. g.H.Host.tells → (files : FileList) → IsStore c.args.session.now.store files (g.H.Host.world c.args.host.now) → IsOver c.args.session.now (by_name files) → Bad (by_name files) name place))
    c.in-Err-Stopped.field-0-is c.in-Err-Stopped.ensures.bad in
    stopped_tells (λ db. update db c.args.table.now c.args.parts.now c.args.assigns.now c.args.tail.now) c.args.session.now map w (g.H.Host.world c.updated.new.host) is (c.updated.ensures.looks tells map is) stop (Err stop) refl
    (stop_bad c.args.session.now map w tells is stop had) (stop_none c.args.session.now map w tells is stop had)
