use Rattle.std.proofs.Common.{Err, Ok, refl, subst, sym}
use Rattle.std.specs.Option.{IsSomeAnd}
use Rattle.std.proofs.lemmas.Result.{err_from_is_err_and}
use Rattle.pt_holds.specs.RowChanges.{IsChangeOf, IsRowChange}
use Rattle.pt_session.specs.Session.{def_of}
use Rattle.pt_session.proofs.Telling.{TellsChange, answered_tells, kept_tells, none_bad, short_tells, unkept_tells}
use Rattle.pt_store.proofs.Steps.{no_look}
use Rattle.pt_flat.specs.Insert.{insert_rows}
use Rattle.pt_dml.specs.Work.{change_of, reply_text}
use Rattle.pt_dml.proofs.Changes.{may_write}
use Rattle.pt_dml.proofs.Ends.{made_counted, made_most, means_change, means_same_db}
use Rattle.pt_dml.proofs.inserting.keep.Goals as goal

pub reply_of-requires-clause-counted : goal.reply_of-requires-clause-counted
reply_of-requires-clause-counted g c = made_counted c.args.session.now c.args.new.now c.args.work c.requires.work

pub reply_of-requires-clause-most : goal.reply_of-requires-clause-most
reply_of-requires-clause-most g c = made_most c.args.session.now c.args.new.now c.args.work c.requires.work

pub returns-in_err-reply-clause-told : goal.returns-in_err-reply-clause-told
returns-in_err-reply-clause-told g c tells map is =
    let p = err_from_is_err_and c.from_residual.result c.from_residual.ensures.1 in
    let w = g.H.Host.world c.args.host.now in
    short_tells (λ db. insert_rows c.args.mode db c.args.new.now) c.args.session.now map w w is (no_look c.args.session.now.store map w is) p.0 c.from_residual.result p.1 p.2

pub returns-then-work-clause-told : goal.returns-then-work-clause-told
returns-then-work-clause-told g c tells map is =
    let w = g.H.Host.world c.args.host.now in
    answered_tells (λ db. insert_rows c.args.mode db c.args.new.now) c.args.session.now map w w is (no_look c.args.session.now.store map w is) (reply_text c.args.mode c.args.work) c.in_ok-reply.reply
    (means_same_db c.args.mode c.args.session.now map c.requires.open c.args.new.now c.args.work c.requires.work (c.requires.inserted tells map is) c.if-work.true)
    c.in_ok-reply.ensures

pub write_rows-requires-clause-change : goal.write_rows-requires-clause-change
write_rows-requires-clause-change g c =
    subst (λ change. IsSomeAnd (def_of c.args.session.now change.table) (λ def. IsRowChange def change)) (sym c.change_of-change.ensures)
    (may_write c.args.session.now c.args.new.now.table c.args.work c.requires.open c.requires.work)

pub returns-in-Ok-clause-told : goal.returns-in-Ok-clause-told
returns-in-Ok-clause-told g c tells map is =
    let w = g.H.Host.world c.args.host.now in
    let change = change_of c.args.new.now.table c.args.work in
    kept_tells (λ db. insert_rows c.args.mode db c.args.new.now) c.args.session.now c.write_rows.new.self map w w (g.H.Host.world c.write_rows.new.host) is (no_look c.args.session.now.store map w is)
    (IsChangeOf change) (reply_text c.args.mode c.args.work)
    (means_change c.args.mode c.args.session.now map c.requires.open c.args.new.now c.args.work c.requires.work (c.requires.inserted tells map is)
    c.if-work.false)
    c.in-Ok.field-0 c.in_ok-reply.reply
    (subst (λ ch. TellsChange (IsChangeOf ch) c.args.session.now c.write_rows.new.self map w (g.H.Host.world c.write_rows.new.host) (Ok c.in-Ok.field-0)) c.change_of-change.ensures (c.in-Ok.ensures.told tells map is))
    c.in_ok-reply.ensures

pub returns-in-Err-clause-told : goal.returns-in-Err-clause-told
returns-in-Err-clause-told g c tells map is =
    let w = g.H.Host.world c.args.host.now in
    let change = change_of c.args.new.now.table c.args.work in
    unkept_tells (λ db. insert_rows c.args.mode db c.args.new.now) c.args.session.now c.write_rows.new.self map w w (g.H.Host.world c.write_rows.new.host) is (no_look c.args.session.now.store map w is)
    (IsChangeOf change) (reply_text c.args.mode c.args.work)
    (means_change c.args.mode c.args.session.now map c.requires.open c.args.new.now c.args.work c.requires.work (c.requires.inserted tells map is)
    c.if-work.false)
    c.in-Err.stop (Err c.in-Err.stop) refl
    (subst (λ ch. TellsChange {T = Unit {0}} (IsChangeOf ch) c.args.session.now c.write_rows.new.self map w (g.H.Host.world c.write_rows.new.host) (Err c.in-Err.stop)) c.change_of-change.ensures (c.in-Err.ensures.told tells map is))
    (none_bad c.in-Err.stop c.write_rows.result tells c.in-Err.is c.write_rows.ensures.bad)
