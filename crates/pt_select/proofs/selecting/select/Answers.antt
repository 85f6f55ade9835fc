use Rattle.std.proofs.Common.{List, Err, refl, sym}
use Rattle.std.proofs.lemmas.Result.{err_from_is_err_and}
use Rattle.pt_host.specs.Listed.{by_name}
use Rattle.pt_ast.specs.declared.database.Row.{Row}
use Rattle.pt_ast.specs.declared.refusal.Refusal.TheVariants as refusal
use Rattle.pt_ast.specs.declared.reply.Reply.{Reply}
use Rattle.pt_checks.specs.Printed.{select_text}
use Rattle.pt_holds.specs.Bad.{Bad}
use Rattle.pt_store.proofs.Steps.{no_look}
use Rattle.pt_flat.specs.Select.{select}
use Rattle.pt_session.proofs.Excludes.{bad_excludes}
use Rattle.pt_session.proofs.Over.{stands_over}
use Rattle.pt_session.proofs.Telling.{answered_tells, refused_tells, short_tells, stopped_tells}
use Rattle.pt_select.proofs.Meanings.{select_absent, select_answered, select_refused}
use Rattle.pt_candidates.proofs.Steps.{bad_told}
use Rattle.pt_select.proofs.selecting.select.Goals as goal

pub returns-in_err-refusal_reply-clause-told : goal.returns-in_err-refusal_reply-clause-told
returns-in_err-refusal_reply-clause-told g c tells map store =
    let p = err_from_is_err_and c.from_residual.result c.from_residual.ensures.1 in
    short_tells (λ db. select db c.args.query.now) _ map _ _ store (no_look _ map _ store) p.0 _ p.1 p.2

pub returns-in_err-refusal_reply-clause-looks : goal.returns-in_err-refusal_reply-clause-looks
returns-in_err-refusal_reply-clause-looks g c tells map store = no_look _ map _ store

pub returns-in_default-clause-told : goal.returns-in_default-clause-told
returns-in_default-clause-told g c tells map store =
    refused_tells (λ db. select db c.args.query.now) _ map _ _ store (no_look _ map _ store) (refusal.NoSuchTable c.args.query.now.table) _ (select_absent _ map c.requires.«open» c.args.query.now (sym c.in_default.ensures)) c.in_ok-refusal_reply.ensures

pub returns-in_default-clause-looks : goal.returns-in_default-clause-looks
returns-in_default-clause-looks g c tells map store = no_look _ map _ store

pub returns-in_err-refusal_reply-2-clause-told : goal.returns-in_err-refusal_reply-2-clause-told
returns-in_err-refusal_reply-2-clause-told g c tells map store =
    let p = err_from_is_err_and c.from_residual-in_err-refusal_reply-2.result c.from_residual-in_err-refusal_reply-2.ensures.1 in
    short_tells (λ db. select db c.args.query.now) _ map _ _ store (no_look _ map _ store) p.0 _ p.1 p.2

pub returns-in_err-refusal_reply-2-clause-looks : goal.returns-in_err-refusal_reply-2-clause-looks
returns-in_err-refusal_reply-2-clause-looks g c tells map store = no_look _ map _ store

pub returns-in-Some-refusal_of-clause-told : goal.returns-in-Some-refusal_of-clause-told
returns-in-Some-refusal_of-clause-told g c tells map store =
    refused_tells (λ db. select db c.args.query.now) _ map _ _ store (no_look _ map _ store) c.in-Some-refusal_of.refusal _
    (select_refused _ map c.requires.«open» c.args.query.now c.in-Some.def.now (sym c.in-Some.ensures) c.in-Some-refusal_of.refusal (sym c.in-Some-refusal_of.ensures.refusal)) c.in_ok-refusal_reply-2.ensures

pub returns-in-Some-refusal_of-clause-looks : goal.returns-in-Some-refusal_of-clause-looks
returns-in-Some-refusal_of-clause-looks g c tells map store = no_look _ map _ store

pub returns-in_err-rows-clause-told : goal.returns-in_err-rows-clause-told
returns-in_err-rows-clause-told g c tells map store =
    let p = err_from_is_err_and c.from_residual-in_err-rows.result c.from_residual-in_err-rows.ensures.1 in
    let e = c.in_err-rows.field-0.0 in
    rw (p.1, p.2)
    (stopped_tells (λ db. select db c.args.query.now) _ map _ _ store (c.in_err-rows.ensures.looks tells map store) e (Err e) refl
    (λ over. bad_told (List Row) Reply e _ (λ name place. Bad (by_name map) name place) (λ name place had. had tells map store over) c.in_err-rows.ensures.bad)
    (λ db stands. bad_told (List Row) Reply e _ (λ name place. ⊥) (λ name place had. bad_excludes (by_name map) db name place stands.holds (had tells map store (stands_over _ map db stands))) c.in_err-rows.ensures.bad))

pub returns-in_err-rows-clause-looks : goal.returns-in_err-rows-clause-looks
returns-in_err-rows-clause-looks g c tells map store = c.in_err-rows.ensures.looks tells map store

pub returns-in_err-answer-clause-told : goal.returns-in_err-answer-clause-told
returns-in_err-answer-clause-told g c tells map store =
    let p = err_from_is_err_and c.from_residual-in_err-answer.result c.from_residual-in_err-answer.ensures.1 in
    short_tells (λ db. select db c.args.query.now) _ map _ _ store (c.in_ok-rows.ensures.looks tells map store) p.0 _ p.1 p.2

pub returns-in_err-answer-clause-looks : goal.returns-in_err-answer-clause-looks
returns-in_err-answer-clause-looks g c tells map store = c.in_ok-rows.ensures.looks tells map store

pub candidates-requires-clause-held : goal.candidates-requires-clause-held
candidates-requires-clause-held g c = sym c.in-Some.ensures

pub returns-clause-told : goal.returns-clause-told
returns-clause-told g c tells map store =
    let query = c.args.query.now in
    let def = c.in-Some.def.now in
    let rows = c.in_ok-rows.rows in
    answered_tells (λ db. select db query) _ map _ _ store (c.in_ok-rows.ensures.looks tells map store) (select_text def.columns query.items rows) _
    (select_answered _ map c.requires.«open» query def (sym c.in-Some.ensures) rows (sym c.in_default-refusal_of.ensures.refusal) (c.in_ok-rows.ensures.rows tells map store)) c.in_ok-answer.ensures

pub returns-clause-looks : goal.returns-clause-looks
returns-clause-looks g c tells map store = c.in_ok-rows.ensures.looks tells map store
