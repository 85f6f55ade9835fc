use Rattle.std.proofs.Common.{sym, ap}
use Rattle.std.proofs.lemmas.Result.{err_from_is_err_and}
use Rattle.pt_ast.specs.declared.refusal.Refusal.TheVariants as refusal
use Rattle.pt_show.specs.Show.{shown_table}
use Rattle.pt_db.specs.Texts.{answered}
use Rattle.pt_store.proofs.Steps.{no_look}
use Rattle.pt_flat.specs.Show.{show}
use Rattle.pt_session.proofs.Telling.{answered_tells, refused_tells, short_tells}
use Rattle.pt_select.proofs.Meanings.{show_answered, show_refused}
use Rattle.pt_select.proofs.showing.show.Goals as goal

pub returns-in_err-refusal_reply-clause-told : goal.returns-in_err-refusal_reply-clause-told
returns-in_err-refusal_reply-clause-told c map world store =
    let p = err_from_is_err_and c.from_residual.result c.from_residual.ensures.1 in
    short_tells (λ db. show db c.args.table.now) _ map _ _ store (no_look _ map _ store) p.0 _ p.1 p.2

pub returns-in_default-clause-told : goal.returns-in_default-clause-told
returns-in_default-clause-told c map world store =
    refused_tells (λ db. show db c.args.table.now) _ map _ _ store (no_look _ map _ store) (refusal.NoSuchTable c.args.table.now) _ (show_refused _ map c.requires.«open» c.args.table.now (sym c.in_default.ensures)) c.in_ok-refusal_reply.ensures

pub returns-in_err-text-clause-told : goal.returns-in_err-text-clause-told
returns-in_err-text-clause-told c map world store =
    let p = err_from_is_err_and c.from_residual-in_err-text.result c.from_residual-in_err-text.ensures.1 in
    short_tells (λ db. show db c.args.table.now) _ map _ _ store (no_look _ map _ store) p.0 _ p.1 p.2

pub returns-clause-told : goal.returns-clause-told
returns-clause-told c map world store =
    answered_tells (λ db. show db c.args.table.now) _ map _ _ store (no_look _ map _ store) (shown_table c.args.table.now c.in-Some.def.now) _ (show_answered _ map c.requires.«open» c.args.table.now c.in-Some.def.now (sym c.in-Some.ensures))
    (ap answered c.in_ok-text.ensures)
