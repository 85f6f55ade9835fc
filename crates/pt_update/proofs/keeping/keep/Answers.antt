use Rattle.std.proofs.Common.{Err, List, ap, eq-eqb, eqb-true, length, refl, sym, true≢false, ◌∙◌, ℕ}
use Rattle.pt_ast.specs.declared.database.Spot.{Spot}
use Rattle.pt_holds.specs.RowChanges.{IsChangeOf}
use Rattle.pt_session.proofs.Telling.{answered_tells, kept_tells, none_bad, unkept_tells}
use Rattle.pt_store.proofs.Steps.{no_look}
use Rattle.pt_books.proofs.Exits.{none_there, some_there}
use Rattle.pt_update.proofs.RowEnds.{means_kept, means_unchanged}
use Rattle.pt_update.proofs.keeping.keep.Goals as goal

pub returns-then-is_empty-clause-told : goal.returns-then-is_empty-clause-told
returns-then-is_empty-clause-told g c tells map is meaning text replies means =
    let w = g.H.Host.world c.args.host.now in
    let none = none_there c.args.change.now.deletes (sym (ap (λ (xs : List (Spot × ℕ)). length xs) c.items.ensures) ∙ eqb-true (length c.items.result.now) 0 (sym c.is_empty.ensures ∙ c.if-is_empty.true)) in
    answered_tells meaning c.args.session.now map w w is (no_look c.args.session.now.store map w is) text c.args.reply
    (λ db stands. means_unchanged c.args.change.now db text (meaning db) none (means db stands)) replies

pub returns-in-Ok-clause-told : goal.returns-in-Ok-clause-told
returns-in-Ok-clause-told g c tells map is meaning text replies means =
    let w = g.H.Host.world c.args.host.now in
    let some = some_there c.args.change.now.deletes (λ none. true≢false (sym (eq-eqb (length c.items.result.now) 0 (ap (λ (xs : List (Spot × ℕ)). length xs) c.items.ensures ∙ none)) ∙ sym c.is_empty.ensures ∙ c.if-is_empty.false)) in
    kept_tells meaning c.args.session.now c.write_rows.new.self map w w (g.H.Host.world c.write_rows.new.host) is (no_look c.args.session.now.store map w is)
    (IsChangeOf c.args.change.now) text (λ db stands. means_kept c.args.change.now db text (meaning db) some (means db stands))
    c.in-Ok.field-0 c.args.reply (c.in-Ok.ensures.told tells map is) replies

pub returns-in-Err-clause-told : goal.returns-in-Err-clause-told
returns-in-Err-clause-told g c tells map is meaning text replies means =
    let w = g.H.Host.world c.args.host.now in
    let some = some_there c.args.change.now.deletes (λ none. true≢false (sym (eq-eqb (length c.items.result.now) 0 (ap (λ (xs : List (Spot × ℕ)). length xs) c.items.ensures ∙ none)) ∙ sym c.is_empty.ensures ∙ c.if-is_empty.false)) in
    unkept_tells meaning c.args.session.now c.write_rows.new.self map w w (g.H.Host.world c.write_rows.new.host) is (no_look c.args.session.now.store map w is)
    (IsChangeOf c.args.change.now) text (λ db stands. means_kept c.args.change.now db text (meaning db) some (means db stands))
    c.in-Err.stop (Err c.in-Err.stop) refl (c.in-Err.ensures.told tells map is) (none_bad c.in-Err.stop c.write_rows.result tells c.in-Err.is c.write_rows.ensures.bad)
