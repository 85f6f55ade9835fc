use Rattle.std.proofs.Common.{refl, sym, ap, ◌∙◌}
use Rattle.std.specs.Prelude.{Err}
use Rattle.std.proofs.lemmas.Result.{err_from_is_err_and}
use Rattle.pt_ast.specs.declared.refusal.Refusal.TheVariants.{NoSuchTable}
use Rattle.pt_store.proofs.Steps.{no_look}
use Rattle.pt_db.specs.Texts.{ok_text}
use Rattle.pt_holds.specs.ShapeChanges.{IsDropOf}
use Rattle.pt_flat.specs.DropTable.{drop_table}
use Rattle.pt_session.proofs.Telling.{kept_tells, none_bad, short_tells, unkept_tells}
use Rattle.pt_alter.proofs.Meanings.{drop_absent, drop_means, nothing_tells, there}
use Rattle.pt_alter.proofs.definitions.drop_table.Goals as goal

pub returns-in_err-nothing_or-clause-told : goal.returns-in_err-nothing_or-clause-told
returns-in_err-nothing_or-clause-told g c tells map is =
    let p = err_from_is_err_and c.from_residual.result c.from_residual.ensures.1 in
    let w = g.H.Host.world c.args.host.now in
    short_tells (λ db. drop_table c.args.if_there db c.args.name.now) c.args.session.now map w w is (no_look c.args.session.now.store map w is) p.0 c.from_residual.result p.1 p.2

pub returns-then-not-is_there-clause-told : goal.returns-then-not-is_there-clause-told
returns-then-not-is_there-clause-told g c tells map is =
    let name = c.args.name.now in
    nothing_tells (λ db. drop_table c.args.if_there db name) c.args.session.now map (g.H.Host.world c.args.host.now) is c.args.if_there (NoSuchTable name) c.in_ok-nothing_or.field-0
    (λ db stands. drop_absent c.args.if_there db name (there c.args.session.now map db stands name c.is_there.ensures.ident c.is_there.result c.is_there.ensures.there ∙ c.if-not-is_there.true))
    c.in_ok-nothing_or.ensures

pub returns-in_err-reply-clause-told : goal.returns-in_err-reply-clause-told
returns-in_err-reply-clause-told g c tells map is =
    let p = err_from_is_err_and c.from_residual-in_err-reply.result c.from_residual-in_err-reply.ensures.1 in
    let w = g.H.Host.world c.args.host.now in
    short_tells (λ db. drop_table c.args.if_there db c.args.name.now) c.args.session.now map w w is (no_look c.args.session.now.store map w is) p.0 c.from_residual-in_err-reply.result p.1 p.2

pub returns-in_err-drop_table-clause-told : goal.returns-in_err-drop_table-clause-told
returns-in_err-drop_table-clause-told g c tells map is =
    let p = err_from_is_err_and c.from_residual-in_err-drop_table.result c.from_residual-in_err-drop_table.ensures.1 in
    let w = g.H.Host.world c.args.host.now in
    let name = c.args.name.now in
    unkept_tells (λ db. drop_table c.args.if_there db name) c.args.session.now c.drop_table.new.self map w w (g.H.Host.world c.drop_table.new.host) is (no_look c.args.session.now.store map w is) (IsDropOf name) ok_text
    (λ db stands. drop_means c.args.session.now map db stands name c.is_there.ensures.ident c.args.if_there (sym c.is_there.ensures.there ∙ c.if-not-is_there.false))
    c.in_err-drop_table.field-0.0 c.from_residual-in_err-drop_table.result (p.1 ∙ ap (λ e. Err e) p.2) (c.in_err-drop_table.ensures.told tells map is)
    (none_bad {T = Unit {0}} c.in_err-drop_table.field-0.0 (Err c.in_err-drop_table.field-0.0) tells refl c.in_err-drop_table.ensures.bad)

pub returns-clause-told : goal.returns-clause-told
returns-clause-told g c tells map is =
    let w = g.H.Host.world c.args.host.now in
    let name = c.args.name.now in
    kept_tells (λ db. drop_table c.args.if_there db name) c.args.session.now c.drop_table.new.self map w w (g.H.Host.world c.drop_table.new.host) is (no_look c.args.session.now.store map w is) (IsDropOf name) ok_text
    (λ db stands. drop_means c.args.session.now map db stands name c.is_there.ensures.ident c.args.if_there (sym c.is_there.ensures.there ∙ c.if-not-is_there.false))
    c.in_ok-drop_table.field-0 c.in_ok-reply.reply (c.in_ok-drop_table.ensures.told tells map is) c.in_ok-reply.ensures
