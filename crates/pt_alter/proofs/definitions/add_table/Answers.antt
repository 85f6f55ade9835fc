use Rattle.std.proofs.Common.{refl, ap, ◌∙◌}
use Rattle.std.specs.Prelude.{Err}
use Rattle.std.proofs.lemmas.Result.{err_from_is_err_and}
use Rattle.pt_store.proofs.Steps.{no_look}
use Rattle.pt_db.specs.Texts.{ok_text}
use Rattle.pt_holds.specs.ShapeChanges.{IsCreateOf}
use Rattle.pt_flat.specs.Fresh.{with_fresh}
use Rattle.pt_session.proofs.Telling.{kept_tells, none_bad, short_tells, unkept_tells}
use Rattle.pt_alter.proofs.Meanings.{fresh_means}
use Rattle.pt_alter.proofs.definitions.add_table.Goals as goal

pub returns-in_err-reply-clause-told : goal.returns-in_err-reply-clause-told
returns-in_err-reply-clause-told g c tells map is =
    let p = err_from_is_err_and c.from_residual.result c.from_residual.ensures.1 in
    let w = g.H.Host.world c.args.host.now in
    short_tells (λ db. with_fresh db c.args.name.now c.args.def.now) c.args.session.now map w w is (no_look c.args.session.now.store map w is) p.0 c.from_residual.result p.1 p.2

pub returns-in_err-create_table-clause-told : goal.returns-in_err-create_table-clause-told
returns-in_err-create_table-clause-told g c tells map is =
    let p = err_from_is_err_and c.from_residual-in_err-create_table.result c.from_residual-in_err-create_table.ensures.1 in
    let w = g.H.Host.world c.args.host.now in
    let name = c.args.name.now in
    let def = c.args.def.now in
    unkept_tells (λ db. with_fresh db name def) c.args.session.now c.create_table.new.self map w w (g.H.Host.world c.create_table.new.host) is (no_look c.args.session.now.store map w is) (IsCreateOf name def) ok_text
    (λ db stands. fresh_means c.args.session.now map db stands name c.bytes.ensures.ident def c.requires.change)
    c.in_err-create_table.field-0.0 c.from_residual-in_err-create_table.result (p.1 ∙ ap (λ e. Err e) p.2) (c.in_err-create_table.ensures.told tells map is)
    (none_bad {T = Unit {0}} c.in_err-create_table.field-0.0 (Err c.in_err-create_table.field-0.0) tells refl c.in_err-create_table.ensures.bad)

pub returns-clause-told : goal.returns-clause-told
returns-clause-told g c tells map is =
    let w = g.H.Host.world c.args.host.now in
    let name = c.args.name.now in
    let def = c.args.def.now in
    kept_tells (λ db. with_fresh db name def) c.args.session.now c.create_table.new.self map w w (g.H.Host.world c.create_table.new.host) is (no_look c.args.session.now.store map w is) (IsCreateOf name def) ok_text
    (λ db stands. fresh_means c.args.session.now map db stands name c.bytes.ensures.ident def c.requires.change)
    c.in_ok-create_table.field-0 c.in_ok-reply.reply (c.in_ok-create_table.ensures.told tells map is) c.in_ok-reply.ensures
