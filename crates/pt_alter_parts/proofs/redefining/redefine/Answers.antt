use Rattle.std.proofs.Common.{refl, ap, ◌∙◌}
use Rattle.std.specs.Prelude.{Err}
use Rattle.std.proofs.lemmas.Result.{err_from_is_err_and}
use Rattle.pt_store.proofs.Steps.{no_look}
use Rattle.pt_db.specs.Texts.{ok_text}
use Rattle.pt_holds.specs.ShapeChanges.{IsAlterOf}
use Rattle.pt_session.proofs.Telling.{none_bad, short_tells}
use Rattle.pt_session.proofs.TellingAlter.{kept_alters, unkept_alters, weaker}
use Rattle.pt_alter_parts.proofs.Meant.{means}
use Rattle.pt_alter_parts.proofs.redefining.redefine.Goals as goal

pub returns-in_err-reply-clause-told : goal.returns-in_err-reply-clause-told
returns-in_err-reply-clause-told g c tells map is meaning meant =
    let p = err_from_is_err_and c.from_residual.result c.from_residual.ensures.1 in
    let w = g.H.Host.world c.args.host.now in
    weaker meaning c.args.session.now c.args.session.now map w w c.from_residual.result
    (short_tells meaning c.args.session.now map w w is (no_look c.args.session.now.store map w is) p.0 c.from_residual.result p.1 p.2)

pub returns-in_err-alter_table-clause-told : goal.returns-in_err-alter_table-clause-told
returns-in_err-alter_table-clause-told g c tells map is meaning meant =
    let p = err_from_is_err_and c.from_residual-in_err-alter_table.result c.from_residual-in_err-alter_table.ensures.1 in
    let w = g.H.Host.world c.args.host.now in
    let name = c.args.name.now in
    let def = c.args.def.now in
    let fresh = c.args.fresh.now in
    unkept_alters meaning c.args.session.now c.alter_table.new.self map w w (g.H.Host.world c.alter_table.new.host) is (no_look c.args.session.now.store map w is) (IsAlterOf name def fresh) ok_text
    (λ db stands. means name def fresh db (meaning db) (meant db stands))
    c.in_err-alter_table.field-0.0 c.from_residual-in_err-alter_table.result (p.1 ∙ ap (λ e. Err e) p.2) (c.in_err-alter_table.ensures.told tells map is)
    (none_bad {T = Unit {0}} c.in_err-alter_table.field-0.0 (Err c.in_err-alter_table.field-0.0) tells refl c.in_err-alter_table.ensures.bad)

pub returns-clause-told : goal.returns-clause-told
returns-clause-told g c tells map is meaning meant =
    let w = g.H.Host.world c.args.host.now in
    let name = c.args.name.now in
    let def = c.args.def.now in
    let fresh = c.args.fresh.now in
    kept_alters meaning c.args.session.now c.alter_table.new.self map w w (g.H.Host.world c.alter_table.new.host) is (no_look c.args.session.now.store map w is) (IsAlterOf name def fresh) ok_text
    (λ db stands. means name def fresh db (meaning db) (meant db stands))
    c.in_ok-alter_table.field-0 c.in_ok-reply.reply (c.in_ok-alter_table.ensures.told tells map is) c.in_ok-reply.ensures
