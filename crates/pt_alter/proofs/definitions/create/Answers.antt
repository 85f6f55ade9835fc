use Rattle.std.proofs.Common.{◌≡◌, rules, refl, sym, ◌∙◌}
use Rattle.std.specs.Prelude.{Ok, Err}
use Rattle.std.proofs.lemmas.Result.{err_from_is_err_and}
use Rattle.pt_ast.specs.declared.refusal.Refusal.TheVariants.{TableExists}
use Rattle.pt_written.specs.Complete.{complete_of}
use Rattle.pt_store.specs.declared.stop.Stop.TheVariants.{NoMemory}
use Rattle.pt_store.proofs.Steps.{no_look}
use Rattle.pt_flat.specs.Create.{create}
use Rattle.pt_flat.specs.Fresh.{with_fresh}
use Rattle.pt_session.proofs.Telling.{means_same, refused_tells, short_tells}
use Rattle.pt_alter.proofs.Meanings.{create_new, create_there, nothing_tells, there}
use Rattle.pt_alter.proofs.definitions.create.Goals as goal

pub returns-in_err-nothing_or-clause-told : goal.returns-in_err-nothing_or-clause-told
returns-in_err-nothing_or-clause-told g c tells map is =
    let p = err_from_is_err_and c.from_residual.result c.from_residual.ensures.1 in
    let w = g.H.Host.world c.args.host.now in
    short_tells (λ db. create c.args.if_not db c.args.name.now c.args.spec.now) c.args.session.now map w w is (no_look c.args.session.now.store map w is) p.0 c.from_residual.result p.1 p.2

pub returns-then-is_there-clause-told : goal.returns-then-is_there-clause-told
returns-then-is_there-clause-told g c tells map is =
    let name = c.args.name.now in
    nothing_tells (λ db. create c.args.if_not db name c.args.spec.now) c.args.session.now map (g.H.Host.world c.args.host.now) is c.args.if_not (TableExists name) c.in_ok-nothing_or.field-0
    (λ db stands. create_there c.args.if_not db name c.args.spec.now (there c.args.session.now map db stands name c.is_there.ensures.ident c.is_there.result c.is_there.ensures.there ∙ c.if-is_there.true))
    c.in_ok-nothing_or.ensures

pub returns-in-Ok-clause-told : goal.returns-in-Ok-clause-told
returns-in-Ok-clause-told g c tells map is =
    let name = c.args.name.now in
    let def = c.in-Ok.def in
    means_same (λ db. with_fresh db name def) (λ db. create c.args.if_not db name c.args.spec.now) c.args.session.now c.add_fresh.new.session map (g.H.Host.world c.args.host.now) (g.H.Host.world c.add_fresh.new.host) c.add_fresh.result
    (λ db stands.
    sym (create_new c.args.if_not db name c.args.spec.now (Ok def) (there c.args.session.now map db stands name c.is_there.ensures.ident c.is_there.result c.is_there.ensures.there ∙ c.if-is_there.false) c.in-Ok.ensures.made))
    (c.add_fresh.ensures.told tells map is)

pub returns-in_err-refusal_reply-in-Err-Refused-clause-told : goal.returns-in_err-refusal_reply-in-Err-Refused-clause-told
returns-in_err-refusal_reply-in-Err-Refused-clause-told g c tells map is =
    let r = c.from_residual-in_err-refusal_reply-in-Err-Refused.result in
    let p = err_from_is_err_and r c.from_residual-in_err-refusal_reply-in-Err-Refused.ensures.1 in
    let w = g.H.Host.world c.args.host.now in
    short_tells (λ db. create c.args.if_not db c.args.name.now c.args.spec.now) c.args.session.now map w w is (no_look c.args.session.now.store map w is) p.0 r p.1 p.2

pub returns-in_ok-refusal_reply-in-Err-Refused-clause-told : goal.returns-in_ok-refusal_reply-in-Err-Refused-clause-told
returns-in_ok-refusal_reply-in-Err-Refused-clause-told g c tells map is =
    let w = g.H.Host.world c.args.host.now in
    let name = c.args.name.now in
    let why = c.in-Err-Refused.refusal in
    let made : complete_of name c.args.spec.now ≡ Err why = search rules in
    refused_tells (λ db. create c.args.if_not db name c.args.spec.now) c.args.session.now map w w is (no_look c.args.session.now.store map w is) why c.in_ok-refusal_reply-in-Err-Refused.field-0
    (λ db stands.
    create_new c.args.if_not db name c.args.spec.now (Err why) (there c.args.session.now map db stands name c.is_there.ensures.ident c.is_there.result c.is_there.ensures.there ∙ c.if-is_there.false) made)
    c.in_ok-refusal_reply-in-Err-Refused.ensures

pub returns-in-Err-NoMemory-clause-told : goal.returns-in-Err-NoMemory-clause-told
returns-in-Err-NoMemory-clause-told g c tells map is =
    let w = g.H.Host.world c.args.host.now in
    short_tells (λ db. create c.args.if_not db c.args.name.now c.args.spec.now) c.args.session.now map w w is (no_look c.args.session.now.store map w is) NoMemory (Err NoMemory) refl refl
