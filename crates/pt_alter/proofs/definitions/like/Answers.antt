use Rattle.std.proofs.Common.{◌≡◌, Some, None, rules, sym, ◌∙◌}
use Rattle.std.proofs.lemmas.Result.{err_from_is_err_and}
use Rattle.pt_ast.specs.declared.refusal.Refusal.TheVariants.{NoSuchTable, TableExists}
use Rattle.pt_store.proofs.Steps.{no_look}
use Rattle.pt_flat.specs.Fresh.{with_fresh}
use Rattle.pt_flat.specs.Like.{like}
use Rattle.pt_session.specs.Session.{def_of}
use Rattle.pt_session.proofs.Telling.{means_same, refused_tells, short_tells}
use Rattle.pt_alter.proofs.Meanings.{held, like_def, like_new, like_there, not_there, nothing_tells, there}
use Rattle.pt_alter.proofs.definitions.like.Goals as goal

pub returns-in_err-nothing_or-clause-told : goal.returns-in_err-nothing_or-clause-told
returns-in_err-nothing_or-clause-told g c tells map is =
    let p = err_from_is_err_and c.from_residual.result c.from_residual.ensures.1 in
    let w = g.H.Host.world c.args.host.now in
    short_tells (λ db. like c.args.if_not db c.args.name.now c.args.other.now) c.args.session.now map w w is (no_look c.args.session.now.store map w is) p.0 c.from_residual.result p.1 p.2

pub returns-then-is_there-clause-told : goal.returns-then-is_there-clause-told
returns-then-is_there-clause-told g c tells map is =
    let name = c.args.name.now in
    nothing_tells (λ db. like c.args.if_not db name c.args.other.now) c.args.session.now map (g.H.Host.world c.args.host.now) is c.args.if_not (TableExists name) c.in_ok-nothing_or.field-0
    (λ db stands. like_there c.args.if_not db name c.args.other.now (there c.args.session.now map db stands name c.is_there.ensures.ident c.is_there.result c.is_there.ensures.there ∙ c.if-is_there.true))
    c.in_ok-nothing_or.ensures

pub returns-in_err-refusal_reply-clause-told : goal.returns-in_err-refusal_reply-clause-told
returns-in_err-refusal_reply-clause-told g c tells map is =
    let p = err_from_is_err_and c.from_residual-in_err-refusal_reply.result c.from_residual-in_err-refusal_reply.ensures.1 in
    let w = g.H.Host.world c.args.host.now in
    short_tells (λ db. like c.args.if_not db c.args.name.now c.args.other.now) c.args.session.now map w w is (no_look c.args.session.now.store map w is) p.0 c.from_residual-in_err-refusal_reply.result p.1 p.2

pub returns-in_default-clause-told : goal.returns-in_default-clause-told
returns-in_default-clause-told g c tells map is =
    let w = g.H.Host.world c.args.host.now in
    let name = c.args.name.now in
    let other = c.args.other.now in
    let none : def_of c.args.session.now other ≡ None = search rules in
    refused_tells (λ db. like c.args.if_not db name other) c.args.session.now map w w is (no_look c.args.session.now.store map w is) (NoSuchTable other) c.in_ok-refusal_reply.field-0
    (λ db stands.
    like_new c.args.if_not db name other None (there c.args.session.now map db stands name c.is_there.ensures.ident c.is_there.result c.is_there.ensures.there ∙ c.if-is_there.false)
    (not_there c.args.session.now map db stands other c.table_of.ensures.ident none))
    c.in_ok-refusal_reply.ensures

pub returns-in_err-def-clause-told : goal.returns-in_err-def-clause-told
returns-in_err-def-clause-told g c tells map is =
    let p = err_from_is_err_and c.from_residual-in_err-def.result c.from_residual-in_err-def.ensures.1 in
    let w = g.H.Host.world c.args.host.now in
    short_tells (λ db. like c.args.if_not db c.args.name.now c.args.other.now) c.args.session.now map w w is (no_look c.args.session.now.store map w is) p.0 c.from_residual-in_err-def.result p.1 p.2

pub returns-clause-told : goal.returns-clause-told
returns-clause-told g c tells map is =
    let name = c.args.name.now in
    let other = c.args.other.now in
    let def = c.in_ok-def.def in
    let some : Some c.in-Some.source.now ≡ def_of c.args.session.now other = search rules in
    means_same (λ db. with_fresh db name def) (λ db. like c.args.if_not db name other) c.args.session.now c.add_fresh.new.session map (g.H.Host.world c.args.host.now) (g.H.Host.world c.add_fresh.new.host) c.add_fresh.result
    (λ db stands.
    let at = held c.args.session.now map db stands other c.table_of.ensures.ident c.in-Some.source.now some in
    sym (like_def c.args.if_not db name other at.0 def (there c.args.session.now map db stands name c.is_there.ensures.ident c.is_there.result c.is_there.ensures.there ∙ c.if-is_there.false) at.1 (at.2 ∙ sym c.in_ok-def.ensures)))
    (c.add_fresh.ensures.told tells map is)
