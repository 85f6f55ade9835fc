use Rattle.std.proofs.Common.{◌≡◌, Some, None, rules, sym}
use Rattle.std.proofs.lemmas.Result.{err_from_is_err_and}
use Rattle.pt_actions.specs.Dropped.{bad_truncated}
use Rattle.pt_ast.specs.declared.database.Db.{Db}
use Rattle.pt_ast.specs.declared.refusal.Refusal.TheVariants.{NoSuchTable}
use Rattle.pt_store.proofs.Steps.{no_look}
use Rattle.pt_session.specs.Session.{def_of}
use Rattle.pt_session.proofs.Telling.{refused_tells, short_tells}
use Rattle.pt_session.proofs.TellingAlter.{weaker}
use Rattle.pt_altered.specs.Actions.{truncate}
use Rattle.pt_alter_parts.proofs.Meant.{absent, held, truncate_absent, truncate_done, truncate_refused}
use Rattle.pt_alter_parts.proofs.truncating.truncate.Goals as goal

pub returns-in_err-refusal_reply-clause-told : goal.returns-in_err-refusal_reply-clause-told
returns-in_err-refusal_reply-clause-told g c tells map is =
    let r = c.from_residual.result in
    let p = err_from_is_err_and r c.from_residual.ensures.1 in
    let w = g.H.Host.world c.args.host.now in
    let session = c.args.session.now in
    let meaning = λ (db : Db). truncate db c.args.name.now c.args.parts.now in
    weaker meaning session session map w w r (short_tells meaning session map w w is (no_look session.store map w is) p.0 r p.1 p.2)

pub returns-in_default-clause-told : goal.returns-in_default-clause-told
returns-in_default-clause-told g c tells map is =
    let w = g.H.Host.world c.args.host.now in
    let session = c.args.session.now in
    let name = c.args.name.now in
    let parts = c.args.parts.now in
    let none : def_of c.args.session.now c.args.name.now ≡ None = search rules in
    weaker (λ db. truncate db name parts) session session map w w _
    (refused_tells (λ db. truncate db name parts) session map w w is (no_look session.store map w is) (NoSuchTable name) c.in_ok-refusal_reply.field-0
    (λ db stands. truncate_absent db name parts (absent session map db stands name c.table_of.ensures.ident (sym none))) c.in_ok-refusal_reply.ensures)

pub returns-in_err-refusal-clause-told : goal.returns-in_err-refusal-clause-told
returns-in_err-refusal-clause-told g c tells map is =
    let r = c.from_residual-in_err-refusal.result in
    let p = err_from_is_err_and r c.from_residual-in_err-refusal.ensures.1 in
    let w = g.H.Host.world c.args.host.now in
    let session = c.args.session.now in
    let meaning = λ (db : Db). truncate db c.args.name.now c.args.parts.now in
    weaker meaning session session map w w r (short_tells meaning session map w w is (no_look session.store map w is) p.0 r p.1 p.2)

pub returns-in_err-refusal_reply-2-clause-told : goal.returns-in_err-refusal_reply-2-clause-told
returns-in_err-refusal_reply-2-clause-told g c tells map is =
    let r = c.from_residual-in_err-refusal_reply-2.result in
    let p = err_from_is_err_and r c.from_residual-in_err-refusal_reply-2.ensures.1 in
    let w = g.H.Host.world c.args.host.now in
    let session = c.args.session.now in
    let meaning = λ (db : Db). truncate db c.args.name.now c.args.parts.now in
    weaker meaning session session map w w r (short_tells meaning session map w w is (no_look session.store map w is) p.0 r p.1 p.2)

pub returns-in-Some-2-clause-told : goal.returns-in-Some-2-clause-told
returns-in-Some-2-clause-told g c tells map is =
    let w = g.H.Host.world c.args.host.now in
    let session = c.args.session.now in
    let name = c.args.name.now in
    let parts = c.args.parts.now in
    let some : Some c.in-Some.own.now ≡ def_of c.args.session.now c.args.name.now = search rules in
    let why : bad_truncated c.args.name.now c.args.parts.now c.in-Some.own.now ≡ Some c.in-Some-2.refusal = search rules in
    weaker (λ db. truncate db name parts) session session map w w _
    (refused_tells (λ db. truncate db name parts) session map w w is (no_look session.store map w is) c.in-Some-2.refusal c.in_ok-refusal_reply-2.field-0
    (λ db stands.
    let at = held session map db stands name c.table_of.ensures.ident c.in-Some.own.now some in
    truncate_refused db name parts at.0 c.in-Some-2.refusal c.in-Some.own.now at.1 at.2 why)
    c.in_ok-refusal_reply-2.ensures)

pub returns-in_err-def-clause-told : goal.returns-in_err-def-clause-told
returns-in_err-def-clause-told g c tells map is =
    let r = c.from_residual-in_err-def.result in
    let p = err_from_is_err_and r c.from_residual-in_err-def.ensures.1 in
    let w = g.H.Host.world c.args.host.now in
    let session = c.args.session.now in
    let meaning = λ (db : Db). truncate db c.args.name.now c.args.parts.now in
    weaker meaning session session map w w r (short_tells meaning session map w w is (no_look session.store map w is) p.0 r p.1 p.2)

pub returns-clause-told : goal.returns-clause-told
returns-clause-told g c tells map is =
    let session = c.args.session.now in
    let name = c.args.name.now in
    let parts = c.args.parts.now in
    let some : Some c.in-Some.own.now ≡ def_of c.args.session.now c.args.name.now = search rules in
    let none : bad_truncated c.args.name.now c.args.parts.now c.in-Some.own.now ≡ None = search rules in
    c.empty_parts.ensures.told tells map is (λ db. truncate db name parts)
    (λ db stands table at.
    let own = held session map db stands name c.table_of.ensures.ident c.in-Some.own.now some in
    truncate_done db name parts own.0 table c.in-Some.own.now own.1 own.2 none at)
