use Rattle.std.proofs.Common.{refl, ap}
use Rattle.std.specs.Prelude.{Ok, Err}
use Rattle.std.proofs.lemmas.Result.{err_from_is_err_and}
use Rattle.pt_reading.specs.declared.reading.Reading.TheVariants.{Syntax, TooDeep, LongName}
use Rattle.pt_engine.specs.declared.ending.Ending.TheVariants.{NoMemory}
use Rattle.pt_engine.proofs.SessionLemmas.{executed_one, executed_over, goes_nowhere, refused_one, wanting_one}
use Rattle.pt_engine.proofs.answers.reply_for.Goals as goal

pub returns-in_err-execute-in-Spelled-clause-told : goal.returns-in_err-execute-in-Spelled-clause-told
returns-in_err-execute-in-Spelled-clause-told g c tells db is =
    let p = err_from_is_err_and c.from_residual.result c.from_residual.ensures.1 in
    rw (c.in-Spelled.is, p.1, p.2)
    (executed_one c.in-Spelled.stmt c.args.session.now c.execute.new.session is.map _ _ (Err c.in_err-execute-in-Spelled.field-0.0) (c.in_err-execute-in-Spelled.ensures.told tells is.map is.store) c.args.number db is.is
    (λ other same. c.in_err-execute-in-Spelled.ensures.idle other tells is.map db is.store is.is same))

pub returns-in_err-execute-in-Spelled-clause-over : goal.returns-in_err-execute-in-Spelled-clause-over
returns-in_err-execute-in-Spelled-clause-over g c =
    let p = err_from_is_err_and c.from_residual.result c.from_residual.ensures.1 in
    rw (p.1, p.2) (λ tells.
    let at = c.requires.stands tells in
    executed_over c.in-Spelled.stmt c.args.session.now c.execute.new.session at.map (g.H.Host.world c.args.host.now) _ (Err c.in_err-execute-in-Spelled.field-0.0) (c.in_err-execute-in-Spelled.ensures.told tells at.map at.store)
    (g.met.H.Host.sound c.execute.new.host tells) at.over)

pub returns-in_ok-execute-in-Spelled-clause-told : goal.returns-in_ok-execute-in-Spelled-clause-told
returns-in_ok-execute-in-Spelled-clause-told g c tells db is =
    rw c.in-Spelled.is
    (executed_one c.in-Spelled.stmt c.args.session.now c.execute.new.session is.map _ _ (Ok c.in_ok-execute-in-Spelled.field-0) (c.in_ok-execute-in-Spelled.ensures.told tells is.map is.store) c.args.number db is.is
    (λ other same. c.in_ok-execute-in-Spelled.ensures.idle other tells is.map db is.store is.is same))

pub returns-in_err-refusal_reply-in-Syntax-clause-told : goal.returns-in_err-refusal_reply-in-Syntax-clause-told
returns-in_err-refusal_reply-in-Syntax-clause-told g c tells db is =
    let p = err_from_is_err_and c.from_residual-in_err-refusal_reply-in-Syntax.result c.from_residual-in_err-refusal_reply-in-Syntax.ensures.1 in
    rw (c.in-Syntax.is, p.1, p.2) (wanting_one c.args.number Syntax db c.args.session.now _ is)

pub returns-in_ok-refusal_reply-in-Syntax-clause-told : goal.returns-in_ok-refusal_reply-in-Syntax-clause-told
returns-in_ok-refusal_reply-in-Syntax-clause-told g c tells db is =
    rw c.in-Syntax.is (refused_one c.args.number Syntax db c.args.session.now _ is c.in_ok-refusal_reply-in-Syntax.field-0 refl (ap (λ reply. reply.text) c.in_ok-refusal_reply-in-Syntax.ensures))

pub returns-in_err-refusal_reply-in-TooDeep-clause-told : goal.returns-in_err-refusal_reply-in-TooDeep-clause-told
returns-in_err-refusal_reply-in-TooDeep-clause-told g c tells db is =
    let p = err_from_is_err_and c.from_residual-in_err-refusal_reply-in-TooDeep.result c.from_residual-in_err-refusal_reply-in-TooDeep.ensures.1 in
    rw (c.in-TooDeep.is, p.1, p.2) (wanting_one c.args.number TooDeep db c.args.session.now _ is)

pub returns-in_ok-refusal_reply-in-TooDeep-clause-told : goal.returns-in_ok-refusal_reply-in-TooDeep-clause-told
returns-in_ok-refusal_reply-in-TooDeep-clause-told g c tells db is =
    rw c.in-TooDeep.is (refused_one c.args.number TooDeep db c.args.session.now _ is c.in_ok-refusal_reply-in-TooDeep.field-0 refl (ap (λ reply. reply.text) c.in_ok-refusal_reply-in-TooDeep.ensures))

pub returns-in_err-refusal_reply-in-LongName-clause-told : goal.returns-in_err-refusal_reply-in-LongName-clause-told
returns-in_err-refusal_reply-in-LongName-clause-told g c tells db is =
    let p = err_from_is_err_and c.from_residual-in_err-refusal_reply-in-LongName.result c.from_residual-in_err-refusal_reply-in-LongName.ensures.1 in
    rw (c.in-LongName.is, p.1, p.2) (wanting_one c.args.number LongName db c.args.session.now _ is)

pub returns-in_ok-refusal_reply-in-LongName-clause-told : goal.returns-in_ok-refusal_reply-in-LongName-clause-told
returns-in_ok-refusal_reply-in-LongName-clause-told g c tells db is =
    rw c.in-LongName.is (refused_one c.args.number LongName db c.args.session.now _ is c.in_ok-refusal_reply-in-LongName.field-0 refl (ap (λ reply. reply.text) c.in_ok-refusal_reply-in-LongName.ensures))

pub returns-in_err-refusal_reply-in-Syntax-clause-over : goal.returns-in_err-refusal_reply-in-Syntax-clause-over
returns-in_err-refusal_reply-in-Syntax-clause-over g c =
    let p = err_from_is_err_and c.from_residual-in_err-refusal_reply-in-Syntax.result c.from_residual-in_err-refusal_reply-in-Syntax.ensures.1 in
    rw (p.1, p.2) (λ tells. goes_nowhere c.args.session.now (g.H.Host.world c.args.host.now) (Err NoMemory) tt)

pub returns-in_ok-refusal_reply-in-Syntax-clause-over : goal.returns-in_ok-refusal_reply-in-Syntax-clause-over
returns-in_ok-refusal_reply-in-Syntax-clause-over g c tells = goes_nowhere c.args.session.now (g.H.Host.world c.args.host.now) (Ok c.in_ok-refusal_reply-in-Syntax.field-0) (c.requires.stands tells)

pub returns-in_err-refusal_reply-in-TooDeep-clause-over : goal.returns-in_err-refusal_reply-in-TooDeep-clause-over
returns-in_err-refusal_reply-in-TooDeep-clause-over g c =
    let p = err_from_is_err_and c.from_residual-in_err-refusal_reply-in-TooDeep.result c.from_residual-in_err-refusal_reply-in-TooDeep.ensures.1 in
    rw (p.1, p.2) (λ tells. goes_nowhere c.args.session.now (g.H.Host.world c.args.host.now) (Err NoMemory) tt)

pub returns-in_ok-refusal_reply-in-TooDeep-clause-over : goal.returns-in_ok-refusal_reply-in-TooDeep-clause-over
returns-in_ok-refusal_reply-in-TooDeep-clause-over g c tells = goes_nowhere c.args.session.now (g.H.Host.world c.args.host.now) (Ok c.in_ok-refusal_reply-in-TooDeep.field-0) (c.requires.stands tells)

pub returns-in_err-refusal_reply-in-LongName-clause-over : goal.returns-in_err-refusal_reply-in-LongName-clause-over
returns-in_err-refusal_reply-in-LongName-clause-over g c =
    let p = err_from_is_err_and c.from_residual-in_err-refusal_reply-in-LongName.result c.from_residual-in_err-refusal_reply-in-LongName.ensures.1 in
    rw (p.1, p.2) (λ tells. goes_nowhere c.args.session.now (g.H.Host.world c.args.host.now) (Err NoMemory) tt)

pub returns-in_ok-refusal_reply-in-LongName-clause-over : goal.returns-in_ok-refusal_reply-in-LongName-clause-over
returns-in_ok-refusal_reply-in-LongName-clause-over g c tells = goes_nowhere c.args.session.now (g.H.Host.world c.args.host.now) (Ok c.in_ok-refusal_reply-in-LongName.field-0) (c.requires.stands tells)

pub returns-in_ok-execute-in-Spelled-clause-over : goal.returns-in_ok-execute-in-Spelled-clause-over
returns-in_ok-execute-in-Spelled-clause-over g c tells =
    let at = c.requires.stands tells in
    executed_over c.in-Spelled.stmt c.args.session.now c.execute.new.session at.map _ _ (Ok c.in_ok-execute-in-Spelled.field-0) (c.in_ok-execute-in-Spelled.ensures.told tells at.map at.store)
    (g.met.H.Host.sound c.execute.new.host tells) at.over
