use Rattle.std.proofs.Common.{◌≡◌, refl, sym, true≢false, ◌∙◌}
use Rattle.std.proofs.lemmas.Result.{err_from_is_err_and}
use Rattle.pt_store.proofs.Moments.{bad_weaker}
use Rattle.pt_session.specs.Opening.{IsWrongFile, Stray, table_in}
use Rattle.pt_session.proofs.strays.check_files.Goals as goal

pub returns-in_err-needed-clause-bad : goal.returns-in_err-needed-clause-bad
returns-in_err-needed-clause-bad c =
    let p = err_from_is_err_and c.from_residual.result c.from_residual.ensures.1 in
    rw (p.1, p.2)
    (bad_weaker (Unit {0}) (Unit {0}) _ (λ name place. IsWrongFile c.args.store.now (table_in c.args.tables.now) name × (place ≡ 0)) (λ name place. IsWrongFile c.args.store.now (table_in c.args.tables.now) name × (place ≡ 0))
    (λ name place bad. bad) c.in_err-needed.ensures.bad)

pub returns-in-Some-clause-bad : goal.returns-in-Some-clause-bad
returns-in-Some-clause-bad c =
    let stray = c.in-Some.ensures.some in
    (Stray stray.0 stray.1 (λ need. true≢false (sym ((c.in_ok-needed.ensures.needed c.in-Some.name).1 need) ∙ stray.2)), refl)

pub returns-clause-files : goal.returns-clause-files
returns-clause-files c = record { held = c.in_ok-needed.ensures.held; no_more = λ file there row. (c.in_ok-needed.ensures.needed file).0 (c.in-None.ensures.none file there row) }
