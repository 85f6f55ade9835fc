use Rattle.std.proofs.Common.{◌≡◌, None, sym, subst, arith}
use Rattle.std.proofs.lemmas.Result.{err_from_is_err_and}
use Rattle.pt_store.proofs.Moments.{bad_weaker}
use Rattle.pt_holds.specs.Batch.{IsRowFileOf}
use Rattle.pt_session.specs.Opening.{AddsFiles, IsWrongFile, Missing, has, table_in}
use Rattle.pt_session.specs.Session.{length_of}
use Rattle.pt_session.proofs.RowFiles.{all_held, all_needed, more_first, none_first, none_has}
use Rattle.pt_session.proofs.strays.needed_files.Goals as goal

pub loop-i-init : goal.loop-i-init
loop-i-init c = none_first c.args.store.now (table_in c.args.tables.now) c.args.tables.now.entries (has c.new-needed.result) (none_has c.new-needed.result c.new-needed.ensures.empty)

pub loop-i-preserved : goal.loop-i-preserved
loop-i-preserved c =
    let def = c.unwrap.result.1.now in
    more_first c.args.store.now (table_in c.args.tables.now) c.args.tables.now.entries (has c.loop-i.needed) (has c.add_files.new.needed) c.loop-i.i c.unwrap.result.0.now def
    (rw c.unwrap.ensures at c.get_index.ensures.value) (sym (rw c.unwrap.ensures at c.get_index.ensures.entry))
    (subst (λ n. AddsFiles c.args.store.now (has c.loop-i.needed) (has c.add_files.new.needed) n def) c.name.view_is c.in_ok-add_files.ensures.adds) c.loop-i.invariant

pub returns-in_err-add_files-clause-bad : goal.returns-in_err-add_files-clause-bad
returns-in_err-add_files-clause-bad c =
    let p = err_from_is_err_and c.from_residual.result c.from_residual.ensures.1 in
    let def = c.unwrap.result.1.now in
    rw (p.1, p.2)
    (bad_weaker (Unit {0}) (Unit {0}) _ (λ file place. IsRowFileOf c.name.inside.ident def file × (length_of c.args.store.now file ≡ None) × (place ≡ 0)) (λ file place. IsWrongFile c.args.store.now (table_in c.args.tables.now) file × (place ≡ 0))
    (λ file place bad.
    (Missing (record { table = c.unwrap.result.0.now; def = def; held = rw c.unwrap.ensures at c.get_index.ensures.value; of = subst (λ n. IsRowFileOf n def file) c.name.view_is bad.0 }) bad.1, bad.2))
    c.in_err-add_files.ensures.bad)

pub returns-clause-needed : goal.returns-clause-needed
returns-clause-needed c =
    all_needed c.args.store.now c.args.tables.now (has c.loop-i.needed) c.loop-i.i (let count = c.len-i-end.ensures.len in omega (arith, count, c.loop-i-test.false)) c.loop-i.invariant

pub returns-clause-held : goal.returns-clause-held
returns-clause-held c =
    all_held c.args.store.now c.args.tables.now (has c.loop-i.needed) c.loop-i.i (let count = c.len-i-end.ensures.len in omega (arith, count, c.loop-i-test.false)) c.loop-i.invariant
