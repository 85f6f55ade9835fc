use Rattle.std.proofs.Common.{refl, subst, ◌∙◌, arith}
use Rattle.std.proofs.lemmas.List.{take_all}
use Rattle.std.proofs.lemmas.Result.{err_from_is_err_and}
use Rattle.pt_host.specs.Listed.{FileList, by_name}
use Rattle.pt_host.proofs.Runs.{looks_none, looks_then}
use Rattle.pt_store.specs.Store.{IsStore, sizes}
use Rattle.pt_store.proofs.Moments.{bad_weaker, looks_kept}
use Rattle.pt_holds.specs.Bad.{Bad}
use Rattle.pt_session.specs.Opening.{AreDefined, table_in}
use Rattle.pt_session.proofs.Defined.{none_defined, none_found, none_read}
use Rattle.pt_session.proofs.opening.add_tables.Goals as goal

pub loop-i-init : goal.loop-i-init
loop-i-init g c =
    let none = none_found c.args.tables.now c.requires.none in
    record { defined = none_defined (table_in c.args.tables.now) none; read = λ tells map is. none_read (by_name map) (table_in c.args.tables.now) none; looks = λ tells. looks_none _; counts = refl }

pub loop-i-preserved : goal.loop-i-preserved
loop-i-preserved g c = record {
  defined = c.in_ok-add_file.ensures.defined c.loop-i.invariant.defined;
  read = λ tells map is. c.in_ok-add_file.ensures.read tells map (looks_kept _ _ _ map (c.loop-i.invariant.looks tells) is) (c.loop-i.invariant.read tells map is);
  looks = λ tells. looks_then _ _ _ (c.loop-i.invariant.looks tells) (c.in_ok-add_file.ensures.looks tells);
  counts = c.in_ok-add_file.ensures.counts ∙ c.loop-i.invariant.counts;
}

pub returns-in_err-add_file-clause-bad : goal.returns-in_err-add_file-clause-bad
returns-in_err-add_file-clause-bad g c =
    let p = err_from_is_err_and c.from_residual.result c.from_residual.ensures.1 in
    rw (p.1, p.2)
    (bad_weaker (Unit {0}) (Unit {0}) _ (λ name place. g.H.Host.tells → (map : FileList) → IsStore c.args.store.now map (g.H.Host.world c.loop-i.host) → Bad (by_name map) name place)
    (λ name place. g.H.Host.tells → (map : FileList) → IsStore c.args.store.now map (g.H.Host.world c.args.host.now) → Bad (by_name map) name place)
    (λ name place bad tells map is. bad tells map (looks_kept _ _ _ map (c.loop-i.invariant.looks tells) is)) c.in_err-add_file.ensures.bad)

pub returns : goal.returns
returns g c = record {
  defined = subst (λ names. AreDefined names (table_in c.loop-i.tables)) (take_all c.loop-i.i (sizes c.args.store.now) (let count = c.count-i-end.ensures.value in omega (arith, count, c.loop-i-test.false))) c.loop-i.invariant.defined;
  read = c.loop-i.invariant.read;
  looks = c.loop-i.invariant.looks;
  bad = tt;
  counts = c.loop-i.invariant.counts;
}
