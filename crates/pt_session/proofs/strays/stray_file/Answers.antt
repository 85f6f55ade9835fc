use Rattle.std.proofs.Common.{sym, subst, true≢false, ◌∙◌, arith}
use Rattle.std.specs.Prelude.{IsSome, IsTrue}
use Rattle.std.proofs.lemmas.List.{take_all}
use Rattle.pt_store.specs.Entries.{length_in}
use Rattle.pt_store.specs.Store.{sizes}
use Rattle.pt_session.specs.Opening.{IsRowFile, has}
use Rattle.pt_session.proofs.RowFiles.{each_there, name_there, not_stray}
use Rattle.pt_session.proofs.strays.stray_file.Goals as goal

pub loop-i-init : goal.loop-i-init
loop-i-init c file bad = absurd (true≢false (sym bad))

pub loop-i-preserved : goal.loop-i-preserved
loop-i-preserved c =
    each_there (sizes c.args.store.now) c.loop-i.i c.unwrap-name.result (λ file. IsRowFile file → IsTrue (has c.args.needed.now file)) (sym c.name_at.ensures.value ∙ c.unwrap-name.ensures) c.loop-i.invariant
    (not_stray c.is_stray.result (has c.args.needed.now c.unwrap-name.result) (IsRowFile c.unwrap-name.result) c.is_stray.ensures.1 c.if-is_stray.false)

pub returns-then-is_stray-clause-some : goal.returns-then-is_stray-clause-some
returns-then-is_stray-clause-some c =
    let stray = c.is_stray.ensures.0 c.if-is_stray.true in
    (name_there (sizes c.args.store.now) c.loop-i.i c.unwrap-name.result (sym c.name_at.ensures.value ∙ c.unwrap-name.ensures), stray.0, stray.1)

pub returns-clause-none : goal.returns-clause-none
returns-clause-none c file there =
    c.loop-i.invariant file (subst (λ names. IsSome (length_in names file)) (sym (take_all c.loop-i.i (sizes c.args.store.now) (let count = c.count-i-end.ensures.value in omega (arith, count, c.loop-i-test.false)))) there)
