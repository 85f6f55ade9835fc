use Rattle.std.proofs.Common.{◌≡◌, ◌∙◌, Err, Ok, ap, get_or, subst, sym}
use Rattle.std.proofs.lemmas.Result.{err_from_is_err_and}
use Rattle.pt_checks.specs.Assigned.{IsSource, target_of}
use Rattle.pt_checks.specs.Assigning.{assign, assign_all}
use Rattle.pt_checks.specs.Given.{Gives}
use Rattle.pt_checks.proofs.Assigned.{at_fault, made_fails, made_more, source_at, target_at}
use Rattle.pt_checks.proofs.assigning.assign_all.Goals as goal

pub assign-requires-clause-source : goal.assign-requires-clause-source
assign-requires-clause-source c =
    let place : get_or c.args.targets.now c.loop-at.at 0 ≡ target_of c.args.columns.now c.index-assigns-at.result.0 =
    ap (λ targets. get_or targets c.loop-at.at 0) c.requires.targets
    ∙ target_at c.args.columns.now c.args.number c.args.assigns.now c.args.start c.loop-at.at c.index-assigns-at.result c.loop-at-test.true (sym c.index-assigns-at.is) in
    subst (λ at. IsSource c.args.columns.now at c.index-assigns-at.result.1) (sym place)
    (source_at c.args.columns.now c.args.number c.args.assigns.now c.args.start c.loop-at.at c.index-assigns-at.result c.loop-at-test.true (sym c.index-assigns-at.is) c.requires.assignable).1

pub returns-in_err-made-clause-value : goal.returns-in_err-made-clause-value
returns-in_err-made-clause-value c =
    let p = err_from_is_err_and c.from_residual.result c.from_residual.ensures.1 in
    let place : get_or c.args.targets.now c.loop-at.at 0 ≡ target_of c.args.columns.now c.index-assigns-at.result.0 =
    ap (λ targets. get_or targets c.loop-at.at 0) c.requires.targets
    ∙ target_at c.args.columns.now c.args.number c.args.assigns.now c.args.start c.loop-at.at c.index-assigns-at.result c.loop-at-test.true (sym c.index-assigns-at.is) in
    at_fault (Gives (assign_all c.args.columns.now c.args.number c.args.start c.args.assigns.now)) c.from_residual.result p.0 c.in_err-made.field-0.0 p.1 p.2
    (made_fails c.args.columns.now c.args.number c.args.assigns.now c.args.start c.loop-at.made c.loop-at.at c.index-assigns-at.result c.in_err-made.field-0.0 c.loop-at-test.true (sym c.index-assigns-at.is) c.loop-at.invariant
    (subst (λ at. Gives (assign c.args.columns.now c.args.number c.loop-at.made at c.index-assigns-at.result.1) (Err c.in_err-made.field-0.0)) place c.in_err-made.ensures.value))

pub loop-at-preserved : goal.loop-at-preserved
loop-at-preserved c =
    let place : get_or c.args.targets.now c.loop-at.at 0 ≡ target_of c.args.columns.now c.index-assigns-at.result.0 =
    ap (λ targets. get_or targets c.loop-at.at 0) c.requires.targets
    ∙ target_at c.args.columns.now c.args.number c.args.assigns.now c.args.start c.loop-at.at c.index-assigns-at.result c.loop-at-test.true (sym c.index-assigns-at.is) in
    made_more c.args.columns.now c.args.number c.args.assigns.now c.args.start c.loop-at.made c.in_ok-made.made c.loop-at.at c.index-assigns-at.result c.loop-at-test.true (sym c.index-assigns-at.is) c.loop-at.invariant
    (subst (λ at. assign c.args.columns.now c.args.number c.loop-at.made at c.index-assigns-at.result.1 ≡ Ok c.in_ok-made.made) place c.in_ok-made.ensures.value)
    c.in_ok-made.ensures.fitting c.in_ok-made.ensures.kept
