use Rattle.std.proofs.Common.{◌≡◌, Err, Ok, subst}
use Rattle.std.proofs.lemmas.Result.{err_from_is_err_and}
use Rattle.pt_checks.specs.Assigned.{updated_cells}
use Rattle.pt_checks.specs.Assigning.{assign_all}
use Rattle.pt_checks.specs.Given.{Gives}
use Rattle.pt_checks.proofs.Assigned.{at_fault, unassigned, updated_fails, updated_null, updated_ok}
use Rattle.pt_checks.proofs.Fitting.{defaults_fit}
use Rattle.pt_checks.proofs.assigning.updated_cells.Goals as goal

pub assign_all-requires-clause-defaults : goal.assign_all-requires-clause-defaults
assign_all-requires-clause-defaults c = defaults_fit c.args.def.now c.requires.valid

pub returns-in_err-assigned-clause-cells : goal.returns-in_err-assigned-clause-cells
returns-in_err-assigned-clause-cells c =
    let p = err_from_is_err_and c.from_residual-in_err-assigned.result c.from_residual-in_err-assigned.ensures.1 in
    let from : Gives (assign_all c.args.def.now.columns c.args.number (unassigned c.args.cells.now) c.args.assigns.now) (Err c.in_err-assigned.field-0.0) =
    subst (λ own. Gives (assign_all c.args.def.now.columns c.args.number (unassigned own) c.args.assigns.now) (Err c.in_err-assigned.field-0.0)) c.in_ok-copy.ensures
    (subst (λ all. Gives (assign_all c.args.def.now.columns c.args.number (unassigned c.in_ok-copy.field-0) all) (Err c.in_err-assigned.field-0.0)) c.items-2.ensures c.in_err-assigned.ensures.value) in
    at_fault (Gives (updated_cells c.args.def.now c.args.assigns.now c.args.number c.args.cells.now)) c.from_residual-in_err-assigned.result p.0 c.in_err-assigned.field-0.0 p.1 p.2
    (updated_fails c.args.def.now c.args.assigns.now c.args.number c.args.cells.now c.in_err-assigned.field-0.0 from)

pub returns-then-assigned-clause-cells : goal.returns-then-assigned-clause-cells
returns-then-assigned-clause-cells c =
    let from : assign_all c.args.def.now.columns c.args.number (unassigned c.args.cells.now) c.args.assigns.now ≡ Ok c.in_ok-assigned.assigned =
    subst (λ own. assign_all c.args.def.now.columns c.args.number (unassigned own) c.args.assigns.now ≡ Ok c.in_ok-assigned.assigned) c.in_ok-copy.ensures
    (subst (λ all. assign_all c.args.def.now.columns c.args.number (unassigned c.in_ok-copy.field-0) all ≡ Ok c.in_ok-assigned.assigned) c.items-2.ensures c.in_ok-assigned.ensures.value) in
    updated_null c.args.def.now c.args.assigns.now c.args.number c.args.cells.now c.in_ok-assigned.assigned from c.if-assigned.true

pub returns-clause-cells : goal.returns-clause-cells
returns-clause-cells c =
    let from : assign_all c.args.def.now.columns c.args.number (unassigned c.args.cells.now) c.args.assigns.now ≡ Ok c.in_ok-assigned.assigned =
    subst (λ own. assign_all c.args.def.now.columns c.args.number (unassigned own) c.args.assigns.now ≡ Ok c.in_ok-assigned.assigned) c.in_ok-copy.ensures
    (subst (λ all. assign_all c.args.def.now.columns c.args.number (unassigned c.in_ok-copy.field-0) all ≡ Ok c.in_ok-assigned.assigned) c.items-2.ensures c.in_ok-assigned.ensures.value) in
    updated_ok c.args.def.now c.args.assigns.now c.args.number c.args.cells.now c.in_ok-assigned.assigned from c.if-assigned.false
