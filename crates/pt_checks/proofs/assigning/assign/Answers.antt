use Rattle.std.proofs.Common.{◌≡◌, ◌∙◌, Ok, ap, sym, arith}
use Rattle.pt_expr.proofs.Nodes.{fitting_length}
use Rattle.pt_checks.specs.Assigning.{with_assigned}
use Rattle.pt_checks.proofs.Assigned.{assigned_fits, assigned_kept, assigned_ok}
use Rattle.pt_checks.proofs.assigning.assign.Goals as goal

pub with_assigned-requires : goal.with_assigned-requires
with_assigned-requires c = omega (arith, c.requires.below, fitting_length c.args.columns.now c.args.before.now.cells c.requires.fitting)

pub returns-clause-value : goal.returns-clause-value
returns-clause-value c =
    let is : c.in_ok-with_assigned.field-0 ≡ with_assigned c.args.columns.now c.args.before.now c.args.at c.in_ok-value.value = c.in_ok-with_assigned.ensures in
    assigned_ok c.args.columns.now c.args.number c.args.before.now c.args.at c.args.spec.now c.in_ok-value.value c.in_ok-value.ensures.value ∙ ap (λ later. Ok later) (sym is)

pub returns-clause-fitting : goal.returns-clause-fitting
returns-clause-fitting c =
    assigned_fits c.args.columns.now c.args.before.now c.in_ok-with_assigned.field-0 c.args.at c.in_ok-value.value c.in_ok-with_assigned.ensures c.requires.fitting c.in_ok-value.ensures.fits

pub returns-clause-kept : goal.returns-clause-kept
returns-clause-kept c =
    assigned_kept c.args.columns.now c.args.before.now c.in_ok-with_assigned.field-0 c.args.at c.in_ok-value.value c.in_ok-with_assigned.ensures c.requires.kept
