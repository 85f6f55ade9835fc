use Rattle.std.proofs.Common.{◌≡◌, ◌∙◌, [], ap, sym, refl, Some}
use Rattle.pt_value.specs.Cell.{lent}
use Rattle.pt_place.specs.Fitting.{is_in_range}
use Rattle.pt_checks.specs.Cells.{value_for}
use Rattle.pt_checks.proofs.Given.{is_for, not_refused, refused_fault, refused_kind, refused_room}
use Rattle.pt_checks.proofs.values.bad_expr.Goals as goal

pub returns-in-Err-clause-refusal : goal.returns-in-Err-clause-refusal
returns-in-Err-clause-refusal c =
    let found = rw (c.new-columns.ensures, c.is_date.ensures) at c.check.ensures in
    ap Some c.of_fault.ensures ∙ refused_fault c.args.number c.args.kind c.args.expr.now c.in-Err.fault (sym found ∙ c.in-Err.is)

pub returns-then-not-has_kind-clause-refusal : goal.returns-then-not-has_kind-clause-refusal
returns-then-not-has_kind-clause-refusal c =
    let found = rw (c.new-columns.ensures, c.is_date.ensures) at c.check.ensures in
    refused_kind c.args.number c.args.kind c.args.expr.now c.in-Ok.own (sym found ∙ c.in-Ok.is) (sym c.has_kind.ensures ∙ c.if-not-has_kind.true)

pub returns-then-not-is_in_range-clause-refusal : goal.returns-then-not-is_in_range-clause-refusal
returns-then-not-is_in_range-clause-refusal c =
    let found = rw (c.new-columns.ensures, c.is_date.ensures) at c.check.ensures in
    let worth : lent c.eval.result ≡ value_for [] [] c.args.kind c.args.expr.now = rw (c.eval.ensures.value, c.new-columns.ensures, c.new-cells.ensures, c.is_date-2.ensures) refl in
    refused_room c.args.number c.args.kind c.args.expr.now c.in-Ok.own (sym found ∙ c.in-Ok.is) (sym c.has_kind.ensures ∙ c.if-not-has_kind.false)
    (ap (is_in_range c.args.kind) (sym worth) ∙ sym c.is_in_range.ensures ∙ c.if-not-is_in_range.true)

pub returns-clause-refusal : goal.returns-clause-refusal
returns-clause-refusal c =
    let found = rw (c.new-columns.ensures, c.is_date.ensures) at c.check.ensures in
    let worth : lent c.eval.result ≡ value_for [] [] c.args.kind c.args.expr.now = rw (c.eval.ensures.value, c.new-columns.ensures, c.new-cells.ensures, c.is_date-2.ensures) refl in
    not_refused c.args.number c.args.kind c.args.expr.now c.in-Ok.own (sym found ∙ c.in-Ok.is) (sym c.has_kind.ensures ∙ c.if-not-has_kind.false)
    (ap (is_in_range c.args.kind) (sym worth) ∙ sym c.is_in_range.ensures ∙ c.if-not-is_in_range.false)

pub returns-clause-passed : goal.returns-clause-passed
returns-clause-passed c =
    let found = rw (c.new-columns.ensures, c.is_date.ensures) at c.check.ensures in
    let worth : lent c.eval.result ≡ value_for [] [] c.args.kind c.args.expr.now = rw (c.eval.ensures.value, c.new-columns.ensures, c.new-cells.ensures, c.is_date-2.ensures) refl in
    let has = rw (c.new-columns.ensures, c.is_date-2.ensures) at c.eval.ensures.kind in
    is_for c.args.kind c.args.expr.now c.in-Ok.own (lent c.eval.result) (sym found ∙ c.in-Ok.is) worth has (sym c.has_kind.ensures ∙ c.if-not-has_kind.false)
    (sym c.is_in_range.ensures ∙ c.if-not-is_in_range.false)
