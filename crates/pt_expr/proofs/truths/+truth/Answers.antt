use Rattle.std.proofs.Common.{◌∙◌, sym, ap}
use Rattle.pt_value.specs.Truth.{greatest, least}
use Rattle.pt_expr.specs.Truths.{negated, truth}
use Rattle.pt_expr.proofs.Deciding.{and_ok, and_truth, fold_next, in_truth, or_ok, or_truth}
use Rattle.pt_expr.proofs.truths.+truth.Goals as goal

pub loop-part-init : goal.loop-part-init
loop-part-init t c =
    rw c.items-part-items.ensures
    (or_truth c.args.columns.now c.args.cells.now c.args.cond.now c.in-Or.parts c.in-Or.is, or_ok c.args.columns.now c.args.cond.now c.in-Or.parts c.in-Or.is c.requires.checked)

pub loop-part-preserved : goal.loop-part-preserved
loop-part-preserved t c = (
  rw (c.or-any.ensures, c.truth.ensures)
      (sym (fold_next greatest (truth c.args.columns.now c.args.cells.now) c.loop-part.any c.items-part-items.result.now c.loop-part.part-index c.part-item.result c.loop-part-test.true c.part-item.is) ∙ c.loop-part.invariant.0),
  c.loop-part.invariant.1,
)

pub loop-part-2-init : goal.loop-part-2-init
loop-part-2-init t c =
    rw c.items-part-items-in-And.ensures
    (and_truth c.args.columns.now c.args.cells.now c.args.cond.now c.in-And.parts c.in-And.is, and_ok c.args.columns.now c.args.cond.now c.in-And.parts c.in-And.is c.requires.checked)

pub loop-part-2-preserved : goal.loop-part-2-preserved
loop-part-2-preserved t c = (
  rw (c.and-all.ensures, c.truth-in-loop-part-2.ensures)
      (sym (fold_next least (truth c.args.columns.now c.args.cells.now) c.loop-part-2.all c.items-part-items-in-And.result.now c.loop-part-2.part-index c.part-item-in-loop-part-2.result c.loop-part-2-test.true c.part-item-in-loop-part-2.is)
      ∙ c.loop-part-2.invariant.0),
  c.loop-part-2.invariant.1,
)

pub returns-in-In : goal.returns-in-In
returns-in-In t c =
    c.negated-in-In.ensures ∙ ap (negated c.in-In.is_not) c.among.ensures ∙ in_truth c.args.columns.now c.args.cells.now c.args.cond.now c.in-In.is_not c.in-In.expr c.in-In.list c.in-In.is
