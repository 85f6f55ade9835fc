use Rattle.std.proofs.Common.{sym}
use Rattle.pt_place.specs.First.{first_in}
use Rattle.pt_place.proofs.Firsts.{each_found, each_more}
use Rattle.pt_checks.specs.Assigned.{bad_assign}
use Rattle.pt_checks.proofs.assigns.bad_values.Goals as goal

pub returns-in-Some : goal.returns-in-Some
returns-in-Some c =
    each_found (bad_assign c.args.table.now c.args.columns.now) c.items-assign-items.result.now c.loop-assign.assign-index c.assign-item.result c.in-Some.refusal
    (first_in (bad_assign c.args.table.now c.args.columns.now) c.args.assigns.now) c.loop-assign-test.true c.assign-item.is c.loop-assign.invariant (sym c.in-Some.ensures)

pub loop-assign-preserved : goal.loop-assign-preserved
loop-assign-preserved c =
    each_more (bad_assign c.args.table.now c.args.columns.now) c.items-assign-items.result.now c.loop-assign.assign-index c.assign-item.result
    (first_in (bad_assign c.args.table.now c.args.columns.now) c.args.assigns.now) c.loop-assign-test.true c.assign-item.is c.loop-assign.invariant (sym c.in_default.ensures)
