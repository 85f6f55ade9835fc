use Rattle.pt_checks.proofs.Assigned.{update_assignable, update_checked}
use Rattle.pt_checks.proofs.assigns.bad_update.Goals as goal

pub returns-clause-assignable : goal.returns-clause-assignable
returns-clause-assignable c = update_assignable c.args.def.now c.args.table.now c.args.assigns.now c.args.tail.now c.refused_of.result c.refused_of.ensures

pub returns-clause-checked : goal.returns-clause-checked
returns-clause-checked c = update_checked c.args.def.now c.args.table.now c.args.assigns.now c.args.tail.now c.refused_of.result c.refused_of.ensures
