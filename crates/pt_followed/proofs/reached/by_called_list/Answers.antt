use Rattle.std.specs.Option.{option_copied}
use Rattle.pt_followed.proofs.Followed.{list_days, list_func, list_reached}
use Rattle.pt_followed.proofs.reached.by_called_list.Goals as goal

pub list_marks_by-requires-clause-func : goal.list_marks_by-requires-clause-func
list_marks_by-requires-clause-func c = list_func c.args.def.now c.args.at (option_copied c.args.cond) c.requires.valid c.args.expr.now c.args.func c.requires.column c.requires.followed c.requires.called c.requires.kind

pub list_marks_by-requires-clause-days : goal.list_marks_by-requires-clause-days
list_marks_by-requires-clause-days c =
    list_days c.args.def.now c.args.at (option_copied c.args.cond) c.requires.valid c.args.expr.now c.args.func c.requires.column c.requires.followed c.requires.called c.requires.kind c.in_ok-set.set c.in_ok-set.ensures

pub returns : goal.returns
returns c =
    list_reached c.args.def.now c.args.at (option_copied c.args.cond) c.requires.valid c.args.expr.now c.args.func c.requires.column c.requires.followed c.requires.called c.requires.kind c.in_ok-set.set c.in_ok-marks.marks.items c.in_ok-set.ensures
    (rw c.items.ensures at c.in_ok-marks.ensures)
