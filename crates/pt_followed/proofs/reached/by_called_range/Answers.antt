use Rattle.std.proofs.Common.{List, sym, subst}
use Rattle.std.specs.Option.{option_copied}
use Rattle.pt_ast.specs.declared.table.PartDef.{PartDef}
use Rattle.pt_ast.specs.Ranges.{bound_of}
use Rattle.pt_interval.specs.Counting.{AreAll}
use Rattle.pt_followed.specs.Steps.{IsNumberBound}
use Rattle.pt_followed.proofs.Followed.{range_days, range_func, range_numbers, range_reached}
use Rattle.pt_followed.proofs.reached.by_called_range.Goals as goal

pub range_marks_by-requires-clause-func : goal.range_marks_by-requires-clause-func
range_marks_by-requires-clause-func c = range_func c.args.def.now c.args.at (option_copied c.args.cond) c.requires.valid c.args.expr.now c.args.func c.requires.column c.requires.followed c.requires.called c.requires.kind

pub range_marks_by-requires-clause-numbers : goal.range_marks_by-requires-clause-numbers
range_marks_by-requires-clause-numbers c =
    subst (λ (parts : List PartDef). AreAll (λ (part : PartDef). IsNumberBound (bound_of part)) parts) (sym c.items.ensures)
    (range_numbers c.args.def.now c.args.at (option_copied c.args.cond) c.requires.valid c.args.expr.now c.args.func c.requires.column c.requires.followed c.requires.called c.requires.kind)

pub range_marks_by-requires-clause-days : goal.range_marks_by-requires-clause-days
range_marks_by-requires-clause-days c =
    range_days c.args.def.now c.args.at (option_copied c.args.cond) c.requires.valid c.args.expr.now c.args.func c.requires.column c.requires.followed c.requires.called c.requires.kind c.in_ok-set.set c.in_ok-set.ensures

pub returns : goal.returns
returns c =
    range_reached c.args.def.now c.args.at (option_copied c.args.cond) c.requires.valid c.args.expr.now c.args.func c.requires.column c.requires.followed c.requires.called c.requires.kind c.in_ok-set.set c.in_ok-marks.marks.items c.in_ok-set.ensures
    (rw c.items.ensures at c.in_ok-marks.ensures)
