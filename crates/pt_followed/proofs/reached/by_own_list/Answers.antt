use Rattle.std.specs.Option.{option_copied}
use Rattle.pt_followed.proofs.Whole.{own_list_reached}
use Rattle.pt_followed.proofs.reached.by_own_list.Goals as goal

pub returns : goal.returns
returns c =
    own_list_reached c.args.def.now c.args.at (option_copied c.args.cond) c.in_ok-sets.sets.items c.in_ok-marks.marks.items c.requires.valid c.args.expr.now c.requires.kind c.requires.own c.requires.column c.in_ok-sets.ensures
    (rw (c.as_slice.ensures.value, c.items.ensures) at c.in_ok-marks.ensures)
