use Rattle.std.specs.Option.{option_copied}
use Rattle.pt_followed.proofs.Whole.{list_columns_reached}
use Rattle.pt_followed.proofs.reached.by_list_columns.Goals as goal

pub returns : goal.returns
returns c =
    list_columns_reached c.args.def.now c.args.at (option_copied c.args.cond) c.in_ok-sets.sets.items c.in_ok-marks.marks.items c.requires.valid c.requires.storable c.args.numbers.now c.requires.kind c.requires.column
    (rw c.items.ensures at c.in_ok-sets.ensures)
    (rw (c.as_slice.ensures.value, c.items-2.ensures) at c.in_ok-marks.ensures)
