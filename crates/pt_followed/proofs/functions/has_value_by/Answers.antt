use Rattle.pt_followed.proofs.Comings.{null_item}
use Rattle.pt_followed.proofs.functions.has_value_by.Goals as goal

pub returns-in_ok-has-in-Null : goal.returns-in_ok-has-in-Null
returns-in_ok-has-in-Null c = rw c.in-Null.is (null_item c.args.func c.requires.func c.args.set.now c.requires.days c.in_ok-has-in-Null.has c.in_ok-has-in-Null.ensures)
