use Rattle.pt_followed.proofs.Entered.{item_told}
use Rattle.pt_followed.proofs.entries.has_item.Goals as goal

pub returns-in_ok-has-in-Val : goal.returns-in_ok-has-in-Val
returns-in_ok-has-in-Val c = rw c.in-Val.is (item_told c.in_ok-has-in-Val.has c.args.set.now _ _ c.cell.ensures c.in_ok-has-in-Val.ensures)
