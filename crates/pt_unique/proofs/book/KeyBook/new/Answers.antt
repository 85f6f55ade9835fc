use Rattle.pt_unique.proofs.Views.{empty_holders}
use Rattle.pt_unique.proofs.book.KeyBook.new.Goals as goal

pub invariant_of-result : goal.invariant_of-result
invariant_of-result c = empty_holders c.new.result.entries c.new-2.result.entries c.new.ensures.empty c.new-2.ensures.empty
