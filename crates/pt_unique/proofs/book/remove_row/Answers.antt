use Rattle.std.specs.Ordering.{nat_cmp}
use Rattle.std.specs.BTreeMap as tree
use Rattle.indexmap.specs.IndexMap as hashed
use Rattle.pt_unique.specs.Book.{mark_eq}
use Rattle.pt_unique.proofs.Keeping.{leave_holders}
use Rattle.pt_unique.proofs.book.remove_row.Goals as goal

pub returns-clause-holders : goal.returns-clause-holders
returns-clause-holders c =
    leave_holders (λ s. tree.get nat_cmp c.args.entries.now s) (λ s. tree.get nat_cmp c.remove-before.new.self s) (λ m. hashed.get mark_eq c.args.holders.now m)
    (λ m. hashed.get mark_eq c.let_go_of.new.holders m) c.args.serial c.remove-before.result c.requires c.remove-before.ensures.value c.remove-before.ensures.updates.0 c.let_go_of.ensures.held
