use Rattle.std.proofs.Common.{ap, rules}
use Rattle.std.specs.Ordering.{nat_cmp}
use Rattle.std.specs.Map.{lookup}
use Rattle.std.specs.BTreeMap as tree
use Rattle.indexmap.specs.IndexMap as hashed
use Rattle.pt_unique.specs.Book.{entry_of, mark_eq}
use Rattle.pt_unique.proofs.Keeping.{enter_holders, free_at, taken_at}
use Rattle.pt_unique.proofs.Views.{book_of}
use Rattle.pt_unique.proofs.book.enter_row.Goals as goal

pub returns-in-Some-clause-fault : goal.returns-in-Some-clause-fault
returns-in-Some-clause-fault c =
    taken_at (book_of c.args.keys.now c.args.entries.now.entries) (λ mark. hashed.get mark_eq c.args.holders.now mark) (entry_of c.args.keys.now c.args.row.now.cells) c.items-2.result.now
    c.in-Some.serial c.least_holder.result c.requires (search rules) (search rules) c.least_holder.ensures

pub returns-clause-holders : goal.returns-clause-holders
returns-clause-holders c =
    enter_holders (λ s. tree.get nat_cmp c.args.entries.now s) (λ s. tree.get nat_cmp c.put_entry.new.entries s) (λ m. hashed.get mark_eq c.args.holders.now m)
    (λ m. hashed.get mark_eq c.reserve.new.self m) (λ m. hashed.get mark_eq c.let_go_of.new.holders m) (λ m. hashed.get mark_eq c.hold.new.holders m)
    c.args.row.now.serial (entry_of c.args.keys.now c.args.row.now.cells) c.in_ok-entry.entry c.items-2.result.now c.into_vec.result.items c.in_ok-before.before c.least_holder.result
    c.requires c.least_holder.ensures (search rules) (search rules) (search rules) (search rules) (search rules)
    (λ mark. ap (λ es. lookup (mark_eq mark) es) c.in_ok-reserve.ensures.entries)
    c.in_ok-before.ensures.at c.let_go_of.ensures.held c.hold.ensures

pub returns-clause-free : goal.returns-clause-free
returns-clause-free c =
    free_at (book_of c.args.keys.now c.args.entries.now.entries) (λ mark. hashed.get mark_eq c.args.holders.now mark) (entry_of c.args.keys.now c.args.row.now.cells) c.items-2.result.now
    c.least_holder.result c.requires (search rules) (search rules) c.least_holder.ensures
