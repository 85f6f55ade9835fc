use Rattle.pt_unique.proofs.Views.{view_at, view_removed}
use Rattle.pt_unique.proofs.book.KeyBook.remove.Goals as goal

pub returns-clause-is : goal.returns-clause-is
returns-clause-is c = view_removed c.self.inside.keys c.self.inside.entries.entries c.remove_row.new.entries.entries c.args.serial c.args.self.now c.self.view_is c.remove_row.ensures.entries

pub returns-clause-at : goal.returns-clause-at
returns-clause-at c = view_at c.self.inside.keys c.self.inside.entries.entries c.remove_row.new.entries.entries c.args.serial c.args.self.now c.self.view_is c.remove_row.ensures.at
