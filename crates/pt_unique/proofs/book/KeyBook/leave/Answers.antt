use Rattle.std.proofs.Common.{rules}
use Rattle.pt_unique.proofs.Views.{view_same, view_without}
use Rattle.pt_unique.proofs.book.KeyBook.leave.Goals as goal

pub returns-clause-there : goal.returns-clause-there
returns-clause-there c =
    view_without c.self.inside.keys c.items.result.now c.self.inside.entries.entries c.leave_row.new.entries.entries c.args.row.now.serial c.args.row.now.cells c.args.self.now c.self.view_is (search rules)
    c.leave_row.ensures.there

pub returns-clause-other : goal.returns-clause-other
returns-clause-other c =
    view_same c.self.inside.keys c.items.result.now c.self.inside.entries.entries c.leave_row.new.entries.entries c.args.row.now.serial c.args.row.now.cells c.args.self.now c.self.view_is (search rules)
    c.leave_row.ensures.other
