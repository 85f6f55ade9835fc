use Rattle.std.proofs.Common.{rules}
use Rattle.pt_unique.proofs.Views.{on_ok_then, view_entered}
use Rattle.pt_unique.proofs.book.KeyBook.enter.Goals as goal

pub returns-clause-ok : goal.returns-clause-ok
returns-clause-ok c =
    on_ok_then c.enter_row.result _ _
    (view_entered c.self.inside.keys c.items.result.now c.self.inside.entries.entries c.enter_row.new.entries.entries c.args.row.now c.args.self.now c.self.view_is (search rules))
    c.enter_row.ensures.ok
