use Rattle.std.proofs.Common.{◌≡◌, is_some, rules}
use Rattle.std.specs.BTreeMap.{get}
use Rattle.std.specs.Ordering.{nat_cmp}
use Rattle.pt_rowfile.proofs.Kept.{delete_kept}
use Rattle.pt_rowfile.proofs.rows.delete.Goals as goal

pub returns : goal.returns
returns c =
    let there : c.is_some.result ≡ is_some (get nat_cmp c.args.rows.now c.args.serial) = search rules in
    delete_kept c.args.serial c.args.rows.now.entries c.remove.new.self.entries c.is_some.result there c.remove.ensures.entries
