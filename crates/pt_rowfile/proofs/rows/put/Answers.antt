use Rattle.std.proofs.Common.{◌≡◌, true, false, refl, sym, ◌∙◌, is_some, rules}
use Rattle.std.specs.BTreeMap.{get}
use Rattle.std.specs.Ordering.{nat_cmp}
use Rattle.pt_rowfile.proofs.Kept.{put_done, put_refused}
use Rattle.pt_rowfile.proofs.rows.put.Goals as goal

pub returns-then-not-may_put : goal.returns-then-not-may_put
returns-then-not-may_put c =
    let refused : c.may_put.result ≡ false = search rules in
    put_refused c.args.row c.args.rows.now.entries (is_some (get nat_cmp c.args.rows.now c.args.row.serial)) refl (sym c.may_put.ensures ∙ refused)

pub returns : goal.returns
returns c =
    let done : c.may_put.result ≡ true = search rules in
    put_done c.args.row c.args.rows.now.entries c.insert.new.self.entries c.may_put.result c.may_put.ensures done c.in_ok-insert.ensures.entries
