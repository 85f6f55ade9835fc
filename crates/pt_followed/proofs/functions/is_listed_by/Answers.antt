use Rattle.std.proofs.Common.{Some}
use Rattle.std.proofs.lemmas.Bool.{MatchBool-at_true}
use Rattle.pt_followed.specs.Steps.{HasEntryBy, come_to}
use Rattle.pt_followed.proofs.Comings.{entry_at}
use Rattle.pt_followed.proofs.functions.is_listed_by.Goals as goal

pub returns-then-branch : goal.returns-then-branch
returns-then-branch c =
    let come = come_to (Some c.args.func) in
    let has : HasEntryBy come c.args.set.now c.entry-item.result =
    MatchBool-at_true (HasEntryBy come c.args.set.now c.entry-item.result) (¬ (HasEntryBy come c.args.set.now c.entry-item.result)) c.if-branch.true (rw c.items.ensures at c.in_ok-has_entry_by.ensures) in
    rw (← c.items-entry-items.ensures) (entry_at come c.args.set.now c.items-entry-items.result.now c.loop-entry.entry-index c.entry-item.result c.loop-entry-test.true c.entry-item.is has)
