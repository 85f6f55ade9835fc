use Rattle.std.proofs.Common.{Less, Equal, Greater}
use Rattle.pt_store.proofs.Placed.{at_end, in_front, already, stands_at, before_more, before_all, has_at_end, has_inserted, has_already}
use Rattle.pt_store.proofs.Ordered.{inserted_in_order, pushed_in_order}
use Rattle.pt_store.proofs.serials.add_serials.Goals as goal

pub returns-in-Greater-clause-order : goal.returns-in-Greater-clause-order
returns-in-Greater-clause-order c =
    let here = stands_at _ c.loop-i.i c.entry-item.result _ _ Greater c.loop-i-test.true c.entry-item.is c.serials-name.ensures c.cmp.ensures c.in-Greater.is in
    rw (c.in_ok-insert-in-Greater.ensures.ok, c.empty.ensures, c.serials-name.ensures)
    (inserted_in_order c.args.entries.now c.loop-i.i (rw c.items-entry-items.ensures at c.loop-i-test.true) (rw c.items-entry-items.ensures at c.loop-i.invariant) (rw c.items-entry-items.ensures at here) c.requires)

pub returns-clause-order : goal.returns-clause-order
returns-clause-order c =
    let before = before_all _ _ c.loop-i-test.false c.loop-i.invariant in
    rw (c.in_ok-push.ensures.ok, c.empty-2.ensures, c.serials-name.ensures) (pushed_in_order c.args.entries.now (rw c.items-entry-items.ensures at before) c.requires)

pub loop-i-preserved : goal.loop-i-preserved
loop-i-preserved c =
    before_more _ _ c.loop-i.invariant
    (stands_at _ c.loop-i.i c.entry-item.result _ _ Less c.loop-i-test.true c.entry-item.is c.serials-name.ensures c.cmp.ensures c.in-Less.is)

pub returns-in-Equal-clause-files : goal.returns-in-Equal-clause-files
returns-in-Equal-clause-files c = λ bytes files are.
    let here = stands_at _ c.loop-i.i c.entry-item.result _ _ Equal c.loop-i-test.true c.entry-item.is c.serials-name.ensures c.cmp.ensures c.in-Equal.is in
    already bytes c.args.entries.now files c.loop-i.i (rw c.items-entry-items.ensures at c.loop-i-test.true) (rw c.items-entry-items.ensures at c.loop-i.invariant) (rw c.items-entry-items.ensures at here) are

pub returns-in-Greater-clause-files : goal.returns-in-Greater-clause-files
returns-in-Greater-clause-files c = λ bytes files are.
    let here = stands_at _ c.loop-i.i c.entry-item.result _ _ Greater c.loop-i-test.true c.entry-item.is c.serials-name.ensures c.cmp.ensures c.in-Greater.is in
    let added = c.in_ok-insert-in-Greater.ensures.ok in
    rw (added, c.empty.ensures, c.serials-name.ensures)
    (in_front bytes c.args.entries.now files c.loop-i.i (rw c.items-entry-items.ensures at c.loop-i-test.true) (rw c.items-entry-items.ensures at c.loop-i.invariant) (rw c.items-entry-items.ensures at here) are)

pub returns-clause-files : goal.returns-clause-files
returns-clause-files c = λ bytes files are.
    let before = before_all _ _ c.loop-i-test.false c.loop-i.invariant in
    rw (c.in_ok-push.ensures.ok, c.empty-2.ensures, c.serials-name.ensures)
    (at_end bytes c.args.entries.now files (rw c.items-entry-items.ensures at before) are)

pub returns-in-Equal-clause-has : goal.returns-in-Equal-clause-has
returns-in-Equal-clause-has c =
    let here = stands_at _ c.loop-i.i c.entry-item.result _ _ Equal c.loop-i-test.true c.entry-item.is c.serials-name.ensures c.cmp.ensures c.in-Equal.is in
    has_already _ c.loop-i.i c.entry-item.result (rw c.items-entry-items.ensures at c.loop-i-test.true) (rw c.items-entry-items.ensures at here)

pub returns-in-Greater-clause-has : goal.returns-in-Greater-clause-has
returns-in-Greater-clause-has c = rw (c.in_ok-insert-in-Greater.ensures.ok, c.empty.ensures, c.serials-name.ensures) (has_inserted c.args.entries.now c.loop-i.i)

pub returns-clause-has : goal.returns-clause-has
returns-clause-has c = rw (c.in_ok-push.ensures.ok, c.empty-2.ensures, c.serials-name.ensures) (has_at_end c.args.entries.now)
