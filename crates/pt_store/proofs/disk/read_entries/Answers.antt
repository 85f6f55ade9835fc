use Rattle.std.proofs.Common.{sym, subst}
use Rattle.pt_store.proofs.Kept.{no_entries_read}
use Rattle.pt_store.proofs.Ordered.{none_in_order, parsed_in_order}
use Rattle.pt_store.specs.Entries.{AreInOrder}
use Rattle.pt_store.proofs.disk.read_entries.Goals as goal

pub returns-in_default-clause-order : goal.returns-in_default-clause-order
returns-in_default-clause-order g c = subst AreInOrder (sym c.new.ensures) none_in_order

pub returns-clause-order : goal.returns-clause-order
returns-clause-order g c = parsed_in_order c.as_slice.result.now c.in-Some-2.entries (rw c.in-Some-2.is at c.in_ok-entries.ensures)

pub returns-in_default-clause-found : goal.returns-in_default-clause-found
returns-in_default-clause-found g c = λ tells. no_entries_read _ _ (rw c.in_default.is at (c.in_ok-bytes.ensures.bytes tells)) c.new.ensures
