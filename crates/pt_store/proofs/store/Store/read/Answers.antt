use Rattle.pt_store.proofs.Kept.{found, found_is, entry_within, reads_bytes}
use Rattle.pt_store.proofs.Steps.{look_here}
use Rattle.pt_store.proofs.store.Store.read.Goals as goal

pub unwrap-entry-requires : goal.unwrap-entry-requires
unwrap-entry-requires g c = found c.args.self.now.entries c.args.name.now _ (rw c.items.ensures at c.entry_of.ensures) c.requires.held

pub read_entry-requires : goal.read_entry-requires
read_entry-requires g c = λ tells.
    let s = c.requires.stands tells in
    entry_within _ s.0 _ s.1 c.args.name.now c.unwrap-entry.result.now (found_is _ _ _ _ _ c.items.ensures c.entry_of.ensures c.unwrap-entry.ensures)

pub returns-clause-bytes : goal.returns-clause-bytes
returns-clause-bytes g c = λ tells files store.
    reads_bytes _ files _ store c.args.name.now c.unwrap-entry.result.now (found_is _ _ _ _ _ c.items.ensures c.entry_of.ensures c.unwrap-entry.ensures) _ (c.in_ok-bytes.ensures.bytes tells)

pub returns-in_err-bytes-clause-told : goal.returns-in_err-bytes-clause-told
returns-in_err-bytes-clause-told g c = λ tells files store. look_here _ files _ _ (c.in_err-bytes.ensures.looks tells) store

pub returns-clause-told : goal.returns-clause-told
returns-clause-told g c = λ tells files store. look_here _ files _ _ (c.in_ok-bytes.ensures.looks tells) store
