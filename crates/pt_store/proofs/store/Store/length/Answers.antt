use Rattle.std.proofs.Common.{◌∙◌}
use Rattle.pt_store.proofs.Kept.{length_is}
use Rattle.pt_store.proofs.store.Store.length.Goals as goal

pub returns-clause-map : goal.returns-clause-map
returns-clause-map c = λ files w store. rw c.items.ensures at c.length_of.ensures ∙ length_is _ files w store c.args.name.now
