use Rattle.std.proofs.Common.{◌∙◌}
use Rattle.pt_store.proofs.Kept.{name_is}
use Rattle.pt_store.proofs.store.Store.name_at.Goals as goal

pub returns-clause-map : goal.returns-clause-map
returns-clause-map c = λ files w store. rw c.items.ensures at c.name_of.ensures ∙ name_is _ files w store c.args.i
