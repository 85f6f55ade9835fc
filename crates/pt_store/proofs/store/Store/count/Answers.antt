use Rattle.std.proofs.Common.{◌∙◌, ap, length}
use Rattle.pt_store.proofs.Kept.{count_is}
use Rattle.pt_store.proofs.store.Store.count.Goals as goal

pub returns-clause-map : goal.returns-clause-map
returns-clause-map c = λ files w store. ap (λ all. length all) c.items.ensures ∙ count_is _ files w store
