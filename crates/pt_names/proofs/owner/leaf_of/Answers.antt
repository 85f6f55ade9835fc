use Rattle.std.proofs.Common.{◌≡◌, List, ℕ, length, take, rules}
use Rattle.pt_names.proofs.Spots.{leaf_is_low}
use Rattle.pt_names.proofs.owner.leaf_of.Goals as goal

pub returns-clause-some : goal.returns-clause-some
returns-clause-some c =
    let bytes : List ℕ = c.args.bytes.now in
    let same : take (length bytes) c.lowered-small.result ≡ bytes = search rules in
    leaf_is_low bytes c.in_ok-leaf.leaf _ c.in_ok-leaf.ensures.some c.lowered-small.ensures same
