-- Equal names feed a hash the same.
use Rattle.std.specs.Prelude.{◌≡◌, ℕ, List, IsTrue, nat_eq}
use Rattle.std.proofs.Common.{ap}
use Rattle.std.proofs.lemmas.Slice.Eq.{bytes_eq-Decides}
use Rattle.std.specs.Hash as fed
use Rattle.std.specs.Cmp.Lexicographic.{pointwise}

pub alike_names : (a b : List ℕ) → IsTrue (pointwise nat_eq a b) → fed.slice fed.u8 a ≡ fed.slice fed.u8 b
alike_names a b h = ap (fed.slice fed.u8) ((bytes_eq-Decides a b).0 h)
