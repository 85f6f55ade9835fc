use Rattle.std.proofs.Common.{take}
use Rattle.std.specs.BTreeMap as tree
use Rattle.std.specs.Cmp.Lexicographic.{slice_cmp}
use Rattle.std.specs.Ordering.{nat_cmp}
use Rattle.pt_defs.specs.Places.{ArePlaces}
use Rattle.pt_defs.proofs.named.places_of.Given as goal

abbrev pub invariant-loop-place : goal.invariant-loop-place
invariant-loop-place l = ArePlaces (λ name. tree.get (slice_cmp nat_cmp) l.places name) (take l.place l.columns)
