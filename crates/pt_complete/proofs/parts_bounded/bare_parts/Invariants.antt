use Rattle.std.proofs.Common.{◌≡◌, take, map}
use Rattle.pt_place.specs.Fitting.{kinds_of}
use Rattle.pt_complete.specs.Making.{bare_in}
use Rattle.pt_complete.proofs.parts_bounded.bare_parts.Given as goal

abbrev pub invariant-loop-item : goal.invariant-loop-item
invariant-loop-item l = l.parts ≡ map (bare_in (kinds_of l.columns l.by) l.by) (take l.item-index l.items)
