use Rattle.std.proofs.Common.{◌≡◌, drop}
use Rattle.pt_interval.specs.Spans.{has}
use Rattle.pt_interval.proofs.listing.has.Given as goal

abbrev pub invariant-loop-span : goal.invariant-loop-span
invariant-loop-span g l = has g.T.Line.cmp l.fn.spans l.value ≡ has g.T.Line.cmp (drop l.span-index l.spans) l.value
