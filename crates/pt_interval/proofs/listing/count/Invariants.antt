use Rattle.std.proofs.Common.{take}
use Rattle.pt_interval.specs.Counting.{IsCount}
use Rattle.pt_interval.specs.Spans.{has}
use Rattle.pt_interval.proofs.listing.count.Given as goal

abbrev pub invariant-loop-span : goal.invariant-loop-span
invariant-loop-span g l = IsCount g.T.Line.cmp g.T.Line.is_value (has g.T.Line.cmp (take l.span-index l.spans)) l.limit l.count
