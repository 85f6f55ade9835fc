use Rattle.std.proofs.Common.{◌≡◌, true, ◌++◌}
use Rattle.pt_interval.specs.Walk.{walk}
use Rattle.pt_interval.proofs.listing.walk_into.Given as goal

abbrev pub invariant-loop-left : goal.invariant-loop-left
invariant-loop-left g l = record {
  whole : l.fn.values.items ++ walk g.T.Line.cmp g.T.Line.next g.T.Line.is_greatest l.fn.most l.fn.span.from l.fn.span.to
      ≡ l.values.items ++ walk g.T.Line.cmp g.T.Line.next g.T.Line.is_greatest l.left l.at l.fn.span.to;
  value : g.T.Line.is_value l.at ≡ true;
}

abbrev pub decreases-loop-left : goal.decreases-loop-left
decreases-loop-left g l = l.left
