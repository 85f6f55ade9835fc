use Rattle.std.proofs.Common.{not, drop}
use Rattle.pt_interval.specs.Spans.{has}
use Rattle.pt_interval.proofs.Gaps.{IsOutside}
use Rattle.pt_interval.proofs.outside.gaps.Given as goal

abbrev pub invariant-loop-span : goal.invariant-loop-span
invariant-loop-span g l = IsOutside g.T.Line.cmp g.T.Line.is_value g.T.Line.least (λ v. not (has g.T.Line.cmp l.fn.spans v)) l.gaps.items (drop l.span-index l.spans) l.low
