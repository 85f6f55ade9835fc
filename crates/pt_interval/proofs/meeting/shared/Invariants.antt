use Rattle.std.proofs.Common.{◌+◌, ◌-◌, ◌&&◌, drop, length}
use Rattle.pt_interval.specs.Spans.{has}
use Rattle.pt_interval.proofs.Meet.{IsMeeting}
use Rattle.pt_interval.proofs.meeting.shared.Given as goal

abbrev pub invariant-loop-i : goal.invariant-loop-i
invariant-loop-i g l = IsMeeting g.T.Line.cmp g.T.Line.is_value g.T.Line.least (λ v. has g.T.Line.cmp l.fn.a v && has g.T.Line.cmp l.fn.b v) l.spans.items (drop l.i l.a) (drop l.j l.b)

abbrev pub decreases-loop-i : goal.decreases-loop-i
decreases-loop-i g l = (length l.a - l.i) + (length l.b - l.j)
