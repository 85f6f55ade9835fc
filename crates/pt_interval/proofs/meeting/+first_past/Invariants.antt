use Rattle.std.proofs.Common.{◌-◌}
use Rattle.pt_interval.proofs.meeting.+first_past.Given as goal

abbrev pub decreases-first_past : goal.decreases-first_past
decreases-first_past g l = l.high - l.low
