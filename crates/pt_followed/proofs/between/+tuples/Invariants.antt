use Rattle.std.proofs.Common.{◌+◌, ◌*◌, length}
use Rattle.pt_followed.proofs.between.+tuples.Given as goal

abbrev pub decreases-has_between : goal.decreases-has_between
decreases-has_between l = 2 * length l.sets.now + 1

abbrev pub decreases-has_case : goal.decreases-has_case
decreases-has_case l = 2 * length l.sets.now
