use Rattle.pt_followed.proofs.Cases.{free_below}
use Rattle.pt_followed.proofs.between.is_free_below.Goals as goal

pub returns-in-len1-up : goal.returns-in-len1-up
returns-in-len1-up c = rw c.in-Some.is (free_below c.in-Some.bounds.now c.in-len1-up.len_at_least)
