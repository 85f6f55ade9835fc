use Rattle.std.specs.Option.{option_copied}
use Rattle.pt_reach.specs.May.{may_hold}
use Rattle.pt_reach.proofs.Filled.{days_in}
use Rattle.pt_reach.proofs.following.days.Goals as goal

pub returns : goal.returns
returns c = days_in (may_hold c.args.columns.now c.args.at (option_copied c.args.cond)) c.in_ok-reach.reach c.in_ok-reach.ensures
