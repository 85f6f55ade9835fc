use Rattle.pt_token.proofs.Opening.{left_at_ends}
use Rattle.pt_token.proofs.laws.ends_first.Goals as goal

pub returns : goal.returns
returns c = left_at_ends
