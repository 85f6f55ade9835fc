use Rattle.pt_token.proofs.Feeding.{pieces-fed}
use Rattle.pt_token.proofs.laws.feeds_give_pieces.Goals as goal

pub returns : goal.returns
returns c = pieces-fed
