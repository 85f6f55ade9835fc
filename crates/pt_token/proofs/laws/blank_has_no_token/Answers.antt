use Rattle.std.proofs.Common.{false}
use Rattle.pt_token.proofs.BlankTokens.{tokens_of_gaps, gaps_of_none}
use Rattle.pt_token.proofs.laws.blank_has_no_token.Goals as goal

pub returns : goal.returns
returns c piece = (tokens_of_gaps false 0 piece, gaps_of_none false 0 piece)
