use Rattle.pt_token.proofs.Cutting.{first_of_cut, cut_of_first}
use Rattle.pt_token.proofs.Parting.{parts_of_pieces, pieces_of_parts}
use Rattle.pt_token.proofs.laws.cuts_outside.Goals as goal

pub returns-clause-first : goal.returns-clause-first
returns-clause-first c bytes place = (first_of_cut bytes place, cut_of_first bytes place)

pub returns-clause-pieces : goal.returns-clause-pieces
returns-clause-pieces c script found = (parts_of_pieces script found, pieces_of_parts script found)
