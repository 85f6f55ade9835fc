use Rattle.pt_token.proofs.OneLexing as lexing
use Rattle.pt_token.proofs.laws.one_lexing.Goals as goal

pub returns : goal.returns
returns c = lexing.one_lexing
