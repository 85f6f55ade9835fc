use Rattle.pt_token.proofs.Texts.{text-ends}
use Rattle.pt_token.proofs.Passing.{texts-passed}
use Rattle.pt_token.proofs.laws.texts_end.Goals as goal

pub returns-clause-ends : goal.returns-clause-ends
returns-clause-ends c = text-ends

pub returns-clause-passed : goal.returns-clause-passed
returns-clause-passed c = texts-passed
