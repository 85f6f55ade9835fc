use Rattle.std.proofs.Common.{◌≡◌, ◌+◌, List, ◌++◌, length}
use Rattle.pt_token.specs.declared.token.Token.{Token}
use Rattle.pt_token.specs.declared.fault.LexFault.{LexFault}
use Rattle.pt_token.specs.Tokens.{HasTokens, IsFaultFrom, IsFault, IsLexed}
use Rattle.pt_token.proofs.lexer.tokens.Given as goal

abbrev pub invariant-loop-rest : goal.invariant-loop-rest
invariant-loop-rest l = record {
  tokens : (more : List Token) → HasTokens l.inside l.place l.rest more → IsLexed l.piece (l.tokens.items ++ more);
  fault : (fault : LexFault) → IsFaultFrom l.inside l.place l.rest fault → IsFault l.piece fault;
  count : l.place + length l.rest ≡ length l.piece;
}

abbrev pub decreases-loop-rest : goal.decreases-loop-rest
decreases-loop-rest l = length l.rest
