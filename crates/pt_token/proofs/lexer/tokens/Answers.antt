use Rattle.pt_token.proofs.Steps.{tokens_end}
use Rattle.pt_token.proofs.lexer.tokens.Goals as goal

pub returns-clause-tokens : goal.returns-clause-tokens
returns-clause-tokens c = tokens_end c.args.piece.now c.loop-rest.inside c.loop-rest.place c.loop-rest.rest.now c.loop-rest.tokens.items c.loop-rest.invariant.tokens (cc)
