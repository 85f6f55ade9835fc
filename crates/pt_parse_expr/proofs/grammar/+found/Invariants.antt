-- Each call leaves fewer parentheses.
use Rattle.pt_parse_expr.proofs.grammar.+found.Given as goal

abbrev pub decreases-found : goal.decreases-found
decreases-found l = l.depth
