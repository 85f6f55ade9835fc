use Rattle.pt_parse_expr.proofs.Readings.{expr-given, expr-kept}
use Rattle.pt_parse_expr.proofs.readers.read_expr.Goals as goal

pub returns-clause-longest : goal.returns-clause-longest
returns-clause-longest c level = expr-given c.args.symbols.now c.args.at level _ c.sum.ensures.reads c.sum.ensures.place

pub returns-clause-storable : goal.returns-clause-storable
returns-clause-storable c level all =
    expr-kept c.args.symbols.now c.args.at level all _ (expr-given c.args.symbols.now c.args.at level _ c.sum.ensures.reads c.sum.ensures.place)
