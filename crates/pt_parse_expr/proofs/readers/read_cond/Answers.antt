use Rattle.pt_parse_expr.proofs.Readings.{cond-given, cond-kept}
use Rattle.pt_parse_expr.proofs.readers.read_cond.Goals as goal

pub returns-clause-longest : goal.returns-clause-longest
returns-clause-longest c level = cond-given c.args.symbols.now c.args.at level _ c.condition.ensures.reads c.condition.ensures.place

pub returns-clause-storable : goal.returns-clause-storable
returns-clause-storable c level all =
    cond-kept c.args.symbols.now c.args.at level all _ (cond-given c.args.symbols.now c.args.at level _ c.condition.ensures.reads c.condition.ensures.place)
