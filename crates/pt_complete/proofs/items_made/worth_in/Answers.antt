use Rattle.pt_complete.proofs.Sound.{keep_of, worth_of}
use Rattle.pt_complete.proofs.items_made.worth_in.Goals as goal

pub returns-clause-worth : goal.returns-clause-worth
returns-clause-worth c = worth_of c.args.columns.now c.args.cells.now c.is_date.result c.args.kind c.args.expr.now _ c.requires.columns c.requires.cells c.is_date.ensures c.eval.ensures.value

pub returns-clause-keep : goal.returns-clause-keep
returns-clause-keep c =
    keep_of c.args.columns.now c.args.cells.now c.is_date.result c.args.kind c.args.expr.now _ c.requires.columns c.requires.cells c.is_date.ensures c.eval.ensures.value c.requires.constant c.eval.ensures.kind
