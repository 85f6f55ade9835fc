use Rattle.std.proofs.Common.{sym, ◌∙◌}
use Rattle.pt_parse_alter.proofs.Whole.{spelled, unspelled}
use Rattle.pt_parse_alter.proofs.piece.spelled.Goals as goal

pub returns-in-None-clause-unspelled : goal.returns-in-None-clause-unspelled
returns-in-None-clause-unspelled c = unspelled c.args.symbols.now c.in-Ok.read c.requires.shallow c.in-Ok.ensures.reads (sym c.in-None.is ∙ c.finished.ensures)

pub returns-in-Some-clause-spelled : goal.returns-in-Some-clause-spelled
returns-in-Some-clause-spelled c = spelled c.args.symbols.now c.in-Ok.read c.in-Some.read c.in-Ok.ensures.reads (sym c.in-Some.is ∙ c.finished.ensures)
