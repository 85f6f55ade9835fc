use Rattle.std.proofs.Common.{◌∙◌, ap}
use Rattle.pt_place.specs.Names.{names_in}
use Rattle.pt_prune.specs.Lone.{sole_of}
use Rattle.pt_prune.proofs.Naming.{sole_named}
use Rattle.pt_prune.proofs.columns.sole.Goals as goal

pub returns : goal.returns
returns c = c.sole_of.ensures ∙ ap sole_of c.lone_in.ensures ∙ sole_named c.args.columns.now (names_in c.args.expr.now)
