use Rattle.std.proofs.Common.{sym, ◌∙◌}
use Rattle.pt_ast.specs.declared.written.BoundSpec.TheVariants as written
use Rattle.pt_place.specs.Fitting.{kinds_of}
use Rattle.pt_written.specs.Complete.{is_wrong_item}
use Rattle.pt_written.proofs.WrittenTuples.{no_item, one_item}
use Rattle.pt_written.proofs.written_tuples.has_wrong_max.Goals as goal

pub returns-in-Some : goal.returns-in-Some
returns-in-Some c = one_item (is_wrong_item c.args.less) (kinds_of c.args.columns.now c.args.by.now) _ written.Max (sym c.kind_of.ensures ∙ c.in-Some.is)

pub returns-in-None : goal.returns-in-None
returns-in-None c = no_item (is_wrong_item c.args.less) (kinds_of c.args.columns.now c.args.by.now) written.Max (sym c.kind_of.ensures ∙ c.in-None.is)
