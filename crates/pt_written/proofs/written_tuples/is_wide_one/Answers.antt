use Rattle.std.proofs.Common.{sym, ◌∙◌}
use Rattle.pt_place.specs.Fitting.{kinds_of}
use Rattle.pt_written.specs.Complete.{is_wide_item}
use Rattle.pt_written.proofs.WrittenTuples.{no_item, one_item}
use Rattle.pt_written.proofs.written_tuples.is_wide_one.Goals as goal

pub returns-in-Some : goal.returns-in-Some
returns-in-Some c = c.is_wide_item.ensures ∙ one_item is_wide_item (kinds_of c.args.columns.now c.args.by.now) c.in-Some.kind c.args.item.now (sym c.kind_of.ensures ∙ c.in-Some.is)

pub returns-in-None : goal.returns-in-None
returns-in-None c = no_item is_wide_item (kinds_of c.args.columns.now c.args.by.now) c.args.item.now (sym c.kind_of.ensures ∙ c.in-None.is)
