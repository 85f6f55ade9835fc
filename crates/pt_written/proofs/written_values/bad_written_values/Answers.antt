use Rattle.std.proofs.Common.{◌∙◌}
use Rattle.pt_place.specs.Fitting.{kinds_of}
use Rattle.pt_written.proofs.WrittenValues.{by_form}
use Rattle.pt_written.proofs.written_values.bad_written_values.Goals as goal

pub returns : goal.returns
returns c = c.values_refusal.ensures ∙ by_form c.args.table.now (kinds_of c.args.columns.now c.args.by.now) c.args.by.now c.args.part.now
