use Rattle.std.proofs.Common.{Some, sym, ap, ◌∙◌}
use Rattle.std.specs.List.{list_any}
use Rattle.pt_ast.specs.declared.written.ValuesSpec.{ValuesSpec}
use Rattle.pt_written.specs.Complete.{has_item, is_out_item}
use Rattle.pt_place.specs.Fitting.{kinds_of}
use Rattle.pt_written.specs.ReadingValues.{tuples_written}
use Rattle.pt_written.proofs.WrittenTuples.{max_out}
use Rattle.pt_written.proofs.written_values.has_out_value.Goals as goal

pub returns-in-LessMax : goal.returns-in-LessMax
returns-in-LessMax c =
    sym (ap (λ (v : ValuesSpec). list_any (has_item is_out_item (kinds_of c.args.columns.now c.args.by.now)) (tuples_written (Some v))) c.in-LessMax.is ∙ max_out (kinds_of c.args.columns.now c.args.by.now))
