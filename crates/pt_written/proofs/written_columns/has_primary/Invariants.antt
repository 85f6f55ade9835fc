use Rattle.std.proofs.Common.{◌≡◌, drop}
use Rattle.std.specs.List.{list_any}
use Rattle.pt_written.specs.Written.{is_primary_option}
use Rattle.pt_written.proofs.written_columns.has_primary.Given as goal

abbrev pub invariant-loop-option : goal.invariant-loop-option
invariant-loop-option l = list_any is_primary_option (drop l.option-index l.options) ≡ list_any is_primary_option l.options
