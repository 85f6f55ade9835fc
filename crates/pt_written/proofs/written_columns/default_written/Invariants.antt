use Rattle.std.proofs.Common.{◌≡◌, drop, fold}
use Rattle.std.specs.Prelude.{option_copied}
use Rattle.pt_written.specs.Written.{default_step, default_written}
use Rattle.pt_written.proofs.written_columns.default_written.Given as goal

abbrev pub invariant-loop-option : goal.invariant-loop-option
invariant-loop-option l = fold default_step (option_copied l.last) (drop l.option-index l.options) ≡ default_written l.options
