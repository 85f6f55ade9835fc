use Rattle.std.proofs.Common.{◌≡◌, drop, fold}
use Rattle.pt_written.specs.Written.{null_step, says_not_null}
use Rattle.pt_written.proofs.written_columns.says_not_null.Given as goal

abbrev pub invariant-loop-option : goal.invariant-loop-option
invariant-loop-option l = fold null_step l.not_null (drop l.option-index l.options) ≡ says_not_null l.options
