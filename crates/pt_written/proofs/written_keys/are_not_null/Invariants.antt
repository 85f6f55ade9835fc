use Rattle.std.proofs.Common.{◌≡◌, drop}
use Rattle.std.specs.List.{list_all}
use Rattle.pt_written.specs.Written.{is_not_null_at}
use Rattle.pt_written.proofs.written_keys.are_not_null.Given as goal

abbrev pub invariant-loop-number : goal.invariant-loop-number
invariant-loop-number l = list_all (is_not_null_at l.columns) (drop l.number-index l.numbers) ≡ list_all (is_not_null_at l.columns) l.numbers
