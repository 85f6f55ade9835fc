use Rattle.std.proofs.Common.{◌≡◌, ◌+◌, drop}
use Rattle.std.specs.List.{position_or_len}
use Rattle.pt_expr.specs.Columns.{is_named}
use Rattle.pt_written.proofs.written_keys.place_of.Given as goal

abbrev pub invariant-loop-column : goal.invariant-loop-column
invariant-loop-column l = (l.place ≡ l.column-index) × (l.place + position_or_len (is_named l.name) (drop l.column-index l.column-items) ≡ position_or_len (is_named l.name) l.columns)
