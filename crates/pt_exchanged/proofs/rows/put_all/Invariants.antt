use Rattle.std.proofs.Common.{◌≡◌, drop}
use Rattle.pt_exchanged.specs.Exchanged.{with_all}
use Rattle.pt_exchanged.proofs.rows.put_all.Given as goal

abbrev pub invariant-loop-row : goal.invariant-loop-row
invariant-loop-row l = with_all (drop l.row-index l.comes) l.rows ≡ with_all l.comes l.initial.rows
