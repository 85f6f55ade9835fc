use Rattle.std.proofs.Common.{◌≡◌, drop}
use Rattle.pt_written.specs.Written.{own_name}
use Rattle.pt_written.proofs.renamed.own_name.Given as goal

abbrev pub invariant-loop-column : goal.invariant-loop-column
invariant-loop-column l = own_name (drop l.column-index l.column-items) l.name ≡ own_name l.columns l.name
