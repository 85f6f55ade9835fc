use Rattle.std.proofs.Common.{◌≡◌, drop}
use Rattle.pt_place.specs.Names.{is_among, names_of}
use Rattle.pt_place.proofs.names.is_column.Given as goal

abbrev pub invariant-loop-column : goal.invariant-loop-column
invariant-loop-column l = is_among l.name (names_of (drop l.column-index l.columns)) ≡ is_among l.name (names_of l.columns)
