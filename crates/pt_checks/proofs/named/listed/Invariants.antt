use Rattle.std.proofs.Common.{◌≡◌, ◌++◌, drop}
use Rattle.std.specs.List.{filter_map}
use Rattle.pt_place.specs.Names.{column_of}
use Rattle.pt_checks.proofs.named.listed.Given as goal

abbrev pub invariant-loop-name : goal.invariant-loop-name
invariant-loop-name l = l.found ++ filter_map (column_of l.columns) (drop l.name-index l.names) ≡ filter_map (column_of l.columns) l.names
