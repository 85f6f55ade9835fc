-- For the code: the rows that a session is given where some partitions lose theirs. Nothing public cites it.
use Rattle.std.specs.Prelude.{ℕ, List, [], filter, Option}
use Rattle.pt_ast.specs.declared.database.Row.{Row}
use Rattle.pt_ast.specs.declared.database.Spot.{Spot}
use Rattle.pt_ast.specs.declared.table.TableDef.{TableDef}
use Rattle.pt_checks.specs.Wanted.{is_named_spot}
use Rattle.pt_spread.specs.Spread.{rows_by_spot}

-- the spots of these partitions, of all where none are named, each without rows
abbrev pub emptied : TableDef → Option (List (List ℕ)) → List (Spot × List Row)
emptied def parts = filter (λ given. is_named_spot def parts given.0) (rows_by_spot def [])
