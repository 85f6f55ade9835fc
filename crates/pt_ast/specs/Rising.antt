-- Tables in the order of their names.
use Rattle.std.specs.Prelude.{List, map}
use Rattle.std.specs.Ordering.{nat_cmp}
use Rattle.std.specs.Cmp.Lexicographic.{slice_cmp}
use Rattle.std.specs.List.Sorted.{IsStrictlySortedBy}
use Rattle.pt_ast.specs.declared.database.Table.{Table}

-- their names rise in byte order, each once
abbrev pub NamesRise : List Table → Type 0
NamesRise tables = IsStrictlySortedBy (slice_cmp nat_cmp) (map (λ table. table.name) tables)
