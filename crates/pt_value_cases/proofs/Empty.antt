-- No tables rise by name.
use Rattle.std.proofs.Common.{◌≡◌, List, [], sym, subst}
use Rattle.std.specs.List.Sorted.{IsStrictlySortedBy}
use Rattle.pt_ast.specs.declared.database.Table.{Table}
use Rattle.pt_ast.specs.Rising.{NamesRise}

pub none_rise : (tables : List Table) → tables ≡ [] → NamesRise tables
unfolding IsStrictlySortedBy
none_rise tables is = subst NamesRise (sym is) tt
