-- Tuples of bounds that were seen. Nothing public cites these.
use Rattle.std.specs.Prelude.{◌≡◌, Bool, List}
use Rattle.pt_ast.specs.declared.table.Bound.{Bound}
use Rattle.pt_ast.specs.Lists.{stands_among}

-- a test holds of these tuples, and of nothing else
abbrev pub AreTuples : (List Bound → Bool) → List (List Bound) → Type 0
AreTuples has tuples = (tuple : List Bound) → has tuple ≡ stands_among tuples tuple
