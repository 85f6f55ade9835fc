-- Storable conditions.
use Rattle.std.specs.Prelude.{All}
use Rattle.pt_ast.specs.declared.tree.Cond.{Cond, every-Cond}
use Rattle.pt_ast.specs.declared.tree.Cond.TheOpen.{Cond-F}
use Rattle.pt_ast.specs.Storable.{HasAtLeast}
use Rattle.pt_ast.specs.StorableExpr.{IsStorableExpr}

-- One node: AND and OR have two parts at least, a list of IN isn't empty, and expressions are storable.
abbrev pub IsStorableTest : Cond-F Cond → Type 0
IsStorableTest (Cond-F.Or parts) = HasAtLeast 2 parts
IsStorableTest (Cond-F.And parts) = HasAtLeast 2 parts
IsStorableTest (Cond-F.Not part) = Unit {0}
IsStorableTest (Cond-F.Compare cmp left right) = IsStorableExpr left × IsStorableExpr right
IsStorableTest (Cond-F.IsNull is_not expr) = IsStorableExpr expr
IsStorableTest (Cond-F.In is_not expr list) = IsStorableExpr expr × HasAtLeast 1 list × All IsStorableExpr list
IsStorableTest (Cond-F.Between is_not expr low high) = IsStorableExpr expr × IsStorableExpr low × IsStorableExpr high

abbrev pub IsStorableCond : Cond → Type 0
IsStorableCond = every-Cond IsStorableTest
