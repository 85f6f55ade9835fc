-- What the definitions come to. Each is proved.
use Rattle.std.specs.Prelude.{◌≡◌, ℕ, Bool, true, List, Option, Some, None}
use Rattle.pt_value.specs.declared.value.Value.{Value}
use Rattle.pt_ast.specs.declared.tree.Cond.{Cond}
use Rattle.pt_ast.specs.declared.table.Column.{Column}
use Rattle.pt_ast.specs.declared.table.TableDef.{TableDef}
use Rattle.pt_ast.specs.declared.database.Spot.{Spot}
use Rattle.pt_expr.specs.Truths.{truth}
use Rattle.pt_place.specs.Place.{is_in_set, place_of}
use Rattle.pt_reach.specs.May.{is_true}
use Rattle.pt_reach.specs.Kept.{AreOfKinds, IsKept}

-- the condition is TRUE of these cells, or there is none
abbrev pub passes : List Column → Option Cond → List Value → Bool
passes columns (Some cond) cells = is_true (truth columns cells cond)
passes columns None cells = true

-- A row that stands in a named spot, and for which the condition is TRUE, stands in a spot that is kept. So nothing is lost where only
-- the kept spots are read. MySQL 5.7 manual, section 22.4, "Partition Pruning".
abbrev pub PruningIsSound : Type 0
PruningIsSound =
    (def : TableDef) (names : List (List ℕ)) (cond : Option Cond) (cells : List Value) (spot : Spot) → AreOfKinds def.columns cells
    → place_of def cells ≡ Some spot → is_in_set def names spot ≡ true → passes def.columns cond cells ≡ true → IsKept def names cond spot
