-- Which parts of a level a condition reaches. MySQL 5.7 manual, section 22.4, "Partition Pruning".
use Rattle.std.specs.Prelude.{◌≡◌, ℕ, ◌<◌, ◌↔◌, IsTrue, Bool, false, List, length, slice_index_or, Option}
use Rattle.pt_ast.specs.declared.tree.Cond.{Cond}
use Rattle.pt_ast.specs.declared.table.TableDef.{TableDef}
use Rattle.pt_place.specs.Place.{part_of}
use Rattle.pt_reach.specs.Kept.{IsReached}

-- a mark for each of so many parts, which is set exactly where the part is so
pub record AreMarked (total : ℕ) (IsSo : ℕ → Type 0) (marks : List Bool) : Type 0 where
  pub as_many : length marks ≡ total
  pub each : (part : ℕ) → part < total → IsTrue (slice_index_or marks part false) ↔ IsSo part

-- The partitions where some row is placed that the condition leaves. Column c is that of the partitioning.
abbrev pub AreReached : TableDef → ℕ → Option Cond → List Bool → Type 0
AreReached def c cond marks = AreMarked (length def.parts) (IsReached def.columns c cond (part_of def.columns def.by def.parts)) marks
