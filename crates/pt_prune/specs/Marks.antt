-- In the shape of the code: a mark for each part of a level. Nothing public cites these.
use Rattle.std.specs.Prelude.{ℕ, Bool, false, ◌&&◌, List, [], ◌∷◌, map, slice_index_or, slice_set, Option, Some}
use Rattle.pt_value.specs.declared.value.Value.{Value}
use Rattle.pt_value.specs.declared.value.Value.TheVariants.{Null}
use Rattle.pt_ast.specs.declared.tree.Cond.{Cond}
use Rattle.pt_ast.specs.declared.table.Column.{Column}
use Rattle.pt_ast.specs.declared.table.PartBy.{PartBy}
use Rattle.pt_ast.specs.declared.table.PartBy.TheVariants as by
use Rattle.pt_ast.specs.declared.table.PartDef.{PartDef}
use Rattle.pt_ast.specs.Bounds.{value_of}
use Rattle.pt_ast.specs.Ranges.{range_part}
use Rattle.pt_ast.specs.Lists.{list_part}
use Rattle.pt_ast.specs.declared.table.TableDef.{TableDef}
use Rattle.pt_ast.specs.declared.database.Spot.{Spot}
use Rattle.pt_place.specs.Place.{is_in_set, number_of, numbered}
use Rattle.pt_reach.specs.Domains.{is_of_column}
use Rattle.pt_reach.specs.May.{may_hold}

-- the values of a column that a condition leaves
abbrev pub is_left : List Column → ℕ → Option Cond → Value → Bool
is_left columns at cond v = is_of_column columns at v && may_hold columns at cond v

-- a row of NULLs but for the value of one column
abbrev pub row_with : List Column → ℕ → Value → List Value
row_with columns at v = slice_set (map (λ column. Null) columns) at v

-- the part of a level of so many parts; under COLUMNS it isn't asked
abbrev pub placed : List Column → PartBy → List PartDef → ℕ → List Value → Option ℕ
placed columns (by.Range expr) parts count cells = range_part parts (number_of columns expr cells)
placed columns (by.List expr) parts count cells = list_part parts (value_of (number_of columns expr cells) ∷ [])
placed columns kind parts count cells = Some (numbered columns kind count cells)

-- both marks of the spot are set, and it is named
abbrev pub keeps : TableDef → List (List ℕ) → List Bool → List Bool → Spot → Bool
keeps def names parts subs spot = (slice_index_or parts spot.part false && slice_index_or subs spot.sub false) && is_in_set def names spot
