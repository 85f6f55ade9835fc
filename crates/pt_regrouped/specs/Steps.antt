-- In the shape of the code: the checks piece by piece. Nothing public cites these.
use Rattle.std.specs.Prelude.{ℕ, ◌+◌, ◌*◌, List, [], ◌∷◌, map, length, Option}
use Rattle.std.specs.List.{flat_map}
use Rattle.pt_ast.specs.declared.written.PartItem.{PartItem}
use Rattle.pt_ast.specs.declared.table.PartDef.{PartDef}
use Rattle.pt_ast.specs.declared.table.TableDef.{TableDef}
use Rattle.pt_ast.specs.declared.refusal.Refusal.{Refusal}
use Rattle.pt_place.specs.Checks.{bad_bounds, too_many}
use Rattle.pt_place.specs.First.{first_in, first_of, in_turn_from}
use Rattle.pt_written.specs.Complete.{bad_name, bad_names, named_in}
use Rattle.pt_regrouped.specs.NewParts.{bad_new, leaves_each, new_part, other_new_subs, parts_among}
use Rattle.pt_regrouped.specs.Regrouped.{behind_of, front_of, group_of, not_adjacent, range_changed}

-- how many there are, the old ones beside the new
abbrev pub bad_new_counts : TableDef → List PartDef → List PartItem → List PartDef → Option Refusal
bad_new_counts def front items behind = first_of (
    too_many ((length front + length items + length behind) * leaves_each def)
    ∷ first_in (other_new_subs def items) items
    ∷ [])

-- a partition without its subpartitions
abbrev pub bare : PartDef → PartDef
bare part = record { name = part.name; bounds = part.bounds; subs = [] }

-- the names of these partitions, beside those of the partitions before them
abbrev pub bad_names_behind : List PartDef → List PartDef → Option Refusal
bad_names_behind before parts = in_turn_from bad_name (flat_map named_in before) (flat_map named_in parts)

-- bounds, and then names
abbrev pub bad_bounds_or_names : TableDef → List PartDef → List PartItem → List PartDef → Option Refusal
bad_bounds_or_names def front items behind = first_of (
    bad_bounds def.by (parts_among def front items behind)
    ∷ bad_names (parts_among def front items behind)
    ∷ [])

-- ---- REORGANIZE PARTITION, of partitions that are there

abbrev pub bad_replacing : List ℕ → List (List ℕ) → List PartItem → TableDef → Option Refusal
bad_replacing table names items def = first_of (
    not_adjacent table names def.parts
    ∷ bad_new table def (front_of names def.parts) items (behind_of names def.parts)
    ∷ range_changed table def.by (group_of names def.parts) (map (new_part def) items) (behind_of names def.parts)
    ∷ [])
