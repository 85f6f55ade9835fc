-- DROP PARTITION and TRUNCATE PARTITION. A name may stand twice in the list: it counts once. MySQL 5.7 manual, section 22.3.1,
-- "Management of RANGE and LIST Partitions", and section 22.3.4, "Maintenance of Partitions".
use Rattle.std.specs.Prelude.{ℕ, Bool, not, List, [], ◌∷◌, filter, Option, Some, None, Result}
use Rattle.std.specs.List.{list_all}
use Rattle.pt_ast.specs.declared.table.PartDef.{PartDef}
use Rattle.pt_ast.specs.declared.table.TableDef.{TableDef}
use Rattle.pt_ast.specs.declared.refusal.Refusal.{Refusal}
use Rattle.pt_ast.specs.declared.refusal.Refusal.TheVariants as refusal
use Rattle.pt_place.specs.First.{first_in, first_of, refused_if}
use Rattle.pt_place.specs.Names.{is_among}
use Rattle.pt_written.specs.Complete.{refused_or}
use Rattle.pt_actions.specs.Named.{by_a_number, no_part, not_partitioned, with_parts}

-- the partition's name is one of these
abbrev pub is_named_in : List (List ℕ) → PartDef → Bool
is_named_in names part = is_among part.name names

-- those that aren't named, in their order
abbrev pub parts_left : List (List ℕ) → List PartDef → List PartDef
parts_left names parts = filter (λ part. not (is_named_in names part)) parts

-- what is refused of DROP PARTITION: at last, that no partition would be left
abbrev pub bad_dropped : List ℕ → List (List ℕ) → TableDef → Option Refusal
bad_dropped table names def = first_of (
    not_partitioned table def.by
    ∷ by_a_number table def.by
    ∷ first_in (no_part def.parts) names
    ∷ refused_if (list_all (is_named_in names) def.parts) (refusal.DropAll table)
    ∷ [])

-- The definition without the partitions that are named, or what is refused.
abbrev pub dropped_of : List ℕ → List (List ℕ) → TableDef → Result TableDef Refusal
dropped_of table names def = refused_or (bad_dropped table names def) (with_parts def (parts_left names def.parts))

-- a name that no partition has; ALL names every partition
abbrev pub unknown_part : Option (List (List ℕ)) → List PartDef → Option Refusal
unknown_part None parts = None
unknown_part (Some names) parts = first_in (no_part parts) names

-- What is refused of TRUNCATE PARTITION, which leaves the definition as it is. None stands for ALL.
abbrev pub bad_truncated : List ℕ → Option (List (List ℕ)) → TableDef → Option Refusal
bad_truncated table names def = first_of (
    not_partitioned table def.by
    ∷ unknown_part names def.parts
    ∷ [])
