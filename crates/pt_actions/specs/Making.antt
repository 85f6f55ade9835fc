-- In the shape of the code: the partitions that ADD PARTITION PARTITIONS adds, whose names are asked as they are made. Nothing public
-- cites these.
use Rattle.std.specs.Prelude.{ℕ, List, map, length, Result, Ok, Err}
use Rattle.std.specs.List.{range_with_len}
use Rattle.pt_ast.specs.declared.table.PartDef.{PartDef}
use Rattle.pt_ast.specs.declared.table.TableDef.{TableDef}
use Rattle.pt_ast.specs.declared.refusal.Refusal.{Refusal}
use Rattle.pt_place.specs.Checks.{name_twice, part_names}
use Rattle.pt_place.specs.First.{in_turn_from}
use Rattle.pt_written.specs.Complete.{refused_or}
use Rattle.pt_actions.specs.Counted.{number_name, parts_more}
use Rattle.pt_actions.specs.Named.{with_parts}

-- the names of the old ones differ already: the new names alone are asked
abbrev pub with_numbered_of : ℕ → TableDef → Result TableDef Refusal
with_numbered_of more def =
    refused_or (in_turn_from name_twice (part_names def.parts) (map number_name (range_with_len (length def.parts) more))) (with_parts def (parts_more more def.parts))

-- the definition with the partitions that were given, or what was refused of them
abbrev pub with_given : TableDef → Result (List PartDef) Refusal → Result TableDef Refusal
with_given def (Ok parts) = Ok (with_parts def parts)
with_given def (Err refusal) = Err refusal
