-- REMOVE PARTITIONING and PARTITION BY: columns and keys stay. MySQL 5.7 manual, section 22.3, "Partition Management".
use Rattle.std.specs.Prelude.{ℕ, List, Some, None, Result}
use Rattle.pt_ast.specs.declared.written.PartSpec.{PartSpec}
use Rattle.pt_ast.specs.declared.table.TableDef.{TableDef}
use Rattle.pt_ast.specs.declared.refusal.Refusal.{Refusal}
use Rattle.pt_written.specs.Complete.{bad_spec, partitioned, refused_or}
use Rattle.pt_actions.specs.Named.{not_partitioned}

-- The definition without partitions, or that it has none.
abbrev pub unpartitioned_of : List ℕ → TableDef → Result TableDef Refusal
unpartitioned_of table def = refused_or (not_partitioned table def.by) (partitioned def.columns def.keys None)

-- The definition partitioned so, as CREATE TABLE would of these columns and keys; or what is refused of the partitioning.
abbrev pub repartitioned_of : List ℕ → PartSpec → TableDef → Result TableDef Refusal
repartitioned_of table spec def = refused_or (bad_spec table def.columns def.keys spec) (partitioned def.columns def.keys (Some spec))
