-- The actions of ALTER TABLE on partitions. MySQL 5.7 manual, section 13.1.8.1, "ALTER TABLE Partition Operations", and section 22.3.1,
-- "Management of RANGE and LIST Partitions", with 22.3.2, "Management of HASH and KEY Partitions".
use Rattle.std.specs.Prelude.{ℕ, ℤ, unsigned_abs, List, Option, Some, Result}
use Rattle.pt_ast.specs.declared.database.Db.{Db}
use Rattle.pt_ast.specs.declared.written.PartItem.{PartItem}
use Rattle.pt_ast.specs.declared.written.PartSpec.{PartSpec}
use Rattle.pt_ast.specs.declared.refusal.Refusal.{Refusal}
use Rattle.pt_ast.specs.declared.table.TableDef.{TableDef}
use Rattle.pt_written.specs.Complete.{refused_or}
use Rattle.pt_actions.specs.Dropped.{bad_truncated, dropped_of}
use Rattle.pt_actions.specs.Counted.{coalesced_of, with_more_of}
use Rattle.pt_actions.specs.Repartitioned.{repartitioned_of, unpartitioned_of}
use Rattle.pt_regrouped.specs.Regrouped.{added_of, regrouped_of}
use Rattle.pt_db.specs.Outcome.{Outcome}
use Rattle.pt_altered.specs.Altered.{all_rows, altered, any_unplaced, named_unplaced, none_unplaced, rows_out}

-- ADD PARTITION with definitions: every row stays where it is
abbrev pub add_parts : Db → List ℕ → List PartItem → Outcome
add_parts db name items = altered db name (added_of name items) none_unplaced all_rows

-- ADD PARTITION PARTITIONS n
abbrev pub add_count : Db → List ℕ → ℤ → Outcome
add_count db name count = altered db name (with_more_of name (unsigned_abs count)) none_unplaced all_rows

-- DROP PARTITION: the rows go with their partitions
abbrev pub drop_parts : Db → List ℕ → List (List ℕ) → Outcome
drop_parts db name names = altered db name (dropped_of name names) none_unplaced (rows_out (Some names))

-- a definition stays as it is, where nothing is refused of the names
abbrev pub truncated_of : List ℕ → Option (List (List ℕ)) → TableDef → Result TableDef Refusal
truncated_of name parts def = refused_or (bad_truncated name parts def) def

-- TRUNCATE PARTITION: the rows go, the partitions stay
abbrev pub truncate : Db → List ℕ → Option (List (List ℕ)) → Outcome
truncate db name parts = altered db name (truncated_of name parts) none_unplaced (rows_out parts)

-- COALESCE PARTITION n
abbrev pub coalesce : Db → List ℕ → ℤ → Outcome
coalesce db name count = altered db name (coalesced_of name (unsigned_abs count)) none_unplaced all_rows

-- REORGANIZE PARTITION: no row is lost; 40 for the first row of the named partitions that has no place any more
abbrev pub reorganize : Db → List ℕ → List (List ℕ) → List PartItem → Outcome
reorganize db name names items = altered db name (regrouped_of name names items) (named_unplaced names) all_rows

-- REMOVE PARTITIONING
abbrev pub remove_parts : Db → List ℕ → Outcome
remove_parts db name = altered db name (unpartitioned_of name) none_unplaced all_rows

-- PARTITION BY: 40 for the first row of the table that has no place
abbrev pub partition_by : Db → List ℕ → PartSpec → Outcome
partition_by db name spec = altered db name (repartitioned_of name spec) any_unplaced all_rows
