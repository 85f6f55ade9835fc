-- ALTER TABLE with the actions that change one table's partitions. EXCHANGE PARTITION, of two tables, stands by itself.
use Rattle.std.specs.Prelude.{Bool, true, false, Ok}
use Rattle.pt_ast.specs.declared.database.Db.{Db}
use Rattle.pt_ast.specs.declared.statement.Stmt.{Stmt}
use Rattle.pt_ast.specs.declared.statement.Stmt.TheVariants as stmt
use Rattle.pt_db.specs.Outcome.{Outcome}
use Rattle.pt_db.specs.Texts.{ok_text}
use Rattle.pt_altered.specs.Actions.{add_count, add_parts, coalesce, drop_parts, partition_by, remove_parts, reorganize, truncate}

-- the statement is one of these
abbrev pub is_altering : Stmt → Bool
is_altering (stmt.AddParts table parts) = true
is_altering (stmt.AddCount table count) = true
is_altering (stmt.DropParts table names) = true
is_altering (stmt.Truncate table names) = true
is_altering (stmt.Coalesce table count) = true
is_altering (stmt.Reorganize table names parts) = true
is_altering (stmt.RemoveParts table) = true
is_altering (stmt.PartitionBy table spec) = true
is_altering _ = false

-- What it comes to. Another statement does nothing here.
abbrev pub alter : Db → Stmt → Outcome
alter db (stmt.AddParts table parts) = add_parts db table parts
alter db (stmt.AddCount table count) = add_count db table count
alter db (stmt.DropParts table names) = drop_parts db table names
alter db (stmt.Truncate table names) = truncate db table names
alter db (stmt.Coalesce table count) = coalesce db table count
alter db (stmt.Reorganize table names parts) = reorganize db table names parts
alter db (stmt.RemoveParts table) = remove_parts db table
alter db (stmt.PartitionBy table spec) = partition_by db table spec
alter db _ = Ok (record { db = db; text = ok_text })
