-- DELETE. MySQL 5.7 manual, section 13.2.2, "DELETE Syntax", and section 22.5, "Partition Selection".
use Rattle.std.specs.Prelude.{ℕ, not, List, filter, length, Option, Ok}
use Rattle.std.specs.List.{list_any}
use Rattle.pt_ast.specs.declared.database.Db.{Db}
use Rattle.pt_ast.specs.declared.database.Row.{Row}
use Rattle.pt_ast.specs.declared.database.Table.{Table}
use Rattle.pt_ast.specs.declared.statement.Tail.{Tail}
use Rattle.pt_ast.specs.declared.refusal.Refusal.TheVariants as refusal
use Rattle.pt_checks.specs.Named.{bad_parts}
use Rattle.pt_checks.specs.Queries.{bad_tail}
use Rattle.pt_checks.specs.Wanted.{candidates}
use Rattle.pt_db.specs.Texts.{count_text}
use Rattle.pt_db.specs.Lookup.{filled, table_of}
use Rattle.pt_db.specs.Outcome.{Outcome, found, refused_by}
use Rattle.pt_db.specs.Rows.{is_numbered}

-- the rows but those of these serials
abbrev pub without_rows : List Row → List Row → List Row
without_rows taken rows = filter (λ row. not (list_any (is_numbered row.serial) taken)) rows

-- the database without these rows of the table, and how many they are
abbrev pub with_deleted_rows : Db → List ℕ → List Row → List Row → Outcome
with_deleted_rows db name rows taken = Ok (record { db = filled db name (without_rows taken rows) db.next; text = count_text (length taken) })

-- 43, 41; WHERE and ORDER BY with 12, 14, 15, 16; then the rows that are wanted go
abbrev pub delete_from : Db → List ℕ → Option (List (List ℕ)) → Tail → Table → Outcome
delete_from db name parts tail table =
    refused_by (bad_parts table.def name parts)
    (refused_by (bad_tail table.def name tail)
    (with_deleted_rows db name table.rows (candidates table.def parts tail table.rows)))

-- 11 first
abbrev pub delete : Db → List ℕ → Option (List (List ℕ)) → Tail → Outcome
delete db name parts tail = found (table_of db name) (refusal.NoSuchTable name) (delete_from db name parts tail)
