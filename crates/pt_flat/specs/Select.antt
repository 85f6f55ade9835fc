-- SELECT. MySQL 5.7 manual, section 13.2.9, "SELECT Syntax", and section 22.5, "Partition Selection".
use Rattle.std.specs.Prelude.{Ok}
use Rattle.pt_ast.specs.declared.database.Db.{Db}
use Rattle.pt_ast.specs.declared.database.Table.{Table}
use Rattle.pt_ast.specs.declared.statement.Query.{Query}
use Rattle.pt_ast.specs.declared.refusal.Refusal.TheVariants as refusal
use Rattle.pt_checks.specs.Named.{bad_parts}
use Rattle.pt_checks.specs.Queries.{bad_query}
use Rattle.pt_checks.specs.Wanted.{candidates}
use Rattle.pt_checks.specs.Printed.{select_text}
use Rattle.pt_db.specs.Lookup.{table_of}
use Rattle.pt_db.specs.Outcome.{Outcome, found, refused_by}

-- 43, 41; the expressions, WHERE and ORDER BY with 12, 14, 15, 16; then a line for each row that is wanted, and their number
abbrev pub select_from : Db → Query → Table → Outcome
select_from db query table =
    refused_by (bad_parts table.def query.table query.parts)
    (refused_by (bad_query table.def query)
    (Ok (record { db = db; text = select_text table.def.columns query.items (candidates table.def query.parts query.tail table.rows) })))

-- 11 first
abbrev pub select : Db → Query → Outcome
select db query = found (table_of db query.table) (refusal.NoSuchTable query.table) (select_from db query)
