-- REPLACE. MySQL 5.7 manual, section 13.2.8, "REPLACE Syntax": it works like INSERT, but the rows that agree with a new row on a primary key
-- or a unique key are deleted before that one is inserted.
use Rattle.pt_ast.specs.declared.database.Db.{Db}
use Rattle.pt_ast.specs.declared.statement.NewRows.{NewRows}
use Rattle.pt_db.specs.Outcome.{Outcome}
use Rattle.pt_flat.specs.declared.filling.InsertMode.TheVariants as mode
use Rattle.pt_flat.specs.Insert.{insert_rows}

-- as INSERT, but for 19
abbrev pub replace : Db → NewRows → Outcome
replace db new = insert_rows mode.Replace db new
