-- SHOW CREATE TABLE. MySQL 5.7 manual, section 13.7.5.10, "SHOW CREATE TABLE Syntax".
use Rattle.std.specs.Prelude.{ℕ, List, Ok}
use Rattle.pt_ast.specs.declared.database.Db.{Db}
use Rattle.pt_ast.specs.declared.refusal.Refusal.TheVariants as refusal
use Rattle.pt_show.specs.Show.{shown_table}
use Rattle.pt_db.specs.Lookup.{table_of}
use Rattle.pt_db.specs.Outcome.{Outcome, found}

-- 11; then the text of the definition
abbrev pub show : Db → List ℕ → Outcome
show db name =
    found (table_of db name) (refusal.NoSuchTable name) (λ table.
    Ok (record { db = db; text = shown_table name table.def }))
