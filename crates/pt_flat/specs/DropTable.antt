-- DROP TABLE. MySQL 5.7 manual, section 13.1.29, "DROP TABLE Syntax".
use Rattle.std.specs.Prelude.{ℕ, Bool, List, Ok}
use Rattle.pt_ast.specs.declared.database.Db.{Db}
use Rattle.pt_db.specs.Texts.{ok_text}
use Rattle.pt_db.specs.Lookup.{removed_from}
use Rattle.pt_db.specs.Outcome.{Outcome}
use Rattle.pt_flat.specs.Fresh.{where_there}

-- 11, or IF EXISTS; then `ok`, and the table is gone with its rows
abbrev pub drop_table : Bool → Db → List ℕ → Outcome
drop_table if_there db name =
    where_there if_there db name
    (Ok (record { db = removed_from db name; text = ok_text }))
