-- CREATE TABLE. MySQL 5.7 manual, section 13.1.18, "CREATE TABLE Syntax".
use Rattle.std.specs.Prelude.{ℕ, Bool, List}
use Rattle.pt_ast.specs.declared.database.Db.{Db}
use Rattle.pt_ast.specs.declared.written.TableSpec.{TableSpec}
use Rattle.pt_written.specs.Complete.{complete_of}
use Rattle.pt_db.specs.Outcome.{Outcome, passed}
use Rattle.pt_flat.specs.Fresh.{where_new, with_fresh}

-- 10, or IF NOT EXISTS; then what is refused of a definition, in the order of its text
abbrev pub create : Bool → Db → List ℕ → TableSpec → Outcome
create if_not db name spec =
    where_new if_not db name
    (passed (complete_of name spec)
    (with_fresh db name))
