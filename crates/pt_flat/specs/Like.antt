-- CREATE TABLE .. LIKE. MySQL 5.7 manual, section 13.1.18.3, "CREATE TABLE ... LIKE Syntax": the definition is copied, and no rows.
use Rattle.std.specs.Prelude.{ℕ, Bool, List}
use Rattle.pt_ast.specs.declared.database.Db.{Db}
use Rattle.pt_ast.specs.declared.refusal.Refusal.TheVariants as refusal
use Rattle.pt_db.specs.Lookup.{table_of}
use Rattle.pt_db.specs.Outcome.{Outcome, found}
use Rattle.pt_flat.specs.Fresh.{where_new, with_fresh}

-- 10, or IF NOT EXISTS; then 11 for the other table
abbrev pub like : Bool → Db → List ℕ → List ℕ → Outcome
like if_not db name other =
    where_new if_not db name
    (found (table_of db other) (refusal.NoSuchTable other) (λ source.
    with_fresh db name source.def))
