-- The database behind an exchange, from what the code made of the rows.
use Rattle.std.proofs.Common.{◌≡◌, ℕ, List, Some, sym, ap, ap₂, ◌∙◌}
use Rattle.std.specs.Prelude.{Ok}
use Rattle.pt_ast.specs.declared.database.Db.{Db}
use Rattle.pt_ast.specs.declared.database.Row.{Row}
use Rattle.pt_ast.specs.declared.database.Spot.{Spot}
use Rattle.pt_ast.specs.declared.database.Table.{Table}
use Rattle.pt_db.specs.Lookup.{filled, table_of}
use Rattle.pt_db.specs.Outcome.{db_behind}
use Rattle.pt_db.specs.Rows.{spot_rows}
use Rattle.pt_exchanged.specs.Exchanged.{exchange, exchanged_rows, spot_for}
use Rattle.pt_exchanged.proofs.Means.{exchange_is}

pub exchange_leaves : (db : Db) (name part other : List ℕ) (table beside : Table) (spot : Spot) (rows goes : List Row) → table_of db name ≡ Some table → table_of db other ≡ Some beside
    → spot_for name part other table beside ≡ Ok spot → rows ≡ exchanged_rows table.def spot table.rows beside.rows → goes ≡ spot_rows table.def spot table.rows
    → filled (filled db name rows db.next) other goes db.next ≡ db_behind db (exchange db name part other)
exchange_leaves db name part other table beside spot rows goes at there is made left =
    ap₂ (λ (xs ys : List Row). filled (filled db name xs db.next) other ys db.next) made left
    ∙ sym (ap (db_behind db) (exchange_is db name part other table beside spot at there is))
