-- What an exchange comes to, where nothing is refused.
use Rattle.std.proofs.Common.{◌≡◌, ℕ, List, Option, Some, ap, ◌∙◌}
use Rattle.std.specs.Prelude.{Result, Ok}
use Rattle.pt_ast.specs.declared.database.Db.{Db}
use Rattle.pt_ast.specs.declared.database.Spot.{Spot}
use Rattle.pt_ast.specs.declared.database.Table.{Table}
use Rattle.pt_ast.specs.declared.refusal.Refusal.{Refusal}
use Rattle.pt_ast.specs.declared.refusal.Refusal.TheVariants as refusal
use Rattle.pt_db.specs.Lookup.{table_of}
use Rattle.pt_db.specs.Outcome.{found, passed}
use Rattle.pt_exchanged.specs.Exchanged.{exchange, spot_for, swapped}

pub exchange_is : (db : Db) (name part other : List ℕ) (table beside : Table) (spot : Spot) → table_of db name ≡ Some table → table_of db other ≡ Some beside → spot_for name part other table beside ≡ Ok spot
    → exchange db name part other ≡ swapped db name other table beside spot
exchange_is db name part other table beside spot at there is =
    ap (λ (o : Option Table). found o (refusal.NoSuchTable name) (λ a. found (table_of db other) (refusal.NoSuchTable other) (λ b. passed (spot_for name part other a b) (swapped db name other a b)))) at
    ∙ ap (λ (o : Option Table). found o (refusal.NoSuchTable other) (λ b. passed (spot_for name part other table b) (swapped db name other table b))) there
    ∙ ap (λ (r : Result Spot Refusal). passed r (swapped db name other table beside)) is
