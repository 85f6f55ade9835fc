-- What a change of a table comes to, where nothing is refused.
use Rattle.std.proofs.Common.{◌≡◌, ℕ, List, Option, Some, None, ap, ◌∙◌}
use Rattle.std.specs.Prelude.{Result, Ok}
use Rattle.pt_ast.specs.declared.database.Db.{Db}
use Rattle.pt_ast.specs.declared.database.Row.{Row}
use Rattle.pt_ast.specs.declared.database.Table.{Table}
use Rattle.pt_ast.specs.declared.refusal.Refusal.{Refusal}
use Rattle.pt_ast.specs.declared.refusal.Refusal.TheVariants as refusal
use Rattle.pt_ast.specs.declared.table.TableDef.{TableDef}
use Rattle.pt_db.specs.Lookup.{table_of}
use Rattle.pt_db.specs.Outcome.{found, passed, refused_by}
use Rattle.pt_altered.specs.Altered.{altered, with_altered}

pub altered_is : (db : Db) (name : List ℕ) (table : Table) → table_of db name ≡ Some table → (change : TableDef → Result TableDef Refusal) (bad : TableDef → TableDef → List Row → Option Refusal)
    (kept : TableDef → List Row → List Row) (def : TableDef) → change table.def ≡ Ok def → bad table.def def table.rows ≡ None
    → altered db name change bad kept ≡ with_altered db name def (kept table.def table.rows)
altered_is db name table at change bad kept def made none =
    ap (λ (o : Option Table). found o (refusal.NoSuchTable name) (λ own. passed (change own.def) (λ later. refused_by (bad own.def later own.rows) (with_altered db name later (kept own.def own.rows))))) at
    ∙ ap (λ (r : Result TableDef Refusal). passed r (λ later. refused_by (bad table.def later table.rows) (with_altered db name later (kept table.def table.rows)))) made
    ∙ ap (λ (o : Option Refusal). refused_by o (with_altered db name def (kept table.def table.rows))) none
