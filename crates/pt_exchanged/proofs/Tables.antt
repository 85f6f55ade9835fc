-- What is known of a table that is found in a sound database.
use Rattle.std.proofs.Common.{◌≡◌, ℕ, List, Option, Some, None, sym}
use Rattle.std.specs.Prelude.{IfSome}
use Rattle.pt_ast.specs.declared.database.Db.{Db}
use Rattle.pt_ast.specs.declared.database.Table.{Table}
use Rattle.pt_db.specs.Lookup.{table_of}

pub if_found : (P : Table → Type 0) (db : Db) (name : List ℕ) (found : Option Table) → found ≡ table_of db name → ((table : Table) → table_of db name ≡ Some table → P table) → IfSome found P
if_found P db name (Some table) is each = each table (sym is)
if_found P db name None is each = tt
