-- A session that stands for a database has the definitions and the next serial of its files.
use Rattle.std.proofs.Common.{◌≡◌, ℕ, List, Option, Some, None, Ok, sym, ap, ◌∙◌}
use Rattle.std.specs.Option.{option_map}
use Rattle.pt_host.specs.Disk.{Files}
use Rattle.pt_host.specs.Listed.{FileList, by_name}
use Rattle.pt_names.specs.Names.{def_name}
use Rattle.pt_ast.specs.declared.database.Db.{Db}
use Rattle.pt_ast.specs.declared.database.Table.{Table}
use Rattle.pt_ast.specs.declared.table.TableDef.{TableDef}
use Rattle.pt_defs.specs.Reading.{def_at}
use Rattle.pt_db.specs.Lookup.{table_of}
use Rattle.pt_holds.specs.Holds.{HoldsAt}
use Rattle.pt_session.specs.declared.session.Session.{Session}
use Rattle.pt_session.specs.Session.{IsOver, StandsIn}

-- what the file of a definition spells, where the files of a table or of none are there
pub spelled_def : (files : Files) (name : List ℕ) (table : Option Table) → HoldsAt files name table
    → option_map def_at (files (def_name name)) ≡ option_map Ok (option_map (λ (t : Table). t.def) table)
spelled_def files name None h = ap (option_map def_at) h.defined
spelled_def files name (Some table) h = h.defined

pub stands_over : (session : Session) (map : FileList) (db : Db) → StandsIn session map db → IsOver session (by_name map)
stands_over session map db stands = record {
  defs = λ name is. spelled_def (by_name map) name (table_of db name) (stands.holds.tables name is) ∙ sym (ap (λ (o : Option TableDef). option_map Ok o) (stands.defs.defs name is));
  next = stands.holds.counter ∙ ap (λ (n : ℕ). Ok n) (sym stands.defs.next);
}
