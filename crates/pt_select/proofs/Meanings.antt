-- What SELECT and SHOW CREATE TABLE mean of the database that a session stands for.
use Rattle.std.proofs.Common.{◌≡◌, ℕ, List, Option, Some, None, Ok, Err, refl, sym, ap, subst, ◌∙◌}
use Rattle.std.specs.Option.{option_or}
use Rattle.pt_host.specs.Listed.{FileList, by_name}
use Rattle.pt_ast.specs.declared.database.Db.{Db}
use Rattle.pt_ast.specs.declared.database.Row.{Row}
use Rattle.pt_ast.specs.declared.database.Table.{Table}
use Rattle.pt_ast.specs.declared.refusal.Refusal.{Refusal}
use Rattle.pt_ast.specs.declared.refusal.Refusal.TheVariants as refusal
use Rattle.pt_ast.specs.declared.statement.Query.{Query}
use Rattle.pt_ast.specs.declared.table.TableDef.{TableDef}
use Rattle.pt_checks.specs.Named.{bad_parts}
use Rattle.pt_checks.specs.Printed.{select_text}
use Rattle.pt_checks.specs.Queries.{bad_query}
use Rattle.pt_checks.specs.Wanted.{candidates}
use Rattle.pt_show.specs.Show.{shown_table}
use Rattle.pt_db.specs.Lookup.{table_of}
use Rattle.pt_db.specs.Outcome.{Outcome, found, refused_by}
use Rattle.pt_db.specs.Rows.{AreRising}
use Rattle.pt_db.proofs.Sounds.{sound_table}
use Rattle.pt_flat.specs.Select.{select, select_from}
use Rattle.pt_flat.specs.Show.{show}
use Rattle.pt_session.specs.declared.session.Session.{Session}
use Rattle.pt_session.specs.HeldSpots.{HoldsSpots}
use Rattle.pt_session.specs.Session.{IsOpen, StandsIn, def_of}
use Rattle.pt_session.proofs.TablesHeld.{absent, held, spots_hold}

-- ---- SHOW CREATE TABLE

abbrev shown : Db → List ℕ → Table → Outcome
shown db name table = Ok (record { db = db; text = shown_table name table.def })

module _ (session : Session) (map : FileList) (opened : IsOpen session) (name : List ℕ) where
  pub show_refused : def_of session name ≡ None → (db : Db) → StandsIn session map db → show db name ≡ Err (refusal.NoSuchTable name)
  show_refused none db stands =
      ap (λ (o : Option Table). found o (refusal.NoSuchTable name) (shown db name)) (absent session map db opened stands name none)

  pub show_answered : (def : TableDef) → def_of session name ≡ Some def → (db : Db) → StandsIn session map db → show db name ≡ Ok (record { db = db; text = shown_table name def })
  show_answered def some db stands =
      let h = held session map db opened stands name def some in
      ap (λ (o : Option Table). found o (refusal.NoSuchTable name) (shown db name)) h.1
      ∙ ap (λ (d : TableDef). Ok (record { db = db; text = shown_table name d })) h.2

-- ---- SELECT

refused_both : (a b : Option Refusal) (next : Outcome) → refused_by a (refused_by b next) ≡ refused_by (option_or a b) next
refused_both (Some r) b next = refl
refused_both None b next = refl

module _ (session : Session) (map : FileList) (opened : IsOpen session) (query : Query) where
  pub select_absent : def_of session query.table ≡ None → (db : Db) → StandsIn session map db → select db query ≡ Err (refusal.NoSuchTable query.table)
  select_absent none db stands = ap (λ (o : Option Table). found o (refusal.NoSuchTable query.table) (select_from db query)) (absent session map db opened stands query.table none)

  module _ (def : TableDef) (some : def_of session query.table ≡ Some def) where
    -- what it means of a database, by the refusals of its definition
    means : (db : Db) (stands : StandsIn session map db) → (table : Table) × (table_of db query.table ≡ Some table) × (table.def ≡ def)
        × (select db query ≡ refused_by (option_or (bad_parts def query.table query.parts) (bad_query def query))
        (Ok (record { db = db; text = select_text def.columns query.items (candidates def query.parts query.tail table.rows) })))
    means db stands =
        let h = held session map db opened stands query.table def some in (
          h.0,
          h.1,
          h.2,
          ap (λ (o : Option Table). found o (refusal.NoSuchTable query.table) (select_from db query)) h.1
              ∙ ap (λ (d : TableDef). refused_by (bad_parts d query.table query.parts) (refused_by (bad_query d query)
              (Ok (record { db = db; text = select_text d.columns query.items (candidates d query.parts query.tail h.0.rows) })))) h.2
              ∙ refused_both (bad_parts def query.table query.parts) (bad_query def query) (Ok (record { db = db; text = select_text def.columns query.items (candidates def query.parts query.tail h.0.rows) })),
        )

    pub select_refused : (r : Refusal) → option_or (bad_parts def query.table query.parts) (bad_query def query) ≡ Some r → (db : Db) → StandsIn session map db → select db query ≡ Err r
    select_refused r is db stands =
        let m = means db stands in
        m.3 ∙ ap (λ (o : Option Refusal). refused_by o (Ok (record { db = db; text = select_text def.columns query.items (candidates def query.parts query.tail m.0.rows) }))) is

    pub select_answered : (taken : List Row) → option_or (bad_parts def query.table query.parts) (bad_query def query) ≡ None
        → ((all : List Row) → AreRising all → HoldsSpots (by_name map) query.table def all → taken ≡ candidates def query.parts query.tail all)
        → (db : Db) → StandsIn session map db → select db query ≡ Ok (record { db = db; text = select_text def.columns query.items taken })
    select_answered taken none read db stands =
        let m = means db stands in
        let sound = sound_table db stands.holds.sound query.table m.0 m.1 in
        let hold : HoldsSpots (by_name map) query.table def m.0.rows = subst (λ (d : TableDef). HoldsSpots (by_name map) query.table d m.0.rows) m.2 (spots_hold session map db opened stands query.table m.0 m.1) in
        m.3
        ∙ ap (λ (o : Option Refusal). refused_by o (Ok (record { db = db; text = select_text def.columns query.items (candidates def query.parts query.tail m.0.rows) }))) none
        ∙ ap (λ (all : List Row). Ok (record { db = db; text = select_text def.columns query.items all })) (sym (read m.0.rows sound.rows.rising hold))
