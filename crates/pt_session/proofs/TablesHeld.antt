-- The table of a name, of the database that a session stands for.
use Rattle.std.proofs.Common.{◌≡◌, ℕ, List, Option, Some, None, refl, sym, ap, ◌∙◌, subst}
use Rattle.std.specs.Option.{IfSome, option_map}
use Rattle.pt_host.specs.Listed.{FileList, by_name}
use Rattle.pt_ast.specs.declared.database.Db.{Db}
use Rattle.pt_ast.specs.declared.database.Table.{Table}
use Rattle.pt_ast.specs.declared.table.TableDef.{TableDef}
use Rattle.pt_db.specs.Lookup.{table_of}
use Rattle.pt_holds.specs.Holds.{HoldsAt}
use Rattle.pt_holds.proofs.Held.{ident}
use Rattle.pt_session.specs.declared.session.Session.{Session}
use Rattle.pt_session.specs.Session.{IsKept, IsOpen, StandsIn, def_of}
use Rattle.pt_session.specs.HeldSpots.{HoldsSpots}

module _ (session : Session) (map : FileList) (db : Db) (is_open : IsOpen session) (stands : StandsIn session map db) (name : List ℕ) where
  pub same_def : def_of session name ≡ option_map (λ (table : Table). table.def) (table_of db name)
  same_def = by (def_of session name) (table_of db name) refl refl
    where
      by : (o : Option TableDef) (t : Option Table) → def_of session name ≡ o → table_of db name ≡ t → def_of session name ≡ option_map (λ (table : Table). table.def) (table_of db name)
      by (Some def) t here there = stands.defs.defs name (subst (λ (o : Option TableDef). IfSome o (IsKept name)) here (is_open.defs name)).name_is
      by None (Some table) here there = stands.defs.defs name (ident db stands.holds.sound name table there)
      by None None here there = here ∙ sym (ap (option_map (λ (table : Table). table.def)) there)

  pub absent : def_of session name ≡ None → table_of db name ≡ None
  absent none = by (table_of db name) refl
    where
      by : (t : Option Table) → table_of db name ≡ t → table_of db name ≡ None
      by None there = there
      by (Some table) there = let bad : None ≡ Some table.def = sym none ∙ same_def ∙ ap (option_map (λ (t : Table). t.def)) there in cc

  pub held : (def : TableDef) → def_of session name ≡ Some def → (table : Table) × (table_of db name ≡ Some table) × (table.def ≡ def)
  held def some = by (table_of db name) refl
    where
      by : (t : Option Table) → table_of db name ≡ t → (table : Table) × (table_of db name ≡ Some table) × (table.def ≡ def)
      by None there = let bad : None ≡ Some def = ap (option_map (λ (t : Table). t.def)) (sym there) ∙ sym same_def ∙ some in cc
      by (Some table) there = (table, there, let is : Some table.def ≡ Some def = ap (option_map (λ (t : Table). t.def)) (sym there) ∙ sym same_def ∙ some in cc)

  -- the files of its spots hold its rows
  pub spots_hold : (table : Table) → table_of db name ≡ Some table → HoldsSpots (by_name map) name table.def table.rows
  spots_hold table there = record { each = (subst (HoldsAt (by_name map) name) there (stands.holds.tables name (ident db stands.holds.sound name table there))).rows }
