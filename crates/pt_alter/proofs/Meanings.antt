-- What CREATE TABLE, CREATE TABLE LIKE and DROP TABLE mean of a database that a session stands for, by the definitions of the session.
use Rattle.std.proofs.Common.{◌≡◌, ℕ, Bool, true, false, List, [], refl, sym, ap, ◌∙◌}
use Rattle.std.specs.Prelude.{Option, Some, None, is_some, Result, Ok, if◌then◌else◌}
use Rattle.std.specs.Option.{option_map}
use Rattle.pt_value.specs.Ident.{IsIdent}
use Rattle.pt_host.specs.Listed.{FileList}
use Rattle.pt_host.specs.World.{World}
use Rattle.pt_ast.specs.declared.database.Db.{Db}
use Rattle.pt_ast.specs.declared.database.Table.{Table}
use Rattle.pt_ast.specs.declared.refusal.Refusal.{Refusal}
use Rattle.pt_ast.specs.declared.refusal.Refusal.TheVariants as refusal
use Rattle.pt_ast.specs.declared.reply.Reply.{Reply}
use Rattle.pt_ast.specs.declared.table.TableDef.{TableDef}
use Rattle.pt_ast.specs.declared.written.TableSpec.{TableSpec}
use Rattle.pt_written.specs.Complete.{complete_of}
use Rattle.pt_store.specs.Store.{IsStore}
use Rattle.pt_store.proofs.Steps.{no_look}
use Rattle.pt_db.specs.Lookup.{added_to, empty_db, removed_from, table_of}
use Rattle.pt_db.specs.Outcome.{Outcome, found, passed, reply_of}
use Rattle.pt_db.specs.Texts.{ok_text}
use Rattle.pt_db.proofs.Lookups.{table_added, table_removed}
use Rattle.pt_db.proofs.Sounds.{added_sound, removed_sound}
use Rattle.pt_holds.specs.ShapeChanges.{IsCreate, IsCreateOf, IsDropOf}
use Rattle.pt_flat.specs.Create.{create}
use Rattle.pt_flat.specs.DropTable.{drop_table}
use Rattle.pt_flat.specs.Fresh.{nothing_or, with_fresh}
use Rattle.pt_flat.specs.Like.{like}
use Rattle.pt_session.specs.declared.session.Session.{Session}
use Rattle.pt_session.specs.Leaves.{Tells}
use Rattle.pt_session.specs.Session.{StandsIn, def_of}
use Rattle.pt_session.proofs.Telling.{MeansChange, answered_tells, refused_tells}

abbrev def_in : Table → TableDef
def_in table = table.def

same_there : (o : Option Table) → is_some (option_map def_in o) ≡ is_some o
same_there None = refl
same_there (Some table) = refl

pub none_there : {X : Type 0} (o : Option X) → is_some o ≡ false → o ≡ None
none_there None e = refl
none_there (Some x) e = let bad : true ≡ false = e in cc

one_there : {X : Type 0} (o : Option X) → is_some o ≡ true → (x : X) × (o ≡ Some x)
one_there None e = let bad : false ≡ true = e in cc
one_there (Some x) e = (x, refl)

mapped_some : (o : Option Table) (def : TableDef) → Some def ≡ option_map def_in o → (table : Table) × (o ≡ Some table) × (table.def ≡ def)
mapped_some None def e = let bad : Some def ≡ None = e in cc
mapped_some (Some table) def e = let same : def ≡ table.def = cc in (table, refl, sym same)

-- ---- what the session says of the database's tables

module _ (session : Session) (map : FileList) (db : Db) (stands : StandsIn session map db) (name : List ℕ) (ident : IsIdent name) where
  pub there : (b : Bool) → b ≡ is_some (def_of session name) → is_some (table_of db name) ≡ b
  there b is = sym (same_there (table_of db name)) ∙ sym (ap (λ (o : Option TableDef). is_some o) (stands.defs.defs name ident)) ∙ sym is

  pub not_there : def_of session name ≡ None → table_of db name ≡ None
  not_there is = none_there (table_of db name) (there false (sym (ap (λ (o : Option TableDef). is_some o) is)))

  pub held : (def : TableDef) → Some def ≡ def_of session name → (table : Table) × (table_of db name ≡ Some table) × (table.def ≡ def)
  held def is = mapped_some (table_of db name) def (is ∙ stands.defs.defs name ident)

-- ---- where nothing is done

module _ (meaning : Db → Outcome) (session : Session) (map : FileList) (w : World) (is : IsStore session.store map w) where
  -- the statement does nothing, or is refused
  pub nothing_tells : (allows : Bool) (refusal : Refusal) (reply : Reply) → ((db : Db) → StandsIn session map db → meaning db ≡ nothing_or allows db refusal)
      → ((db : Db) → reply ≡ reply_of (nothing_or allows db refusal)) → Tells meaning session session map w w (Ok reply)
  nothing_tells true refusal reply means told = answered_tells meaning session map w w is (no_look session.store map w is) ok_text reply means (told empty_db)
  nothing_tells false refusal reply means told = refused_tells meaning session map w w is (no_look session.store map w is) refusal reply means (told empty_db)

-- ---- meanings, check by check

pub create_there : (if_not : Bool) (db : Db) (name : List ℕ) (spec : TableSpec) → is_some (table_of db name) ≡ true → create if_not db name spec ≡ nothing_or if_not db (refusal.TableExists name)
create_there if_not db name spec is = ap (λ b. if b then nothing_or if_not db (refusal.TableExists name) else passed (complete_of name spec) (with_fresh db name)) is

-- the text decides
pub create_new : (if_not : Bool) (db : Db) (name : List ℕ) (spec : TableSpec) (made : Result TableDef Refusal) → is_some (table_of db name) ≡ false → complete_of name spec ≡ made
    → create if_not db name spec ≡ passed made (with_fresh db name)
create_new if_not db name spec made is of =
    ap (λ b. if b then nothing_or if_not db (refusal.TableExists name) else passed (complete_of name spec) (with_fresh db name)) is
    ∙ ap (λ r. passed r (with_fresh db name)) of

pub like_there : (if_not : Bool) (db : Db) (name other : List ℕ) → is_some (table_of db name) ≡ true → like if_not db name other ≡ nothing_or if_not db (refusal.TableExists name)
like_there if_not db name other is =
    ap (λ b. if b then nothing_or if_not db (refusal.TableExists name) else found (table_of db other) (refusal.NoSuchTable other) (λ (source : Table). with_fresh db name source.def)) is

-- the other table decides
pub like_new : (if_not : Bool) (db : Db) (name other : List ℕ) (source : Option Table) → is_some (table_of db name) ≡ false → table_of db other ≡ source
    → like if_not db name other ≡ found source (refusal.NoSuchTable other) (λ (table : Table). with_fresh db name table.def)
like_new if_not db name other source is of =
    ap (λ b. if b then nothing_or if_not db (refusal.TableExists name) else found (table_of db other) (refusal.NoSuchTable other) (λ (table : Table). with_fresh db name table.def)) is
    ∙ ap (λ o. found o (refusal.NoSuchTable other) (λ (table : Table). with_fresh db name table.def)) of

-- so the table has the definition of the other
pub like_def : (if_not : Bool) (db : Db) (name other : List ℕ) (source : Table) (def : TableDef) → is_some (table_of db name) ≡ false → table_of db other ≡ Some source → source.def ≡ def
    → like if_not db name other ≡ with_fresh db name def
like_def if_not db name other source def is of same = like_new if_not db name other (Some source) is of ∙ ap (λ d. with_fresh db name d) same

pub drop_absent : (if_there : Bool) (db : Db) (name : List ℕ) → is_some (table_of db name) ≡ false → drop_table if_there db name ≡ nothing_or if_there db (refusal.NoSuchTable name)
drop_absent if_there db name is = ap (λ b. if b then Ok (record { db = removed_from db name; text = ok_text }) else nothing_or if_there db (refusal.NoSuchTable name)) is

-- ---- changes

module _ (session : Session) (map : FileList) (db : Db) (stands : StandsIn session map db) (name : List ℕ) (ident : IsIdent name) where
  -- a table without rows comes
  pub fresh_means : (def : TableDef) → IsCreate (def_of session) name def → MeansChange (IsCreateOf name def) db ok_text (with_fresh db name def)
  fresh_means def may = record {
    later = added_to db table;
    is = refl;
    change = record { free = free; is = refl; sound = added_sound db name def stands.holds.sound ident may.storable may.valid };
    differs = λ same. let bad : None ≡ Some table = (sym free ∙ sym (ap (λ (d : Db). table_of d name) same) ∙ table_added table db.tables) in cc;
  }
    where
      table : Table
      table = record { name = name; def = def; rows = [] }

      free : table_of db name ≡ None
      free = not_there session map db stands name ident may.free

  -- the table goes
  pub drop_means : (if_there : Bool) → is_some (def_of session name) ≡ true → MeansChange (IsDropOf name) db ok_text (drop_table if_there db name)
  drop_means if_there is = record {
    later = removed_from db name;
    is = ap (λ b. if b then Ok (record { db = removed_from db name; text = ok_text }) else nothing_or if_there db (refusal.NoSuchTable name)) here;
    change = record { table = at.0; held = at.1; is = refl; sound = removed_sound db name stands.holds.sound };
    differs = λ same. let bad : None ≡ Some at.0 = (sym (table_removed name db.tables) ∙ ap (λ (d : Db). table_of d name) same ∙ at.1) in cc;
  }
    where
      here : is_some (table_of db name) ≡ true
      here = there session map db stands name ident true (sym is)

      at : (table : Table) × (table_of db name ≡ Some table)
      at = one_there (table_of db name) here
