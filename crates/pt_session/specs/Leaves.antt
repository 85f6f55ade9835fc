-- What calls and statements leave of the database that a session stands for.
use Rattle.std.specs.Prelude.{◌≡◌, ◌⊎◌, ℕ, List, Result, Err, IfOk, OnOk}
use Rattle.std.specs.Str.{bytes_eq}
use Rattle.indexmap.specs.IndexMap.{insert_entry}
use Rattle.pt_host.specs.Listed.{FileList, by_name}
use Rattle.pt_host.specs.World.{World, OnlyLooks}
use Rattle.pt_ast.specs.declared.database.Db.{Db}
use Rattle.pt_ast.specs.declared.database.Row.{Row}
use Rattle.pt_ast.specs.declared.database.Spot.{Spot}
use Rattle.pt_ast.specs.declared.refusal.Refusal.{Refusal}
use Rattle.pt_ast.specs.declared.reply.Reply.{Reply}
use Rattle.pt_ast.specs.declared.table.TableDef.{TableDef}
use Rattle.pt_store.specs.declared.stop.Stop.{Stop}
use Rattle.pt_store.specs.Stops.{ByStop, IfBad}
use Rattle.pt_db.specs.Outcome.{Outcome, db_behind, reply_of}
use Rattle.pt_store.specs.Step.{IsStep}
use Rattle.pt_store.specs.Store.{IsStore}
use Rattle.pt_holds.specs.Acts.{HasGiven}
use Rattle.pt_holds.specs.Bad.{Bad}
use Rattle.pt_holds.specs.Holds.{Holds}
use Rattle.pt_session.specs.declared.session.Session.{Session}
use Rattle.pt_session.specs.Session.{HasDefs, IsOver, IsOverAfter, StandsIn, tables_of}

-- What a call leaves whose success makes a later database of this one: the other map that an image may stand for is the old one,
-- or holds the later database; after Ok it does; and unless the disk failed the session has the definitions of one of the two.
pub record Leaves {T : Type 0} (after : Session) (map next : FileList) (db later : Db) (result : Result T Stop) : Type 0 where
  pub between : (next ≡ map) ⊎ Holds (by_name next) later
  pub holds : OnOk result (Holds (by_name next) later)
  pub defs : ByStop result (HasDefs after later) (HasDefs after db) (Unit {0})

-- What stands after Ok where a table got another definition: it kept its place among the tables, and the file of each spot whose rows
-- were given has their puts and nothing else.
pub record HasAltered (tells : Type 0) (before after : Session) (w : World) (name : List ℕ) (def : TableDef) (fresh : List (Spot × List Row)) : Type 0 where
  pub place : tables_of after ≡ insert_entry bytes_eq (tables_of before) name def
  pub given : tells → (map : FileList) → IsStore after.store map w → HasGiven (by_name map) name def fresh

-- What the execution of a statement leaves and answers, where the session stands for this database and the statement's meaning is
-- this outcome.
pub record Executes (after : Session) (map next : FileList) (db : Db) (outcome : Outcome) (result : Result Reply Stop) : Type 0 where
  pub leaves : Leaves after map next db (db_behind db outcome) result
  pub reply : IfOk result (λ reply. reply ≡ reply_of outcome)
  pub not_bad : IfBad result (λ name place. ⊥)

-- What the execution of a statement with this meaning tells, where the store stood for this map. At every moment each image stands for
-- the map or the next one. Of a database that the map holds it leaves and answers what the statement means; a statement that leaves the
-- database as it is changes neither files nor session. A bad file is one of the map's.
pub record Tells (meaning : Db → Outcome) (before after : Session) (map : FileList) (old new : World) (result : Result Reply Stop) : Type 0 where
  pub next : FileList
  pub step : IsStep after.store map next old new result
  pub over : IsOver before (by_name map) → IsOverAfter after map next result
  pub executes : (db : Db) → StandsIn before map db → Executes after map next db (meaning db) result
  pub idle : (db : Db) → StandsIn before map db → db_behind db (meaning db) ≡ db → OnlyLooks old new × (after ≡ before)
  pub bad : IsOver before (by_name map) → IfBad result (λ name place. Bad (by_name map) name place)

-- What the execution of an ALTER tells. Such a statement may write though it leaves the database as it is: whether a partition that goes has
-- rows is nothing that it looks at. A refusal changes neither files nor session; all else is as in Tells.
pub record TellsAlter (meaning : Db → Outcome) (before after : Session) (map : FileList) (old new : World) (result : Result Reply Stop) : Type 0 where
  pub next : FileList
  pub step : IsStep after.store map next old new result
  pub over : IsOver before (by_name map) → IsOverAfter after map next result
  pub executes : (db : Db) → StandsIn before map db → Executes after map next db (meaning db) result
  pub refused : (db : Db) → StandsIn before map db → (refusal : Refusal) → meaning db ≡ Err refusal → OnlyLooks old new × (after ≡ before)
  pub bad : IsOver before (by_name map) → IfBad result (λ name place. Bad (by_name map) name place)
