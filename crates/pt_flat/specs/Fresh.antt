-- Tables that are there, or new.
use Rattle.std.specs.Prelude.{ℕ, Bool, List, [], is_some, Ok, Err, if◌then◌else◌}
use Rattle.pt_ast.specs.declared.database.Db.{Db}
use Rattle.pt_ast.specs.declared.table.TableDef.{TableDef}
use Rattle.pt_ast.specs.declared.refusal.Refusal.{Refusal}
use Rattle.pt_ast.specs.declared.refusal.Refusal.TheVariants as refusal
use Rattle.pt_db.specs.Texts.{ok_text}
use Rattle.pt_db.specs.Lookup.{added_to, table_of}
use Rattle.pt_db.specs.Outcome.{Outcome}

-- `ok`, and nothing is done
abbrev pub nothing_done : Db → Outcome
nothing_done db = Ok (record { db = db; text = ok_text })

-- `ok`, and a table without rows is there
abbrev pub with_fresh : Db → List ℕ → TableDef → Outcome
with_fresh db name def = Ok (record { db = added_to db (record { name = name; def = def; rows = [] }); text = ok_text })

-- nothing is done where the statement allows for that, else it is refused
abbrev pub nothing_or : Bool → Db → Refusal → Outcome
nothing_or allowed db refusal = if allowed then nothing_done db else Err refusal

-- 10 where a table of this name is there; with IF NOT EXISTS nothing is done then, and nothing else is looked at
abbrev pub where_new : Bool → Db → List ℕ → Outcome → Outcome
where_new if_not db name next = if is_some (table_of db name) then nothing_or if_not db (refusal.TableExists name) else next

-- 11 where there is no table of this name; with IF EXISTS nothing is done then
abbrev pub where_there : Bool → Db → List ℕ → Outcome → Outcome
where_there if_there db name next = if is_some (table_of db name) then next else nothing_or if_there db (refusal.NoSuchTable name)
