-- The answers to the statements of a script, and the database after them.
use Rattle.std.specs.Prelude.{◌≡◌, ℕ, ◌+◌, ◌-◌, ◌≤◌, Bool, true, false, List, [], ◌∷◌, ◌++◌, length, take, All, IsErr}
use Rattle.pt_ast.specs.declared.database.Db.{Db}
use Rattle.pt_ast.specs.declared.refusal.Refusal.TheVariants as refusal
use Rattle.pt_ast.specs.declared.statement.Stmt.{Stmt}
use Rattle.pt_ast.specs.declared.statement.Stmt.TheVariants as stmt
use Rattle.pt_db.specs.Texts.{refusal_text}
use Rattle.pt_reading.specs.declared.reading.Reading.{Reading}
use Rattle.pt_reading.specs.declared.reading.Reading.TheVariants.{Spelled, Syntax, TooDeep, LongName}
use Rattle.pt_reading.specs.Reading.{Reads}
use Rattle.pt_flat.specs.Step.{after, answer, step}

-- what each statement of a list is read as
abbrev pub AreRead : List (List ℕ) → List Reading → Type 0
AreRead [] [] = Unit {0}
AreRead (piece ∷ pieces) (reading ∷ readings) = Reads piece reading × AreRead pieces readings
AreRead [] (reading ∷ readings) = ⊥
AreRead (piece ∷ pieces) [] = ⊥

-- The database after one statement. One that isn't spelled leaves it as it is.
abbrev pub after_one : Db → Reading → Db
after_one db (Spelled stmt) = after db stmt
after_one db _ = db

-- The answer to the statement of this number. One that isn't spelled is refused, and told by its number.
abbrev pub answer_to : Db → ℕ → Reading → List ℕ
answer_to db number (Spelled stmt) = (answer db stmt).text
answer_to db number Syntax = refusal_text (refusal.Syntax number)
answer_to db number TooDeep = refusal_text (refusal.TooDeep number)
answer_to db number LongName = refusal_text (refusal.LongName number)

-- the database after statements, in their order
abbrev pub after_all : Db → List Reading → Db
after_all db [] = db
after_all db (reading ∷ readings) = after_all (after_one db reading) readings

-- The answers to statements one after the other. The first has this number.
abbrev pub answers : Db → ℕ → List Reading → List ℕ
answers db number [] = []
answers db number (reading ∷ readings) = answer_to db number reading ++ answers (after_one db reading) (number + 1) readings

-- the front of the whole, or all of it
pub record IsPrefix (front whole : List ℕ) : Type 0 where
  pub rest : List ℕ
  pub is : whole ≡ front ++ rest

-- These are the readings of the first k statements.
pub record AreFirst (statements : List (List ℕ)) (k : ℕ) (readings : List Reading) : Type 0 where
  pub within : k ≤ length statements
  pub read : AreRead (take k statements) readings

-- ALTER TABLE, with any of its actions
abbrev pub is_alteration : Stmt → Bool
is_alteration (stmt.AddParts table parts) = true
is_alteration (stmt.AddCount table count) = true
is_alteration (stmt.DropParts table names) = true
is_alteration (stmt.Truncate table names) = true
is_alteration (stmt.Coalesce table count) = true
is_alteration (stmt.Reorganize table names parts) = true
is_alteration (stmt.Exchange table part other) = true
is_alteration (stmt.RemoveParts table) = true
is_alteration (stmt.PartitionBy table spec) = true
is_alteration _ = false

-- One statement leaves this database as it is, and an ALTER TABLE is refused. (Whether partitions have rows is nothing that ALTER TABLE looks at:
-- it may write what is there already.)
abbrev pub Rests : Db → Reading → Type 0
Rests db (Spelled stmt) = (after db stmt ≡ db) × (is_alteration stmt ≡ true → IsErr (step db stmt))
Rests db _ = Unit {0}

-- Each of the statements does so, however many of them are read.
abbrev pub ChangesNothing : Db → List (List ℕ) → Type 0
ChangesNothing db statements = (k : ℕ) (readings : List Reading) → AreFirst statements k readings → All (Rests db) readings

-- What is held, in the sense of Held, is the database after the first k statements of a script that begins with this one.
pub record HoldsAfter (Held : Db → Type 0) (db : Db) (statements : List (List ℕ)) (k : ℕ) : Type 0 where
  pub readings : List Reading
  pub first : AreFirst statements k readings
  pub held : Held (after_all db readings)

-- The answers to the first k statements are said whole, and nothing else.
pub record SaysWhole (db : Db) (statements : List (List ℕ)) (before said : List ℕ) (k : ℕ) : Type 0 where
  pub readings : List Reading
  pub first : AreFirst statements k readings
  pub is : said ≡ before ++ answers db 1 readings

-- The answers to the first k - 1 statements are said whole, and nothing is said past the k-th's.
pub record SaysUpTo (db : Db) (statements : List (List ℕ)) (before said : List ℕ) (k : ℕ) : Type 0 where
  pub readings : List Reading
  pub first : AreFirst statements k readings
  pub whole : IsPrefix (before ++ answers db 1 (take (k - 1) readings)) said
  pub no_more : IsPrefix said (before ++ answers db 1 readings)
