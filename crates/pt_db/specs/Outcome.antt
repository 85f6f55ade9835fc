-- What a statement comes to, and words for its checks in their order.
use Rattle.std.specs.Prelude.{ℕ, Bool, true, false, List, Option, Some, None, Result, Ok, Err}
use Rattle.pt_ast.specs.declared.database.Db.{Db}
use Rattle.pt_ast.specs.declared.refusal.Refusal.{Refusal}
use Rattle.pt_ast.specs.declared.reply.Reply.{Reply}
use Rattle.pt_ast.specs.Refusals.{listed}
use Rattle.pt_db.specs.Texts.{refusal_text}

-- the database that a statement leaves, and what it answers
pub record Change : Type 0 where
  pub db : Db
  pub text : List ℕ

-- A statement changes the database and answers, or it is refused.
abbrev pub Outcome : Type 0
Outcome = Result Change Refusal

-- ---- checks in their order: each word has what comes behind the check as its last part

-- refused where the test holds
abbrev pub refused_where : {X : Type 0} → Bool → Refusal → Result X Refusal → Result X Refusal
refused_where true refusal next = Err refusal
refused_where false refusal next = next

-- refused where a check refuses
abbrev pub refused_by : {X : Type 0} → Option Refusal → Result X Refusal → Result X Refusal
refused_by (Some refusal) next = Err refusal
refused_by None next = next

-- refused where there is no such thing; what comes behind is told of it
abbrev pub found : {X Y : Type 0} → Option X → Refusal → (X → Result Y Refusal) → Result Y Refusal
found None refusal next = Err refusal
found (Some x) refusal next = next x

-- refused where that is refused; what comes behind is told what it came to
abbrev pub passed : {X Y : Type 0} → Result X Refusal → (X → Result Y Refusal) → Result Y Refusal
passed (Err refusal) next = Err refusal
passed (Ok x) next = next x

-- ---- what an outcome leaves and answers

-- The database behind a statement. A refused one leaves it as it is.
abbrev pub db_behind : Db → Outcome → Db
db_behind db (Ok change) = change.db
db_behind db (Err refusal) = db

-- the answer
abbrev pub text_of : Outcome → List ℕ
text_of (Ok change) = change.text
text_of (Err refusal) = refusal_text refusal

-- the code of the refusal, 0 where the statement isn't refused
abbrev pub code_of : Outcome → ℕ
code_of (Ok change) = 0
code_of (Err refusal) = (listed refusal).code

-- both
abbrev pub reply_of : Outcome → Reply
reply_of outcome = record { code = code_of outcome; text = text_of outcome }
