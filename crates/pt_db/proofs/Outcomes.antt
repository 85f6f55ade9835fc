-- What a statement leaves is sound, check by check; and every answer has a byte at least.
use Rattle.std.proofs.Common.{◌≡◌, ℕ, ◌<◌, Bool, true, false, List, ◌++◌, length, Option, Some, None, refl, ap, subst, arith}
use Rattle.std.specs.Prelude.{Result, Ok, Err, codes}
use Rattle.std.specs.Fmt.{decimal}
use Rattle.std.proofs.lemmas.List.{length_push}
use Rattle.pt_ast.specs.declared.database.Db.{Db}
use Rattle.pt_ast.specs.declared.refusal.Refusal.{Refusal}
use Rattle.pt_ast.specs.Refusals.{Listed, listed}
use Rattle.pt_db.specs.Outcome.{Outcome, db_behind, found, passed, refused_by, refused_where}
use Rattle.pt_db.specs.Sound.{IsSound, KeepsSound}
use Rattle.pt_db.specs.Texts.{arg_text, error_text, line, refusal_text}

-- ---- checks in their order

pub refused_keeps : (refusal : Refusal) → KeepsSound (Err refusal)
refused_keeps refusal change is = let bad : Err refusal ≡ Ok change = is in cc

pub changed_keeps : (db : Db) (text : List ℕ) → IsSound db → KeepsSound (Ok (record { db = db; text = text }))
changed_keeps db text sound change is = let same : db ≡ change.db = ap (behind_of db) is in subst IsSound same sound
  where
    behind_of : Db → Outcome → Db
    behind_of old (Ok later) = later.db
    behind_of old (Err refusal) = old

pub where_keeps : (test : Bool) (refusal : Refusal) (next : Outcome) → (test ≡ false → KeepsSound next) → KeepsSound (refused_where test refusal next)
where_keeps true refusal next keeps = refused_keeps refusal
where_keeps false refusal next keeps = keeps refl

pub by_keeps : (check : Option Refusal) (next : Outcome) → (check ≡ None → KeepsSound next) → KeepsSound (refused_by check next)
by_keeps (Some refusal) next keeps = refused_keeps refusal
by_keeps None next keeps = keeps refl

pub found_keeps : {X : Type 0} (o : Option X) (refusal : Refusal) (next : X → Outcome) → ((x : X) → o ≡ Some x → KeepsSound (next x)) → KeepsSound (found o refusal next)
found_keeps None refusal next keeps = refused_keeps refusal
found_keeps (Some x) refusal next keeps = keeps x refl

pub passed_keeps : {X : Type 0} (r : Result X Refusal) (next : X → Outcome) → ((x : X) → r ≡ Ok x → KeepsSound (next x)) → KeepsSound (passed r next)
passed_keeps (Err refusal) next keeps = refused_keeps refusal
passed_keeps (Ok x) next keeps = keeps x refl

-- so the database behind the statement is sound
pub behind_sound : (db : Db) (outcome : Outcome) → IsSound db → KeepsSound outcome → IsSound (db_behind db outcome)
behind_sound db (Ok change) sound keeps = keeps change refl
behind_sound db (Err refusal) sound keeps = sound

-- ---- answers

pub line_some : (text : List ℕ) → 0 < length (line text)
line_some text = omega (arith, length_push text 10)

error_some : (entry : Listed) → 0 < length (error_text entry)
error_some entry = line_some (codes "error " ++ decimal entry.code ++ codes " " ++ entry.name ++ codes " " ++ arg_text entry.arg)

pub refusal_some : (refusal : Refusal) → 0 < length (refusal_text refusal)
refusal_some refusal = error_some (listed refusal)
