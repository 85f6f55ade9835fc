-- Statements that leave the database as it is.
use Rattle.std.proofs.Common.{◌≡◌, ℕ, ◌+◌, ◌<◌, List, [], ◌∷◌, ◌++◌, length, take, refl, ap, ◌∙◌, All}
use Rattle.std.proofs.lemmas.List.Elements.{All-head, All-tail}
use Rattle.pt_ast.specs.declared.database.Db.{Db}
use Rattle.pt_plain.proofs.Pairs.{all_right}
use Rattle.pt_reading.specs.declared.reading.Reading.{Reading}
use Rattle.pt_reading.specs.declared.reading.Reading.TheVariants.{Spelled, Syntax, TooDeep, LongName}
use Rattle.pt_reading.specs.Reading.{Reads}
use Rattle.pt_engine.specs.Answers.{AreFirst, ChangesNothing, Rests, after_one, after_all}
use Rattle.pt_engine.proofs.AnswerLemmas.{first_push}

rests_same : (db : Db) (reading : Reading) → Rests db reading → after_one db reading ≡ db
rests_same db (Spelled stmt) rests = rests.0
rests_same db Syntax rests = refl
rests_same db TooDeep rests = refl
rests_same db LongName rests = refl

all_same : (db : Db) (readings : List Reading) → All (Rests db) readings → after_all db readings ≡ db
all_same db [] rest = refl
all_same db (reading ∷ readings) rest =
    ap (λ d. after_all d readings) (rests_same db reading (All-head (Rests db) reading readings rest)) ∙ all_same db readings (All-tail (Rests db) reading readings rest)

-- So does one more, where each of them does.
module _ (db : Db) (statements : List (List ℕ)) (count : ℕ) (readings : List Reading) (first : AreFirst statements count readings) (none : ChangesNothing db statements) where
  pub stays : after_all db readings ≡ db
  stays = all_same db readings (none count readings first)

  pub next_rests : (piece : List ℕ) (reading : Reading) → count < length statements → take (count + 1) statements ≡ take count statements ++ piece ∷ [] → Reads piece reading → Rests db reading
  next_rests piece reading within next reads =
      All-head (Rests db) reading [] (all_right (Rests db) readings (reading ∷ []) (none (count + 1) (readings ++ reading ∷ []) (first_push db statements [] [] count readings first piece reading within next reads)))
