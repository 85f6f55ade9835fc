-- One statement more.
use Rattle.std.proofs.Common.{◌≡◌, ℕ, suc, ◌+◌, ◌-◌, ◌<◌, List, [], ◌∷◌, ◌++◌, length, take, drop, refl, ap, ◌∙◌, sym, arith, append_assoc, take-append-drop}
use Rattle.std.proofs.lemmas.Grind.{common_steps}
use Rattle.std.proofs.lemmas.List.{append-nil}
use Rattle.pt_reading.specs.declared.reading.Reading.{Reading}
use Rattle.pt_ast.specs.declared.database.Db.{Db}
use Rattle.pt_reading.specs.Reading.{Reads}
use Rattle.pt_engine.specs.Answers.{AreRead, after_one, answer_to, after_all, answers, IsPrefix, AreFirst, HoldsAfter, SaysWhole, SaysUpTo}

pub length-read : (pieces : List (List ℕ)) (readings : List Reading) → AreRead pieces readings → length readings ≡ length pieces
length-read [] [] read = refl
length-read [] (reading ∷ readings) read = absurd read
length-read (piece ∷ pieces) [] read = absurd read
length-read (piece ∷ pieces) (reading ∷ readings) read = ap suc (length-read pieces readings read.1)

pub read-append : (pieces : List (List ℕ)) (readings : List Reading) (piece : List ℕ) (reading : Reading) → AreRead pieces readings → Reads piece reading → AreRead (pieces ++ piece ∷ []) (readings ++ reading ∷ [])
read-append [] [] piece reading read more = (more, tt)
read-append [] (r ∷ readings) piece reading read more = absurd read
read-append (p ∷ pieces) [] piece reading read more = absurd read
read-append (p ∷ pieces) (r ∷ readings) piece reading read more = (read.0, read-append pieces readings piece reading read.1 more)

pub after_all-append : (db : Db) (readings : List Reading) (reading : Reading) → after_all db (readings ++ reading ∷ []) ≡ after_one (after_all db readings) reading
after_all-append db [] reading = refl
after_all-append db (r ∷ readings) reading = after_all-append (after_one db r) readings reading

-- the answers to more statements are those to the first, and then those to the others
pub answers-append : (db : Db) (number : ℕ) (first others : List Reading) → answers db number (first ++ others) ≡ answers db number first ++ answers (after_all db first) (number + length first) others
answers-append db number [] others = ap (λ n. answers db n others) (omega arith)
answers-append db number (r ∷ first) others =
    ap (λ text. answer_to db number r ++ text) (answers-append (after_one db r) (number + 1) first others)
    ∙ sym (append_assoc (answer_to db number r) (answers (after_one db r) (number + 1) first) (answers (after_all (after_one db r) first) (number + 1 + length first) others))
    ∙ ap (λ n. answers db number (r ∷ first) ++ answers (after_all (after_one db r) first) n others) (let e : number + 1 + length first ≡ number + length (r ∷ first) = grind (arith, common_steps) in e)

pub answers-push : (db : Db) (number : ℕ) (readings : List Reading) (reading : Reading) → answers db number (readings ++ reading ∷ []) ≡ answers db number readings ++ answer_to (after_all db readings) (number + length readings) reading
answers-push db number readings reading =
    answers-append db number readings (reading ∷ []) ∙ ap (λ text. answers db number readings ++ text) (append-nil (answer_to (after_all db readings) (number + length readings) reading))

pub prefix_same : (text : List ℕ) → IsPrefix text text
prefix_same text = record { rest = []; is = sym (append-nil text) }

front_answers : (db : Db) (before : List ℕ) (readings : List Reading) (m : ℕ) → IsPrefix (before ++ answers db 1 (take m readings)) (before ++ answers db 1 readings)
front_answers db before readings m =
    let others = answers (after_all db (take m readings)) (1 + length (take m readings)) (drop m readings) in
    record {
      rest = others;
      is = ap (λ rs. before ++ answers db 1 rs) (sym (take-append-drop m readings)) ∙ ap (λ text. before ++ text) (answers-append db 1 (take m readings) (drop m readings)) ∙ sym (append_assoc before (answers db 1 (take m readings)) others);
    }

module _ (db : Db) (statements : List (List ℕ)) (before said : List ℕ) (count : ℕ) (readings : List Reading) (first : AreFirst statements count readings) where
  -- the answers to the first statements are said, and nothing else
  pub says_whole : said ≡ before ++ answers db 1 readings → SaysWhole db statements before said count
  says_whole is = record { readings = readings; first = first; is = is }

  pub says_up_to : said ≡ before ++ answers db 1 readings → SaysUpTo db statements before said count
  says_up_to is = record {
    readings = readings;
    first = first;
    whole = rw is (front_answers db before readings (count - 1));
    no_more = rw is (prefix_same (before ++ answers db 1 readings));
  }

  -- one statement more
  module _ (piece : List ℕ) (reading : Reading) (within : count < length statements) (next : take (count + 1) statements ≡ take count statements ++ piece ∷ []) (reads : Reads piece reading) where
    pub first_push : AreFirst statements (count + 1) (readings ++ reading ∷ [])
    first_push = record { within = omega arith; read = rw next (read-append (take count statements) readings piece reading first.read reads) }

    pub holds_push : (Held : Db → Type 0) → Held (after_one (after_all db readings) reading) → HoldsAfter Held db statements (count + 1)
    holds_push Held held = record { readings = readings ++ reading ∷ []; first = first_push; held = rw (after_all-append db readings reading) held }

    pub long : length readings ≡ count
    long = length-read (take count statements) readings first.read ∙ (let f : length (take count statements) ≡ count = grind (arith, common_steps) in f)

    pub answers_more : answers db 1 (readings ++ reading ∷ []) ≡ answers db 1 readings ++ answer_to (after_all db readings) (count + 1) reading
    answers_more = answers-push db 1 readings reading ∙ ap (λ n. answers db 1 readings ++ answer_to (after_all db readings) n reading) (let at = long in let e : 1 + length readings ≡ count + 1 = omega arith in e)

    -- a part of its answer is said
    pub says_part : (front rest : List ℕ) → answer_to (after_all db readings) (count + 1) reading ≡ front ++ rest → said ≡ (before ++ answers db 1 readings) ++ front → SaysUpTo db statements before said (count + 1)
    says_part front rest text is = record {
      readings = readings ++ reading ∷ [];
      first = first_push;
      whole = record { rest = front; is = is ∙ ap (λ rs. (before ++ answers db 1 rs) ++ front) (sym (front_of readings reading count long)) };
      no_more = record { rest = rest; is = ap (λ xs. before ++ xs) (answers_more ∙ ap (λ xs. answers db 1 readings ++ xs) text) ∙ rw is (regroup before (answers db 1 readings) front rest) };
    }
      where
        front_of : (xs : List Reading) (x : Reading) (n : ℕ) → length xs ≡ n → take (n + 1 - 1) (xs ++ x ∷ []) ≡ xs
        front_of xs x n e = grind (arith, common_steps)

        regroup : (a b c d : List ℕ) → a ++ (b ++ (c ++ d)) ≡ ((a ++ b) ++ c) ++ d
        regroup a b c d = simp append_assoc
