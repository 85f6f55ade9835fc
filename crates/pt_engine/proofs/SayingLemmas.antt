-- Statements that are answered one after the other.
use Rattle.std.proofs.Common.{◌≡◌, inl, inr, ℕ, ◌+◌, ◌<◌, List, [], ◌∷◌, ◌++◌, length, take, get_or, ap, ◌∙◌, sym, subst, arith, append_assoc}
use Rattle.std.proofs.lemmas.List.{append-nil, take_more}
use Rattle.pt_host.specs.Disk.{Files}
use Rattle.pt_host.specs.World.{World, IsIdle}
use Rattle.pt_host.proofs.Runs.{since_none, since_then, since_weaken, idle_none, idle_on}
use Rattle.pt_ast.specs.declared.database.Db.{Db}
use Rattle.pt_reading.specs.declared.reading.Reading.{Reading}
use Rattle.pt_reading.specs.Reading.{Reads}
use Rattle.pt_session.specs.declared.session.Session.{Session}
use Rattle.pt_session.specs.Directory.{HoldsIn}
use Rattle.pt_session.specs.Session.{IsSession}
use Rattle.pt_engine.specs.declared.ending.Ending.{Ending}
use Rattle.pt_engine.specs.declared.ending.Ending.TheVariants.{Done, Usage, DiskFault, NoMemory, Damaged, InputFault, OutputFault, TooLong}
use Rattle.pt_engine.specs.Answers.{HoldsAfter, ChangesNothing, Rests, after_all, after_one, answer_to, answers}
use Rattle.pt_engine.specs.Kept.{IsInOrder, KeepsInOrder, StandsAfter}
use Rattle.pt_engine.specs.Session.{EntersNothing, IsWithin}
use Rattle.pt_engine.specs.Saying.{KeepsOne, AnswersOne, StandsOne, StopsOne, Unread, Within, AnswersFirst, StandsFirst, StopsFirst}
use Rattle.pt_engine.proofs.AnswerLemmas.{says_whole, says_up_to, says_part, holds_push, first_push, answers_more, after_all-append}
use Rattle.pt_engine.proofs.SessionLemmas.{session_holds}
use Rattle.pt_engine.proofs.Unchanged.{next_rests, stays}

next_piece : (statements : List (List ℕ)) (count : ℕ) (piece : List ℕ) → count < length statements → piece ≡ get_or statements count piece → take (count + 1) statements ≡ take count statements ++ piece ∷ []
next_piece statements count piece within is = take_more statements count piece within ∙ ap (λ p. take count statements ++ p ∷ []) (sym is)

pub enters_then : (a b c : World) → EntersNothing a b → EntersNothing b c → EntersNothing a c
enters_then a b c first then = record { dir = then.dir ∙ first.dir; input = then.input ∙ first.input }

-- no statement was answered yet
pub none_answered : (db : Db) (statements : List (List ℕ)) (session : Session) (w : World) → IsSession session db w → AnswersFirst db statements 0 session w w
none_answered db statements session w is = record {
  readings = [];
  first = record { within = omega arith; read = tt };
  said = sym (append-nil w.now.said);
  stands = is;
  in_order = since_none w _;
  idle = λ none. idle_none w;
}

-- So many of them were answered.
module _ (db : Db) (statements : List (List ℕ)) (count : ℕ) (session : Session) (old w : World) (had : AnswersFirst db statements count session old w) where
  holds_before : (files : Files) → HoldsIn files (after_all db had.readings) → HoldsAfter (HoldsIn files) db statements count
  holds_before files held = record { readings = had.readings; first = had.first; held = held }

  pub all_answered : StandsAfter db statements old.now.said w count
  all_answered = record {
    says = says_whole db statements old.now.said w.now.said count had.readings had.first had.said;
    holds = λ files image. holds_before files (session_holds session (after_all db had.readings) w had.stands files image);
  }

  -- Then comes this one.
  module _ (new : World) (piece : List ℕ) (within : count < length statements) (is : piece ≡ get_or statements count piece) where
    next : take (count + 1) statements ≡ take count statements ++ piece ∷ []
    next = next_piece statements count piece within is

    module _ (reading : Reading) (reads : Reads piece reading) where
      holds_behind : (files : Files) → HoldsIn files (after_one (after_all db had.readings) reading) → HoldsAfter (HoldsIn files) db statements (count + 1)
      holds_behind files held = holds_push db statements [] [] count had.readings had.first piece reading within next reads (HoldsIn files) held

      -- a moment within the statement
      within_one : (said : List ℕ) (files : Files)
          → IsWithin (after_all db had.readings) (after_one (after_all db had.readings) reading) w.now.said (answer_to (after_all db had.readings) (count + 1) reading) said files → IsInOrder db statements old.now.said said files
      within_one said files (inl before) = record {
        k = count;
        holds = holds_before files before.0;
        says = says_up_to db statements old.now.said said count had.readings had.first (before.1 ∙ had.said);
      }
      within_one said files (inr behind) = record {
        k = count + 1;
        holds = holds_behind files behind.0;
        says = says_part db statements old.now.said said count had.readings had.first piece reading within next reads behind.1.0 behind.1.1 behind.1.2
            (behind.1.3 ∙ ap (λ xs. xs ++ behind.1.0) had.said);
      }

      one_in_order : KeepsOne (count + 1) reading (after_all db had.readings) w new → KeepsInOrder db statements old new
      one_in_order keeps =
          since_then old w new _ had.in_order
          (since_weaken w new _ _ (λ m each files image. within_one m.said files (each files image)) keeps.moments)

      -- it leaves the database as it is, where each of them does
      one_idle : KeepsOne (count + 1) reading (after_all db had.readings) w new → ChangesNothing db statements → IsIdle old new
      one_idle keeps none =
          let at = next_rests db statements count had.readings had.first none piece reading within next reads in
          idle_on old w new (had.idle none) (keeps.idle (subst (λ d. Rests d reading) (sym (stays db statements count had.readings had.first none)) at))

      stands_first : (ending : Ending) → StandsOne ending (count + 1) reading (after_all db had.readings) w new → StandsFirst ending db statements old new
      stands_first NoMemory one = (
        count,
        record {
          says = says_whole db statements old.now.said new.now.said count had.readings had.first (one.0 ∙ had.said);
          holds = λ files image. holds_before files (one.1 files image);
        },
      )
      stands_first DiskFault one = (
        count,
        record {
          says = says_whole db statements old.now.said new.now.said count had.readings had.first (one.0 ∙ had.said);
          holds = λ files image. elim (one.1 files image) [ inl before ↦ inl (holds_before files before) | inr behind ↦ inr (holds_behind files behind) ];
        },
      )
      stands_first OutputFault one = (
        count + 1,
        record {
          some = omega arith;
          says = says_part db statements old.now.said new.now.said count had.readings had.first piece reading within next reads one.0.0 one.0.1 one.0.2 (one.0.3 ∙ ap (λ xs. xs ++ one.0.0) had.said);
          holds = λ files image. holds_behind files (one.1 files image);
        },
      )
      stands_first Done one = absurd one
      stands_first Usage one = absurd one
      stands_first (Damaged name place) one = absurd one
      stands_first InputFault one = absurd one
      stands_first TooLong one = absurd one

    pub answered_next : (after : Session) → AnswersOne (count + 1) piece (after_all db had.readings) after w new → AnswersFirst db statements (count + 1) after old new
    answered_next after one = record {
      readings = had.readings ++ one.reading ∷ [];
      first = first_push db statements [] [] count had.readings had.first piece one.reading within next one.reads;
      said = one.said ∙ ap (λ xs. xs ++ answer_to (after_all db had.readings) (count + 1) one.reading) had.said
          ∙ append_assoc old.now.said (answers db 1 had.readings) (answer_to (after_all db had.readings) (count + 1) one.reading)
          ∙ ap (λ xs. old.now.said ++ xs) (sym (answers_more db statements [] [] count had.readings had.first piece one.reading within next one.reads));
      stands = subst (λ d. IsSession after d new) (sym (after_all-append db had.readings one.reading)) one.session;
      in_order = one_in_order one.reading one.reads one.keeps;
      idle = one_idle one.reading one.reads one.keeps;
    }

    pub stopped_in : (ending : Ending) → StopsOne ending (count + 1) piece (after_all db had.readings) w new → StopsFirst ending db statements old new
    stopped_in ending (Within reading reads keeps stands) = record {
      in_order = one_in_order reading reads keeps;
      idle = one_idle reading reads keeps;
      stands = stands_first reading reads ending stands;
    }
    stopped_in ending (Unread ends same) = subst (λ e. StopsFirst e db statements old new) (sym ends) (subst (λ u. StopsFirst NoMemory db statements old u) (sym same) (record {
      in_order = had.in_order;
      idle = had.idle;
      stands = (count, all_answered);
    }))
