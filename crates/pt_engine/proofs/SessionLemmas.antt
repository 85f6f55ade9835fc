-- What a session stands for, and one statement in it.
use Rattle.std.proofs.Common.{◌≡◌, ◌⊎◌, inl, inr, ℕ, List, [], ◌++◌, refl, ap, ◌∙◌, sym, subst, append_assoc}
use Rattle.std.proofs.lemmas.List.{append-nil}
use Rattle.std.specs.Prelude.{Bool, true, false, Result, Ok, Err, IfOk, IsErr}
use Rattle.pt_host.specs.Listed.{FileList, by_name}
use Rattle.pt_host.specs.Disk.{Fs, Files, EachImage, IsSound}
use Rattle.pt_host.specs.World.{World, after_say, FailedSay, Since, IsQuiet, OnlyLooks}
use Rattle.pt_host.proofs.Runs.{since_then, since_weaken, since_say, after_say_now, after_say_dir, after_say_input, quiet_none, quiet_weaken, idle_none, idle_looks, idle_on, idle_say}
use Rattle.pt_host.proofs.Shown.{shown_has}
use Rattle.pt_left.specs.Left.{IsEither, IsLeft, Left}
use Rattle.pt_ast.specs.declared.database.Db.{Db}
use Rattle.pt_ast.specs.declared.reply.Reply.{Reply}
use Rattle.pt_ast.specs.declared.statement.Stmt.{Stmt}
use Rattle.pt_store.specs.declared.stop.Stop.{Stop}
use Rattle.pt_store.specs.declared.stop.Stop.TheVariants as stop
use Rattle.pt_store.specs.Stops.{ByStop, IfBad}
use Rattle.pt_store.specs.Store.{IsStore}
use Rattle.pt_store.proofs.Moments.{store_kept}
use Rattle.pt_db.specs.Outcome.{Outcome, db_behind, reply_of}
use Rattle.pt_flat.specs.Step.{step}
use Rattle.pt_holds.specs.Bad.{Bad}
use Rattle.pt_holds.specs.Holds.{Holds}
use Rattle.pt_reading.specs.declared.reading.Reading.{Reading}
use Rattle.pt_reading.specs.declared.reading.Reading.TheVariants.{Spelled}
use Rattle.pt_reading.specs.Reading.{Reads}
use Rattle.pt_session.specs.declared.session.Session.{Session}
use Rattle.pt_session.specs.Directory.{HoldsIn, File}
use Rattle.pt_session.specs.Leaves.{Executes, Leaves, TellsAlter}
use Rattle.pt_session.specs.Session.{IsLeftAfter, IsOpenAfter, IsOver, IsOverAfter, IsSession, StandsIn}
use Rattle.pt_engine.specs.declared.ending.Ending.{Ending}
use Rattle.pt_engine.specs.declared.ending.Ending.TheVariants.{Done, Usage, DiskFault, NoMemory, Damaged, InputFault, OutputFault, TooLong}
use Rattle.pt_engine.specs.Answers.{Rests, after_one, answer_to, is_alteration}
use Rattle.pt_engine.specs.Endings.{ending_of}
use Rattle.pt_engine.specs.Saying.{AnswersOne, ExecutesOne, KeepsOne, LeavesOne, StandsOne, StopsOne, Within}
use Rattle.pt_engine.specs.Session.{EntersNothing, GoesOn, IsWithin, StandsOver, StaysOver}

-- # Worlds in which nothing that a session speaks of has changed

pub session_same : (session : Session) (db : Db) (w v : World) → v.now.fs ≡ w.now.fs → v.dir ≡ w.dir → IsSession session db w → IsSession session db v
session_same session db w v fs dir is = record { map = is.map; store = store_kept w v session.store is.map fs dir is.store; is = is.is }

pub over_same : (session : Session) (w v : World) → v.now.fs ≡ w.now.fs → v.dir ≡ w.dir → StandsOver session w → StandsOver session v
over_same session w v fs dir is = record { map = is.map; store = store_kept w v session.store is.map fs dir is.store; over = is.over }

-- each image holds the session's database
pub session_holds : (session : Session) (db : Db) (w : World) → IsSession session db w → EachImage w.now.fs (λ files. HoldsIn files db)
session_holds session db w is files image = record { map = is.map; left = is.store.left files image; holds = is.is.holds }

-- something is said
module _ (part : List ℕ) (v u : World) (same : u ≡ after_say part v) where
  said_fs : u.now.fs ≡ v.now.fs
  said_fs = ap (λ x. x.now.fs) same ∙ ap (λ m. m.fs) (after_say_now part v)

  said_dir : u.dir ≡ v.dir
  said_dir = ap (λ x. x.dir) same ∙ after_say_dir part v

  said_text : u.now.said ≡ v.now.said ++ part
  said_text = ap (λ x. x.now.said) same ∙ ap (λ m. m.said) (after_say_now part v)

  pub enters_said : (w : World) → EntersNothing w v → EntersNothing w u
  enters_said w first = record { dir = said_dir ∙ first.dir; input = ap (λ x. x.input) same ∙ after_say_input part v ∙ first.input }

  pub goes_said : {T : Type 0} (x : T) (session : Session) (w : World) → GoesOn session w v (Ok x) → GoesOn {T = Unit {0}} session w u (Ok tt)
  goes_said x session w is = record { only = enters_said w is.only; over = over_same session v u said_fs said_dir is.over }

-- # What the execution of a statement tells

-- a session that is as it was, or has failed, after a fault
pub left_after : {T : Type 0} (old new : Session) (result : Result T Stop) → IsOpenAfter old new result → IsLeftAfter old new result
left_after old new (Ok x) is = is
left_after old new (Err stop.NoMemory) is = is
left_after old new (Err (stop.Bad name place)) is = is
left_after old new (Err stop.Fault) is = inr is

-- its result, where it goes on as a part of a run
abbrev pub ended : Result Reply Stop → Result Reply Ending
ended (Ok reply) = Ok reply
ended (Err e) = Err (ending_of e)

module _ (stmt : Stmt) (before after : Session) (map : FileList) (old new : World) (result : Result Reply Stop) (told : TellsAlter (λ db. step db stmt) before after map old new result) where
  -- where the map holds a database
  module _ (number : ℕ) (db : Db) (stands : StandsIn before map db) (looks : is_alteration stmt ≡ false → db_behind db (step db stmt) ≡ db → OnlyLooks old new) where
    executed : Executes after map told.next db (step db stmt) result
    executed = told.executes db stands

    here : (files : Files) → Left files map → HoldsIn files db
    here files left = record { map = map; left = left; holds = stands.holds }

    there : (files : Files) → Left files told.next → (told.next ≡ map) ⊎ Holds (by_name told.next) (after_one db (Spelled stmt)) → HoldsIn files db ⊎ HoldsIn files (after_one db (Spelled stmt))
    there files left (inl same) = inl (here files (subst (λ m. Left files m) same left))
    there files left (inr holds) = inr (record { map = told.next; left = left; holds = holds })

    left_by : (r : Result Reply Stop) → Leaves after map told.next db (after_one db (Spelled stmt)) r → ByStop r (IsStore after.store told.next new) (IsStore after.store map new) (Unit {0}) → IfBad r (λ name place. ⊥)
        → LeavesOne db (after_one db (Spelled stmt)) after new (ended r)
    left_by (Ok reply) leaves store bad = record { map = told.next; store = store; is = record { defs = leaves.defs; holds = leaves.holds } }
    left_by (Err stop.NoMemory) leaves store bad = λ files image. here files (store.left files image)
    left_by (Err stop.Fault) leaves store bad = tt
    left_by (Err (stop.Bad name place)) leaves store bad = absurd bad

    text_by : (r : Result Reply Stop) → IfOk r (λ reply. reply ≡ reply_of (step db stmt)) → IfOk (ended r) (λ reply. reply.text ≡ answer_to db number (Spelled stmt))
    text_by (Ok reply) is = ap (λ r. r.text) is
    text_by (Err e) is = tt

    refused_looks : (outcome : Outcome) → step db stmt ≡ outcome → IsErr outcome → OnlyLooks old new
    refused_looks (Ok change) is refused = let bad : false ≡ true = refused in cc
    refused_looks (Err refusal) is refused = (told.refused db stands refusal is).0

    looks_by : (test : Bool) → is_alteration stmt ≡ test → Rests db (Spelled stmt) → OnlyLooks old new
    looks_by true is rests = refused_looks (step db stmt) refl (rests.1 is)
    looks_by false is rests = looks is rests.0

    pub executed_one : ExecutesOne number (Spelled stmt) db after old new (ended result)
    executed_one = record {
      moments = quiet_weaken old new (IsEither map told.next) _ (λ files either. elim either [ inl left ↦ inl (here files left) | inr left ↦ there files left executed.leaves.between ]) told.step.moments;
      left = left_by result executed.leaves told.step.stands executed.not_bad;
      text = text_by result executed.reply;
      idle = λ rests. idle_looks old new (looks_by (is_alteration stmt) refl rests);
    }

  -- whether or not it holds one
  pub executed_over : IsSound new.now.fs → IsOver before (by_name map) → GoesOn after old new (ended result)
  executed_over sound over = record { only = record { dir = told.step.moments.dir; input = told.step.moments.input }; over = go result told.step.stands (told.over over) (told.bad over) }
    where
      go : (r : Result Reply Stop) → ByStop r (IsStore after.store told.next new) (IsStore after.store map new) (Unit {0}) → IsOverAfter after map told.next r → IfBad r (λ name place. Bad (by_name map) name place) → StaysOver after new (ended r)
      go (Ok reply) store still bad = record { map = told.next; store = store; over = still }
      go (Err stop.NoMemory) store still bad = tt
      go (Err stop.Fault) store still bad = tt
      go (Err (stop.Bad name place)) store still bad = File map (shown_has new.now.fs (IsLeft map) sound store.left) bad

-- # Nothing is done

pub enters_none : (w : World) → EntersNothing w w
enters_none w = record { dir = refl; input = refl }

pub goes_nowhere : {T : Type 0} (session : Session) (w : World) (result : Result T Ending) → StaysOver session w result → GoesOn session w w result
goes_nowhere session w result over = record { only = enters_none w; over = over }

-- # A statement that isn't executed

module _ (number : ℕ) (reading : Reading) (db : Db) (session : Session) (w : World) (is : IsSession session db w) where
  same_moments : IsQuiet w w (λ files. HoldsIn files db ⊎ HoldsIn files (after_one db reading))
  same_moments = quiet_none w _ (λ files image. inl (session_holds session db w is files image))

  -- it is refused, since it isn't spelled
  pub refused_one : (reply : Reply) → after_one db reading ≡ db → reply.text ≡ answer_to db number reading → ExecutesOne number reading db session w w (Ok reply)
  refused_one reply same text = record { moments = same_moments; left = subst (λ d. IsSession session d w) (sym same) is; text = text; idle = λ same. idle_none w }

  -- memory was wanting for that
  pub wanting_one : ExecutesOne number reading db session w w (Err NoMemory)
  wanting_one = record { moments = same_moments; left = session_holds session db w is; text = tt; idle = λ same. idle_none w }

-- # Its moments

module _ (db next : Db) (before text : List ℕ) where
  -- nothing is said while the database is kept
  quiet_within : (w v : World) → w.now.said ≡ before → IsQuiet w v (λ files. HoldsIn files db ⊎ HoldsIn files next) → Since w v (λ m. EachImage m.fs (IsWithin db next before text m.said))
  quiet_within w v said quiet = since_weaken w v _ _ (λ m h files image. unsaid m.said (h.0 ∙ said) files (h.1 files image)) quiet.since
    where
      unsaid : (now : List ℕ) → now ≡ before → (files : Files) → HoldsIn files db ⊎ HoldsIn files next → IsWithin db next before text now files
      unsaid now e files (inl held) = inl (held, e)
      unsaid now e files (inr held) = inr (held, ([], text, refl, e ∙ sym (append-nil before)))

  -- a part of the answer is said
  say_within : (w v : World) → w.now.said ≡ before → EachImage w.now.fs (λ files. HoldsIn files next) → (part rest : List ℕ) → text ≡ part ++ rest → v ≡ after_say part w
      → Since w v (λ m. EachImage m.fs (IsWithin db next before text m.said))
  say_within w v said holds part rest is same =
      subst (λ (u : World). Since w u (λ m. EachImage m.fs (IsWithin db next before text m.said))) (sym same)
      (since_say part w (λ m. EachImage m.fs (IsWithin db next before text m.said)) (λ front others e files image. inr (holds files image, (front, others ++ rest, is ∙ ap (λ xs. xs ++ rest) e ∙ append_assoc front others rest, ap (λ xs. xs ++ front) said))))

  -- it is kept, and then a part of the answer is said
  kept_then_said : (w v u : World) → w.now.said ≡ before → IsQuiet w v (λ files. HoldsIn files db ⊎ HoldsIn files next) → EachImage v.now.fs (λ files. HoldsIn files next) → (part rest : List ℕ) → text ≡ part ++ rest → u ≡ after_say part v
      → Since w u (λ m. EachImage m.fs (IsWithin db next before text m.said))
  kept_then_said w v u said quiet holds part rest is same =
      since_then w v u _ (quiet_within w v said quiet) (say_within v u (quiet.said ∙ said) holds part rest is same)

-- # One statement, which has this number and is read so

module _ (number : ℕ) (piece : List ℕ) (reading : Reading) (reads : Reads piece reading) (db : Db) (after : Session) where
  -- it was executed, and a part of its answer said
  module _ (w v u : World) (reply : Reply) (done : ExecutesOne number reading db after w v (Ok reply)) (part rest : List ℕ) (parts : reply.text ≡ part ++ rest) (same : u ≡ after_say part v) where
    parts_are : answer_to db number reading ≡ part ++ rest
    parts_are = sym done.text ∙ parts

    holds_after : EachImage v.now.fs (λ files. HoldsIn files (after_one db reading))
    holds_after = session_holds after (after_one db reading) v done.left

    keeps_said : KeepsOne number reading db w u
    keeps_said = record {
      moments = kept_then_said db (after_one db reading) w.now.said (answer_to db number reading) w v u refl done.moments holds_after part rest parts_are same;
      idle = λ none. idle_on w v u (done.idle none) (idle_say part v u same);
    }

    said_behind : u.now.said ≡ w.now.said ++ part
    said_behind = said_text part v u same ∙ ap (λ xs. xs ++ part) done.moments.said

    stopped_part : StopsOne OutputFault number piece db w u
    stopped_part = Within reading reads keeps_said ((part, rest, parts_are, said_behind), subst (λ (fs : Fs). EachImage fs (λ files. HoldsIn files (after_one db reading))) (sym (said_fs part v u same)) holds_after)

  -- its answer is said
  pub answered_one : (w v u : World) (reply : Reply) (text : List ℕ) → ExecutesOne number reading db after w v (Ok reply) → text ≡ reply.text → u ≡ after_say text v → AnswersOne number piece db after w u
  answered_one w v u reply text done is same = record {
    reading = reading;
    reads = reads;
    keeps = keeps_said w v u reply done text [] (sym is ∙ sym (append-nil text)) same;
    said = said_behind w v u reply done text [] (sym is ∙ sym (append-nil text)) same ∙ ap (λ xs. w.now.said ++ xs) (is ∙ done.text);
    session = session_same after (after_one db reading) v u (said_fs text v u same) (said_dir text v u same) done.left;
  }

  -- a part of its answer is said
  pub stopped_saying : (w v u : World) (reply : Reply) (text : List ℕ) → ExecutesOne number reading db after w v (Ok reply) → text ≡ reply.text → FailedSay text v u → StopsOne OutputFault number piece db w u
  stopped_saying w v u reply text done is said = stopped_part w v u reply done said.0 said.1 (sym is ∙ said.2) said.3

  -- it isn't kept, or that isn't known
  pub stopped_executing : (w v : World) (ending : Ending) → ExecutesOne number reading db after w v (Err ending) → StopsOne ending number piece db w v
  stopped_executing w v ending done = Within reading reads (record {
    moments = quiet_within db (after_one db reading) w.now.said (answer_to db number reading) w v refl done.moments;
    idle = done.idle;
  }) (stands ending done.left)
    where
      stands : (e : Ending) → LeavesOne db (after_one db reading) after v (Err e) → StandsOne e number reading db w v
      stands NoMemory left = (done.moments.said, left)
      stands DiskFault left = (done.moments.said, done.moments.now)
      stands Done left = absurd left
      stands Usage left = absurd left
      stands (Damaged name place) left = absurd left
      stands InputFault left = absurd left
      stands OutputFault left = absurd left
      stands TooLong left = absurd left
