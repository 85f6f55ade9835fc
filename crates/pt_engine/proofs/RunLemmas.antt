-- A run: the directory is opened, the input taken, and its statements answered.
use Rattle.std.proofs.Common.{◌≡◌, inl, inr, ℕ, Bool, true, false, List, [], refl, ap, ◌∙◌, sym, subst, arith}
use Rattle.std.proofs.lemmas.List.{append-nil}
use Rattle.std.proofs.lemmas.List.Elements.{All-nil}
use Rattle.std.specs.Prelude.{Err}
use Rattle.pt_host.specs.Counts.{Counts}
use Rattle.pt_host.specs.Disk.{Fs, Files, EachImage, IsAtRest, IsSound, shown}
use Rattle.pt_host.specs.Listed.{by_name}
use Rattle.pt_host.specs.World.{World, Since, IsQuiet, IsIdle, after_enter}
use Rattle.pt_host.proofs.Runs.{since_then, since_weaken, quiet_weaken}
use Rattle.pt_host.proofs.Shown.{shown_has}
use Rattle.pt_left.specs.Left.{IsLeft}
use Rattle.pt_left.proofs.Directories.{at_rest_left}
use Rattle.pt_left.proofs.Once.{left_once}
use Rattle.pt_ast.specs.declared.database.Db.{Db}
use Rattle.pt_store.specs.declared.stop.Stop.{Stop}
use Rattle.pt_store.specs.declared.stop.Stop.TheVariants as stop
use Rattle.pt_store.specs.Stops.{IfBad, IsCounted}
use Rattle.pt_store.specs.Step.{OnlyClears}
use Rattle.pt_holds.specs.Holds.{Holds}
use Rattle.pt_reading.specs.Script.{has_excess, statements, TakesWithin}
use Rattle.pt_session.specs.declared.session.Session.{Session}
use Rattle.pt_session.specs.Directory.{HoldsIn, IsDamaged, IsOpened, File, Whole}
use Rattle.pt_session.specs.Session.{IsSession}
use Rattle.pt_session.proofs.Excludes.{bad_excludes}
use Rattle.pt_engine.specs.declared.ending.Ending.{Ending}
use Rattle.pt_engine.specs.declared.ending.Ending.TheVariants.{Done, Usage, DiskFault, NoMemory, Damaged, InputFault, OutputFault, TooLong}
use Rattle.pt_engine.specs.Answers.{AreFirst, ChangesNothing, HoldsAfter}
use Rattle.pt_engine.specs.Causes.{IsCaused, NoneRose}
use Rattle.pt_engine.specs.Endings.{IfDamaged, ending_of}
use Rattle.pt_engine.specs.Input.{StopsTaking, TakesOnly}
use Rattle.pt_engine.specs.Kept.{IsInOrder, KeepsInOrder, StandsAfter, StandsKeeping}
use Rattle.pt_engine.specs.Parts.{IsRun, StandsTaken}
use Rattle.pt_engine.specs.Run.{IsComplete, StandsAt, TellsDamage}
use Rattle.pt_engine.specs.Saying.{StandsFirst}
use Rattle.pt_engine.specs.Session.{StandsOver}
use Rattle.pt_engine.proofs.AnswerLemmas.{says_whole, says_up_to}
use Rattle.pt_engine.proofs.SessionLemmas.{over_same, session_same}

-- what holds of a run holds from before the directory was entered
pub entered_in_order : (db : Db) (dir : List ℕ) (old w new : World) → w ≡ after_enter dir old
    → (HoldsIn (shown w.now.fs) db → KeepsInOrder db (statements w.input) w new) → HoldsIn (shown old.now.fs) db → KeepsInOrder db (statements old.input) old new
entered_in_order db dir old w new is headline held =
    let run = subst (λ (u : World). HoldsIn (shown u.now.fs) db → KeepsInOrder db (statements u.input) u new) is headline held in
    record { added = run.added; grows = run.grows; each = run.each }

entered_damage : (ending : Ending) (dir : List ℕ) (old new : World) → TellsDamage ending (after_enter dir old) new → TellsDamage ending old new
entered_damage (Damaged name place) dir old new h = record { none = h.none; bad = h.bad }
entered_damage Done dir old new h = h
entered_damage Usage dir old new h = h
entered_damage DiskFault dir old new h = h
entered_damage NoMemory dir old new h = h
entered_damage InputFault dir old new h = h
entered_damage OutputFault dir old new h = h
entered_damage TooLong dir old new h = h

entered_stands : (db : Db) (ending : Ending) (dir : List ℕ) (old new : World) → (ending ≡ Usage → ⊥) → StandsAt db ending (after_enter dir old) new → StandsAt db ending old new
entered_stands db Done dir old new formed h = record { taken = h.taken; within = h.within; stands = h.stands }
entered_stands db TooLong dir old new formed h = record { passed = h.passed; stands = h.stands }
entered_stands db Usage dir old new formed h = absurd (formed refl)
entered_stands db DiskFault dir old new formed h = h
entered_stands db NoMemory dir old new formed h = h
entered_stands db (Damaged name place) dir old new formed h = h
entered_stands db InputFault dir old new formed h = h
entered_stands db OutputFault dir old new formed h = h

entered_idle : (dir : List ℕ) (old new : World) → IsIdle (after_enter dir old) new → IsIdle old new
entered_idle dir old new idle = record {
  now = record { fs = idle.now.fs; syncs = idle.now.syncs; bytes = idle.now.bytes };
  since = record { added = idle.since.added; grows = idle.since.grows; each = idle.since.each };
}

pub entered_run : (ending : Ending) (dir : List ℕ) (old w new : World) → w ≡ after_enter dir old → (ending ≡ Usage → ⊥) → IsRun ending w new → IsRun ending old new
entered_run ending dir old w new is formed run =
    let entered = subst (λ (u : World). IsRun ending u new) is run in
    record {
      damage = entered_damage ending dir old new entered.damage;
      headline = λ db held. entered_in_order db dir old (after_enter dir old) new refl (entered.headline db) held;
      stands = λ db held. entered_stands db ending dir old new formed (entered.stands db held);
      idle = λ db held none changes. entered_idle dir old new (entered.idle db held none changes);
    }

-- # No statement was answered yet

none_first : (statements : List (List ℕ)) → AreFirst statements 0 []
none_first statements = record { within = omega arith; read = tt }

module _ (db : Db) (statements : List (List ℕ)) where
  holds_none : (files : Files) → HoldsIn files db → HoldsAfter (HoldsIn files) db statements 0
  holds_none files held = record { readings = []; first = none_first statements; held = held }

  pub stands_none : (before : List ℕ) (new : World) → new.now.said ≡ before → EachImage new.now.fs (λ files. HoldsIn files db) → StandsAfter db statements before new 0
  stands_none before new said held = record {
    says = says_whole db statements before new.now.said 0 [] (none_first statements) (said ∙ sym (append-nil before));
    holds = λ files image. holds_none files (held files image);
  }

  pub keeping_none : (before : List ℕ) (new : World) → new.now.said ≡ before → EachImage new.now.fs (λ files. HoldsIn files db) → StandsKeeping db statements before new 0
  keeping_none before new said held = record {
    says = says_whole db statements before new.now.said 0 [] (none_first statements) (said ∙ sym (append-nil before));
    holds = λ files image. inl (holds_none files (held files image));
  }

  -- a run that keeps it
  pub quiet_in_order : (old new : World) → IsQuiet old new (λ files. HoldsIn files db) → KeepsInOrder db statements old new
  quiet_in_order old new quiet = since_weaken old new _ _ (λ m each files image. record {
    k = 0;
    holds = holds_none files (each.1 files image);
    says = says_up_to db statements old.now.said m.said 0 [] (none_first statements) (each.0 ∙ sym (append-nil old.now.said));
  }) quiet.since

  pub none_in_order : (old new : World) → new.moments ≡ old.moments → KeepsInOrder db statements old new
  none_in_order old new same = record { added = []; grows = same ∙ sym (append-nil old.moments); each = All-nil _ }

  -- two runs, the first of which says nothing
  pub in_order_then : (old w new : World) → w.now.said ≡ old.now.said → KeepsInOrder db statements old w → KeepsInOrder db statements w new → KeepsInOrder db statements old new
  in_order_then old w new said first then =
      since_then old w new _ first (subst (λ before. Since w new (λ m. EachImage m.fs (IsInOrder db statements before m.said))) said then)

-- at rest it holds in each image what it shows
pub rest_holds : (fs : Fs) (db : Db) → IsAtRest fs → HoldsIn (shown fs) db → EachImage fs (λ files. HoldsIn files db)
rest_holds fs db rest held files image = record { map = held.map; left = at_rest_left fs held.map rest held.left files image; holds = held.holds }

-- # Damage

-- a directory that holds a database isn't damaged
damage_excludes : (files : Files) (db : Db) (name : List ℕ) (place : ℕ) → HoldsIn files db → IsDamaged files name place → ⊥
damage_excludes files db name place held (Whole is none) = none held.map held.left
damage_excludes files db name place held (File map left bad) = bad_excludes (by_name map) db name place (subst (λ m. Holds (by_name m) db) (left_once files held.map map held.left left) held.holds) bad

-- what is told of damage, where a database that was held excludes it
pub tells_damage : (ending : Ending) (old new : World) → IfDamaged ending (IsDamaged (shown new.now.fs)) → ((db : Db) → HoldsIn (shown old.now.fs) db → StandsAt db ending old new) → TellsDamage ending old new
tells_damage (Damaged name place) old new bad stands = record { none = stands; bad = bad }
tells_damage Done old new bad stands = tt
tells_damage Usage old new bad stands = tt
tells_damage DiskFault old new bad stands = tt
tells_damage NoMemory old new bad stands = tt
tells_damage InputFault old new bad stands = tt
tells_damage OutputFault old new bad stands = tt
tells_damage TooLong old new bad stands = tt

-- # The opening

-- Where it stopped, and the files read so before and then.
module _ (tells : Type 0) (told : tells) (before now : Files) (e : Stop) (bad : IfBad {T = Session} (Err e) (λ name place. tells → IsDamaged before name place × IsDamaged now name place)) where
  -- damage that is told is there
  pub opening_damage : IfDamaged (ending_of e) (IsDamaged now)
  opening_damage = go e bad
    where
      go : (s : Stop) → IfBad {T = Session} (Err s) (λ name place. tells → IsDamaged before name place × IsDamaged now name place) → IfDamaged (ending_of s) (IsDamaged now)
      go stop.NoMemory is = tt
      go stop.Fault is = tt
      go (stop.Bad name place) is = (is told).1

  -- what stands then
  pub stands_opening : (db : Db) (old new : World) → HoldsIn before db → new.now.said ≡ old.now.said → EachImage new.now.fs (λ files. HoldsIn files db) → StandsAt db (ending_of e) old new
  stands_opening db old new held said holds = go e bad
    where
      go : (s : Stop) → IfBad {T = Session} (Err s) (λ name place. tells → IsDamaged before name place × IsDamaged now name place) → StandsAt db (ending_of s) old new
      go stop.NoMemory is = (0, stands_none db (statements old.input) old.now.said new said holds)
      go stop.Fault is = (0, keeping_none db (statements old.input) old.now.said new said holds)
      go (stop.Bad name place) is = damage_excludes before db name place held (is told).0

-- its cause
pub caused_opening : (e : Stop) (old new : Counts) → IsCounted {T = Session} old new (Err e) → IsCaused old new (ending_of e)
caused_opening stop.NoMemory old new counted = counted
caused_opening stop.Fault old new counted = counted
caused_opening (stop.Bad name place) old new counted = counted

pub formed_opening : (e : Stop) → ending_of e ≡ Usage → ⊥
formed_opening stop.NoMemory same = let bad : NoMemory ≡ Usage = same in cc
formed_opening stop.Fault same = let bad : DiskFault ≡ Usage = same in cc
formed_opening (stop.Bad name place) same = let bad : Damaged name place ≡ Usage = same in cc

-- # The statements

pub stands_taken : (ending : Ending) (too_long : Bool) (db : Db) (statements : List (List ℕ)) (old new : World) → StandsFirst ending db statements old new → StandsTaken ending too_long db statements old.now.said new
stands_taken NoMemory too_long db statements old new first = first
stands_taken DiskFault too_long db statements old new first = first
stands_taken OutputFault too_long db statements old new first = first
stands_taken Done too_long db statements old new first = absurd first
stands_taken Usage too_long db statements old new first = absurd first
stands_taken (Damaged name place) too_long db statements old new first = absurd first
stands_taken InputFault too_long db statements old new first = absurd first
stands_taken TooLong too_long db statements old new first = absurd first

-- The whole run, whose input was taken.
pub stands_at : (db : Db) (ending : Ending) (too_long : Bool) (old new : World) → StandsTaken ending too_long db (statements old.input) old.now.said new
    → too_long ≡ has_excess old.input → (too_long ≡ false → new.input ≡ []) → StandsAt db ending old new
stands_at db Done too_long old new stands excess taken = record { taken = taken stands.0; within = sym excess ∙ stands.0; stands = stands.1 }
stands_at db TooLong too_long old new stands excess taken = record { passed = sym excess ∙ stands.0; stands = stands.1 }
stands_at db NoMemory too_long old new stands excess taken = stands
stands_at db DiskFault too_long old new stands excess taken = stands
stands_at db OutputFault too_long old new stands excess taken = stands
stands_at db Usage too_long old new stands excess taken = absurd stands
stands_at db (Damaged name place) too_long old new stands excess taken = absurd stands
stands_at db InputFault too_long old new stands excess taken = absurd stands

-- it tells of no damage
pub stopped_damage : (ending : Ending) (w new : World) (P : List ℕ → ℕ → Type 0) → StopsTaking ending w new → IfDamaged ending P
stopped_damage InputFault w new P stops = tt
stopped_damage NoMemory w new P stops = tt
stopped_damage Done w new P stops = tt
stopped_damage TooLong w new P stops = tt
stopped_damage OutputFault w new P stops = tt
stopped_damage DiskFault w new P stops = tt
stopped_damage Usage w new P stops = tt
stopped_damage (Damaged name place) w new P stops = absurd stops

-- it took of the input alone
pub stops_only : (ending : Ending) (w new : World) → StopsTaking ending w new → TakesOnly w new
stops_only InputFault w new stops = stops.0
stops_only NoMemory w new stops = stops
stops_only Done w new stops = absurd stops
stops_only TooLong w new stops = absurd stops
stops_only OutputFault w new stops = absurd stops
stops_only DiskFault w new stops = absurd stops
stops_only Usage w new stops = absurd stops
stops_only (Damaged name place) w new stops = absurd stops

-- what is taken leaves the disk untouched
pub idle_taken : (w v : World) → TakesOnly w v → IsIdle w v
idle_taken w v only = subst (λ (u : World). IsIdle w u) (sym only)
    (record { now = record { fs = refl; syncs = refl; bytes = refl }; since = record { added = []; grows = sym (append-nil w.moments); each = All-nil _ } })

-- # The directory is opened, and then the input taken

-- the session goes on over its map
pub opened_over : (session : Session) (old w v : World) → IsOpened session old w → TakesOnly w v → StandsOver session v
opened_over session old w v opened only = over_same session w v (ap (λ u. u.now.fs) only) (ap (λ u. u.dir) only) (record { map = opened.map; store = opened.store; over = opened.over })

module _ (db : Db) (old w : World) (rest : IsAtRest old.now.fs) (held : HoldsIn (shown old.now.fs) db) (clears : OnlyClears old w) where
  -- the opening keeps it
  pub opened_quiet : IsQuiet old w (λ files. HoldsIn files db)
  opened_quiet = quiet_weaken old w (IsLeft held.map) _ (λ files is. record { map = held.map; left = is; holds = held.holds }) (clears.map held.map (at_rest_left old.now.fs held.map rest held.left))

  -- and stands for it
  pub opened_session : (session : Session) (v : World) → IsSound old.now.fs → IsOpened session old w → TakesOnly w v → IsSession session db v
  opened_session session v sound opened only =
      let same = left_once (shown old.now.fs) held.map opened.map held.left (shown_has old.now.fs (IsLeft opened.map) sound opened.left) in
      session_same session db w v (ap (λ u. u.now.fs) only) (ap (λ u. u.dir) only)
      (record { map = opened.map; store = opened.store; is = opened.stands db (subst (λ m. Holds (by_name m) db) same held.holds) })

  module _ (v : World) (only : TakesOnly w v) where
    taken_said : v.now.said ≡ old.now.said
    taken_said = ap (λ u. u.now.said) only ∙ opened_quiet.said

    taken_holds : EachImage v.now.fs (λ files. HoldsIn files db)
    taken_holds = subst (λ (fs : Fs). EachImage fs (λ files. HoldsIn files db)) (sym (ap (λ u. u.now.fs) only)) opened_quiet.now

    pub taken_in_order : KeepsInOrder db (statements old.input) old v
    taken_in_order =
        let first = quiet_in_order db (statements old.input) old w opened_quiet in
        record { added = first.added; grows = ap (λ u. u.moments) only ∙ first.grows; each = first.each }

    -- the input failed, or memory ran out
    pub stands_stopped : (ending : Ending) → StopsTaking ending w v → StandsAt db ending old v
    stands_stopped NoMemory stops = (0, stands_none db (statements old.input) old.now.said v taken_said taken_holds)
    stands_stopped InputFault stops = (
      stands_none db (statements old.input) old.now.said v taken_said taken_holds,
      subst (λ input. TakesWithin input v.input) opened_quiet.input stops.1,
    )
    stands_stopped Done stops = absurd stops
    stands_stopped TooLong stops = absurd stops
    stands_stopped OutputFault stops = absurd stops
    stands_stopped DiskFault stops = absurd stops
    stands_stopped Usage stops = absurd stops
    stands_stopped (Damaged name place) stops = absurd stops

    -- the statements were answered
    module _ (pieces : List (List ℕ)) (are : pieces ≡ statements w.input) where
      same_pieces : pieces ≡ statements old.input
      same_pieces = are ∙ ap statements opened_quiet.input

      pub answered_in_order : (new : World) → KeepsInOrder db pieces v new → KeepsInOrder db (statements old.input) old new
      answered_in_order new then = in_order_then db (statements old.input) old v new taken_said taken_in_order (subst (λ ps. KeepsInOrder db ps v new) same_pieces then)

      pub answered_idle : (new : World) → (ChangesNothing db pieces → IsIdle v new) → ChangesNothing db (statements old.input) → IsIdle v new
      answered_idle new idle none = idle (subst (λ ps. ChangesNothing db ps) (sym same_pieces) none)

      pub answered_stands : (ending : Ending) (too_long : Bool) (new : World) → StandsTaken ending too_long db pieces v.now.said new → StandsTaken ending too_long db (statements old.input) old.now.said new
      answered_stands ending too_long new stands = rw (← same_pieces, ← taken_said) stands

-- # Completeness

complete_memory : (excess : Bool) → IsComplete excess NoMemory
complete_memory true = inr refl
complete_memory false = inr refl

pub complete : (ending : Ending) (db : Db) (counts counts_now : Counts) (old new : World) → (ending ≡ Usage → ⊥) → IsCaused counts counts_now ending → NoneRose counts counts_now → StandsAt db ending old new → IsComplete (has_excess old.input) ending
complete Done db counts counts_now old new formed caused none stands = rw stands.within (inl refl)
complete TooLong db counts counts_now old new formed caused none stands = rw stands.passed (inl refl)
complete NoMemory db counts counts_now old new formed caused none stands = complete_memory (has_excess old.input)
complete DiskFault db counts counts_now old new formed caused none stands = absurd (none.disk caused.rose)
complete InputFault db counts counts_now old new formed caused none stands = absurd (none.input caused.rose)
complete OutputFault db counts counts_now old new formed caused none stands = absurd (none.output caused.rose)
complete Usage db counts counts_now old new formed caused none stands = absurd (formed refl)
complete (Damaged name place) db counts counts_now old new formed caused none stands = absurd stands
