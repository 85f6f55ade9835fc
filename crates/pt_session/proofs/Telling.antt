-- The ends of a statement, as all that its execution tells: it only looked and was refused or answered, it stopped before anything was
-- changed, or a change was kept or not.
use Rattle.std.proofs.Common.{◌≡◌, refl, sym, ap, ◌∙◌, subst}
use Rattle.std.specs.Prelude.{ℕ, List, Result, Ok, Err}
use Rattle.pt_host.specs.Listed.{FileList, by_name}
use Rattle.pt_host.specs.World.{World}
use Rattle.pt_left.specs.Left.{IsWhole}
use Rattle.pt_ast.specs.declared.database.Db.{Db}
use Rattle.pt_ast.specs.declared.refusal.Refusal.{Refusal}
use Rattle.pt_ast.specs.declared.reply.Reply.{Reply}
use Rattle.pt_store.specs.declared.stop.Stop.{Stop}
use Rattle.pt_store.specs.declared.stop.Stop.TheVariants.{NoMemory, Fault, Bad as BadFile}
use Rattle.pt_store.specs.Step.{IsLook, IsStep}
use Rattle.pt_store.specs.Stops.{ByStop, IfBad}
use Rattle.pt_store.specs.Store.{IsStore}
use Rattle.pt_store.proofs.Steps.{look_step, step_then}
use Rattle.pt_db.specs.Outcome.{Outcome, db_behind, reply_of}
use Rattle.pt_db.specs.Texts.{answered}
use Rattle.pt_holds.specs.Bad.{Bad}
use Rattle.pt_session.specs.declared.session.Session.{Session}
use Rattle.pt_session.specs.Session.{IsOver, IsOverAfter, StandsIn}
use Rattle.pt_session.specs.Leaves.{Executes, Leaves, Tells}
use Rattle.pt_session.proofs.Executing.{answered_executes, kept_executes, refused_executes, stopped_executes, unkept_executes}

-- # Stops

-- a stop says the same whatever the call would have given
pub same_stop : (T U : Type 0) (e : Stop) (Done Stopped Failed : Type 0) → ByStop {T = T} (Err e) Done Stopped Failed → ByStop {T = U} (Err e) Done Stopped Failed
same_stop T U NoMemory Done Stopped Failed had = had
same_stop T U (BadFile name place) Done Stopped Failed had = had
same_stop T U Fault Done Stopped Failed had = had

-- what holds where the call stopped with nothing done
stopped_by : (T : Type 0) (e : Stop) (Done Stopped : Type 0) → Stopped → ByStop {T = T} (Err e) Done Stopped (Unit {0})
stopped_by T NoMemory Done Stopped had = had
stopped_by T (BadFile name place) Done Stopped had = had
stopped_by T Fault Done Stopped had = tt

pub bad_of_none : (T : Type 0) (e : Stop) (P : List ℕ → ℕ → Type 0) → IfBad {T = T} (Err e) (λ name place. ⊥) → IfBad {T = Reply} (Err e) P
bad_of_none T NoMemory P none = tt
bad_of_none T (BadFile name place) P none = absurd none
bad_of_none T Fault P none = tt

-- over a host that tells, a call whose bad file would be `whole.map` answers no bad file
pub none_bad : {T tells : Type 0} (e : Stop) (r : Result T Stop) → tells → r ≡ Err e → IfBad r (λ name place. IsWhole name place × (tells → ⊥)) → IfBad {T = T} (Err e) (λ name place. ⊥)
none_bad {T} {tells} e r told is had = by e (subst (λ (q : Result T Stop). IfBad q (λ name place. IsWhole name place × (tells → ⊥))) is had)
  where
    by : (s : Stop) → IfBad {T = T} (Err s) (λ name place. IsWhole name place × (tells → ⊥)) → IfBad {T = T} (Err s) (λ name place. ⊥)
    by NoMemory h = tt
    by (BadFile name place) h = h.1 told
    by Fault h = tt

-- # Meanings

-- a statement that means the same of each database that the session stands for
pub means_same : (a b : Db → Outcome) (before after : Session) (map : FileList) (old new : World) (result : Result Reply Stop) → ((db : Db) → StandsIn before map db → a db ≡ b db)
    → Tells a before after map old new result → Tells b before after map old new result
means_same a b before after map old new result same told = record {
  next = told.next;
  step = told.step;
  over = told.over;
  executes = λ db stands. subst (λ outcome. Executes after map told.next db outcome result) (same db stands) (told.executes db stands);
  idle = λ db stands is. told.idle db stands (ap (λ outcome. db_behind db outcome) (same db stands) ∙ is);
  bad = told.bad;
}

-- # It only looked

module _ (meaning : Db → Outcome) (session : Session) (map : FileList) (old new : World) (is : IsStore session.store map old) (look : IsLook session.store map old new) where
  -- a refusal
  pub refused_tells : (refusal : Refusal) (reply : Reply) → ((db : Db) → StandsIn session map db → meaning db ≡ Err refusal) → reply ≡ reply_of (Err refusal)
      → Tells meaning session session map old new (Ok reply)
  refused_tells refusal reply means told = record {
    next = map;
    step = look_step session.store map (Ok reply) old new is look.looks;
    over = λ over. over;
    executes = λ db stands. refused_executes session map db stands (meaning db) refusal reply (means db stands) told;
    idle = λ db stands same. (look.looks, refl);
    bad = λ over. tt;
  }

  -- an answer that changes nothing
  pub answered_tells : (text : List ℕ) (reply : Reply) → ((db : Db) → StandsIn session map db → meaning db ≡ Ok (record { db = db; text = text })) → reply ≡ answered text
      → Tells meaning session session map old new (Ok reply)
  answered_tells text reply means told = record {
    next = map;
    step = look_step session.store map (Ok reply) old new is look.looks;
    over = λ over. over;
    executes = λ db stands. answered_executes session map db stands text (meaning db) reply (means db stands) (told ∙ sym (ap (λ outcome. reply_of outcome) (means db stands)));
    idle = λ db stands same. (look.looks, refl);
    bad = λ over. tt;
  }

  -- A stop: want of memory, a fault, or a bad file, which isn't there where a database is held.
  pub stopped_tells : (e : Stop) (result : Result Reply Stop) → result ≡ Err e → (IsOver session (by_name map) → IfBad {T = Reply} (Err e) (λ name place. Bad (by_name map) name place))
      → ((db : Db) → StandsIn session map db → IfBad {T = Reply} (Err e) (λ name place. ⊥)) → Tells meaning session session map old new result
  stopped_tells e result stops bad none = subst (λ (r : Result Reply Stop). Tells meaning session session map old new r) (sym stops) (record {
    next = map;
    step = look_step session.store map (Err e) old new is look.looks;
    over = λ over. stopped_by Reply e (IsOver session (by_name map)) (IsOver session (by_name map)) over;
    executes = λ db stands. stopped_executes session map db stands (meaning db) e (Err e) refl (none db stands);
    idle = λ db stands same. (look.looks, refl);
    bad = bad;
  })

  -- want of memory
  pub short_tells : (e : Stop) (result : Result Reply Stop) → result ≡ Err e → e ≡ NoMemory → Tells meaning session session map old new result
  short_tells e result stops wants =
      stopped_tells e result stops
      (λ over. subst (λ s. IfBad {T = Reply} (Err s) (λ name place. Bad (by_name map) name place)) (sym wants) tt)
      (λ db stands. subst (λ s. IfBad {T = Reply} (Err s) (λ name place. ⊥)) (sym wants) tt)

-- # A change

-- what a call of a session tells whose success makes a later database of one that the map held
abbrev pub TellsChange : {T : Type 0} → (Db → Db → Type 0) → Session → Session → FileList → World → World → Result T Stop → Type 0
TellsChange Change before after map old new result =
    (next : FileList) × IsStep after.store map next old new result × (IsOver before (by_name map) → IsOverAfter after map next result)
    × ((db later : Db) → StandsIn before map db → Change db later → Leaves after map next db later result)

-- The statement means this change of a database, and answers this text.
pub record MeansChange (Change : Db → Db → Type 0) (db : Db) (text : List ℕ) (outcome : Outcome) : Type 0 where
  pub later : Db
  pub is : outcome ≡ Ok (record { db = later; text = text })
  pub change : Change db later
  pub differs : later ≡ db → ⊥

module _ (meaning : Db → Outcome) (before after : Session) (map : FileList) (a b c : World) (is : IsStore before.store map a) (look : IsLook before.store map a b) (Change : Db → Db → Type 0)
    (text : List ℕ) (means : (db : Db) → StandsIn before map db → MeansChange Change db text (meaning db)) where
  behind : (db : Db) (stands : StandsIn before map db) → (means db stands).later ≡ db_behind db (meaning db)
  behind db stands = sym (ap (λ (outcome : Outcome). db_behind db outcome) (means db stands).is)

  idle : (db : Db) → StandsIn before map db → db_behind db (meaning db) ≡ db → ⊥
  idle db stands same = (means db stands).differs (behind db stands ∙ same)

  module _ {T : Type 0} where
    leaves : (next : FileList) (r : Result T Stop) → ((db later : Db) → StandsIn before map db → Change db later → Leaves after map next db later r)
        → (db : Db) → StandsIn before map db → Leaves after map next db (db_behind db (meaning db)) r
    leaves next r told db stands = subst (λ later. Leaves after map next db later r) (behind db stands) (told db (means db stands).later stands (means db stands).change)

    -- It was kept, and the statement answers.
    pub kept_tells : (x : T) (reply : Reply) → TellsChange {T = T} Change before after map b c (Ok x) → reply ≡ answered text → Tells meaning before after map a c (Ok reply)
    kept_tells x reply told answers = record {
      next = told.0;
      step = step_then before.store map (tt {0}) after.store told.0 a b c (Ok reply) (look_step before.store map (Ok (tt {0})) a b is look.looks) (record { moments = told.1.moments; stands = told.1.stands });
      over = told.2;
      executes = λ db stands.
          kept_executes after map told.0 db (meaning db) x reply (leaves told.0 (Ok x) told.3 db stands) (answers ∙ sym (ap (λ outcome. reply_of outcome) (means db stands).is));
      idle = λ db stands same. absurd (idle db stands same);
      bad = λ over. tt;
    }

    -- It was not kept, or a fault leaves open whether.
    pub unkept_tells : (e : Stop) (result : Result Reply Stop) → result ≡ Err e → TellsChange {T = T} Change before after map b c (Err e) → IfBad {T = T} (Err e) (λ name place. ⊥)
        → Tells meaning before after map a c result
    unkept_tells e result stops told none = subst (λ (r : Result Reply Stop). Tells meaning before after map a c r) (sym stops) (record {
      next = told.0;
      step = step_then before.store map (tt {0}) after.store told.0 a b c (Err e) (look_step before.store map (Ok (tt {0})) a b is look.looks)
          (record { moments = told.1.moments; stands = same_stop T Reply e (IsStore after.store told.0 c) (IsStore after.store map c) (Unit {0}) told.1.stands });
      over = λ over. same_stop T Reply e (IsOver after (by_name told.0)) (IsOver after (by_name map)) (Unit {0}) (told.2 over);
      executes = λ db stands. unkept_executes after map told.0 db (meaning db) e (Err e) refl (leaves told.0 (Err e) told.3 db stands) none;
      idle = λ db stands same. absurd (idle db stands same);
      bad = λ over. bad_of_none T e (λ name place. Bad (by_name map) name place) none;
    })
