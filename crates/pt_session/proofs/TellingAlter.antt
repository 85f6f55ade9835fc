-- The ends of an ALTER, as all that its execution tells: what only looked tells as much as of any statement, and a change was kept or not.
use Rattle.std.proofs.Common.{◌≡◌, refl, sym, ap, ◌∙◌, subst}
use Rattle.std.specs.Prelude.{ℕ, List, Result, Ok, Err}
use Rattle.pt_host.specs.Listed.{FileList, by_name}
use Rattle.pt_host.specs.World.{World}
use Rattle.pt_ast.specs.declared.database.Db.{Db}
use Rattle.pt_ast.specs.declared.refusal.Refusal.{Refusal}
use Rattle.pt_ast.specs.declared.reply.Reply.{Reply}
use Rattle.pt_store.specs.declared.stop.Stop.{Stop}
use Rattle.pt_store.specs.Step.{IsLook}
use Rattle.pt_store.specs.Stops.{IfBad}
use Rattle.pt_store.specs.Store.{IsStore}
use Rattle.pt_store.proofs.Steps.{look_step, step_then}
use Rattle.pt_db.specs.Outcome.{Outcome, db_behind, reply_of}
use Rattle.pt_db.specs.Texts.{answered}
use Rattle.pt_holds.specs.Bad.{Bad}
use Rattle.pt_session.specs.declared.session.Session.{Session}
use Rattle.pt_session.specs.Session.{IsOver, StandsIn}
use Rattle.pt_session.specs.Leaves.{Executes, Leaves, Tells, TellsAlter}
use Rattle.pt_session.proofs.Executing.{kept_executes, unkept_executes}
use Rattle.pt_session.proofs.Telling.{TellsChange, bad_of_none, same_stop}

-- what any statement tells is more
pub weaker : (meaning : Db → Outcome) (before after : Session) (map : FileList) (old new : World) (result : Result Reply Stop)
    → Tells meaning before after map old new result → TellsAlter meaning before after map old new result
weaker meaning before after map old new result told = record {
  next = told.next;
  step = told.step;
  over = told.over;
  executes = told.executes;
  refused = λ db stands refusal is. told.idle db stands (ap (λ (outcome : Outcome). db_behind db outcome) is);
  bad = told.bad;
}

-- a statement that means the same of each database that the session stands for
pub alters_same : (a b : Db → Outcome) (before after : Session) (map : FileList) (old new : World) (result : Result Reply Stop) → ((db : Db) → StandsIn before map db → a db ≡ b db)
    → TellsAlter a before after map old new result → TellsAlter b before after map old new result
alters_same a b before after map old new result same told = record {
  next = told.next;
  step = told.step;
  over = told.over;
  executes = λ db stands. subst (λ outcome. Executes after map told.next db outcome result) (same db stands) (told.executes db stands);
  refused = λ db stands refusal is. told.refused db stands refusal (same db stands ∙ is);
  bad = told.bad;
}

-- The statement means this change of a database, and answers this text. The database may be the same afterwards.
pub record MeansAlter (Change : Db → Db → Type 0) (db : Db) (text : List ℕ) (outcome : Outcome) : Type 0 where
  pub later : Db
  pub is : outcome ≡ Ok (record { db = later; text = text })
  pub change : Change db later

not_both : {T : Type 0} (x : T) (refusal : Refusal) → Ok x ≡ Err refusal → ⊥
not_both x refusal e = let bad : Ok x ≡ Err refusal = e in cc

no_refusal : (db : Db) (text : List ℕ) (outcome : Outcome) (Change : Db → Db → Type 0) → MeansAlter Change db text outcome → (refusal : Refusal) → outcome ≡ Err refusal → ⊥
no_refusal db text outcome Change means refusal is = not_both (record { db = means.later; text = text }) refusal (sym means.is ∙ is)

module _ (meaning : Db → Outcome) (before after : Session) (map : FileList) (a b c : World) (is : IsStore before.store map a) (look : IsLook before.store map a b) (Change : Db → Db → Type 0)
    (text : List ℕ) (means : (db : Db) → StandsIn before map db → MeansAlter Change db text (meaning db)) where
  behind : (db : Db) (stands : StandsIn before map db) → (means db stands).later ≡ db_behind db (meaning db)
  behind db stands = sym (ap (λ (outcome : Outcome). db_behind db outcome) (means db stands).is)

  module _ {T : Type 0} where
    leaves : (next : FileList) (r : Result T Stop) → ((db later : Db) → StandsIn before map db → Change db later → Leaves after map next db later r)
        → (db : Db) → StandsIn before map db → Leaves after map next db (db_behind db (meaning db)) r
    leaves next r told db stands = subst (λ later. Leaves after map next db later r) (behind db stands) (told db (means db stands).later stands (means db stands).change)

    -- It was kept, and the statement answers.
    pub kept_alters : (x : T) (reply : Reply) → TellsChange {T = T} Change before after map b c (Ok x) → reply ≡ answered text → TellsAlter meaning before after map a c (Ok reply)
    kept_alters x reply told answers = record {
      next = told.0;
      step = step_then before.store map (tt {0}) after.store told.0 a b c (Ok reply) (look_step before.store map (Ok (tt {0})) a b is look.looks) (record { moments = told.1.moments; stands = told.1.stands });
      over = told.2;
      executes = λ db stands.
          kept_executes after map told.0 db (meaning db) x reply (leaves told.0 (Ok x) told.3 db stands) (answers ∙ sym (ap (λ outcome. reply_of outcome) (means db stands).is));
      refused = λ db stands refusal same. absurd (no_refusal db text (meaning db) Change (means db stands) refusal same);
      bad = λ over. tt;
    }

    -- It was not kept, or a fault leaves open whether.
    pub unkept_alters : (e : Stop) (result : Result Reply Stop) → result ≡ Err e → TellsChange {T = T} Change before after map b c (Err e) → IfBad {T = T} (Err e) (λ name place. ⊥)
        → TellsAlter meaning before after map a c result
    unkept_alters e result stops told none = subst (λ (r : Result Reply Stop). TellsAlter meaning before after map a c r) (sym stops) (record {
      next = told.0;
      step = step_then before.store map (tt {0}) after.store told.0 a b c (Err e) (look_step before.store map (Ok (tt {0})) a b is look.looks)
          (record { moments = told.1.moments; stands = same_stop T Reply e (IsStore after.store told.0 c) (IsStore after.store map c) (Unit {0}) told.1.stands });
      over = λ over. same_stop T Reply e (IsOver after (by_name told.0)) (IsOver after (by_name map)) (Unit {0}) (told.2 over);
      executes = λ db stands. unkept_executes after map told.0 db (meaning db) e (Err e) refl (leaves told.0 (Err e) told.3 db stands) none;
      refused = λ db stands refusal same. absurd (no_refusal db text (meaning db) Change (means db stands) refusal same);
      bad = λ over. bad_of_none T e (λ name place. Bad (by_name map) name place) none;
    })
