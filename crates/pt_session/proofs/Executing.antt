-- The ends of a statement: what it leaves of the database, and answers.
use Rattle.std.proofs.Common.{◌≡◌, inl, refl, subst, sym}
use Rattle.std.specs.Prelude.{Result, Ok, Err, IfOk, OnOk}
use Rattle.pt_host.specs.Listed.{FileList, by_name}
use Rattle.pt_ast.specs.declared.database.Db.{Db}
use Rattle.pt_ast.specs.declared.refusal.Refusal.{Refusal}
use Rattle.pt_ast.specs.declared.reply.Reply.{Reply}
use Rattle.pt_store.specs.declared.stop.Stop.{Stop}
use Rattle.pt_store.specs.declared.stop.Stop.TheVariants.{NoMemory, Fault, Bad}
use Rattle.pt_store.specs.Stops.{ByStop, IfBad}
use Rattle.pt_db.specs.Outcome.{Outcome, db_behind, reply_of}
use Rattle.pt_holds.specs.Holds.{Holds}
use Rattle.pt_session.specs.declared.session.Session.{Session}
use Rattle.pt_session.specs.Session.{HasDefs, StandsIn}
use Rattle.pt_session.specs.Leaves.{Leaves, Executes}

-- # What calls leave

module _ (session : Session) (map : FileList) (db : Db) (stands : StandsIn session map db) where
  -- nothing was changed, and nothing is
  pub leaves_same : {T : Type 0} (result : Result T Stop) → Leaves session map map db db result
  leaves_same result = record { between = inl refl; holds = held result; defs = defs result }
    where
      held : {T : Type 0} (result : Result T Stop) → OnOk result (Holds (by_name map) db)
      held (Ok x) = stands.holds
      held (Err e) = tt

      defs : {T : Type 0} (result : Result T Stop) → ByStop result (HasDefs session db) (HasDefs session db) (Unit {0})
      defs (Ok x) = stands.defs
      defs (Err NoMemory) = stands.defs
      defs (Err (Bad name place)) = stands.defs
      defs (Err Fault) = tt

  -- nothing was changed, and the call stopped before it would have been
  pub leaves_stopped : {T : Type 0} (later : Db) (e : Stop) (result : Result T Stop) → result ≡ Err e → Leaves session map map db later result
  leaves_stopped {T} later e result stops = record { between = inl refl; holds = subst (λ (r : Result T Stop). OnOk r (Holds (by_name map) later)) (sym stops) tt; defs = subst (λ (r : Result T Stop). ByStop r (HasDefs session later) (HasDefs session db) (Unit {0})) (sym stops) (defs e) }
    where
      defs : (s : Stop) → ByStop {T = T} (Err s) (HasDefs session later) (HasDefs session db) (Unit {0})
      defs NoMemory = stands.defs
      defs (Bad name place) = stands.defs
      defs Fault = tt

  -- # Statements

  -- a refusal
  pub refused_executes : (outcome : Outcome) (refusal : Refusal) (reply : Reply) → outcome ≡ Err refusal → reply ≡ reply_of (Err refusal) → Executes session map map db outcome (Ok reply)
  refused_executes outcome refusal reply is told =
      subst (λ (o : Outcome). Executes session map map db o (Ok reply)) (sym is) (record { leaves = leaves_same (Ok reply); reply = told; not_bad = tt })

  -- an answer that changes nothing
  pub answered_executes : (text : _) (outcome : Outcome) (reply : Reply) → outcome ≡ Ok (record { db = db; text = text }) → reply ≡ reply_of outcome → Executes session map map db outcome (Ok reply)
  answered_executes text outcome reply is told =
      record { leaves = subst (λ (o : Outcome). Leaves session map map db (db_behind db o) (Ok reply)) (sym is) (leaves_same (Ok reply)); reply = told; not_bad = tt }

  -- want of memory, or a fault, before anything was changed
  pub stopped_executes : (outcome : Outcome) (e : Stop) (result : Result Reply Stop) → result ≡ Err e → IfBad {T = Reply} (Err e) (λ name place. ⊥) → Executes session map map db outcome result
  stopped_executes outcome e result stops bad = record {
    leaves = leaves_stopped (db_behind db outcome) e result stops;
    reply = subst (λ (r : Result Reply Stop). IfOk r (λ reply. reply ≡ reply_of outcome)) (sym stops) tt;
    not_bad = subst (λ (r : Result Reply Stop). IfBad r (λ name place. ⊥)) (sym stops) bad;
  }

module _ (after : Session) (map next : FileList) (db : Db) (outcome : Outcome) where
  -- the change was kept, and the statement answers
  pub kept_executes : {T : Type 0} (x : T) (reply : Reply) → Leaves after map next db (db_behind db outcome) (Ok x) → reply ≡ reply_of outcome → Executes after map next db outcome (Ok reply)
  kept_executes x reply left told = record { leaves = record { between = left.between; holds = left.holds; defs = left.defs }; reply = told; not_bad = tt }

  -- the change was not kept, or a fault leaves open whether
  pub unkept_executes : {T : Type 0} (e : Stop) (result : Result Reply Stop) → result ≡ Err e → Leaves {T = T} after map next db (db_behind db outcome) (Err e) → IfBad {T = T} (Err e) (λ name place. ⊥) → Executes after map next db outcome result
  unkept_executes {T} e result stops left bad = subst (λ (r : Result Reply Stop). Executes after map next db outcome r) (sym stops) (record { leaves = record { between = left.between; holds = tt; defs = defs e left.defs }; reply = tt; not_bad = no_bad e bad })
    where
      defs : (s : Stop) → ByStop {T = T} (Err s) (HasDefs after (db_behind db outcome)) (HasDefs after db) (Unit {0}) → ByStop {T = Reply} (Err s) (HasDefs after (db_behind db outcome)) (HasDefs after db) (Unit {0})
      defs NoMemory had = had
      defs (Bad name place) had = had
      defs Fault had = tt

      no_bad : (s : Stop) → IfBad {T = T} (Err s) (λ name place. ⊥) → IfBad {T = Reply} (Err s) (λ name place. ⊥)
      no_bad NoMemory had = tt
      no_bad (Bad name place) had = absurd had
      no_bad Fault had = tt
