-- What holds where a call halts or stops.
use Rattle.std.proofs.Common.{◌≡◌, ◌<◌, List, [], ◌∷◌, length, arith, Result, Ok, Err, refl, sym, ap, ◌∙◌, subst}
use Rattle.pt_host.specs.Listed.{FileList, by_name}
use Rattle.pt_host.specs.World.{World}
use Rattle.pt_host.proofs.Runs.{looks_then}
use Rattle.pt_ast.specs.declared.database.Db.{Db}
use Rattle.pt_ast.specs.declared.reply.Reply.{Reply}
use Rattle.pt_store.specs.declared.stop.Stop.{Stop}
use Rattle.pt_store.specs.declared.stop.Stop.TheVariants.{NoMemory, Fault, Bad as BadFile}
use Rattle.pt_store.specs.Step.{IsLook}
use Rattle.pt_store.specs.Stops.{IfBad}
use Rattle.pt_store.specs.Store.{IsStore}
use Rattle.pt_store.proofs.Steps.{look_step, step_then}
use Rattle.pt_db.specs.Outcome.{Outcome}
use Rattle.pt_holds.specs.Bad.{Bad}
use Rattle.pt_session.specs.declared.session.Session.{Session}
use Rattle.pt_session.specs.Leaves.{Tells}
use Rattle.pt_session.specs.Session.{IsOver, StandsIn}
use Rattle.pt_session.proofs.Excludes.{bad_excludes}
use Rattle.pt_session.proofs.Over.{stands_over}
use Rattle.pt_books.specs.declared.halt.Halt.{Halt}
use Rattle.pt_books.specs.declared.halt.Halt.TheVariants as halt
use Rattle.pt_books.specs.Halts.{stop_of}

-- what holds of the error that an answer carries
pub at_err : {T E : Type 0} (P : Result T E → Type 0) (r : Result T E) (told is : E) → r ≡ Err told → told ≡ is → P (Err is) → P r
at_err P r told is carries same here = subst P (sym (carries ∙ ap (λ e. Err e) same)) here

-- # A stop

module _ {Tells : Type 0} (session : Session) (map : FileList) (w : World) (told : Tells) (is : IsStore session.store map w) where
  abbrev pub Names : Stop → Type 0
  Names stop = IfBad {T = Unit {0}} (Err stop) (λ name place. Tells → (files : FileList) → IsStore session.store files w → IsOver session (by_name files) → Bad (by_name files) name place)

  pub stop_bad : (stop : Stop) → Names stop → IsOver session (by_name map) → IfBad {T = Reply} (Err stop) (λ name place. Bad (by_name map) name place)
  stop_bad NoMemory had over = tt
  stop_bad (BadFile name place) had over = had told map is over
  stop_bad Fault had over = tt

  pub stop_none : (stop : Stop) → Names stop → (db : Db) → StandsIn session map db → IfBad {T = Reply} (Err stop) (λ name place. ⊥)
  stop_none NoMemory had db stands = tt
  stop_none (BadFile name place) had db stands = bad_excludes (by_name map) db name place stands.holds (had told map is (stands_over session map db stands))
  stop_none Fault had db stands = tt

-- a bad file is told of the map that a later call found
pub later_bad : {Tells : Type 0} (e : Halt) (session : Session) (old new : World) → (Tells → (map : FileList) → IsStore session.store map old → IsStore session.store map new)
    → IfBad (stop_of {T = Unit {0}} (Err e)) (λ name place. Tells → (map : FileList) → IsStore session.store map new → IsOver session (by_name map) → Bad (by_name map) name place)
    → IfBad (stop_of {T = Unit {0}} (Err e)) (λ name place. Tells → (map : FileList) → IsStore session.store map old → IsOver session (by_name map) → Bad (by_name map) name place)
later_bad (halt.Refused why) session old new stands had = tt
later_bad (halt.Stopped NoMemory) session old new stands had = tt
later_bad (halt.Stopped (BadFile name place)) session old new stands had = λ told map is. had told map (stands told map is)
later_bad (halt.Stopped Fault) session old new stands had = tt

-- # A statement that only looked, and then did what tells this

pub tells_behind : (meaning : Db → Outcome) (before after : Session) (map : FileList) (a b c : World) (result : Result Reply Stop) → IsStore before.store map a → IsLook before.store map a b
    → Tells meaning before after map b c result → Tells meaning before after map a c result
tells_behind meaning before after map a b c result is look told = record {
  next = told.next;
  step = step_then before.store map (tt {0}) after.store told.next a b c result (look_step before.store map (Ok (tt {0})) a b is look.looks) told.step;
  over = told.over;
  executes = told.executes;
  idle = λ db stands same. (let idle = told.idle db stands same in (looks_then a b c look.looks idle.0, idle.1));
  bad = told.bad;
}

-- # How many changes there are

pub none_there : {X : Type 0} (xs : List X) → length xs ≡ 0 → xs ≡ []
none_there [] e = refl
none_there (x ∷ xs) e = absurd (omega (arith, e))

pub some_there : {X : Type 0} (xs : List X) → (length xs ≡ 0 → ⊥) → 0 < length xs
some_there [] apart = absurd (apart refl)
some_there (x ∷ xs) apart = omega arith
