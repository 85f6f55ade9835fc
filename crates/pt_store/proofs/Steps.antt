-- Calls on a store, one after the other.
use Rattle.std.proofs.Common.{◌≡◌, inl, inr}
use Rattle.std.specs.Prelude.{Result, Ok, Err, None}
use Rattle.pt_host.specs.Disk.{shown}
use Rattle.pt_host.specs.World.{World, IsQuiet, OnlyLooks}
use Rattle.pt_host.specs.Listed.{FileList}
use Rattle.pt_host.specs.Replacement.{AsBeforeBut}
use Rattle.pt_host.proofs.Runs.{quiet_none, quiet_then, quiet_weaken, looks_none, looks_same, looks_then, looks_quiet}
use Rattle.pt_left.specs.Left.{shadow_name, IsLeft, IsEither}
use Rattle.pt_store.specs.declared.stop.Stop.{Stop}
use Rattle.pt_store.specs.declared.stop.Stop.TheVariants.{NoMemory, Fault, Bad}
use Rattle.pt_store.specs.declared.store.Store.{Store}
use Rattle.pt_store.specs.Stops.{ByStop}
use Rattle.pt_store.specs.Store.{IsStore}
use Rattle.pt_store.specs.Step.{IsStep, IsLook, OnlyClears}
use Rattle.pt_store.proofs.Moments.{but_left, looks_kept}

-- what holds however the call ended
pub by_stop : {T : Type 0} (result : Result T Stop) (Here : Type 0) → Here → ByStop result Here Here (Unit {0})
by_stop (Ok x) Here here = here
by_stop (Err NoMemory) Here here = here
by_stop (Err (Bad name place)) Here here = here
by_stop (Err Fault) Here here = tt

either_first : (map next : FileList) (a b : World) → IsQuiet a b (IsLeft map) → IsQuiet a b (IsEither map next)
either_first map next a b quiet = quiet_weaken a b (IsLeft map) (IsEither map next) (λ files left. inl left) quiet

-- # Steps

module _ (store : Store) (map : FileList) where
  -- nothing was done
  pub no_step : {T : Type 0} (result : Result T Stop) (w : World) → IsStore store map w → IsStep store map map w w result
  no_step result w is = record { moments = quiet_none w (IsEither map map) (λ files image. inl (is.left files image)); stands = by_stop result (IsStore store map w) is }

  -- nothing was done, and the call stopped
  pub stopped_step : {T : Type 0} (next : FileList) (e : Stop) (result : Result T Stop) (w : World) → result ≡ Err e → IsStore store map w → IsStep store map next w w result
  stopped_step {T} next e result w stops is = record { moments = quiet_none w (IsEither map next) (λ files image. inl (is.left files image)); stands = rw stops (go e) }
    where
      go : (s : Stop) → ByStop {T = T} (Err s) (IsStore store next w) (IsStore store map w) (Unit {0})
      go NoMemory = is
      go (Bad name place) = is
      go Fault = tt

  -- it only looked
  pub look_step : {T : Type 0} (result : Result T Stop) (a b : World) → IsStore store map a → OnlyLooks a b → IsStep store map map a b result
  look_step result a b is looks = record {
    moments = either_first map map a b (looks_quiet a b (IsLeft map) is.left looks);
    stands = by_stop result (IsStore store map b) (looks_kept a b store map looks is);
  }

  -- a step behind one that left the map as it was
  pub step_then : {T U : Type 0} (x : T) (after : Store) (next : FileList) (a b c : World) (result : Result U Stop)
      → IsStep store map map a b (Ok x) → IsStep after map next b c result → IsStep after map next a c result
  step_then x after next a b c result first then = record {
    moments = quiet_then a b c (IsEither map next) (quiet_weaken a b (IsEither map map) (IsEither map next) (λ files either. elim either [ inl left ↦ inl left | inr left ↦ inl left ]) first.moments) then.moments;
    stands = then.stands;
  }

  -- # Looks

  pub no_look : (w : World) → IsStore store map w → IsLook store map w w
  no_look w is = record { looks = looks_none w; stands = is }

  pub look_here : (a b : World) → OnlyLooks a b → IsStore store map a → IsLook store map a b
  look_here a b looks is = record { looks = looks; stands = looks_kept a b store map looks is }

  pub look_then : (a b c : World) → IsLook store map a b → IsLook store map b c → IsLook store map a c
  look_then a b c first then = record { looks = looks_then a b c first.looks then.looks; stands = then.stands }

-- # A leftover shadow

pub cleared : (old new : World) → IsQuiet old new (AsBeforeBut old.now.fs shadow_name) → (shown old.now.fs shadow_name ≡ None → new ≡ old) → OnlyClears old new
cleared old new but idle = record {
  map = λ map each. but_left old new map each but;
  others = but;
  looks = λ none. looks_same old new (idle none);
}

-- and then it only looked
pub clears_looks : (a b c : World) → OnlyClears a b → OnlyLooks b c → OnlyClears a c
clears_looks a b c clears looks = record {
  map = λ map each. let kept = clears.map map each in quiet_then a b c (IsLeft map) kept (looks_quiet b c (IsLeft map) kept.now looks);
  others = quiet_then a b c (AsBeforeBut a.now.fs shadow_name) clears.others (looks_quiet b c (AsBeforeBut a.now.fs shadow_name) clears.others.now looks);
  looks = λ none. looks_then a b c (clears.looks none) looks;
}
