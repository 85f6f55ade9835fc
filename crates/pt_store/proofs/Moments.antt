-- What the directory stands for, over runs of the store's calls.
use Rattle.std.proofs.Common.{◌≡◌, ℕ, List, [], refl, sym, ap, subst, ◌∙◌, inl, inr}
use Rattle.std.specs.Prelude.{Some, IsSome, IsTrue, Err}
use Rattle.pt_host.specs.Disk.{Fs, IsImage, EachImage, IsAtRest, IsSound, shown}
use Rattle.pt_host.specs.World.{World, IsQuiet, OnlyLooks}
use Rattle.pt_host.specs.Images.{IsHeld, OnlyAt}
use Rattle.pt_host.specs.Listed.{FileList}
use Rattle.pt_host.specs.Replacement.{AsBeforeBut, Replaces, IsBeforeOrAfter, IsClear}
use Rattle.pt_host.proofs.Held.{held_image, held_shown}
use Rattle.pt_host.proofs.Runs.{follows_each, follows_weaken, image_then, quiet_weaken}
use Rattle.pt_host.proofs.Shown.{shown_has, at_rest_images}
use Rattle.pt_store.specs.declared.entry.Entry.{Entry}
use Rattle.pt_store.specs.declared.store.Store.{Store}
use Rattle.pt_store.specs.Entries.{AreEntries, HasEntries, IsMeaningless, bytes_of}
use Rattle.pt_left.specs.Left.{whole_name, shadow_name, with_serials, SpelledIn, GivesMap, Left, NoneLeft, IsLeft, IsEither, OnlyOwn, AsBeforeButOwn}
use Rattle.pt_left.proofs.Directories.{apart, left_same, at_rest_left}
use Rattle.pt_store.specs.Store.{IsStore, is_live}
use Rattle.pt_store.specs.declared.stop.Stop.{Stop}
use Rattle.pt_store.specs.declared.stop.Stop.TheVariants.{NoMemory, Fault, Bad}
use Rattle.pt_store.specs.Stops.{IfBad}

-- # A shadow is removed

pub but_left : (old new : World) (map : FileList) → EachImage old.now.fs (IsLeft map) → IsQuiet old new (AsBeforeBut old.now.fs shadow_name) → IsQuiet old new (IsLeft map)
but_left old new map each = follows_each old new (OnlyAt shadow_name) (IsLeft map) (IsLeft map) each (λ x y left only. left_same map x y (only whole_name apart) left)

pub whole_kept : (old new : World) → IsSound new.now.fs → IsAtRest old.now.fs → IsQuiet old new (AsBeforeBut old.now.fs shadow_name) → shown new.now.fs whole_name ≡ shown old.now.fs whole_name
whole_kept old new sound rest quiet =
    let f : AsBeforeBut old.now.fs shadow_name (shown new.now.fs) = shown_has new.now.fs (AsBeforeBut old.now.fs shadow_name) sound quiet.now in
    f.step whole_name apart ∙ at_rest_images old.now.fs rest f.before f.image whole_name

-- # A store is attached

module _ (old cleared read : World) (sound : IsSound cleared.now.fs) (rest : IsAtRest old.now.fs) (but : IsQuiet old cleared (AsBeforeBut old.now.fs shadow_name)) where
  same_whole : shown cleared.now.fs whole_name ≡ shown old.now.fs whole_name
  same_whole = whole_kept old cleared sound rest but

  pub meaningless : IsMeaningless (shown cleared.now.fs whole_name) → NoneLeft (shown old.now.fs)
  meaningless none map left = none left.spelled (subst (λ whole. SpelledIn whole left.spelled) (sym same_whole) left.is)

  pub attached : (store : Store) (entries : List Entry) → IsTrue (is_live store) → IsClear cleared.now.fs shadow_name → read.now.fs ≡ cleared.now.fs → IsQuiet cleared read (IsImage cleared.now.fs) → IsSome old.dir
      → HasEntries (shown cleared.now.fs whole_name) entries
      → ((bytes : List ℕ) (files : FileList) → AreEntries bytes entries files → AreEntries bytes store.entries (with_serials files))
      → (map : FileList) × EachImage old.now.fs (IsLeft map) × IsStore store map read
  attached store entries live clear same image entered has complete =
      let left : Left (shown old.now.fs) (with_serials has.files) =
      record { spelled = has.files; is = subst (λ whole. SpelledIn whole has.files) same_whole has.spelled; complete = refl } in
      let each : EachImage old.now.fs (IsLeft (with_serials has.files)) = at_rest_left old.now.fs (with_serials has.files) rest left in (
        with_serials has.files,
        each,
        record {
          live = live;
          left = (image_then old cleared read (IsLeft (with_serials has.files)) (but_left old cleared (with_serials has.files) each but) image).now;
          entered = subst IsSome (sym (image.dir ∙ but.dir)) entered;
          settled = ap (λ (fs : Fs). fs.pending) same ∙ clear.settled;
          here = subst (λ (fs : Fs). AreEntries (bytes_of (shown fs whole_name)) store.entries (with_serials has.files)) (sym same)
              (complete (bytes_of (shown cleared.now.fs whole_name)) has.files has.are);
        },
      )

-- what changes nothing on the disk leaves the store standing, as a `say` or a `take`
pub store_kept : (old new : World) (store : Store) (files : FileList) → new.now.fs ≡ old.now.fs → new.dir ≡ old.dir → IsStore store files old → IsStore store files new
store_kept old new store files same dir is = record {
  live = is.live;
  left = subst (λ (fs : Fs). EachImage fs (IsLeft files)) (sym same) is.left;
  entered = subst IsSome (sym dir) is.entered;
  settled = ap (λ (fs : Fs). fs.pending) same ∙ is.settled;
  here = subst (λ (fs : Fs). AreEntries (bytes_of (shown fs whole_name)) store.entries files) (sym same) is.here;
}

-- nor does a run that only looks
pub looks_kept : (old new : World) (store : Store) (files : FileList) → OnlyLooks old new → IsStore store files old → IsStore store files new
looks_kept old new store files looks = store_kept old new store files looks.now.fs looks.dir

-- # A map is replaced

module _ (old new : World) (bytes : List ℕ) (files : FileList) (stands : GivesMap (Some bytes) files) (either : IsQuiet old new (IsBeforeOrAfter old.now.fs whole_name shadow_name bytes)) where
  pub either_left : (before : FileList) → EachImage old.now.fs (IsLeft before) → IsQuiet old new (IsEither before files)
  either_left before each =
      follows_each old new (Replaces whole_name shadow_name bytes) (IsLeft before) (IsEither before files) each
      (λ x y left step. elim step.here [ inl same ↦ inl (left_same before x y same left) | inr put_in ↦ inr (subst (λ whole. GivesMap whole files) (sym put_in) stands) ])
      either

  pub replaced : (store : Store) → IsTrue (is_live store) → IsSound new.now.fs → IsSome old.dir → IsHeld new.now.fs whole_name bytes → new.now.fs.pending ≡ [] → AreEntries bytes store.entries files → IsStore store files new
  replaced store live sound entered held settled are = record {
    live = live;
    left = λ images image. subst (λ whole. GivesMap whole files) (sym (held_image new.now.fs whole_name bytes held images image)) stands;
    entered = subst IsSome (sym either.dir) entered;
    settled = settled;
    here = subst (λ whole. AreEntries (bytes_of whole) store.entries files) (sym (held_shown new.now.fs whole_name bytes sound held)) are;
  }

-- no other file than the store's own two has changed
pub own_alone : (old new : World) (bytes : List ℕ) → IsQuiet old new (IsBeforeOrAfter old.now.fs whole_name shadow_name bytes) → IsQuiet old new (AsBeforeButOwn old.now.fs)
own_alone old new bytes = quiet_weaken old new _ _ (follows_weaken old.now.fs (Replaces whole_name shadow_name bytes) OnlyOwn (λ x y step. step.others))

-- # Why a call stopped

pub bad_weaker : (T U : Type 0) (e : Stop) (P Q : List ℕ → ℕ → Type 0) → ((name : List ℕ) (place : ℕ) → P name place → Q name place) → IfBad {T = T} (Err e) P → IfBad {T = U} (Err e) Q
bad_weaker T U NoMemory P Q weaker bad = tt
bad_weaker T U Fault P Q weaker bad = tt
bad_weaker T U (Bad name place) P Q weaker bad = weaker name place bad
