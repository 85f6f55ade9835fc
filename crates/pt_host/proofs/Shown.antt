-- What is read: after each call, as an image, and with nothing pending.
use Rattle.std.proofs.Common.{◌≡◌, ◌≢◌, ℕ, ◌<◌, ◌≤◌, true, false, List, [], length, is_some, refl, sym, ap, ◌∙◌, subst, arith}
use Rattle.std.specs.Prelude.{Option, Some, None, IsSome, IsSomeAnd}
use Rattle.std.proofs.lemmas.Grind.{same_number_lists}
use Rattle.pt_host.specs.Disk.{Names, Files, NameOp, Create, Rename, Unlink, Object, empty_object, MayHold, MayBe, Fs, put, moved, after_op, present, shown, EachImage, IsAtRest, IsSound, with_object, on_file, with_op, created, names_synced}
use Rattle.pt_host.specs.Images.{IsHeld, IsThere, AreSame, OnlyAt, files_after, Rewrites}
use Rattle.pt_host.proofs.Names.{put_same, put_other, put_each, put_cong, put_map, survives_all, names_after-push}
use Rattle.pt_host.proofs.Sound.{shown_object}
use Rattle.pt_host.proofs.Images.{changed, other_object, this_object, read, may_be_some, may_be_none, shown_is_image, shown_is_full, full_is_image, settled_images}
use Rattle.pt_host.proofs.Held.{settled_steady, steady_now, there_shown, held_shown}

-- # After each call

module _ (fs : Fs) where
  shown-op : (op : NameOp) (query : List ℕ) → shown (with_op op fs) query ≡ read fs.objects (after_op op (present fs) query)
  shown-op op query = ap (λ (names : Names). read fs.objects (names query)) (names_after-push fs.pending op fs.names)

  pub shown-unlink : (name : List ℕ) → AreSame (files_after (Unlink name) (shown fs)) (shown (with_op (Unlink name) fs))
  shown-unlink name query = shown-op (Unlink name) query ∙ put_map (λ object. (fs.objects object).bytes) (present fs) name query None

  pub shown-rename : (from to : List ℕ) → AreSame (files_after (Rename from to) (shown fs)) (shown (with_op (Rename from to) fs))
  shown-rename from to query = shown-op (Rename from to) query ∙ go (present fs from)
    where
      go : (had : Option ℕ) → read fs.objects (moved (present fs) from to had query) ≡ moved (shown fs) from to (read fs.objects had) query
      go None = refl
      go (Some object) =
          put_map (λ i. (fs.objects i).bytes) (put (present fs) from None) to query (Some object)
          ∙ put_cong (put (shown fs) from None) (λ other. read fs.objects (put (present fs) from None other)) to (Some (fs.objects object).bytes)
          (λ other. put_map (λ i. (fs.objects i).bytes) (present fs) from other None) query

  pub shown-created : (name : List ℕ) → IsSound fs → AreSame (files_after (Create name fs.made) (shown fs)) (shown (created name fs))
  shown-created name sound query =
      ap (λ (names : Names). read (changed fs.objects fs.made empty_object) (names query)) (names_after-push fs.pending (Create name fs.made) fs.names)
      ∙ put_each (shown fs) name (Some []) (λ other file. read (changed fs.objects fs.made empty_object) (put (present fs) name (Some fs.made) other) ≡ file)
      (ap (read (changed fs.objects fs.made empty_object)) (put_same (present fs) name (Some fs.made))
      ∙ ap (λ (o : Object). Some o.bytes) (this_object fs.objects fs.made empty_object fs.made refl))
      (λ other differs. ap (read (changed fs.objects fs.made empty_object)) (put_other (present fs) name other (Some fs.made) differs) ∙ old other (present fs other) refl)
      query
    where
      old : (other : List ℕ) (had : Option ℕ) → present fs other ≡ had → read (changed fs.objects fs.made empty_object) had ≡ read fs.objects had
      old other None e = refl
      old other (Some object) e = ap (λ (o : Object). Some o.bytes) (other_object fs.objects fs.made empty_object object
          (let h : object < fs.made = sound.bound fs.pending (survives_all fs.pending) other object e in omega arith))

  pub shown-changed : (name : List ℕ) (object : ℕ) (change : Object → Object) → present fs name ≡ Some object → shown (on_file (present fs name) change fs) name ≡ Some (change (fs.objects object)).bytes
  shown-changed name object change e =
      ap (λ had. shown (on_file had change fs) name) e
      ∙ shown_object (with_object object change fs) name object e
      ∙ ap (λ (o : Object). Some o.bytes) (this_object fs.objects object (change (fs.objects object)) object refl)

-- a write or a sync of one file leaves the others as they are read
pub shown_rewritten : (old new : Fs) (name : List ℕ) → IsSound old → Rewrites old new name → OnlyAt name (shown old) (shown new)
shown_rewritten old new name sound r query differs = rw (r.pending, r.names) (go (present old query) refl)
  where
    go : (had : Option ℕ) → present old query ≡ had → read new.objects had ≡ read old.objects had
    go None e = refl
    go (Some object) e = ap (λ (o : Object). Some o.bytes) (r.others object (λ f. differs (sound.once old.pending (survives_all old.pending) query name object e f)))

-- # What calls ask of what is read, and say of it

pub shown_some : (fs : Fs) (name file : List ℕ) → shown fs name ≡ Some file → IsSome (shown fs name)
shown_some fs name file e = rw e refl

pub shown_within : (fs : Fs) (name file : List ℕ) (at : ℕ) → shown fs name ≡ Some file → at ≤ length file → IsSomeAnd (shown fs name) (λ bytes. at ≤ length bytes)
shown_within fs name file at e within = rw e within

pub shown_gives : (fs : Fs) (name file : List ℕ) (P : List ℕ → Type 0) → shown fs name ≡ Some file → IsSomeAnd (shown fs name) P → P file
shown_gives fs name file P e h = rw e at h

pub there_some : (fs : Fs) (name file : List ℕ) → IsThere fs name file → IsSome (shown fs name)
there_some fs name file there = shown_some fs name file (there_shown fs name file there)

pub there_within : (fs : Fs) (name file : List ℕ) (at : ℕ) → IsThere fs name file → at ≤ length file → IsSomeAnd (shown fs name) (λ bytes. at ≤ length bytes)
there_within fs name file at there = shown_within fs name file at (there_shown fs name file there)

pub held_some : (fs : Fs) (name file : List ℕ) → IsSound fs → IsHeld fs name file → IsSome (shown fs name)
held_some fs name file sound held = shown_some fs name file (held_shown fs name file sound held)

pub held_within : (fs : Fs) (name file : List ℕ) (at : ℕ) → IsSound fs → IsHeld fs name file → at ≤ length file → IsSomeAnd (shown fs name) (λ bytes. at ≤ length bytes)
held_within fs name file at sound held = shown_within fs name file at (held_shown fs name file sound held)

-- # What each image has

-- What each image has, that which is read has.
pub shown_has : (fs : Fs) (P : Files → Type 0) → IsSound fs → EachImage fs P → P (shown fs)
shown_has fs P sound each = each (shown fs) (shown_is_image fs sound)

-- with nothing pending, a file is in each image exactly where it is read
pub presence : (fs : Fs) (name : List ℕ) → fs.pending ≡ [] → EachImage fs (λ files. is_some (files name) ≡ is_some (shown fs name))
presence fs name settled files image = rw settled (go (fs.names name) (files name) (settled_images fs settled files image name))
  where
    go : (had : Option ℕ) (file : Option (List ℕ)) → MayBe fs.objects had file → is_some file ≡ is_some (read fs.objects had)
    go None file may = ap is_some (may_be_none fs.objects file may)
    go (Some object) file may = ap is_some (may_be_some fs.objects object file may).1

pub absence : (fs : Fs) (name : List ℕ) → fs.pending ≡ [] → shown fs name ≡ None → EachImage fs (λ files. files name ≡ None)
absence fs name settled none files image = go (files name) (presence fs name settled files image ∙ ap is_some none)
  where
    go : (file : Option (List ℕ)) → is_some file ≡ false → file ≡ None
    go None e = refl
    go (Some bytes) e = let bad : true ≡ false = e in cc

-- the object of a file that is read
pub object_of : (fs : Fs) (name bytes : List ℕ) → shown fs name ≡ Some bytes → (object : ℕ) × (present fs name ≡ Some object) × ((fs.objects object).bytes ≡ bytes)
object_of fs name bytes e = go (present fs name) refl e
  where
    go : (had : Option ℕ) → present fs name ≡ had → read fs.objects had ≡ Some bytes → (object : ℕ) × (present fs name ≡ Some object) × ((fs.objects object).bytes ≡ bytes)
    go None f g = let bad : None ≡ Some bytes = g in cc
    go (Some object) f g = (object, f, (let same : Some (fs.objects object).bytes ≡ Some bytes = g in cc))

-- With nothing pending a file of the same content in each image is held.
pub held_if_same : (fs : Fs) (name bytes : List ℕ) → IsSound fs → fs.pending ≡ [] → EachImage fs (λ files. files name ≡ Some bytes) → IsHeld fs name bytes
held_if_same fs name bytes sound settled each =
    let has = object_of fs name bytes (shown_has fs (λ files. files name ≡ Some bytes) sound each) in
    record {
      object = has.0;
      steady = settled_steady fs name has.0 settled has.1;
      sure = λ left may.
          let e : put (shown fs) name (Some left) name ≡ Some bytes =
          each (put (shown fs) name (Some left)) (full_is_image fs (put (shown fs) name (Some left))
          (put_each (shown fs) name (Some left) (λ query file. MayBe fs.objects (present fs query) file)
          (subst (λ n. MayBe fs.objects n (Some left)) (sym has.1) may)
          (λ query differs. shown_is_full fs sound query))) in
          let f : Some left ≡ Some bytes = (sym (put_same (shown fs) name (Some left)) ∙ e) in cc;
    }

-- # At rest

pub may_hold_firm : (object : Object) (bytes : List ℕ) → length object.bytes ≤ object.least → object.loose ≡ [] → MayHold object bytes → bytes ≡ object.bytes
may_hold_firm object bytes whole firm h =
    let same : length bytes ≡ length object.bytes = (let l : object.least ≤ length bytes = h.least in let m : length bytes ≤ length object.bytes = h.most in omega arith) in
    same_number_lists bytes object.bytes same (λ place below. h.sure place below (rw firm refl))

pub at_rest_held : (fs : Fs) (name bytes : List ℕ) → IsAtRest fs → shown fs name ≡ Some bytes → IsHeld fs name bytes
at_rest_held fs name bytes rest e =
    let has = object_of fs name bytes e in
    record {
      object = has.0;
      steady = settled_steady fs name has.0 rest.settled has.1;
      sure = λ left may. may_hold_firm (fs.objects has.0) left (rest.whole has.0) (rest.firm has.0) may ∙ has.2;
    }

-- At rest each image is what is read.
pub at_rest_images : (fs : Fs) → IsAtRest fs → EachImage fs (AreSame (shown fs))
at_rest_images fs rest files image query = rw (rest.settled) (go (fs.names query) (files query) (settled_images fs rest.settled files image query))
  where
    go : (had : Option ℕ) (file : Option (List ℕ)) → MayBe fs.objects had file → file ≡ read fs.objects had
    go None file may = may_be_none fs.objects file may
    go (Some object) file may =
        let h = may_be_some fs.objects object file may in
        h.1 ∙ ap Some (may_hold_firm (fs.objects object) h.0 (rest.whole object) (rest.firm object) h.2)

-- # A rename with a sync of names

-- It moves a file that is sure where it is there, in every image.
pub moved_sure : (fs : Fs) (from to bytes : List ℕ) (object : ℕ) → present fs from ≡ Some object → ((left : List ℕ) → MayHold (fs.objects object) left → left ≡ bytes)
    → IsHeld (names_synced (with_op (Rename from to) fs)) to bytes
moved_sure fs from to bytes object now sure = record {
  object = object;
  steady = settled_steady (names_synced (with_op (Rename from to) fs)) to object refl
      (ap (λ (names : Names). names to) (names_after-push fs.pending (Rename from to) fs.names)
      ∙ ap (λ had. moved (present fs) from to had to) now
      ∙ put_same (put (present fs) from None) to (Some object));
  sure = sure;
}

-- It leaves nothing of the old name.
pub moved_gone : (fs : Fs) (from to : List ℕ) (object : ℕ) → from ≢ to → present fs from ≡ Some object → EachImage (names_synced (with_op (Rename from to) fs)) (λ files. files from ≡ None)
moved_gone fs from to object differ now =
    absence (names_synced (with_op (Rename from to) fs)) from refl
    (ap (read fs.objects)
    (ap (λ (names : Names). names from) (names_after-push fs.pending (Rename from to) fs.names)
    ∙ ap (λ had. moved (present fs) from to had from) now
    ∙ put_other (put (present fs) from None) to from (Some object) differ
    ∙ put_same (present fs) from None))

pub rename_sure : (fs : Fs) (from to bytes : List ℕ) → IsHeld fs from bytes → IsHeld (names_synced (with_op (Rename from to) fs)) to bytes
rename_sure fs from to bytes held = moved_sure fs from to bytes held.object (steady_now fs from held.object held.steady) held.sure

pub rename_gone : (fs : Fs) (from to bytes : List ℕ) → from ≢ to → IsHeld fs from bytes → EachImage (names_synced (with_op (Rename from to) fs)) (λ files. files from ≡ None)
rename_gone fs from to bytes differ held = moved_gone fs from to held.object differ (steady_now fs from held.object held.steady)
