-- From an image after a call to an image before it.
use Rattle.std.proofs.Common.{◌≡◌, ◌≢◌, ◌⊎◌, ℕ, ◌+◌, ◌<◌, ◌≤◌, Bool, true, false, cond, List, [], ◌∷◌, ◌++◌, length, refl, sym, ap, ◌∙◌, subst, arith, inl, inr}
use Rattle.std.specs.Prelude.{Option, Some, None, ◌==◌}
use Rattle.std.specs.Option.{option_map}
use Rattle.std.proofs.lemmas.Bool.Decides.{Decides-eqb}
use Rattle.std.proofs.lemmas.Grind.{same_number_lists}
use Rattle.pt_host.specs.Disk.{Names, Files, NameOp, Create, Rename, Unlink, Object, empty_object, MayHold, MayBe, AreFiles, Fs, put, moved, after_op, names_after, present, shown, synced, Survives, IsImage, EachImage, IsSound, with_object, on_file, with_op, created, names_synced}
use Rattle.pt_host.specs.Images.{IsOwner, AreSame, IsFull, Does, Changes, Follows, files_after}
use Rattle.pt_host.proofs.Names.{cases_name, put_same, put_other, put_each, survives_all, survives_none, kept_push, names_after-push}

-- # What one file may hold

-- no file has lost bytes that it must keep
abbrev pub AreWhole : (ℕ → Object) → Type 0
AreWhole objects = (object : ℕ) → (objects object).least ≤ length (objects object).bytes

pub may_hold_itself : (object : Object) → object.least ≤ length object.bytes → MayHold object object.bytes
may_hold_itself object fits = record { least = fits; most = omega arith; sure = λ place below firm. refl }

pub may_hold_synced : (object : Object) (bytes : List ℕ) → MayHold (synced object) bytes → bytes ≡ object.bytes
may_hold_synced object bytes h =
    let same : length bytes ≡ length object.bytes = (let l : length object.bytes ≤ length bytes = h.least in let m : length bytes ≤ length object.bytes = h.most in omega arith) in
    same_number_lists bytes object.bytes same (λ place below. h.sure place below refl)

pub may_hold_before_sync : (object : Object) (bytes : List ℕ) → object.least ≤ length object.bytes → MayHold (synced object) bytes → MayHold object bytes
may_hold_before_sync object bytes fits h = rw (may_hold_synced object bytes h) (may_hold_itself object fits)

pub may_hold_empty : (bytes : List ℕ) → MayHold empty_object bytes → bytes ≡ []
may_hold_empty [] h = refl
may_hold_empty (b ∷ bytes) h = absurd (let m : length (b ∷ bytes) ≤ 0 = h.most in omega arith)

pub may_be_some : (objects : ℕ → Object) (object : ℕ) (file : Option (List ℕ)) → MayBe objects (Some object) file → (bytes : List ℕ) × (file ≡ Some bytes) × MayHold (objects object) bytes
may_be_some objects object (Some bytes) h = (bytes, refl, h)
may_be_some objects object None h = absurd h

pub may_be_none : (objects : ℕ → Object) (file : Option (List ℕ)) → MayBe objects None file → file ≡ None
may_be_none objects (Some bytes) h = absurd h
may_be_none objects None h = refl

-- What the new object may hold, the old one may.
pub may_be_weaker : (old new : ℕ → Object) (name : Option ℕ) (file : Option (List ℕ))
    → ((object : ℕ) → name ≡ Some object → (bytes : List ℕ) → MayHold (new object) bytes → MayHold (old object) bytes) → MayBe new name file → MayBe old name file
may_be_weaker old new None None weaker h = h
may_be_weaker old new None (Some bytes) weaker h = h
may_be_weaker old new (Some object) None weaker h = h
may_be_weaker old new (Some object) (Some bytes) weaker h = weaker object refl bytes h

pub may_be_same : (old new : ℕ → Object) (name : Option ℕ) (file : Option (List ℕ))
    → ((object : ℕ) → name ≡ Some object → new object ≡ old object) → MayBe new name file → MayBe old name file
may_be_same old new name file same = may_be_weaker old new name file (λ object e bytes h. subst (λ o. MayHold o bytes) (same object e) h)

-- the file as it is read
abbrev pub read : (ℕ → Object) → Option ℕ → Option (List ℕ)
read objects name = option_map (λ object. (objects object).bytes) name

pub may_be_read : (objects : ℕ → Object) → AreWhole objects → (name : Option ℕ) → MayBe objects name (read objects name)
may_be_read objects whole None = tt
may_be_read objects whole (Some object) = may_hold_itself (objects object) (whole object)

-- objects, with one changed
abbrev pub changed : (ℕ → Object) → ℕ → Object → ℕ → Object
changed objects object to i = cond (i == object) to (objects i)

pub other_object : (objects : ℕ → Object) (object : ℕ) (to : Object) (i : ℕ) → i ≢ object → changed objects object to i ≡ objects i
other_object objects object to i other = go (i == object) refl
  where
    go : (b : Bool) → (i == object) ≡ b → cond b to (objects i) ≡ objects i
    go true e = absurd (other ((Decides-eqb i object).0 e))
    go false e = refl

pub this_object : (objects : ℕ → Object) (object : ℕ) (to : Object) (i : ℕ) → i ≡ object → changed objects object to i ≡ to
this_object objects object to i same = ap (λ b. cond b to (objects i)) ((Decides-eqb i object).1 same)

-- # What is read, and what stands once names are synced

pub full_is_image : (fs : Fs) (files : Files) → IsFull fs files → IsImage fs files
full_is_image fs files full = record { kept = fs.pending; survives = survives_all fs.pending; files_are = full }

pub shown_is_full : (fs : Fs) → IsSound fs → IsFull fs (shown fs)
shown_is_full fs sound name = may_be_read fs.objects sound.least (present fs name)

pub shown_is_image : (fs : Fs) → IsSound fs → IsImage fs (shown fs)
shown_is_image fs sound = full_is_image fs (shown fs) (shown_is_full fs sound)

pub settled_images : (fs : Fs) → fs.pending ≡ [] → EachImage fs (AreFiles fs.objects fs.names)
settled_images fs settled files image =
    let none : image.kept ≡ [] = survives_none image.kept (subst (λ ops. Survives ops image.kept) settled image.survives) in
    subst (λ ops. AreFiles fs.objects (names_after ops fs.names) files) none image.files_are

pub names_synced_images : (fs : Fs) (files : Files) → IsImage (names_synced fs) files → IsFull fs files
names_synced_images fs = settled_images (names_synced fs) refl

-- # Name operations

-- a file is as before, where one name was changed there and back
pub put_restored : {X : Type 0} → (files : List ℕ → Option X) (name : List ℕ) (other to : Option X) → files name ≡ to → (query : List ℕ) → files query ≡ put (put files name other) name to query
put_restored files name other to here =
    put_each (put files name other) name to (λ query file. files query ≡ file) here (λ query differs. sym (put_other files name query other differs))

pub changed_names : (objects : ℕ → Object) → AreWhole objects → (names : Names) (name : List ℕ) (to : Option ℕ) (files : Files)
    → AreFiles objects (put names name to) files → AreFiles objects names (put files name (read objects (names name)))
changed_names objects whole names name to files are =
    put_each files name (read objects (names name)) (λ query file. MayBe objects (names query) file) (may_be_read objects whole (names name))
    (λ query differs. subst (λ n. MayBe objects n (files query)) (put_other names name query to differs) (are query))

-- An image after an operation is one of before it, or what the operation makes of one.
pub op_images : (fs : Fs) (op : NameOp) (objects : ℕ → Object) (made : ℕ)
    → ((kept : List NameOp) → Survives fs.pending kept → (files : Files) → AreFiles objects (names_after kept fs.names) files → AreFiles fs.objects (names_after kept fs.names) files)
    → ((kept : List NameOp) → Survives fs.pending kept → (files : Files) → AreFiles objects (after_op op (names_after kept fs.names)) files
    → (before : Files) × AreFiles fs.objects (names_after kept fs.names) before × AreSame (files_after op before) files)
    → EachImage (record { objects = objects; made = made; names = fs.names; pending = fs.pending ++ op ∷ [] }) (Follows fs (Does op))
op_images fs op objects made lost done files image =
    kept_push fs.pending op fs.names (λ names. AreFiles objects names files → Follows fs (Does op) files)
    (λ kept s are. record { before = files; image = record { kept = kept; survives = s; files_are = lost kept s files are }; step = inl (λ query. refl) })
    (λ kept s _ are. let h = done kept s files are in record { before = h.0; image = record { kept = kept; survives = s; files_are = h.1 }; step = inr h.2 })
    image.kept image.survives image.files_are

pub unlink_images : (fs : Fs) (name : List ℕ) → IsSound fs → EachImage (with_op (Unlink name) fs) (Follows fs (Does (Unlink name)))
unlink_images fs name sound =
    op_images fs (Unlink name) fs.objects fs.made (λ kept s files are. are)
    (λ kept s files are. (
      put files name (read fs.objects (names_after kept fs.names name)),
      changed_names fs.objects sound.least (names_after kept fs.names) name None files are,
      put_restored files name (read fs.objects (names_after kept fs.names name)) None
          (may_be_none fs.objects (files name) (subst (λ n. MayBe fs.objects n (files name)) (put_same (names_after kept fs.names) name None) (are name))),
    ))

-- what the files were before the rename, where both names' files are known after it
abbrev moved_back : (ℕ → Object) → Names → List ℕ → List ℕ → Files → Files
moved_back objects names from to files = put (put files to (read objects (names to))) from (files to)

moved_back_are : (objects : ℕ → Object) → AreWhole objects → (names : Names) (from to : List ℕ) (object : ℕ) (files : Files) → names from ≡ Some object
    → AreFiles objects (put (put names from None) to (Some object)) files → AreFiles objects names (moved_back objects names from to files)
moved_back_are objects whole names from to object files e are =
    put_each (put files to (read objects (names to))) from (files to) (λ query file. MayBe objects (names query) file)
    (subst (λ n. MayBe objects n (files to)) (put_same (put names from None) to (Some object) ∙ sym e) (are to))
    (put_each files to (read objects (names to)) (λ query file. query ≢ from → MayBe objects (names query) file)
    (λ _. may_be_read objects whole (names to))
    (λ query not_to not_from. subst (λ n. MayBe objects n (files query)) (put_other (put names from None) to query (Some object) not_to ∙ put_other names from query None not_from) (are query)))

-- The same of a rename, whose two names differ.
pub moved_files : (objects : ℕ → Object) → AreWhole objects → (names : Names) (from to : List ℕ) → from ≢ to → (files : Files)
    → AreFiles objects (moved names from to (names from)) files → (before : Files) × AreFiles objects names before × AreSame (moved before from to (before from)) files
moved_files objects whole names from to differ files = go (names from) refl
  where
    go : (had : Option ℕ) → names from ≡ had → AreFiles objects (moved names from to had) files
        → (before : Files) × AreFiles objects names before × AreSame (moved before from to (before from)) files
    go None e are =
        let gone : files from ≡ None = may_be_none objects (files from) (subst (λ n. MayBe objects n (files from)) e (are from)) in
        (files, are, subst (λ f. AreSame (moved files from to f) files) (sym gone) (λ query. refl))
    go (Some object) e are =
        let there = may_be_some objects object (files to) (subst (λ n. MayBe objects n (files to)) (put_same (put names from None) to (Some object)) (are to)) in
        let gone : files from ≡ None = may_be_none objects (files from)
        (subst (λ n. MayBe objects n (files from)) (put_other (put names from None) to from (Some object) differ ∙ put_same names from None) (are from)) in (
          moved_back objects names from to files,
          moved_back_are objects whole names from to object files e are,
          subst (λ f. AreSame (moved (moved_back objects names from to files) from to f) files) (sym (put_same (put files to (read objects (names to))) from (files to) ∙ there.1))
              (put_each (put (moved_back objects names from to files) from None) to (Some there.0) (λ query file. files query ≡ file) there.1
              (put_each (moved_back objects names from to files) from None (λ query file. query ≢ to → files query ≡ file) (λ _. gone)
              (λ query not_from not_to. sym (put_other (put files to (read objects (names to))) from query (files to) not_from ∙ put_other files to query (read objects (names to)) not_to)))),
        )

pub rename_images : (fs : Fs) (from to : List ℕ) → IsSound fs → from ≢ to → EachImage (with_op (Rename from to) fs) (Follows fs (Does (Rename from to)))
rename_images fs from to sound differ =
    op_images fs (Rename from to) fs.objects fs.made (λ kept s files are. are)
    (λ kept s files are. moved_files fs.objects sound.least (names_after kept fs.names) from to differ files are)

pub create_images : (fs : Fs) (name : List ℕ) → IsSound fs → EachImage (created name fs) (Follows fs (Does (Create name fs.made)))
create_images fs name sound =
    op_images fs (Create name fs.made) (changed fs.objects fs.made empty_object) (fs.made + 1)
    (λ kept s files are query. old kept s query (files query) (are query))
    (λ kept s files are. (
      put files name (read fs.objects (names_after kept fs.names name)),
      put_each files name (read fs.objects (names_after kept fs.names name)) (λ query file. MayBe fs.objects (names_after kept fs.names query) file)
          (may_be_read fs.objects sound.least (names_after kept fs.names name))
          (λ query differs. old kept s query (files query)
          (subst (λ n. MayBe (changed fs.objects fs.made empty_object) n (files query)) (put_other (names_after kept fs.names) name query (Some fs.made) differs) (are query))),
      put_restored files name (read fs.objects (names_after kept fs.names name)) (Some [])
          (new (files name) (subst (λ n. MayBe (changed fs.objects fs.made empty_object) n (files name)) (put_same (names_after kept fs.names) name (Some fs.made)) (are name))),
    ))
  where
    old : (kept : List NameOp) → Survives fs.pending kept → (query : List ℕ) (file : Option (List ℕ))
        → MayBe (changed fs.objects fs.made empty_object) (names_after kept fs.names query) file → MayBe fs.objects (names_after kept fs.names query) file
    old kept s query file = may_be_same fs.objects (changed fs.objects fs.made empty_object) (names_after kept fs.names query) file
        (λ object e. other_object fs.objects fs.made empty_object object (let h : object < fs.made = sound.bound kept s query object e in omega arith))

    new : (file : Option (List ℕ)) → MayBe (changed fs.objects fs.made empty_object) (Some fs.made) file → file ≡ Some []
    new file may =
        let h = may_be_some (changed fs.objects fs.made empty_object) fs.made file may in
        h.1 ∙ ap Some (may_hold_empty h.0 (subst (λ o. MayHold o h.0) (this_object fs.objects fs.made empty_object fs.made refl) h.2))

-- # Changes of one file

-- What the object may hold after a change follows so from what it might hold before.
abbrev pub Explains : Object → Object → (List ℕ → List ℕ → Type 0) → Type 0
Explains old new R = (after : List ℕ) → MayHold new after → (before : List ℕ) × MayHold old before × R before after

pub object_images : (fs : Fs) (name : List ℕ) (object : ℕ) (change : Object → Object) (R : List ℕ → List ℕ → Type 0) → IsOwner fs name object
    → Explains (fs.objects object) (change (fs.objects object)) R → EachImage (with_object object change fs) (Follows fs (Changes name R))
object_images fs name object change R owner explains files image = go (owner.only image.kept image.survives)
  where
    others : (query : List ℕ) → query ≢ name → MayBe fs.objects (names_after image.kept fs.names query) (files query)
    others query differs = may_be_same fs.objects (changed fs.objects object (change (fs.objects object))) (names_after image.kept fs.names query) (files query)
        (λ i e. other_object fs.objects object (change (fs.objects object)) i (λ same. differs (owner.alone image.kept image.survives query (e ∙ ap Some same))))
        (image.files_are query)

    go : (names_after image.kept fs.names name ≡ None) ⊎ (names_after image.kept fs.names name ≡ Some object) → Follows fs (Changes name R) files
    go (inl none) =
        let gone : files name ≡ None = may_be_none (changed fs.objects object (change (fs.objects object))) (files name)
        (subst (λ n. MayBe (changed fs.objects object (change (fs.objects object))) n (files name)) none (image.files_are name)) in
        record {
          before = files;
          image = record {
            kept = image.kept;
            survives = image.survives;
            files_are = λ query. elim (cases_name query name) [
              | inl same ↦ rw (same, none, gone) tt
              | inr differs ↦ others query differs
            ];
          };
          step = record { only = λ query differs. refl; here = inl (gone, gone) };
        }
    go (inr some) =
        let h = may_be_some (changed fs.objects object (change (fs.objects object))) object (files name)
        (subst (λ n. MayBe (changed fs.objects object (change (fs.objects object))) n (files name)) some (image.files_are name)) in
        let e = explains h.0 (subst (λ o. MayHold o h.0) (this_object fs.objects object (change (fs.objects object)) object refl) h.2) in
        record {
          before = put files name (Some e.0);
          image = record {
            kept = image.kept;
            survives = image.survives;
            files_are = put_each files name (Some e.0) (λ query file. MayBe fs.objects (names_after image.kept fs.names query) file)
                (subst (λ n. MayBe fs.objects n (Some e.0)) (sym some) e.1) others;
          };
          step = record {
            only = λ query differs. sym (put_other files name query (Some e.0) differs);
            here = inr (e.0, h.0, put_same files name (Some e.0), h.1, e.2);
          };
        }

-- the same of the file by its name, as calls state it
pub file_images : (fs : Fs) (name : List ℕ) (object : ℕ) (change : Object → Object) (R : List ℕ → List ℕ → Type 0) → IsOwner fs name object
    → Explains (fs.objects object) (change (fs.objects object)) R → EachImage (on_file (present fs name) change fs) (Follows fs (Changes name R))
file_images fs name object change R owner explains = rw owner.now (object_images fs name object change R owner explains)

-- A sync adds no image.
pub sync_images : (fs : Fs) (object : ℕ) → IsSound fs → EachImage (with_object object synced fs) (IsImage fs)
sync_images fs object sound files image = record {
  kept = image.kept;
  survives = image.survives;
  files_are = λ query. may_be_weaker fs.objects (changed fs.objects object (synced (fs.objects object))) (names_after image.kept fs.names query) (files query)
      (λ i e. weaker i) (image.files_are query);
}
  where
    weaker : (i : ℕ) (bytes : List ℕ) → MayHold (cond (i == object) (synced (fs.objects object)) (fs.objects i)) bytes → MayHold (fs.objects i) bytes
    weaker i bytes = go (i == object) refl
      where
        go : (b : Bool) → (i == object) ≡ b → MayHold (cond b (synced (fs.objects object)) (fs.objects i)) bytes → MayHold (fs.objects i) bytes
        go true e h = rw ((Decides-eqb i object).0 e) (may_hold_before_sync (fs.objects object) bytes (sound.least object) h)
        go false e h = h

pub file_sync_images : (fs : Fs) (name : Option ℕ) → IsSound fs → EachImage (on_file name synced fs) (IsImage fs)
file_sync_images fs None sound = λ files image. image
file_sync_images fs (Some object) sound = sync_images fs object sound

-- What an owned file may be in an image.
pub owner_file : (fs : Fs) (name : List ℕ) (object : ℕ) → IsOwner fs name object → EachImage fs (λ files. (files name ≡ None) ⊎ ((bytes : List ℕ) × (files name ≡ Some bytes) × MayHold (fs.objects object) bytes))
owner_file fs name object owner files image =
    elim (owner.only image.kept image.survives) [
      | inl none ↦ inl (may_be_none fs.objects (files name) (subst (λ n. MayBe fs.objects n (files name)) none (image.files_are name)))
      | inr some ↦ inr (may_be_some fs.objects object (files name) (subst (λ n. MayBe fs.objects n (files name)) some (image.files_are name)))
    ]

-- After a sync it has the present bytes, where it is there.
pub sync_sure : (fs : Fs) (name : List ℕ) (object : ℕ) → IsOwner fs name object → EachImage (with_object object synced fs) (λ files. (files name ≡ None) ⊎ (files name ≡ Some (fs.objects object).bytes))
sync_sure fs name object owner files image =
    elim (owner_file (with_object object synced fs) name object (record { now = owner.now; only = owner.only; alone = owner.alone }) files image) [
      | inl none ↦ inl none
      | inr some ↦ inr (some.1 ∙ ap Some (may_hold_synced (fs.objects object) some.0
          (subst (λ o. MayHold o some.0) (this_object fs.objects object (synced (fs.objects object)) object refl) some.2)))
    ]

pub present-with_op : (fs : Fs) (op : NameOp) → present (with_op op fs) ≡ after_op op (present fs)
present-with_op fs op = names_after-push fs.pending op fs.names
