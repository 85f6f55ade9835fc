-- The steps by which a file is replaced by its shadow.
use Rattle.std.proofs.Common.{◌≡◌, ◌≢◌, ◌⊎◌, ℕ, ◌<◌, ◌≤◌, List, [], length, refl, sym, ap, ◌∙◌, subst, arith, inl, inr}
use Rattle.std.specs.Prelude.{Option, Some, None, IsSome, IsSomeAnd}
use Rattle.std.specs.Option.{option_map}
use Rattle.pt_host.specs.Disk.{Names, Files, NameOp, Create, Rename, Unlink, Object, empty_object, MayHold, Fs, put, moved, names_after, present, shown, written, overwrite, synced, Survives, IsImage, EachImage, IsSound, on_file, with_op, created, names_synced}
use Rattle.pt_host.specs.World.{World, IsQuiet, FailedWrite, after_fs, after_write, after_sync, after_sync_names}
use Rattle.pt_host.specs.Images.{IsOwner, IsHeld, AreSame, OnlyAt, Does, Tears, Follows}
use Rattle.pt_host.specs.Replacement.{AsBeforeBut, Replaces, IsBeforeOrAfter, IsClear, IsDraft, IsReady}
use Rattle.pt_host.proofs.Names.{put_same, put_other, put_some, kept_push, survives_none, names_after-push}
use Rattle.pt_host.proofs.Sound.{shown_object}
use Rattle.pt_host.proofs.Images.{read, this_object, may_hold_synced, owner_file}
use Rattle.pt_host.proofs.Runs.{quiet_same, quiet_weaken, follows_here, follows_weaken, follows_then}
use Rattle.pt_host.proofs.Writes.{overwrite_end}
use Rattle.pt_host.proofs.Tears.{write_step, failed_write_step, sync_step}
use Rattle.pt_host.proofs.Operations.{unlink_step, create_step, rename_step, sync_names_step}
use Rattle.pt_host.proofs.Shown.{shown_some, shown_within, moved_sure, moved_gone}

-- # Steps that leave all names but one alone

only_then : (name : List ℕ) (x y z : Files) → OnlyAt name x y → OnlyAt name y z → OnlyAt name x z
only_then name x y z one two query differs = two query differs ∙ one query differs

pub same_but : (fs : Fs) (name : List ℕ) → EachImage fs (AsBeforeBut fs name)
same_but fs name = follows_here fs (OnlyAt name) (λ files query differs. refl)

pub then_but : (a b c : World) (name : List ℕ) → IsQuiet a b (AsBeforeBut a.now.fs name) → IsQuiet b c (AsBeforeBut b.now.fs name) → IsQuiet a c (AsBeforeBut a.now.fs name)
then_but a b c name = follows_then a b c (OnlyAt name) (OnlyAt name) (OnlyAt name) (λ x y step. step) (only_then name)

pub idle_but : (old new : World) (name : List ℕ) → new ≡ old → IsQuiet old new (AsBeforeBut old.now.fs name)
idle_but old new name same = quiet_same old new (AsBeforeBut old.now.fs name) same (same_but old.now.fs name)

-- the steps of an unlink and of a create
only_from_put : (name : List ℕ) (to : Option (List ℕ)) (x y : Files) → AreSame x y ⊎ AreSame (put x name to) y → OnlyAt name x y
only_from_put name to x y step query differs =
    elim step [ inl same ↦ same query | inr done ↦ done query ∙ put_other x name query to differs ]

pub unlink_but : (old new : World) (name : List ℕ) → IsSound old.now.fs → (new ≡ old) ⊎ (new ≡ after_fs (with_op (Unlink name) old.now.fs) old) → IsQuiet old new (AsBeforeBut old.now.fs name)
unlink_but old new name sound which =
    quiet_weaken old new (Follows old.now.fs (Does (Unlink name))) (AsBeforeBut old.now.fs name)
    (follows_weaken old.now.fs (Does (Unlink name)) (OnlyAt name) (only_from_put name None)) (unlink_step old new name sound which)

pub create_but : (old new : World) (name : List ℕ) → IsSound old.now.fs → (new ≡ old) ⊎ (new ≡ after_fs (created name old.now.fs) old) → IsQuiet old new (AsBeforeBut old.now.fs name)
create_but old new name sound which =
    quiet_weaken old new (Follows old.now.fs (Does (Create name old.now.fs.made))) (AsBeforeBut old.now.fs name)
    (follows_weaken old.now.fs (Does (Create name old.now.fs.made)) (OnlyAt name) (only_from_put name (Some []))) (create_step old new name sound which)

pub sync_names_but : (old new : World) (name : List ℕ) → new ≡ after_sync_names old → IsQuiet old new (AsBeforeBut old.now.fs name)
sync_names_but old new name same = quiet_weaken old new (IsImage old.now.fs) (AsBeforeBut old.now.fs name) (same_but old.now.fs name) (sync_names_step old new same)

pub sync_but : (old new : World) (name : List ℕ) → IsSound old.now.fs → new ≡ after_sync name old → IsQuiet old new (AsBeforeBut old.now.fs name)
sync_but old new name sound same = quiet_weaken old new (IsImage old.now.fs) (AsBeforeBut old.now.fs name) (same_but old.now.fs name) (sync_step old new name sound same)

module _ (old new : World) (name file : List ℕ) (at : ℕ) (sound : IsSound old.now.fs) (draft : IsDraft old.now.fs name file) (within : at ≤ length file) where
  in_draft : at ≤ length (old.now.fs.objects draft.object).bytes
  in_draft = subst (λ (bytes : List ℕ). at ≤ length bytes) (sym draft.bytes) within

  pub write_but : (bytes : List ℕ) → new ≡ after_write name at bytes old → IsQuiet old new (AsBeforeBut old.now.fs name)
  write_but bytes same =
      quiet_weaken old new (Follows old.now.fs (Tears name at (length bytes))) (AsBeforeBut old.now.fs name)
      (follows_weaken old.now.fs (Tears name at (length bytes)) (OnlyAt name) (λ x y step. step.only))
      (write_step old new name draft.object at bytes sound draft.owner in_draft same)

  pub failed_write_but : (count : ℕ) → FailedWrite name at count old new → IsQuiet old new (AsBeforeBut old.now.fs name)
  failed_write_but count failed =
      quiet_weaken old new (Follows old.now.fs (Tears name at count)) (AsBeforeBut old.now.fs name)
      (follows_weaken old.now.fs (Tears name at count) (OnlyAt name) (λ x y step. step.only))
      (failed_write_step old new name draft.object at count sound draft.owner in_draft failed)

-- # From no shadow to one that is ready

pub clear_after_sync_names : (old new : World) (name : List ℕ) → shown old.now.fs name ≡ None → new ≡ after_sync_names old → IsClear new.now.fs name
clear_after_sync_names old new name none same =
    subst (λ (w : World). IsClear w.now.fs name) (sym same) (record { settled = refl; none = go (present old.now.fs name) refl none })
  where
    go : (had : Option ℕ) → present old.now.fs name ≡ had → option_map (λ object. (old.now.fs.objects object).bytes) had ≡ None → present old.now.fs name ≡ None
    go None e f = e
    go (Some object) e f = let bad : Some (old.now.fs.objects object).bytes ≡ None = f in cc

pub owner_created : (fs : Fs) (name : List ℕ) → IsSound fs → IsClear fs name → IsOwner (created name fs) name fs.made
owner_created fs name sound clear = record {
  now = ap (λ (names : Names). names name) (names_after-push fs.pending (Create name fs.made) fs.names) ∙ put_same (present fs) name (Some fs.made);
  only = kept_push fs.pending (Create name fs.made) fs.names (λ names. (names name ≡ None) ⊎ (names name ≡ Some fs.made))
      (λ kept s. inl (none kept s)) (λ kept s _. inr (put_same (names_after kept fs.names) name (Some fs.made)));
  alone = kept_push fs.pending (Create name fs.made) fs.names (λ names. (query : List ℕ) → names query ≡ Some fs.made → query ≡ name)
      (λ kept s query e. absurd (free kept s query e))
      (λ kept s _ query e. elim (put_some (names_after kept fs.names) name query (Some fs.made) fs.made e) [
        | inl here ↦ here.0
        | inr there ↦ absurd (free kept s query there.1)
      ]);
}
  where
    none : (kept : List NameOp) → Survives fs.pending kept → names_after kept fs.names name ≡ None
    none kept s = ap (λ ops. names_after ops fs.names name) (survives_none kept (subst (λ ops. Survives ops kept) clear.settled s)) ∙ clear.none

    free : (kept : List NameOp) → Survives fs.pending kept → (query : List ℕ) → names_after kept fs.names query ≢ Some fs.made
    free kept s query e = let bad : fs.made < fs.made = sound.bound kept s query fs.made e in omega arith

pub draft_created : (fs : Fs) (name : List ℕ) → IsSound fs → IsClear fs name → IsDraft (created name fs) name []
draft_created fs name sound clear = record {
  object = fs.made;
  owner = owner_created fs name sound clear;
  bytes = ap (λ (o : Object). o.bytes) (this_object fs.objects fs.made empty_object fs.made refl);
}

-- a change of its file leaves the name its owner
pub owner_on_file : (fs : Fs) (name : List ℕ) (object : ℕ) (change : Object → Object) → IsOwner fs name object → IsOwner (on_file (present fs name) change fs) name object
owner_on_file fs name object change owner = rw (owner.now) (record { now = owner.now; only = owner.only; alone = owner.alone })

pub owned_changed : (fs : Fs) (name : List ℕ) (object : ℕ) (change : Object → Object) → IsOwner fs name object → (on_file (present fs name) change fs).objects object ≡ change (fs.objects object)
owned_changed fs name object change owner = rw (owner.now) (this_object fs.objects object (change (fs.objects object)) object refl)

pub draft_written : (fs : Fs) (name file : List ℕ) (at : ℕ) (bytes : List ℕ) → IsDraft fs name file → IsDraft (on_file (present fs name) (written at bytes) fs) name (overwrite at bytes file)
draft_written fs name file at bytes draft = record {
  object = draft.object;
  owner = owner_on_file fs name draft.object (written at bytes) draft.owner;
  bytes = ap (λ (o : Object). o.bytes) (owned_changed fs name draft.object (written at bytes) draft.owner) ∙ ap (overwrite at bytes) draft.bytes;
}

pub ready_synced : (fs : Fs) (name file : List ℕ) → IsDraft fs name file → IsReady (on_file (present fs name) synced fs) name file
ready_synced fs name file draft = record {
  object = draft.object;
  owner = owner_on_file fs name draft.object synced draft.owner;
  sure = λ left may. may_hold_synced (fs.objects draft.object) left (subst (λ o. MayHold o left) (owned_changed fs name draft.object synced draft.owner) may) ∙ draft.bytes;
}

-- the same over the world, as calls state it
pub draft_after_create : (old new : World) (name : List ℕ) → IsSound old.now.fs → IsClear old.now.fs name → new ≡ after_fs (created name old.now.fs) old → IsDraft new.now.fs name []
draft_after_create old new name sound clear same = subst (λ (w : World). IsDraft w.now.fs name []) (sym same) (draft_created old.now.fs name sound clear)

pub draft_after_write : (old new : World) (name file : List ℕ) (at : ℕ) (bytes : List ℕ) → IsDraft old.now.fs name file → new ≡ after_write name at bytes old → IsDraft new.now.fs name (overwrite at bytes file)
draft_after_write old new name file at bytes draft same = subst (λ (w : World). IsDraft w.now.fs name (overwrite at bytes file)) (sym same) (draft_written old.now.fs name file at bytes draft)

pub ready_after_sync : (old new : World) (name file : List ℕ) → IsDraft old.now.fs name file → new ≡ after_sync name old → IsReady new.now.fs name file
ready_after_sync old new name file draft same = subst (λ (w : World). IsReady w.now.fs name file) (sym same) (ready_synced old.now.fs name file draft)

-- a shadow that is created, written whole and synced
pub filled : (a b c d : World) (name bytes : List ℕ) → IsSound a.now.fs → IsClear a.now.fs name → b ≡ after_fs (created name a.now.fs) a → c ≡ after_write name 0 bytes b → d ≡ after_sync name c → IsReady d.now.fs name bytes
filled a b c d name bytes sound clear made put_in kept =
    ready_after_sync c d name bytes
    (subst (λ file. IsDraft c.now.fs name file) (overwrite_end bytes []) (draft_after_write b c name [] 0 bytes (draft_after_create a b name sound clear made) put_in)) kept

-- # What calls ask

pub clear_none : (fs : Fs) (name : List ℕ) → IsClear fs name → shown fs name ≡ None
clear_none fs name clear = rw clear.settled (ap (read fs.objects) clear.none)

pub draft_shown : (fs : Fs) (name file : List ℕ) → IsDraft fs name file → shown fs name ≡ Some file
draft_shown fs name file draft = shown_object fs name draft.object draft.owner.now ∙ ap Some draft.bytes

pub draft_some : (fs : Fs) (name file : List ℕ) → IsDraft fs name file → IsSome (shown fs name)
draft_some fs name file draft = shown_some fs name file (draft_shown fs name file draft)

pub draft_within : (fs : Fs) (name file : List ℕ) (at : ℕ) → IsDraft fs name file → at ≤ length file → IsSomeAnd (shown fs name) (λ bytes. at ≤ length bytes)
draft_within fs name file at draft = shown_within fs name file at (draft_shown fs name file draft)

pub ready_some : (fs : Fs) (name bytes : List ℕ) → IsReady fs name bytes → IsSome (shown fs name)
ready_some fs name bytes ready = shown_some fs name (fs.objects ready.object).bytes (shown_object fs name ready.object ready.owner.now)

-- # The rename

-- an image of before, or one in which the file has the new bytes
pub replaces_same : (name shadow bytes : List ℕ) (files : Files) → Replaces name shadow bytes files files
replaces_same name shadow bytes files = record { others = λ query _ _. refl; here = inl refl }

pub replaces_but : (name shadow bytes : List ℕ) → name ≢ shadow → (x y : Files) → OnlyAt shadow x y → Replaces name shadow bytes x y
replaces_but name shadow bytes differ x y only = record { others = λ query _ not_shadow. only query not_shadow; here = inl (only name differ) }

pub replaces_after_but : (name shadow bytes : List ℕ) → name ≢ shadow → (x y z : Files) → OnlyAt shadow x y → Replaces name shadow bytes y z → Replaces name shadow bytes x z
replaces_after_but name shadow bytes differ x y z only step = record {
  others = λ query not_name not_shadow. step.others query not_name not_shadow ∙ only query not_shadow;
  here = elim step.here [ inl same ↦ inl (same ∙ only name differ) | inr new ↦ inr new ];
}

pub idle_either : (fs : Fs) (name shadow bytes : List ℕ) → EachImage fs (IsBeforeOrAfter fs name shadow bytes)
idle_either fs name shadow bytes = follows_here fs (Replaces name shadow bytes) (replaces_same name shadow bytes)

pub either_idle : (old new : World) (name shadow bytes : List ℕ) → new ≡ old → IsQuiet old new (IsBeforeOrAfter old.now.fs name shadow bytes)
either_idle old new name shadow bytes same = quiet_same old new (IsBeforeOrAfter old.now.fs name shadow bytes) same (idle_either old.now.fs name shadow bytes)

-- Where the shadow is ready, a rename replaces the file.
pub replaces_renamed : (fs : Fs) (from name bytes : List ℕ) → from ≢ name → IsReady fs from bytes → (files : Files) → Follows fs (Does (Rename from name)) files → IsBeforeOrAfter fs name from bytes files
replaces_renamed fs from name bytes differ ready files f = record {
  before = f.before;
  image = f.image;
  step = elim f.step [
    | inl same ↦ record { others = λ query _ _. same query; here = inl (same name) }
    | inr done ↦ elim (owner_file fs from ready.object ready.owner f.before f.image) [
      | inl none ↦
          let same : AreSame f.before files = subst (λ file. AreSame (moved f.before from name file) files) none done in
          record { others = λ query _ _. same query; here = inl (same name) }
      | inr some ↦
          let put_over : AreSame (put (put f.before from None) name (Some bytes)) files =
          subst (λ file. AreSame (moved f.before from name file) files) (some.1 ∙ ap Some (ready.sure some.0 some.2)) done in
          record {
            others = λ query not_name not_from. put_over query ∙ put_other (put f.before from None) name query (Some bytes) not_name ∙ put_other f.before from query None not_from;
            here = inr (put_over name ∙ put_same (put f.before from None) name (Some bytes));
          }
    ]
  ];
}

pub rename_either : (old new : World) (from name bytes : List ℕ) → IsSound old.now.fs → from ≢ name → IsReady old.now.fs from bytes
    → (new ≡ old) ⊎ (new ≡ after_fs (with_op (Rename from name) old.now.fs) old) → IsQuiet old new (IsBeforeOrAfter old.now.fs name from bytes)
rename_either old new from name bytes sound differ ready which =
    quiet_weaken old new (Follows old.now.fs (Does (Rename from name))) (IsBeforeOrAfter old.now.fs name from bytes)
    (replaces_renamed old.now.fs from name bytes differ ready) (rename_step old new from name sound differ which)

-- once names are synced, the file stands with the new bytes, and the shadow is gone
pub swapped : (fs : Fs) (from name bytes : List ℕ) → IsReady fs from bytes → IsHeld (names_synced (with_op (Rename from name) fs)) name bytes
swapped fs from name bytes ready = moved_sure fs from name bytes ready.object ready.owner.now ready.sure

pub shadow_gone : (fs : Fs) (from name bytes : List ℕ) → from ≢ name → IsReady fs from bytes → EachImage (names_synced (with_op (Rename from name) fs)) (λ files. files from ≡ None)
shadow_gone fs from name bytes differ ready = moved_gone fs from name ready.object differ ready.owner.now

pub swapped_after : (a b c : World) (from name bytes : List ℕ) → IsReady a.now.fs from bytes → b ≡ after_fs (with_op (Rename from name) a.now.fs) a → c ≡ after_sync_names b → IsHeld c.now.fs name bytes
swapped_after a b c from name bytes ready renamed kept =
    subst (λ (w : World). IsHeld w.now.fs name bytes) (sym (kept ∙ ap after_sync_names renamed)) (swapped a.now.fs from name bytes ready)

pub shadow_gone_after : (a b c : World) (from name bytes : List ℕ) → from ≢ name → IsReady a.now.fs from bytes → b ≡ after_fs (with_op (Rename from name) a.now.fs) a → c ≡ after_sync_names b → EachImage c.now.fs (λ files. files from ≡ None)
shadow_gone_after a b c from name bytes differ ready renamed kept =
    subst (λ (w : World). EachImage w.now.fs (λ files. files from ≡ None)) (sym (kept ∙ ap after_sync_names renamed)) (shadow_gone a.now.fs from name bytes differ ready)

-- # One step after another

pub but_either : (a b : World) (name shadow bytes : List ℕ) → name ≢ shadow → IsQuiet a b (AsBeforeBut a.now.fs shadow) → IsQuiet a b (IsBeforeOrAfter a.now.fs name shadow bytes)
but_either a b name shadow bytes differ =
    quiet_weaken a b (AsBeforeBut a.now.fs shadow) (IsBeforeOrAfter a.now.fs name shadow bytes)
    (follows_weaken a.now.fs (OnlyAt shadow) (Replaces name shadow bytes) (replaces_but name shadow bytes differ))

pub either_then : (a b c : World) (name shadow bytes : List ℕ) → name ≢ shadow → IsQuiet a b (AsBeforeBut a.now.fs shadow) → IsQuiet b c (IsBeforeOrAfter b.now.fs name shadow bytes)
    → IsQuiet a c (IsBeforeOrAfter a.now.fs name shadow bytes)
either_then a b c name shadow bytes differ =
    follows_then a b c (OnlyAt shadow) (Replaces name shadow bytes) (Replaces name shadow bytes) (replaces_but name shadow bytes differ) (replaces_after_but name shadow bytes differ)
