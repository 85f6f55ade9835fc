-- Files that stand whatever a stop leaves, and what leaves them alone.
use Rattle.std.proofs.Common.{◌≡◌, ◌≢◌, ◌⊎◌, ℕ, ◌<◌, List, [], refl, sym, ap, ◌∙◌, subst, arith, inl, inr}
use Rattle.std.specs.Prelude.{Option, Some, None}
use Rattle.pt_host.specs.Disk.{Names, NameOp, Create, Rename, Unlink, Object, empty_object, MayHold, MayBe, Torn, Fs, put, moved, after_op, names_after, present, shown, written, torn, overwrite, synced, Survives, EachImage, IsSound, on_file, with_op, created, names_synced}
use Rattle.pt_host.specs.Images.{IsSteady, IsOwner, IsHeld, IsThere, Keeps, Rewrites}
use Rattle.pt_host.specs.World.{World, FailedWrite, after_write, after_sync, after_fs, after_sync_names}
use Rattle.pt_host.proofs.Names.{cases_name, put_same, put_other, survives_all, survives_none, kept_push, names_after-push}
use Rattle.pt_host.proofs.Sound.{shown_object}
use Rattle.pt_host.proofs.Writes.{torn_same}
use Rattle.pt_host.proofs.Images.{other_object, this_object, may_be_some, may_hold_itself, may_hold_synced, shown_is_image}

-- # Names that have one object whatever a stop keeps

pub steady_now : (fs : Fs) (name : List ℕ) (object : ℕ) → IsSteady fs name object → present fs name ≡ Some object
steady_now fs name object steady = steady fs.pending (survives_all fs.pending)

pub steady_owner : (fs : Fs) (name : List ℕ) (object : ℕ) → IsSound fs → IsSteady fs name object → IsOwner fs name object
steady_owner fs name object sound steady = record {
  now = steady_now fs name object steady;
  only = λ kept s. inr (steady kept s);
  alone = λ kept s query e. sound.once kept s query name object e (steady kept s);
}

pub steady_made : (fs : Fs) (name : List ℕ) (object : ℕ) → IsSound fs → IsSteady fs name object → object < fs.made
steady_made fs name object sound steady = sound.bound fs.pending (survives_all fs.pending) name object (steady_now fs name object steady)

-- with nothing pending, what a name has now it has for sure
pub settled_steady : (fs : Fs) (name : List ℕ) (object : ℕ) → fs.pending ≡ [] → present fs name ≡ Some object → IsSteady fs name object
settled_steady fs name object settled e kept s =
    let none : kept ≡ [] = survives_none kept (subst (λ ops. Survives ops kept) settled s) in
    ap (λ ops. names_after ops fs.names name) (none ∙ sym settled) ∙ e

-- A change of its file leaves the name the object, which is changed so.
pub steady_changed : (fs : Fs) (name : List ℕ) (object : ℕ) (change : Object → Object) → IsSteady fs name object → IsSteady (on_file (present fs name) change fs) name object
steady_changed fs name object change steady = rw (steady_now fs name object steady) steady

pub object_changed : (fs : Fs) (name : List ℕ) (object : ℕ) (change : Object → Object) → IsSteady fs name object → (on_file (present fs name) change fs).objects object ≡ change (fs.objects object)
object_changed fs name object change steady = rw (steady_now fs name object steady) (this_object fs.objects object (change (fs.objects object)) object refl)

-- another name has another object
pub steady_other : (fs : Fs) (name other : List ℕ) (object : ℕ) → IsSound fs → IsSteady fs name object → other ≢ name → present fs other ≢ Some object
steady_other fs name other object sound steady differs e = differs (sound.once fs.pending (survives_all fs.pending) other name object e (steady_now fs name object steady))

moved_other : (names : Names) (from to query : List ℕ) → query ≢ from → query ≢ to → moved names from to (names from) query ≡ names query
moved_other names from to query not_from not_to = go (names from)
  where
    go : (had : Option ℕ) → moved names from to had query ≡ names query
    go None = refl
    go (Some object) = put_other (put names from None) to query (Some object) not_to ∙ put_other names from query None not_from

-- # What leaves a file alone

pub keeps_same : (fs : Fs) (name : List ℕ) → Keeps fs fs name
keeps_same fs name = record { steady = λ object steady. steady; same = λ object steady. refl }

pub keeps_then : (a b c : Fs) (name : List ℕ) → Keeps a b name → Keeps b c name → Keeps a c name
keeps_then a b c name k l = record {
  steady = λ object steady. l.steady object (k.steady object steady);
  same = λ object steady. l.same object (k.steady object steady) ∙ k.same object steady;
}

keeps_op : (fs : Fs) (op : NameOp) (name : List ℕ) → ((names : Names) → after_op op names name ≡ names name) → Keeps fs (with_op op fs) name
keeps_op fs op name other = record {
  steady = λ object steady. kept_push fs.pending op fs.names (λ names. names name ≡ Some object) steady (λ kept s e. other (names_after kept fs.names) ∙ e);
  same = λ object steady. refl;
}

pub keeps_unlink : (fs : Fs) (other name : List ℕ) → other ≢ name → Keeps fs (with_op (Unlink other) fs) name
keeps_unlink fs other name differs = keeps_op fs (Unlink other) name (λ names. put_other names other name None (λ e. differs (sym e)))

pub keeps_rename : (fs : Fs) (from to name : List ℕ) → from ≢ name → to ≢ name → Keeps fs (with_op (Rename from to) fs) name
keeps_rename fs from to name not_from not_to = keeps_op fs (Rename from to) name (λ names. moved_other names from to name (λ e. not_from (sym e)) (λ e. not_to (sym e)))

pub keeps_create : (fs : Fs) (other name : List ℕ) → IsSound fs → other ≢ name → Keeps fs (created other fs) name
keeps_create fs other name sound differs = record {
  steady = λ object steady. kept_push fs.pending (Create other fs.made) fs.names (λ names. names name ≡ Some object) steady
      (λ kept s e. put_other (names_after kept fs.names) other name (Some fs.made) (λ same. differs (sym same)) ∙ e);
  same = λ object steady. other_object fs.objects fs.made empty_object object
      (let h : object < fs.made = steady_made fs name object sound steady in omega arith);
}

pub keeps_names_synced : (fs : Fs) (name : List ℕ) → Keeps fs (names_synced fs) name
keeps_names_synced fs name = record {
  steady = λ object steady kept s. subst (λ ops. names_after ops (present fs) name ≡ Some object) (sym (survives_none kept s)) (steady_now fs name object steady);
  same = λ object steady. refl;
}

-- # What a write to one file leaves alone

pub rewrites_same : (fs : Fs) (name : List ℕ) → Rewrites fs fs name
rewrites_same fs name = record { names = refl; pending = refl; others = λ object other. refl }

pub rewrites_then : (a b c : Fs) (name : List ℕ) → Rewrites a b name → Rewrites b c name → Rewrites a c name
rewrites_then a b c name r s = record {
  names = s.names ∙ r.names;
  pending = s.pending ∙ r.pending;
  others = λ object other. s.others object (λ e. other (sym (present_same a b name r.pending r.names) ∙ e)) ∙ r.others object other;
}
  where
    present_same : (old new : Fs) (query : List ℕ) → new.pending ≡ old.pending → new.names ≡ old.names → present new query ≡ present old query
    present_same old new query pending names = rw (pending, names)

pub rewrites_file : (fs : Fs) (name : List ℕ) (change : Object → Object) → Rewrites fs (on_file (present fs name) change fs) name
rewrites_file fs name change = go (present fs name) refl
  where
    go : (had : Option ℕ) → present fs name ≡ had → Rewrites fs (on_file had change fs) name
    go None e = rewrites_same fs name
    go (Some object) e = record {
      names = refl;
      pending = refl;
      others = λ i other. other_object fs.objects object (change (fs.objects object)) i (λ same. other (e ∙ ap Some (sym same)));
    }

pub rewrites_write : (old new : World) (name : List ℕ) (at : ℕ) (bytes : List ℕ) → new ≡ after_write name at bytes old → Rewrites old.now.fs new.now.fs name
rewrites_write old new name at bytes same = subst (λ (w : World). Rewrites old.now.fs w.now.fs name) (sym same) (rewrites_file old.now.fs name (written at bytes))

pub rewrites_failed_write : (old new : World) (name : List ℕ) (at count : ℕ) → FailedWrite name at count old new → Rewrites old.now.fs new.now.fs name
rewrites_failed_write old new name at count failed =
    elim failed [
      | inl same ↦ subst (λ (w : World). Rewrites old.now.fs w.now.fs name) (sym same) (rewrites_same old.now.fs name)
      | inr torn_so ↦ subst (λ (w : World). Rewrites old.now.fs w.now.fs name) (sym torn_so.4) (rewrites_file old.now.fs name (torn at count torn_so.1))
    ]

pub rewrites_sync : (old new : World) (name : List ℕ) → new ≡ after_sync name old → Rewrites old.now.fs new.now.fs name
rewrites_sync old new name same = subst (λ (w : World). Rewrites old.now.fs w.now.fs name) (sym same) (rewrites_file old.now.fs name synced)

pub keeps_rewrites : (old new : Fs) (other name : List ℕ) → IsSound old → other ≢ name → Rewrites old new other → Keeps old new name
keeps_rewrites old new other name sound differs r = record {
  steady = λ object steady. rw (r.pending, r.names) steady;
  same = λ object steady. r.others object (steady_other old name other object sound steady differs);
}

-- # Held files

pub held_kept : (old new : Fs) (name bytes : List ℕ) → Keeps old new name → IsHeld old name bytes → IsHeld new name bytes
held_kept old new name bytes keeps held = record {
  object = held.object;
  steady = keeps.steady held.object held.steady;
  sure = λ left h. held.sure left (subst (λ o. MayHold o left) (keeps.same held.object held.steady) h);
}

pub there_kept : (old new : Fs) (name file : List ℕ) → Keeps old new name → IsThere old name file → IsThere new name file
there_kept old new name file keeps there = record {
  object = there.object;
  steady = keeps.steady there.object there.steady;
  bytes = ap (λ (o : Object). o.bytes) (keeps.same there.object there.steady) ∙ there.bytes;
}

pub held_rewrites : (old new : Fs) (other name bytes : List ℕ) → IsSound old → other ≢ name → Rewrites old new other → IsHeld old name bytes → IsHeld new name bytes
held_rewrites old new other name bytes sound differs r = held_kept old new name bytes (keeps_rewrites old new other name sound differs r)

-- A held file is there, with its bytes, in each image.
pub held_image : (fs : Fs) (name bytes : List ℕ) → IsHeld fs name bytes → EachImage fs (λ files. files name ≡ Some bytes)
held_image fs name bytes held files image =
    let h = may_be_some fs.objects held.object (files name) (subst (λ n. MayBe fs.objects n (files name)) (held.steady image.kept image.survives) (image.files_are name)) in
    h.1 ∙ ap Some (held.sure h.0 h.2)

pub held_shown : (fs : Fs) (name bytes : List ℕ) → IsSound fs → IsHeld fs name bytes → shown fs name ≡ Some bytes
held_shown fs name bytes sound held = held_image fs name bytes held (shown fs) (shown_is_image fs sound)

pub held_there : (fs : Fs) (name bytes : List ℕ) → IsSound fs → IsHeld fs name bytes → IsThere fs name bytes
held_there fs name bytes sound held = record {
  object = held.object;
  steady = held.steady;
  bytes = held.sure (fs.objects held.object).bytes (may_hold_itself (fs.objects held.object) (sound.least held.object));
}

-- # Files that are there

pub there_shown : (fs : Fs) (name file : List ℕ) → IsThere fs name file → shown fs name ≡ Some file
there_shown fs name file there = shown_object fs name there.object (steady_now fs name there.object there.steady) ∙ ap Some there.bytes

pub there_changed : (fs : Fs) (name file : List ℕ) (change : Object → Object) (now : List ℕ) → ((o : Object) → o.bytes ≡ file → (change o).bytes ≡ now)
    → IsThere fs name file → IsThere (on_file (present fs name) change fs) name now
there_changed fs name file change now becomes there = record {
  object = there.object;
  steady = steady_changed fs name there.object change there.steady;
  bytes = ap (λ (o : Object). o.bytes) (object_changed fs name there.object change there.steady) ∙ becomes (fs.objects there.object) there.bytes;
}

pub there_written : (fs : Fs) (name file : List ℕ) (at : ℕ) (bytes : List ℕ) → IsThere fs name file → IsThere (on_file (present fs name) (written at bytes) fs) name (overwrite at bytes file)
there_written fs name file at bytes = there_changed fs name file (written at bytes) (overwrite at bytes file) (λ o e. ap (overwrite at bytes) e)

pub there_torn : (fs : Fs) (name file : List ℕ) (at count : ℕ) (left : List ℕ) → IsThere fs name file → IsThere (on_file (present fs name) (torn at count left) fs) name left
there_torn fs name file at count left = there_changed fs name file (torn at count left) left (λ o e. refl)

-- a new file, once its name is synced
pub there_created : (fs : Fs) (name : List ℕ) → IsThere (names_synced (created name fs)) name []
there_created fs name = record {
  object = fs.made;
  steady = settled_steady (names_synced (created name fs)) name fs.made refl
      (ap (λ (names : Names). names name) (names_after-push fs.pending (Create name fs.made) fs.names) ∙ put_same (present fs) name (Some fs.made));
  bytes = ap (λ (o : Object). o.bytes) (this_object fs.objects fs.made empty_object fs.made refl);
}

-- # Syncs

pub there_synced : (fs : Fs) (name file : List ℕ) → IsThere fs name file → IsHeld (on_file (present fs name) synced fs) name file
there_synced fs name file there = record {
  object = there.object;
  steady = steady_changed fs name there.object synced there.steady;
  sure = λ left h. may_hold_synced (fs.objects there.object) left
      (subst (λ o. MayHold o left) (object_changed fs name there.object synced there.steady) h) ∙ there.bytes;
}

-- A sync of any file leaves each held file held.
pub held_synced : (fs : Fs) (other name bytes : List ℕ) → IsSound fs → IsHeld fs name bytes → IsHeld (on_file (present fs other) synced fs) name bytes
held_synced fs other name bytes sound held =
    elim (cases_name other name) [
      | inl same ↦ subst (λ query. IsHeld (on_file (present fs query) synced fs) name bytes) (sym same) (there_synced fs name bytes (held_there fs name bytes sound held))
      | inr differs ↦ held_rewrites fs (on_file (present fs other) synced fs) other name bytes sound differs (rewrites_file fs other synced) held
    ]

-- # The same over the world, as calls state it

pub there_after_write : (old new : World) (name file : List ℕ) (at : ℕ) (bytes : List ℕ) → new ≡ after_write name at bytes old → IsThere old.now.fs name file → IsThere new.now.fs name (overwrite at bytes file)
there_after_write old new name file at bytes same there = subst (λ (w : World). IsThere w.now.fs name (overwrite at bytes file)) (sym same) (there_written old.now.fs name file at bytes there)

pub held_after_sync : (old new : World) (name file : List ℕ) → new ≡ after_sync name old → IsThere old.now.fs name file → IsHeld new.now.fs name file
held_after_sync old new name file same there = subst (λ (w : World). IsHeld w.now.fs name file) (sym same) (there_synced old.now.fs name file there)

-- a failed write leaves the file there, with a tear in its bytes
pub there_after_failed_write : (old new : World) (name file : List ℕ) (at count : ℕ) → FailedWrite name at count old new → IsThere old.now.fs name file
    → (left : List ℕ) × Torn at count file left × IsThere new.now.fs name left
there_after_failed_write old new name file at count failed there =
    elim failed [
      | inl same ↦ (file, torn_same at count file, subst (λ (w : World). IsThere w.now.fs name file) (sym same) there)
      | inr torn_so ↦
          let e : torn_so.0 ≡ file = (let f : Some file ≡ Some torn_so.0 = (sym (there_shown old.now.fs name file there) ∙ torn_so.2) in cc) in (
            torn_so.1,
            subst (λ before. Torn at count before torn_so.1) e torn_so.3,
            subst (λ (w : World). IsThere w.now.fs name torn_so.1) (sym torn_so.4) (there_torn old.now.fs name file at count torn_so.1 there),
          )
    ]

pub there_after_create : (a b c : World) (name : List ℕ) → b ≡ after_fs (created name a.now.fs) a → c ≡ after_sync_names b → IsThere c.now.fs name []
there_after_create a b c name made kept = subst (λ (w : World). IsThere w.now.fs name []) (sym (kept ∙ ap after_sync_names made)) (there_created a.now.fs name)

-- a name operation, done or not, and a sync of names, of what they leave alone
pub keeps_after_op : (old new : World) (fs : Fs) (name : List ℕ) → (new ≡ old) ⊎ (new ≡ after_fs fs old) → Keeps old.now.fs fs name → Keeps old.now.fs new.now.fs name
keeps_after_op old new fs name which keeps =
    elim which [
      | inl same ↦ subst (λ (w : World). Keeps old.now.fs w.now.fs name) (sym same) (keeps_same old.now.fs name)
      | inr done ↦ subst (λ (w : World). Keeps old.now.fs w.now.fs name) (sym done) keeps
    ]

pub keeps_after_sync_names : (old new : World) (name : List ℕ) → new ≡ after_sync_names old → Keeps old.now.fs new.now.fs name
keeps_after_sync_names old new name same = subst (λ (w : World). Keeps old.now.fs w.now.fs name) (sym same) (keeps_names_synced old.now.fs name)
