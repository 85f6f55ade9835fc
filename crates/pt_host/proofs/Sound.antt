-- The law of each moment, call by call: names have objects that were made, and no object has two names.
use Rattle.std.proofs.Common.{◌≡◌, ◌≢◌, ℕ, ◌+◌, ◌<◌, ◌≤◌, Bool, true, false, cond, List, length, refl, le_trans, length-append, length-take, length-drop, sym, ap, ◌∙◌, arith, inl, inr}
use Rattle.std.specs.Prelude.{Option, Some, None, ◌==◌}
use Rattle.std.specs.Option.{option_map}
use Rattle.pt_host.specs.Disk.{Names, NameOp, Create, Rename, Unlink, Object, empty_object, overwrite, written, torn, Torn, synced, Fs, put, moved, names_after, present, shown, Survives, IsSound, with_object, on_file, with_op, created, names_synced}
use Rattle.pt_host.proofs.Names.{survives_all, survives_none, kept_push, put_some}

-- The names have objects below `made`, each its own.
pub record AreApart (made : ℕ) (names : Names) : Type 0 where
  pub bound : (name : List ℕ) (object : ℕ) → names name ≡ Some object → object < made
  pub once : (a b : List ℕ) (object : ℕ) → names a ≡ Some object → names b ≡ Some object → a ≡ b

pub apart_kept : (fs : Fs) → IsSound fs → (kept : List NameOp) → Survives fs.pending kept → AreApart fs.made (names_after kept fs.names)
apart_kept fs sound kept s = record { bound = sound.bound kept s; once = sound.once kept s }

pub sound_apart : (fs : Fs) → ((kept : List NameOp) → Survives fs.pending kept → AreApart fs.made (names_after kept fs.names))
    → ((object : ℕ) → (fs.objects object).least ≤ length (fs.objects object).bytes) → IsSound fs
sound_apart fs apart least = record {
  bound = λ kept s. (apart kept s).bound;
  once = λ kept s. (apart kept s).once;
  least = least;
}

-- a name is gone
pub apart_gone : (made : ℕ) (names : Names) (name : List ℕ) → AreApart made names → AreApart made (put names name None)
apart_gone made names name apart = record {
  bound = λ query object e. apart.bound query object (still query object e);
  once = λ a b object e f. apart.once a b object (still a object e) (still b object f);
}
  where
    still : (query : List ℕ) (object : ℕ) → put names name None query ≡ Some object → names query ≡ Some object
    still query object e = elim (put_some names name query None object e) [ inl here ↦ let bad : None ≡ Some object = here.1 in cc | inr there ↦ there.1 ]

-- a name has an object that none had
pub apart_put : (made more : ℕ) (names : Names) (name : List ℕ) (object : ℕ) → AreApart made names → made ≤ more → object < more
    → ((query : List ℕ) → names query ≢ Some object) → AreApart more (put names name (Some object))
apart_put made more names name object apart grows new free = record {
  bound = λ query i e. elim (put_some names name query (Some object) i e) [
    | inl here ↦ let same : object ≡ i = (let s : Some object ≡ Some i = here.1 in cc) in omega arith
    | inr there ↦ let old : i < made = apart.bound query i there.1 in omega arith
  ];
  once = λ a b i e f. elim (put_some names name a (Some object) i e) [
    | inl at_a ↦ elim (put_some names name b (Some object) i f) [
      | inl at_b ↦ at_a.0 ∙ sym at_b.0
      | inr else_b ↦ absurd (free b (else_b.1 ∙ sym at_a.1))
    ]
    | inr else_a ↦ elim (put_some names name b (Some object) i f) [
      | inl at_b ↦ absurd (free a (else_a.1 ∙ sym at_b.1))
      | inr else_b ↦ apart.once a b i else_a.1 else_b.1
    ]
  ];
}

pub apart_moved : (made : ℕ) (names : Names) (from to : List ℕ) → AreApart made names → AreApart made (moved names from to (names from))
apart_moved made names from to apart = go (names from) refl
  where
    go : (had : Option ℕ) → names from ≡ had → AreApart made (moved names from to had)
    go None e = apart
    go (Some object) e =
        apart_put made made (put names from None) to object (apart_gone made names from apart) (omega arith) (apart.bound from object e)
        (λ query has. elim (put_some names from query None object has) [
          | inl here ↦ let bad : None ≡ Some object = here.1 in cc
          | inr there ↦ there.0 (apart.once query from object there.1 e)
        ])

pub unlink_sound : (fs : Fs) (name : List ℕ) → IsSound fs → IsSound (with_op (Unlink name) fs)
unlink_sound fs name sound =
    sound_apart (with_op (Unlink name) fs)
    (kept_push fs.pending (Unlink name) fs.names (AreApart fs.made) (apart_kept fs sound) (λ kept s apart. apart_gone fs.made (names_after kept fs.names) name apart))
    sound.least

pub rename_sound : (fs : Fs) (from to : List ℕ) → IsSound fs → IsSound (with_op (Rename from to) fs)
rename_sound fs from to sound =
    sound_apart (with_op (Rename from to) fs)
    (kept_push fs.pending (Rename from to) fs.names (AreApart fs.made) (apart_kept fs sound) (λ kept s apart. apart_moved fs.made (names_after kept fs.names) from to apart))
    sound.least

apart_more : (made : ℕ) (names : Names) → AreApart made names → AreApart (made + 1) names
apart_more made names apart = record { bound = λ name object e. let h : object < made = apart.bound name object e in omega arith; once = apart.once }

-- one object is another one, in a family of objects
pub changed_least : (objects : ℕ → Object) (i : ℕ) (to : Object) → to.least ≤ length to.bytes → ((object : ℕ) → (objects object).least ≤ length (objects object).bytes)
    → (object : ℕ) → (cond (object == i) to (objects object)).least ≤ length (cond (object == i) to (objects object)).bytes
changed_least objects i to fits least object = go (object == i)
  where
    go : (b : Bool) → (cond b to (objects object)).least ≤ length (cond b to (objects object)).bytes
    go true = fits
    go false = least object

pub create_sound : (fs : Fs) (name : List ℕ) → IsSound fs → IsSound (created name fs)
create_sound fs name sound =
    sound_apart (created name fs)
    (kept_push fs.pending (Create name fs.made) fs.names (AreApart (fs.made + 1)) (λ kept s. apart_more fs.made (names_after kept fs.names) (apart_kept fs sound kept s))
    (λ kept s apart. apart_put (fs.made + 1) (fs.made + 1) (names_after kept fs.names) name fs.made apart (omega arith) (omega arith)
    (λ query has. let old : fs.made < fs.made = sound.bound kept s query fs.made has in omega arith)))
    (changed_least fs.objects fs.made empty_object (omega arith) sound.least)

pub names_synced_sound : (fs : Fs) → IsSound fs → IsSound (names_synced fs)
names_synced_sound fs sound =
    sound_apart (names_synced fs)
    (λ kept s. rw (survives_none kept s) (apart_kept fs sound fs.pending (survives_all fs.pending)))
    sound.least

-- one file is changed, to an object that has had no more than its present length
pub file_sound : (fs : Fs) (name : Option ℕ) (change : Object → Object) → ((object : ℕ) → name ≡ Some object → (change (fs.objects object)).least ≤ length (change (fs.objects object)).bytes)
    → IsSound fs → IsSound (on_file name change fs)
file_sound fs None change keeps sound = sound
file_sound fs (Some object) change keeps sound =
    sound_apart (with_object object change fs) (apart_kept fs sound)
    (changed_least fs.objects object (change (fs.objects object)) (keeps object refl) sound.least)

pub object_sound : (fs : Fs) (name : Option ℕ) (change : Object → Object) → ((o : Object) → o.least ≤ length o.bytes → (change o).least ≤ length (change o).bytes)
    → IsSound fs → IsSound (on_file name change fs)
object_sound fs name change keeps sound = file_sound fs name change (λ object e. keeps (fs.objects object) (sound.least object)) sound

pub overwrite_longer : (at : ℕ) (bytes file : List ℕ) → length file ≤ length (overwrite at bytes file)
overwrite_longer at bytes file = simp (length-append, length-take, length-drop) (omega arith)

pub write_sound : (fs : Fs) (name : Option ℕ) (at : ℕ) (bytes : List ℕ) → IsSound fs → IsSound (on_file name (written at bytes) fs)
write_sound fs name at bytes = object_sound fs name (written at bytes) (λ o fits. le_trans fits (overwrite_longer at bytes o.bytes))

pub sync_sound : (fs : Fs) (name : Option ℕ) → IsSound fs → IsSound (on_file name synced fs)
sync_sound fs name = object_sound fs name synced (λ o fits. omega arith)

-- what a file is read as, of which the name's object is known
pub shown_object : (fs : Fs) (name : List ℕ) (object : ℕ) → present fs name ≡ Some object → shown fs name ≡ Some (fs.objects object).bytes
shown_object fs name object e = ap (option_map (λ i. (fs.objects i).bytes)) e

pub torn_sound : (fs : Fs) (name : List ℕ) (at count : ℕ) (before left : List ℕ) → shown fs name ≡ Some before → Torn at count before left
    → IsSound fs → IsSound (on_file (present fs name) (torn at count left) fs)
torn_sound fs name at count before left e tear sound =
    file_sound fs (present fs name) (torn at count left)
    (λ object is. let same : (fs.objects object).bytes ≡ before = (let f = shown_object fs name object is in cc) in
    let l : length (fs.objects object).bytes ≡ length before = ap length same in
    let old : (fs.objects object).least ≤ length (fs.objects object).bytes = sound.least object in
    let more : length before ≤ length left = tear.no_shorter in omega arith)
    sound
