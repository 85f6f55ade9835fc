-- The steps of writes and syncs of one file: from the images of before to those after.
use Rattle.std.proofs.Common.{◌≡◌, ℕ, ◌+◌, ◌≤◌, List, length, refl, sym, ◌∙◌, subst, inl, inr}
use Rattle.std.specs.Prelude.{Some, None}
use Rattle.pt_host.specs.Disk.{Files, Fs, IsImage, EachImage, IsSound, Torn, present, written, torn, synced, on_file}
use Rattle.pt_host.specs.Images.{IsOwner, IsThere, Tears, Changes, Follows}
use Rattle.pt_host.specs.World.{World, IsQuiet, FailedWrite, after_write, after_sync}
use Rattle.pt_host.proofs.Images.{file_images, file_sync_images}
use Rattle.pt_host.proofs.Writes.{torn_same, torn_then, torn_wider, torn_from, written_from}
use Rattle.pt_host.proofs.Sound.{shown_object}
use Rattle.pt_host.proofs.Held.{steady_owner}
use Rattle.pt_host.proofs.Runs.{quiet_call, quiet_same, quiet_weaken, follows_here, follows_weaken}

pub tears_same : (name : List ℕ) (at count : ℕ) (files : Files) → Tears name at count files files
tears_same name at count files = record { only = λ query differs. refl; here = λ b e. (b, e, torn_same at count b) }

pub tears_then : (name : List ℕ) (at count : ℕ) (x y z : Files) → Tears name at count x y → Tears name at count y z → Tears name at count x z
tears_then name at count x y z s t = record {
  only = λ query differs. t.only query differs ∙ s.only query differs;
  here = λ b e. let f = s.here b e in let g = t.here f.0 f.1 in (g.0, g.1, torn_then at count b f.0 g.0 f.2 g.2);
}

pub tears_wider : (name : List ℕ) (low wide at count : ℕ) (x y : Files) → low ≤ at → at + count ≤ low + wide → Tears name at count x y → Tears name low wide x y
tears_wider name low wide at count x y begins ends t = record {
  only = t.only;
  here = λ b e. let f = t.here b e in (f.0, f.1, torn_wider low wide at count b f.0 begins ends f.2);
}

pub tears_changed : (name : List ℕ) (at count : ℕ) (x y : Files) → Changes name (Torn at count) x y → Tears name at count x y
tears_changed name at count x y change = record {
  only = change.only;
  here = λ b e. elim change.here [
    | inl none ↦ let bad : None ≡ Some b = (sym none.0 ∙ e) in cc
    | inr some ↦ let same : some.0 ≡ b = (let f : Some some.0 ≡ Some b = (sym some.2 ∙ e) in cc) in
        (some.1, some.3, subst (λ old. Torn at count old some.1) same some.4)
  ];
}

-- # Over the images of a moment

pub write_images : (fs : Fs) (name : List ℕ) (object at : ℕ) (bytes : List ℕ) → IsSound fs → IsOwner fs name object → at ≤ length (fs.objects object).bytes
    → EachImage (on_file (present fs name) (written at bytes) fs) (Follows fs (Tears name at (length bytes)))
write_images fs name object at bytes sound owner within files image =
    follows_weaken fs (Changes name (Torn at (length bytes))) (Tears name at (length bytes)) (tears_changed name at (length bytes)) files
    (file_images fs name object (written at bytes) (Torn at (length bytes)) owner (written_from (fs.objects object) at bytes (sound.least object) within) files image)

pub torn_images : (fs : Fs) (name : List ℕ) (object at count : ℕ) (left : List ℕ) → IsSound fs → IsOwner fs name object → at ≤ length (fs.objects object).bytes → Torn at count (fs.objects object).bytes left
    → EachImage (on_file (present fs name) (torn at count left) fs) (Follows fs (Tears name at count))
torn_images fs name object at count left sound owner within tear files image =
    follows_weaken fs (Changes name (Torn at count)) (Tears name at count) (tears_changed name at count) files
    (file_images fs name object (torn at count left) (Torn at count) owner (torn_from (fs.objects object) at count left (sound.least object) within tear) files image)

-- # Over runs

pub write_step : (old new : World) (name : List ℕ) (object at : ℕ) (bytes : List ℕ) → IsSound old.now.fs → IsOwner old.now.fs name object → at ≤ length (old.now.fs.objects object).bytes
    → new ≡ after_write name at bytes old → IsQuiet old new (Follows old.now.fs (Tears name at (length bytes)))
write_step old new name object at bytes sound owner within same =
    quiet_call old new
    (record { fs = on_file (present old.now.fs name) (written at bytes) old.now.fs; said = old.now.said; looks = old.now.looks; syncs = old.now.syncs; bytes = old.now.bytes + length bytes })
    (Follows old.now.fs (Tears name at (length bytes))) same refl
    (write_images old.now.fs name object at bytes sound owner within)

pub failed_write_step : (old new : World) (name : List ℕ) (object at count : ℕ) → IsSound old.now.fs → IsOwner old.now.fs name object → at ≤ length (old.now.fs.objects object).bytes
    → FailedWrite name at count old new → IsQuiet old new (Follows old.now.fs (Tears name at count))
failed_write_step old new name object at count sound owner within failed =
    elim failed [
      | inl same ↦ quiet_same old new (Follows old.now.fs (Tears name at count)) same (follows_here old.now.fs (Tears name at count) (tears_same name at count))
      | inr torn_so ↦
          let e : torn_so.0 ≡ (old.now.fs.objects object).bytes =
          (let f : Some (old.now.fs.objects object).bytes ≡ Some torn_so.0 = (sym (shown_object old.now.fs name object owner.now) ∙ torn_so.2) in cc) in
          quiet_call old new
          (record { fs = on_file (present old.now.fs name) (torn at count torn_so.1) old.now.fs; said = old.now.said; looks = old.now.looks; syncs = old.now.syncs; bytes = old.now.bytes + count })
          (Follows old.now.fs (Tears name at count)) torn_so.4 refl
          (torn_images old.now.fs name object at count torn_so.1 sound owner within (subst (λ before. Torn at count before torn_so.1) e torn_so.3))
    ]

-- A sync adds no image.
pub sync_step : (old new : World) (name : List ℕ) → IsSound old.now.fs → new ≡ after_sync name old → IsQuiet old new (IsImage old.now.fs)
sync_step old new name sound same =
    quiet_call old new
    (record { fs = on_file (present old.now.fs name) synced old.now.fs; said = old.now.said; looks = old.now.looks; syncs = old.now.syncs + 1; bytes = old.now.bytes })
    (IsImage old.now.fs) same refl (file_sync_images old.now.fs (present old.now.fs name) sound)

-- # The same of a file that is there

module _ (old new : World) (name file : List ℕ) (at : ℕ) (sound : IsSound old.now.fs) (there : IsThere old.now.fs name file) (within : at ≤ length file) where
  in_object : at ≤ length (old.now.fs.objects there.object).bytes
  in_object = subst (λ (bytes : List ℕ). at ≤ length bytes) (sym there.bytes) within

  pub write_tears : (bytes : List ℕ) → new ≡ after_write name at bytes old → IsQuiet old new (Follows old.now.fs (Tears name at (length bytes)))
  write_tears bytes = write_step old new name there.object at bytes sound (steady_owner old.now.fs name there.object sound there.steady) in_object

  pub failed_write_tears : (count : ℕ) → FailedWrite name at count old new → IsQuiet old new (Follows old.now.fs (Tears name at count))
  failed_write_tears count = failed_write_step old new name there.object at count sound (steady_owner old.now.fs name there.object sound there.steady) in_object

pub sync_tears : (old new : World) (name : List ℕ) (at count : ℕ) → IsSound old.now.fs → new ≡ after_sync name old → IsQuiet old new (Follows old.now.fs (Tears name at count))
sync_tears old new name at count sound same =
    quiet_weaken old new (IsImage old.now.fs) (Follows old.now.fs (Tears name at count)) (follows_here old.now.fs (Tears name at count) (tears_same name at count))
    (sync_step old new name sound same)
