-- The steps of name operations, and of a sync of names, over a run.
--
-- A name operation that fails was done or not, so its step is that of one that was done.
use Rattle.std.proofs.Common.{◌≡◌, ◌≢◌, ◌⊎◌, ℕ, ◌+◌, List, refl, inl}
use Rattle.pt_host.specs.Disk.{Files, Create, Rename, Unlink, Fs, IsImage, EachImage, IsSound, with_op, created, names_synced}
use Rattle.pt_host.specs.World.{World, IsQuiet, with_fs, after_fs, after_sync_names}
use Rattle.pt_host.specs.Images.{Does, Follows}
use Rattle.pt_host.proofs.Images.{full_is_image, names_synced_images, unlink_images, rename_images, create_images}
use Rattle.pt_host.proofs.Runs.{quiet_call, quiet_either, follows_here, image_then}

-- what was done or not
pub op_quiet : (old new : World) (fs : Fs) (P : Files → Type 0) → (new ≡ old) ⊎ (new ≡ after_fs fs old) → EachImage old.now.fs P → EachImage fs P → IsQuiet old new P
op_quiet old new fs P which = quiet_either old new (with_fs old.now fs) P which refl

pub unlink_step : (old new : World) (name : List ℕ) → IsSound old.now.fs → (new ≡ old) ⊎ (new ≡ after_fs (with_op (Unlink name) old.now.fs) old) → IsQuiet old new (Follows old.now.fs (Does (Unlink name)))
unlink_step old new name sound which =
    op_quiet old new (with_op (Unlink name) old.now.fs) (Follows old.now.fs (Does (Unlink name))) which
    (follows_here old.now.fs (Does (Unlink name)) (λ files. inl (λ query. refl))) (unlink_images old.now.fs name sound)

pub create_step : (old new : World) (name : List ℕ) → IsSound old.now.fs → (new ≡ old) ⊎ (new ≡ after_fs (created name old.now.fs) old)
    → IsQuiet old new (Follows old.now.fs (Does (Create name old.now.fs.made)))
create_step old new name sound which =
    op_quiet old new (created name old.now.fs) (Follows old.now.fs (Does (Create name old.now.fs.made))) which
    (follows_here old.now.fs (Does (Create name old.now.fs.made)) (λ files. inl (λ query. refl))) (create_images old.now.fs name sound)

pub rename_step : (old new : World) (from to : List ℕ) → IsSound old.now.fs → from ≢ to → (new ≡ old) ⊎ (new ≡ after_fs (with_op (Rename from to) old.now.fs) old)
    → IsQuiet old new (Follows old.now.fs (Does (Rename from to)))
rename_step old new from to sound differ which =
    op_quiet old new (with_op (Rename from to) old.now.fs) (Follows old.now.fs (Does (Rename from to))) which
    (follows_here old.now.fs (Does (Rename from to)) (λ files. inl (λ query. refl))) (rename_images old.now.fs from to sound differ)

-- A sync of names adds no image.
pub sync_names_step : (old new : World) → new ≡ after_sync_names old → IsQuiet old new (IsImage old.now.fs)
sync_names_step old new same =
    quiet_call old new
    (record { fs = names_synced old.now.fs; said = old.now.said; looks = old.now.looks; syncs = old.now.syncs + 1; bytes = old.now.bytes })
    (IsImage old.now.fs) same refl (λ files image. full_is_image old.now.fs files (names_synced_images old.now.fs files image))

pub sync_names_then : (a b c : World) (P : Files → Type 0) → IsQuiet a b P → c ≡ after_sync_names b → IsQuiet a c P
sync_names_then a b c P run same = image_then a b c P run (sync_names_step b c same)
