-- What is said leaves the directory.
use Rattle.std.proofs.Common.{◌≡◌, ◌∙◌, ℕ, List, [], ◌∷◌, ◌++◌, refl, ap}
use Rattle.std.specs.Prelude.{Result, Ok, Err, OnOk, OnErr}
use Rattle.pt_host.specs.World.{World, next, after_say, FailedSay}

after_say_dir : (bytes : List ℕ) (w : World) → (after_say bytes w).dir ≡ w.dir
after_say_dir [] w = refl
after_say_dir (byte ∷ bytes) w = after_say_dir bytes (next w (record { fs = w.now.fs; said = w.now.said ++ byte ∷ []; looks = w.now.looks; syncs = w.now.syncs; bytes = w.now.bytes }))

pub said_dir : {T E tells : Type 0} (bytes : List ℕ) (old new : World) (result : Result T E)
    → OnOk result (tells → new ≡ after_say bytes old) → OnErr result (tells → FailedSay bytes old new) → tells → new.dir ≡ old.dir
said_dir bytes old new (Ok x) ok failed told = ap (λ w. w.dir) (ok told) ∙ after_say_dir bytes old
said_dir bytes old new (Err e) ok failed told = let f = failed told in ap (λ w. w.dir) f.3 ∙ after_say_dir f.0 old
