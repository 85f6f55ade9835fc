-- Runs of calls: the moments that they add, and how the images of each follow from those before the run.
use Rattle.std.proofs.Common.{◌≡◌, ◌⊎◌, ℕ, List, [], ◌∷◌, ◌++◌, refl, sym, ap, ◌∙◌, subst, inl, inr, append_assoc, append-nil, OnOk, OnErr}
use Rattle.std.specs.Prelude.{Result, Ok, Err}
use Rattle.std.proofs.lemmas.List.Elements.{All-nil, All-append, All-weaker, All-cons}
use Rattle.pt_host.specs.Disk.{Fs, Files, IsImage, EachImage}
use Rattle.pt_host.specs.World.{World, Moment, next, after_look, after_say, Since, IsQuiet, IsUntouched, IsIdle, OnlyLooks}
use Rattle.pt_host.specs.Images.{Follows}

-- # The moments that a run added

pub since_none : (w : World) (P : Moment → Type 0) → Since w w P
since_none w P = record { added = []; grows = sym (append-nil w.moments); each = All-nil P }

pub since_then : (a b c : World) (P : Moment → Type 0) → Since a b P → Since b c P → Since a c P
since_then a b c P s t = record {
  added = s.added ++ t.added;
  grows = t.grows ∙ ap (λ ms. ms ++ t.added) s.grows ∙ append_assoc a.moments s.added t.added;
  each = All-append P s.added t.added s.each t.each;
}

pub since_next : (w : World) (m : Moment) (P : Moment → Type 0) → P m → Since w (next w m) P
since_next w m P here = record { added = m ∷ []; grows = refl; each = All-cons P m [] here (All-nil P) }

pub since_weaken : (a b : World) (P Q : Moment → Type 0) → ((m : Moment) → P m → Q m) → Since a b P → Since a b Q
since_weaken a b P Q weaker s = record { added = s.added; grows = s.grows; each = All-weaker P Q weaker s.added s.each }

-- # Runs that enter, take and say nothing

pub quiet_none : (w : World) (P : Files → Type 0) → EachImage w.now.fs P → IsQuiet w w P
quiet_none w P each = record { dir = refl; input = refl; said = refl; now = each; since = since_none w (λ m. (m.said ≡ w.now.said) × EachImage m.fs P) }

pub quiet_same : (old new : World) (P : Files → Type 0) → new ≡ old → EachImage old.now.fs P → IsQuiet old new P
quiet_same old new P same each = subst (λ w. IsQuiet old w P) (sym same) (quiet_none old P each)

pub quiet_call : (old new : World) (m : Moment) (P : Files → Type 0) → new ≡ next old m → m.said ≡ old.now.said → EachImage m.fs P → IsQuiet old new P
quiet_call old new m P same said each = subst (λ w. IsQuiet old w P) (sym same)
    (record { dir = refl; input = refl; said = said; now = each; since = since_next old m (λ n. (n.said ≡ old.now.said) × EachImage n.fs P) (said, each) })

-- a failed call, which did nothing or all
pub quiet_either : (old new : World) (m : Moment) (P : Files → Type 0) → (new ≡ old) ⊎ (new ≡ next old m) → m.said ≡ old.now.said → EachImage old.now.fs P → EachImage m.fs P → IsQuiet old new P
quiet_either old new m P which said before after =
    elim which [ inl same ↦ quiet_same old new P same before | inr done ↦ quiet_call old new m P done said after ]

pub quiet_weaken : (old new : World) (P Q : Files → Type 0) → ((files : Files) → P files → Q files) → IsQuiet old new P → IsQuiet old new Q
quiet_weaken old new P Q weaker q = record {
  dir = q.dir;
  input = q.input;
  said = q.said;
  now = λ files image. weaker files (q.now files image);
  since = since_weaken old new (λ m. (m.said ≡ old.now.said) × EachImage m.fs P) (λ m. (m.said ≡ old.now.said) × EachImage m.fs Q)
      (λ m h. (h.0, λ files image. weaker files (h.1 files image))) q.since;
}

pub quiet_then : (a b c : World) (P : Files → Type 0) → IsQuiet a b P → IsQuiet b c P → IsQuiet a c P
quiet_then a b c P q r = record {
  dir = r.dir ∙ q.dir;
  input = r.input ∙ q.input;
  said = r.said ∙ q.said;
  now = r.now;
  since = since_then a b c (λ m. (m.said ≡ a.now.said) × EachImage m.fs P) q.since
      (since_weaken b c (λ m. (m.said ≡ b.now.said) × EachImage m.fs P) (λ m. (m.said ≡ a.now.said) × EachImage m.fs P) (λ m h. (h.0 ∙ q.said, h.1)) r.since);
}

-- what adds no image keeps what each image has
pub image_then : (a b c : World) (P : Files → Type 0) → IsQuiet a b P → IsQuiet b c (IsImage b.now.fs) → IsQuiet a c P
image_then a b c P run more = quiet_then a b c P run (quiet_weaken b c (IsImage b.now.fs) P run.now more)

-- and so does a call that did nothing
pub idle_then : (a b c : World) (P : Files → Type 0) → IsQuiet a b P → c ≡ b → IsQuiet a c P
idle_then a b c P run same = subst (λ (w : World). IsQuiet a w P) (sym same) run

-- a read adds no image
pub look_quiet : (old new : World) (name : List ℕ) (P : Files → Type 0) → new ≡ after_look name old → EachImage old.now.fs P → IsQuiet old new P
look_quiet old new name P same each =
    quiet_call old new (record { fs = old.now.fs; said = old.now.said; looks = old.now.looks ++ name ∷ []; syncs = old.now.syncs; bytes = old.now.bytes }) P same refl each

-- # Runs that only look

untouched : (m : Moment) → IsUntouched m m
untouched m = record { fs = refl; syncs = refl; bytes = refl }

untouched_then : (a b c : Moment) → IsUntouched a b → IsUntouched b c → IsUntouched a c
untouched_then a b c first then = record { fs = then.fs ∙ first.fs; syncs = then.syncs ∙ first.syncs; bytes = then.bytes ∙ first.bytes }

pub looks_none : (w : World) → OnlyLooks w w
looks_none w = record { dir = refl; input = refl; said = refl; now = untouched w.now; since = since_none w _ }

pub looks_same : (old new : World) → new ≡ old → OnlyLooks old new
looks_same old new same = subst (λ w. OnlyLooks old w) (sym same) (looks_none old)

pub looks_at : (old new : World) (name : List ℕ) → new ≡ after_look name old → OnlyLooks old new
looks_at old new name same = subst (λ w. OnlyLooks old w) (sym same)
    (record {
      dir = refl;
      input = refl;
      said = refl;
      now = record { fs = refl; syncs = refl; bytes = refl };
      since = since_next old (record { fs = old.now.fs; said = old.now.said; looks = old.now.looks ++ name ∷ []; syncs = old.now.syncs; bytes = old.now.bytes })
          (λ m. (m.said ≡ old.now.said) × IsUntouched old.now m) (refl, record { fs = refl; syncs = refl; bytes = refl });
    })

-- a read that failed
pub looks_perhaps : (old new : World) (name : List ℕ) → (new ≡ old) ⊎ (new ≡ after_look name old) → OnlyLooks old new
looks_perhaps old new name which = elim which [ inl same ↦ looks_same old new same | inr looked ↦ looks_at old new name looked ]

pub looks_then : (a b c : World) → OnlyLooks a b → OnlyLooks b c → OnlyLooks a c
looks_then a b c first then = record {
  dir = then.dir ∙ first.dir;
  input = then.input ∙ first.input;
  said = then.said ∙ first.said;
  now = untouched_then a.now b.now c.now first.now then.now;
  since = since_then a b c (λ m. (m.said ≡ a.now.said) × IsUntouched a.now m) first.since
      (since_weaken b c (λ m. (m.said ≡ b.now.said) × IsUntouched b.now m) (λ m. (m.said ≡ a.now.said) × IsUntouched a.now m) (λ m h. (h.0 ∙ first.said, untouched_then a.now b.now m first.now h.1)) then.since);
}

-- what each image has, each image has still
pub looks_quiet : (old new : World) (P : Files → Type 0) → EachImage old.now.fs P → OnlyLooks old new → IsQuiet old new P
looks_quiet old new P each looks = record {
  dir = looks.dir;
  input = looks.input;
  said = looks.said;
  now = subst (λ (fs : Fs). EachImage fs P) (sym looks.now.fs) each;
  since = since_weaken old new (λ m. (m.said ≡ old.now.said) × IsUntouched old.now m) (λ m. (m.said ≡ old.now.said) × EachImage m.fs P)
      (λ m h. (h.0, subst (λ (fs : Fs). EachImage fs P) (sym h.1.fs) each)) looks.since;
}

-- # Runs that leave the disk untouched

pub idle_none : (w : World) → IsIdle w w
idle_none w = record { now = untouched w.now; since = since_none w _ }

pub idle_looks : (old new : World) → OnlyLooks old new → IsIdle old new
idle_looks old new looks = record { now = looks.now; since = since_weaken old new _ (IsUntouched old.now) (λ m h. h.1) looks.since }

pub idle_on : (a b c : World) → IsIdle a b → IsIdle b c → IsIdle a c
idle_on a b c first then = record {
  now = untouched_then a.now b.now c.now first.now then.now;
  since = since_then a b c (IsUntouched a.now) first.since (since_weaken b c (IsUntouched b.now) (IsUntouched a.now) (λ m h. untouched_then a.now b.now m first.now h) then.since);
}

-- # Steps from the images of before

pub follows_here : (fs : Fs) (R : Files → Files → Type 0) → ((files : Files) → R files files) → EachImage fs (Follows fs R)
follows_here fs R same files image = record { before = files; image = image; step = same files }

pub follows_weaken : (fs : Fs) (R S : Files → Files → Type 0) → ((x y : Files) → R x y → S x y) → (files : Files) → Follows fs R files → Follows fs S files
follows_weaken fs R S weaker files f = record { before = f.before; image = f.image; step = weaker f.before files f.step }

pub follows_none : (w : World) (R : Files → Files → Type 0) → ((files : Files) → R files files) → IsQuiet w w (Follows w.now.fs R)
follows_none w R same = quiet_none w (Follows w.now.fs R) (follows_here w.now.fs R same)

-- What follows by S from a moment each image of which follows by R, follows by T from there.
pub follows_trans : (a b : Fs) (R S T : Files → Files → Type 0) → ((x y z : Files) → R x y → S y z → T x z) → EachImage b (Follows a R) → (files : Files) → Follows b S files → Follows a T files
follows_trans a b R S T both each files f =
    let e = each f.before f.image in
    record { before = e.before; image = e.image; step = both e.before f.before files e.step f.step }

pub follows_then : (a b c : World) (R S T : Files → Files → Type 0) → ((x y : Files) → R x y → T x y) → ((x y z : Files) → R x y → S y z → T x z)
    → IsQuiet a b (Follows a.now.fs R) → IsQuiet b c (Follows b.now.fs S) → IsQuiet a c (Follows a.now.fs T)
follows_then a b c R S T first both q r =
    quiet_then a b c (Follows a.now.fs T)
    (quiet_weaken a b (Follows a.now.fs R) (Follows a.now.fs T) (follows_weaken a.now.fs R T first) q)
    (quiet_weaken b c (Follows b.now.fs S) (Follows a.now.fs T) (follows_trans a.now.fs b.now.fs R S T both q.now) r)

-- What each image of before has, and the steps keep, each image has.
pub follows_each : (a b : World) (R : Files → Files → Type 0) (Q P : Files → Type 0) → EachImage a.now.fs Q → ((x y : Files) → Q x → R x y → P y) → IsQuiet a b (Follows a.now.fs R) → IsQuiet a b P
follows_each a b R Q P each keeps = quiet_weaken a b (Follows a.now.fs R) P (λ files f. keeps f.before files (each f.before f.image) f.step)

-- # What was said

-- the moment, with this said
abbrev pub saying : Moment → List ℕ → Moment
saying m said = record { fs = m.fs; said = said; looks = m.looks; syncs = m.syncs; bytes = m.bytes }

pub since_say : (part : List ℕ) (w : World) (P : Moment → Type 0) → ((front rest : List ℕ) → part ≡ front ++ rest → P (saying w.now (w.now.said ++ front))) → Since w (after_say part w) P
since_say [] w P each = since_none w P
since_say (byte ∷ part) w P each =
    since_then w (next w (saying w.now (w.now.said ++ byte ∷ []))) (after_say part (next w (saying w.now (w.now.said ++ byte ∷ [])))) P
    (since_next w (saying w.now (w.now.said ++ byte ∷ [])) P (each (byte ∷ []) part refl))
    (since_say part (next w (saying w.now (w.now.said ++ byte ∷ []))) P
    (λ front rest e. subst (λ said. P (saying w.now said)) (sym (append_assoc w.now.said (byte ∷ []) front)) (each (byte ∷ front) rest (ap (λ bytes. byte ∷ bytes) e))))

pub after_say_now : (part : List ℕ) (w : World) → (after_say part w).now ≡ saying w.now (w.now.said ++ part)
after_say_now [] w = ap (saying w.now) (sym (append-nil w.now.said))
after_say_now (byte ∷ part) w =
    after_say_now part (next w (saying w.now (w.now.said ++ byte ∷ [])))
    ∙ ap (saying w.now) (append_assoc w.now.said (byte ∷ []) part)

pub after_say_dir : (part : List ℕ) (w : World) → (after_say part w).dir ≡ w.dir
after_say_dir [] w = refl
after_say_dir (byte ∷ part) w = after_say_dir part (next w (saying w.now (w.now.said ++ byte ∷ [])))

pub after_say_input : (part : List ℕ) (w : World) → (after_say part w).input ≡ w.input
after_say_input [] w = refl
after_say_input (byte ∷ part) w = after_say_input part (next w (saying w.now (w.now.said ++ byte ∷ [])))

pub after_say-append : (front rest : List ℕ) (w : World) → after_say (front ++ rest) w ≡ after_say rest (after_say front w)
after_say-append [] rest w = refl
after_say-append (byte ∷ front) rest w = after_say-append front rest (next w (saying w.now (w.now.said ++ byte ∷ [])))

-- # Answers

-- what follows from either answer of a call, whichever it was
pub either_way : {T E P Q R : Type 0} → (r : Result T E) → OnOk r P → OnErr r Q → (P → R) → (Q → R) → R
either_way (Ok x) p q ok failed = ok p
either_way (Err x) p q ok failed = failed q

-- what is said leaves the disk untouched
pub idle_say : (part : List ℕ) (w new : World) → new ≡ after_say part w → IsIdle w new
idle_say part w new same = subst (λ v. IsIdle w v) (sym same)
    (record {
      now = subst (λ m. IsUntouched w.now m) (sym (after_say_now part w)) (record { fs = refl; syncs = refl; bytes = refl });
      since = since_say part w (IsUntouched w.now) (λ front rest e. record { fs = refl; syncs = refl; bytes = refl });
    })
