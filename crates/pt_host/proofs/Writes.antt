-- Writes to one file: which bytes they leave alone, and what a stop may leave of them.
use Rattle.std.proofs.Common.{◌≡◌, ◌⊎◌, ℕ, zero, suc, ◌+◌, ◌-◌, ◌<◌, ◌≤◌, min, max, Bool, true, false, cond, ◌&&◌, ◌||◌, List, [], ◌∷◌, ◌++◌, length, take, drop, get_or, refl, sym, ap, ◌∙◌, arith, inl, inr, length-append, length-take, length-drop}
use Rattle.std.specs.Prelude.{nat_le, nat_lt}
use Rattle.std.proofs.lemmas.List.{get_or-take, get_or-drop, take-take, drop-drop}
use Rattle.std.proofs.lemmas.Grind.{same_number_lists, common_steps}
use Rattle.std.proofs.lemmas.Bool.Decides.{nat_tests}
use Rattle.pt_host.specs.Disk.{Object, Torn, written, torn, overwrite, is_loose}
use Rattle.pt_host.proofs.Images.{Explains}

-- # Bytes that differ in one range alone

module _ (at count : ℕ) (old new : List ℕ) (tear : Torn at count old new) where
  pub torn_before : (k : ℕ) → k < at → get_or new k 0 ≡ get_or old k 0
  torn_before k below = sym (get_or-take at new k 0 below) ∙ ap (λ (bytes : List ℕ). get_or bytes k 0) tear.before ∙ get_or-take at old k 0 below

  pub torn_after : (k : ℕ) → at + count ≤ k → get_or new k 0 ≡ get_or old k 0
  torn_after k above =
      let place : at + count + (k - (at + count)) ≡ k = omega arith in
      ap (λ i. get_or new i 0) (sym place) ∙ sym (get_or-drop (at + count) new (k - (at + count)) 0)
      ∙ ap (λ (bytes : List ℕ). get_or bytes (k - (at + count)) 0) tear.after
      ∙ get_or-drop (at + count) old (k - (at + count)) 0 ∙ ap (λ i. get_or old i 0) place

-- the way back: by the lengths and by each byte outside the range
pub torn_by_bytes : (at count : ℕ) (old new : List ℕ) → min at (length new) ≡ min at (length old) → length old ≤ length new → length new ≤ max (length old) (at + count)
    → ((k : ℕ) → k < at → k < length new → get_or new k 0 ≡ get_or old k 0)
    → ((k : ℕ) → at + count ≤ k → k < length new → get_or new k 0 ≡ get_or old k 0) → Torn at count old new
torn_by_bytes at count old new front no_shorter no_longer before after = record {
  before = same_number_lists (take at new) (take at old) (simp length-take (omega arith))
      (λ k below. let b : k < min at (length new) = (simp length-take at below) in let l : k < at = omega arith in let m : k < length new = omega arith in
      get_or-take at new k 0 l ∙ before k l m ∙ sym (get_or-take at old k 0 l));
  after = same_number_lists (drop (at + count) new) (drop (at + count) old) (simp length-drop (omega arith))
      (λ k below. let b : k < length new - (at + count) = (simp length-drop at below) in
      get_or-drop (at + count) new k 0 ∙ after (at + count + k) (omega arith) (omega arith) ∙ sym (get_or-drop (at + count) old k 0));
  no_shorter = no_shorter;
  no_longer = no_longer;
}

pub torn_same : (at count : ℕ) (bytes : List ℕ) → Torn at count bytes bytes
torn_same at count bytes = record { before = refl; after = refl; no_shorter = omega arith; no_longer = omega arith }

pub torn_then : (at count : ℕ) (a b c : List ℕ) → Torn at count a b → Torn at count b c → Torn at count a c
torn_then at count a b c s t = record {
  before = t.before ∙ s.before;
  after = t.after ∙ s.after;
  no_shorter = (let l : length a ≤ length b = s.no_shorter in let m : length b ≤ length c = t.no_shorter in omega arith);
  no_longer = (let l : length b ≤ max (length a) (at + count) = s.no_longer in let m : length c ≤ max (length b) (at + count) = t.no_longer in omega arith);
}

-- the same of a wider range
pub torn_wider : (low wide at count : ℕ) (a b : List ℕ) → low ≤ at → at + count ≤ low + wide → Torn at count a b → Torn low wide a b
torn_wider low wide at count a b begins ends t = record {
  before = sym (take-take low at b begins) ∙ ap (take low) t.before ∙ take-take low at a begins;
  after =
      let gap : at + count + (low + wide - (at + count)) ≡ low + wide = omega arith in
      ap (λ n. drop n b) (sym gap) ∙ sym (drop-drop (low + wide - (at + count)) (at + count) b)
      ∙ ap (drop (low + wide - (at + count))) t.after
      ∙ drop-drop (low + wide - (at + count)) (at + count) a ∙ ap (λ n. drop n a) gap;
  no_shorter = t.no_shorter;
  no_longer = (let l : length b ≤ max (length a) (at + count) = t.no_longer in omega arith);
}

pub overwrite_torn : (at : ℕ) (bytes file : List ℕ) → at ≤ length file → Torn at (length bytes) file (overwrite at bytes file)
overwrite_torn at bytes file within = record {
  before = grind (arith, common_steps);
  after = grind (arith, common_steps);
  no_shorter = simp (length-append, length-take, length-drop) (omega arith);
  no_longer = simp (length-append, length-take, length-drop) (omega arith);
}

-- bytes written at the end
pub overwrite_end : (bytes file : List ℕ) → overwrite (length file) bytes file ≡ file ++ bytes
overwrite_end bytes file = grind (arith, common_steps)

-- # What a stop may leave of a write

-- a list by its bytes
tabulate : (ℕ → ℕ) → ℕ → List ℕ
tabulate byte zero = []
tabulate byte (suc n) = byte 0 ∷ tabulate (λ k. byte (suc k)) n

length-tabulate : (byte : ℕ → ℕ) (n : ℕ) → length (tabulate byte n) ≡ n
unfolding tabulate
length-tabulate byte zero = refl
length-tabulate byte (suc n) = ap suc (length-tabulate (λ k. byte (suc k)) n)

get_or-tabulate : (byte : ℕ → ℕ) (n k : ℕ) → k < n → get_or (tabulate byte n) k 0 ≡ byte k
unfolding tabulate
get_or-tabulate byte zero k below = absurd (omega arith)
get_or-tabulate byte (suc n) zero below = refl
get_or-tabulate byte (suc n) (suc k) below = get_or-tabulate (λ i. byte (suc i)) n k (omega arith)

-- whether a place lies in the range
abbrev in_range : ℕ → ℕ → ℕ → Bool
in_range at count k = nat_le at k && nat_lt k (at + count)

in_range_or_not : (at count k : ℕ) → (in_range at count k ≡ true) ⊎ ((in_range at count k ≡ false) × ((k < at) ⊎ (at + count ≤ k)))
in_range_or_not at count k = grind (arith, nat_tests)

before_range : (at count k : ℕ) → k < at → in_range at count k ≡ false
before_range at count k below = grind (arith, nat_tests)

after_range : (at count k : ℕ) → at + count ≤ k → in_range at count k ≡ false
after_range at count k above = grind (arith, nat_tests)

-- Bytes that may have been there before the write that left these: within the range the old ones, elsewhere what was left.
mixed : ℕ → ℕ → List ℕ → List ℕ → List ℕ
mixed at count old left = tabulate (λ k. cond (in_range at count k) (get_or old k 0) (get_or left k 0)) (min (length left) (length old))

module _ (at count : ℕ) (old left : List ℕ) where
  length-mixed : length (mixed at count old left) ≡ min (length left) (length old)
  unfolding mixed
  length-mixed = length-tabulate (λ k. cond (in_range at count k) (get_or old k 0) (get_or left k 0)) (min (length left) (length old))

  mixed_at : (k : ℕ) → k < length left → k < length old → get_or (mixed at count old left) k 0 ≡ cond (in_range at count k) (get_or old k 0) (get_or left k 0)
  unfolding mixed
  mixed_at k below within = get_or-tabulate (λ k. cond (in_range at count k) (get_or old k 0) (get_or left k 0)) (min (length left) (length old)) k (omega arith)

  mixed_inside : (k : ℕ) → k < length left → k < length old → in_range at count k ≡ true → get_or (mixed at count old left) k 0 ≡ get_or old k 0
  mixed_inside k below within inside = mixed_at k below within ∙ ap (λ b. cond b (get_or old k 0) (get_or left k 0)) inside

  mixed_outside : (k : ℕ) → k < length left → k < length old → in_range at count k ≡ false → get_or (mixed at count old left) k 0 ≡ get_or left k 0
  mixed_outside k below within outside = mixed_at k below within ∙ ap (λ b. cond b (get_or old k 0) (get_or left k 0)) outside

-- What may be left of a write that tore a range follows by such a tear from what might be left before it.
pub torn_from : (object : Object) (at count : ℕ) (new : List ℕ) → object.least ≤ length object.bytes → at ≤ length object.bytes → Torn at count object.bytes new
    → Explains object (torn at count new object) (Torn at count)
torn_from object at count new fits within tear left h =
    let n : length (mixed at count object.bytes left) ≡ min (length left) (length object.bytes) = length-mixed at count object.bytes left in
    let least : object.least ≤ length left = h.least in
    let most : length left ≤ max (length object.bytes) (at + count) = (let l : length left ≤ length new = h.most in let m : length new ≤ max (length object.bytes) (at + count) = tear.no_longer in omega arith) in (
      mixed at count object.bytes left,
      record {
        least = omega arith;
        most = omega arith;
        sure = λ k below firm. elim (in_range_or_not at count k) [
          | inl inside ↦ mixed_inside at count object.bytes left k (omega arith) (omega arith) inside
          | inr outside ↦ mixed_outside at count object.bytes left k (omega arith) (omega arith) outside.0
              ∙ h.sure k (omega arith) (ap (λ b. b || is_loose object.loose k) outside.0 ∙ firm)
              ∙ elim outside.1 [ inl front ↦ torn_before at count object.bytes new tear k front | inr back ↦ torn_after at count object.bytes new tear k back ]
        ];
      },
      torn_by_bytes at count (mixed at count object.bytes left) left (omega arith) (omega arith) (omega arith)
          (λ k front below. sym (mixed_outside at count object.bytes left k (omega arith) (omega arith) (before_range at count k front)))
          (λ k back below. sym (mixed_outside at count object.bytes left k (omega arith) (omega arith) (after_range at count k back))),
    )

pub written_from : (object : Object) (at : ℕ) (bytes : List ℕ) → object.least ≤ length object.bytes → at ≤ length object.bytes
    → Explains object (written at bytes object) (Torn at (length bytes))
written_from object at bytes fits within = torn_from object at (length bytes) (overwrite at bytes object.bytes) fits within (overwrite_torn at bytes object.bytes within)
