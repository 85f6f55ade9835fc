-- The parts of a spelling: each ends by itself, so that bytes begin with one value's spelling at most.
use Rattle.std.proofs.Common.{◌≡◌, ℕ, ◌^◌, ◌<◌, List, ◌∷◌, ◌++◌, length, get_or, take, drop, Some, refl, sym, ap, ap₂, subst, ◌∙◌, append_assoc, arith, length-append, Fits, w8}
use Rattle.std.specs.List.{IsSplitAt}
use Rattle.std.proofs.lemmas.List.{take_all, take_at, drop_at, take-append-drop, get_or-take}
use Rattle.std.proofs.lemmas.List.Elements.{All-from_get_or}
use Rattle.std.specs.Option.{option_map}
use Rattle.pt_bytes.specs.Numbers.{number_of, le_bytes, part_at, AreBytes}
use Rattle.pt_bytes.proofs.Numbers.{again, back, below, length-le_bytes}
use Rattle.pt_bytes.proofs.Parts.{part_there}
use Rattle.pt_host.specs.Name.{IsName}
use Rattle.pt_left.specs.Spelling.{number, spelled_name, spelled_bytes, spelled_file, IsFile}

-- two lists of one length, with others after them
pub same_parts : (a b rest more : List ℕ) → length a ≡ length b → a ++ rest ≡ b ++ more → (a ≡ b) × (rest ≡ more)
same_parts a b rest more long e = (
  sym (take_at a rest (length b) long) ∙ ap (take (length b)) e ∙ take_at b more (length b) refl,
  sym (drop_at a rest (length b) long) ∙ ap (drop (length b)) e ∙ drop_at b more (length b) refl,
)

-- # Numbers

pub length-number : (n : ℕ) → length (number n) ≡ 8
unfolding number
length-number n = length-le_bytes 8 n

number_read : (bytes : List ℕ) (n : ℕ) → length bytes ≡ 8 → AreBytes bytes → n ≡ number_of bytes → (n < 2 ^ 64) × (bytes ≡ number n)
unfolding number
number_read bytes n long are e =
    let least : number_of bytes < 256 ^ 8 = subst (λ (k : ℕ). number_of bytes < 256 ^ k) long (below bytes are) in
    (subst (λ (k : ℕ). k < 2 ^ 64) (sym e) least, sym (back bytes are) ∙ ap (λ k. le_bytes k (number_of bytes)) long ∙ ap (le_bytes 8) (sym e))

number_back : (n : ℕ) → n < 2 ^ 64 → number_of (number n) ≡ n
unfolding number
number_back n least = again 8 n least

pub one_number : (m n : ℕ) (rest more : List ℕ) → m < 2 ^ 64 → n < 2 ^ 64 → number m ++ rest ≡ number n ++ more → (m ≡ n) × (rest ≡ more)
one_number m n rest more is_m is_n e =
    let parts = same_parts (number m) (number n) rest more (length-number m ∙ sym (length-number n)) e in
    (sym (number_back m is_m) ∙ ap number_of parts.0 ∙ number_back n is_n, parts.1)

-- eight bytes are read as their number
pub number_whole : (front : List ℕ) → length front ≡ 8 → option_map number_of (part_at front 0 8) ≡ Some (number_of front)
number_whole front long =
    ap (option_map number_of) (part_there front 0 8 (omega (arith, long))) ∙ ap (λ (xs : List ℕ). Some (number_of xs)) (take_all 8 front (omega (arith, long)))

-- # Names

pub one_name : (a b rest more : List ℕ) → spelled_name a ++ rest ≡ spelled_name b ++ more → (a ≡ b) × (rest ≡ more)
unfolding spelled_name
one_name a b rest more e =
    let long : length a ≡ length b = cc in
    let tail : a ++ rest ≡ b ++ more = cc in
    same_parts a b rest more long tail

-- # Bytes

pub one_bytes : (a b rest more : List ℕ) → length a < 2 ^ 64 → length b < 2 ^ 64 → spelled_bytes a ++ rest ≡ spelled_bytes b ++ more → (a ≡ b) × (rest ≡ more)
unfolding spelled_bytes
one_bytes a b rest more is_a is_b e =
    let parts = one_number (length a) (length b) (a ++ rest) (b ++ more) is_a is_b
    (sym (append_assoc (number (length a)) a rest) ∙ e ∙ append_assoc (number (length b)) b more) in
    same_parts a b rest more parts.0 parts.1

-- # Files

pub file_parts : (file : List ℕ × List ℕ) (rest : List ℕ) → spelled_file file ++ rest ≡ spelled_name file.0 ++ (spelled_bytes file.1 ++ rest)
unfolding spelled_file
file_parts file rest = append_assoc (spelled_name file.0) (spelled_bytes file.1) rest

abbrev pair : List ℕ → List ℕ → List ℕ × List ℕ
pair name bytes = (name, bytes)

pub one_file : (f g : List ℕ × List ℕ) (rest more : List ℕ) → IsFile f → IsFile g → spelled_file f ++ rest ≡ spelled_file g ++ more → (f ≡ g) × (rest ≡ more)
one_file f g rest more is_f is_g e =
    let names = one_name f.0 g.0 (spelled_bytes f.1 ++ rest) (spelled_bytes g.1 ++ more) (sym (file_parts f rest) ∙ e ∙ file_parts g more) in
    let contents = one_bytes f.1 g.1 rest more is_f.fits is_g.fits names.1 in
    let same : f ≡ g = ap₂ pair names.0 contents.0 in
    (same, contents.1)

pub number_short : (bytes : List ℕ) (n : ℕ) (rest : List ℕ) → length bytes < 8 → bytes ≡ number n ++ rest → ⊥
number_short bytes n rest short e = omega (arith, ap (λ (b : List ℕ). length b) e, length-append (number n) rest, length-number n)

-- # What is found at the front of bytes

-- the front of a split, and the rest, make the whole
pub split_whole : (bytes : List ℕ) (n : ℕ) (front rest : List ℕ) → IsSplitAt bytes n front rest → bytes ≡ front ++ rest
split_whole bytes n front rest s = sym (take-append-drop n bytes) ∙ ap₂ (λ (a b : List ℕ). a ++ b) (sym s.1) (sym s.2)

pub number_taken : (bytes front rest : List ℕ) (n : ℕ) → ((i : ℕ) → Fits w8 (get_or bytes i 0)) → IsSplitAt bytes 8 front rest → n ≡ number_of front
    → (n < 2 ^ 64) × (bytes ≡ number n ++ rest)
number_taken bytes front rest n fits s e =
    let read = number_read front n s.3 (All-from_get_or (λ b. b < 256) front 0 taken) e in
    (read.0, split_whole bytes 8 front rest s ∙ ap (λ (xs : List ℕ). xs ++ rest) read.1)
  where
    taken : (i : ℕ) → i < length front → get_or front i 0 < 256
    taken i lt = subst (λ (xs : List ℕ). get_or xs i 0 < 256) (sym s.1) (rw (get_or-take 8 bytes i 0 (omega (arith, lt, s.3))) (omega (arith, fits i)))

module _ (bytes : List ℕ) (n : ℕ) (tail : List ℕ) (first : bytes ≡ n ∷ tail) where
  name_is : (name more : List ℕ) → bytes ≡ spelled_name name ++ more → (n ≡ length name) × (tail ≡ name ++ more)
  unfolding spelled_name
  name_is name more e =
      let same : n ∷ tail ≡ length name ∷ (name ++ more) = (sym first ∙ e) in
      ((cc), (cc))

  pub name_short : (name more : List ℕ) → length tail < n → bytes ≡ spelled_name name ++ more → ⊥
  name_short name more short e =
      let is = name_is name more e in
      omega (arith, is.0, ap (λ (b : List ℕ). length b) is.1, length-append name more)

  module _ (front rest : List ℕ) (s : IsSplitAt tail n front rest) where
    pub name_taken : ((i : ℕ) → Fits w8 (get_or bytes i 0)) → (length front < 256) × (bytes ≡ spelled_name front ++ rest)
    unfolding spelled_name
    name_taken fits = (omega (arith, s.3, fits 0, ap (λ (b : List ℕ). get_or b 0 0) first), first ∙ ap₂ (λ (k : ℕ) (b : List ℕ). k ∷ b) (sym s.3) (split_whole tail n front rest s))

pub name_none : (bytes name more : List ℕ) → length bytes ≡ 0 → bytes ≡ spelled_name name ++ more → ⊥
unfolding spelled_name
name_none bytes name more none e = omega (arith, none, ap (λ (b : List ℕ). length b) e)

pub bytes_none : (bytes content more : List ℕ) → ((n : ℕ) (rest : List ℕ) → n < 2 ^ 64 → bytes ≡ number n ++ rest → ⊥) → length content < 2 ^ 64 → bytes ≡ spelled_bytes content ++ more → ⊥
unfolding spelled_bytes
bytes_none bytes content more none is e = none (length content) (content ++ more) is (e ∙ append_assoc (number (length content)) content more)

module _ (bytes : List ℕ) (n : ℕ) (tail : List ℕ) (is_n : n < 2 ^ 64) (first : bytes ≡ number n ++ tail) where
  pub bytes_short : (content more : List ℕ) → length tail < n → length content < 2 ^ 64 → bytes ≡ spelled_bytes content ++ more → ⊥
  unfolding spelled_bytes
  bytes_short content more short is e =
      let same = one_number n (length content) tail (content ++ more) is_n is (sym first ∙ e ∙ append_assoc (number (length content)) content more) in
      omega (arith, same.0, ap (λ (b : List ℕ). length b) same.1, length-append content more)

  pub bytes_taken : (front rest : List ℕ) → IsSplitAt tail n front rest → (length front < 2 ^ 64) × (bytes ≡ spelled_bytes front ++ rest)
  unfolding spelled_bytes
  bytes_taken front rest s = (
    omega (arith, s.3),
    first ∙ ap₂ (λ (k : ℕ) (b : List ℕ). number k ++ b) (sym s.3) (split_whole tail n front rest s) ∙ sym (append_assoc (number (length front)) front rest),
  )

short_name : (name : List ℕ) → IsName name → length name < 256
short_name name is = omega (arith, is.fits)

pub file_none : (bytes : List ℕ) (file : List ℕ × List ℕ) (more : List ℕ) → ((name rest : List ℕ) → length name < 256 → bytes ≡ spelled_name name ++ rest → ⊥) → IsFile file → bytes ≡ spelled_file file ++ more → ⊥
file_none bytes file more none is e = none file.0 (spelled_bytes file.1 ++ more) (short_name file.0 is.named) (e ∙ file_parts file more)

module _ (bytes name tail : List ℕ) (first : bytes ≡ spelled_name name ++ tail) (file : List ℕ × List ℕ) (more : List ℕ) (is : IsFile file) (e : bytes ≡ spelled_file file ++ more) where
  file_is : (name ≡ file.0) × (tail ≡ spelled_bytes file.1 ++ more)
  file_is = one_name name file.0 tail (spelled_bytes file.1 ++ more) (sym first ∙ e ∙ file_parts file more)

  pub file_bad : ((content rest : List ℕ) → length content < 2 ^ 64 → tail ≡ spelled_bytes content ++ rest → ⊥) → ⊥
  file_bad none = none file.1 more is.fits file_is.1

  pub file_unnamed : (IsName name → ⊥) → ⊥
  file_unnamed bad = bad (subst IsName (sym file_is.0) is.named)

pub file_taken : (bytes name tail content rest : List ℕ) → bytes ≡ spelled_name name ++ tail → tail ≡ spelled_bytes content ++ rest → IsName name → length content < 2 ^ 64
    → IsFile (name, content) × (bytes ≡ spelled_file (name, content) ++ rest)
file_taken bytes name tail content rest first e named fits = (
  record { named = named; fits = fits },
  first ∙ ap (λ (b : List ℕ). spelled_name name ++ b) e ∙ sym (file_parts (name, content) rest),
)

-- where its bytes stand in a file's spelling
pub file_ends : (file : List ℕ × List ℕ) → spelled_file file ≡ (spelled_name file.0 ++ number (length file.1)) ++ file.1
unfolding spelled_file spelled_bytes
file_ends file = sym (append_assoc (spelled_name file.0) (number (length file.1)) file.1)
