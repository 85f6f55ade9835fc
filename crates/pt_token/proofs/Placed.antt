-- Each token of a piece stands in it, at bytes of its kind.
use Rattle.std.proofs.Common.{◌≡◌, ℕ, suc, ◌+◌, ◌-◌, ◌<◌, ◌≤◌, Bool, true, false, cond, List, [], ◌∷◌, length, take, drop, Option, Some, None, All, refl, ap, ◌∙◌, sym, subst, arith}
use Rattle.std.specs.Prelude.{◌==◌, ◌&&◌, ◌||◌, nat_eq, nat_lt, ◌%◌, codes, slice_index, slice_range, Contains, IsTrue}
use Rattle.std.specs.List.{starts_with, take_while}
use Rattle.std.specs.Option.{option_map}
use Rattle.std.proofs.lemmas.Bool.{and_parts, false≢true}
use Rattle.std.proofs.lemmas.Bool.Decides.{Decides-eqb, nat_tests}
use Rattle.std.proofs.lemmas.Slice.Eq.{slice_eq-Decides}
use Rattle.std.proofs.lemmas.List.Elements.{All-nil, All-cons}
use Rattle.std.proofs.lemmas.List.{drop-take, drop-drop, take-take, length-drop, length-take, length-take-le, get_or_past}
use Rattle.std.proofs.lemmas.List.Sums.{take_while-cons, prefix_len-le-length}
use Rattle.std.proofs.lemmas.List.Folds.{length-prefix_len}
use Rattle.pt_token.specs.declared.bytes.Class.TheVariants.{Digit, WordByte}
use Rattle.pt_token.specs.declared.quoting.Quoting.{Quoting}
use Rattle.pt_token.specs.declared.quoting.Quoting.TheVariants.{Within}
use Rattle.pt_token.specs.declared.token.Token.{Token}
use Rattle.pt_token.specs.declared.token.Lexeme.{Lexeme}
use Rattle.pt_token.specs.declared.token.TokenKind.TheVariants as kind
use Rattle.pt_token.specs.Bytes.{begins_word, front, is_digit, is_quote, is_word_byte}
use Rattle.pt_token.specs.Quoting.{behind_byte, content, ends, is_marked, text_end}
use Rattle.pt_token.specs.Tokens.{lexeme, hex, hex_digits, is_hex, is_long_sign, is_short_sign, next_token, number_token, opens_hex, or_else, quoted, quoted_by, text, text_by, word, sign, HasTokens, IsLexed, done, gap, token}
use Rattle.pt_token.specs.Placed.{AreOfKind, AreWordBytes, IsPlaced, signs}

-- what was found is some of the bytes, of its kind
record IsFoundIn (bytes : List ℕ) (f : Lexeme) : Type 0 where
  some : 0 < f.length
  within : f.length ≤ length bytes
  of_kind : AreOfKind f.kind (take f.length bytes)

-- ---- tests

if_some : (t : Bool) (g f : Lexeme) → cond t (Some g) None ≡ Some f → (t ≡ true) × (g ≡ f)
if_some true g f e = (refl, cc)
if_some false g f e = absurd (cc)

none_found : (f : Lexeme) → None ≡ Some f → ⊥
none_found f e = cc

-- a byte that is there
there : (bytes : List ℕ) (i b : ℕ) → (slice_index bytes i == suc b) ≡ true → i < length bytes
there bytes i b e = let past = get_or_past bytes i 0 in grind (arith, nat_tests)

-- ---- runs of bytes

all_front : (p : ℕ → Bool) (bytes : List ℕ) → All (λ b. IsTrue (p b)) (take_while p bytes)
all_front p [] = All-nil (λ b. IsTrue (p b))
all_front p (b ∷ bytes) = subst (All (λ b. IsTrue (p b))) (sym (take_while-cons p b bytes)) (go (p b) refl (all_front p bytes))
  where
    go : (t : Bool) → p b ≡ t → All (λ b. IsTrue (p b)) (take_while p bytes) → All (λ b. IsTrue (p b)) (cond t (b ∷ take_while p bytes) [])
    go true e more = All-cons (λ b. IsTrue (p b)) b (take_while p bytes) e more
    go false e more = All-nil (λ b. IsTrue (p b))

length_front : (p : ℕ → Bool) (bytes : List ℕ) → length (take_while p bytes) ≤ length bytes
length_front p bytes = omega (arith, length-prefix_len p bytes, prefix_len-le-length p bytes)

take_front : (p : ℕ → Bool) (bytes : List ℕ) → take (length (take_while p bytes)) bytes ≡ take_while p bytes
take_front p bytes = ap (λ n. take n bytes) (length-prefix_len p bytes)

some_front : (p : ℕ → Bool) (bytes : List ℕ) → p 0 ≡ false → p (slice_index bytes 0) ≡ true → 0 < length (take_while p bytes)
some_front p [] zero first = absurd (cc)
some_front p (b ∷ bytes) zero first = rw (take_while-cons p b bytes, first) (omega arith)

-- ---- what each kind of a token is found at

hex_found : (bytes : List ℕ) (f : Lexeme) → hex bytes ≡ Some f → IsFoundIn bytes f
hex_found bytes f e =
    let h = if_some (is_hex bytes) (lexeme (kind.Hex _) (length (hex_digits bytes) + 3)) f e in
    let closed = and_parts (length (hex_digits bytes) % 2 == 0) (slice_index bytes (length (hex_digits bytes) + 2) == 39) (and_parts (opens_hex bytes) _ h.0).1 in
    subst (IsFoundIn bytes) h.1 (record { some = omega arith; within = omega (arith, there bytes (length (hex_digits bytes) + 2) 38 closed.1); of_kind = tt })

word_found : (bytes : List ℕ) (f : Lexeme) → word bytes ≡ Some f → IsFoundIn bytes f
word_found bytes f e =
    let h = if_some (begins_word (slice_index bytes 0)) (lexeme kind.Word (length (front WordByte bytes))) f e in
    let first : is_word_byte (slice_index bytes 0) ≡ true = rw h.0 refl in
    subst (IsFoundIn bytes) h.1 (record {
      some = some_front is_word_byte bytes refl first;
      within = length_front is_word_byte bytes;
      of_kind = subst AreWordBytes (sym (take_front is_word_byte bytes)) (record { some = some_front is_word_byte bytes refl first; each = all_front is_word_byte bytes });
    })

number_found : (bytes : List ℕ) (f : Lexeme) → number_token bytes ≡ Some f → IsFoundIn bytes f
number_found bytes f e =
    let h = if_some (is_digit (slice_index bytes 0) && length (front Digit bytes) == length (front WordByte bytes)) (lexeme kind.Number (length (front Digit bytes))) f e in
    let first = and_parts (is_digit (slice_index bytes 0)) (length (front Digit bytes) == length (front WordByte bytes)) h.0 in
    subst (IsFoundIn bytes) h.1 (record {
      some = some_front is_digit bytes refl first.0;
      within = length_front is_digit bytes;
      of_kind = subst (All (λ b. IsTrue (is_digit b))) (sym (take_front is_digit bytes)) (all_front is_digit bytes);
    })

between : (n : ℕ) (bytes : List ℕ) → n + 2 ≤ length bytes → slice_range (take (n + 2) bytes) 1 (length (take (n + 2) bytes) - 1) ≡ take n (drop 1 bytes)
between n bytes h =
    ap (λ (m : ℕ). take (m - 1 - 1) (drop 1 (take (n + 2) bytes))) (length-take-le (n + 2) bytes h)
    ∙ ap (λ (m : ℕ). take m (drop 1 (take (n + 2) bytes))) {x = n + 2 - 1 - 1} {y = n} (omega arith)
    ∙ ap (λ (m : ℕ). take n (drop 1 (take m bytes))) {x = n + 2} {y = 1 + (n + 1)} (omega arith)
    ∙ ap (take n) (drop-take 1 (n + 1) bytes)
    ∙ take-take n (n + 1) (drop 1 bytes) (omega arith)

quoted_found : (bytes : List ℕ) (f : Lexeme) → quoted bytes ≡ Some f → IsFoundIn bytes f
quoted_found bytes f e =
    let inner = drop 1 bytes in
    let n = length (front WordByte inner) in
    let name = if_then (slice_index bytes 0 == 96) (quoted_by n bytes) f e in
    let h = if_some (nat_lt 0 n && slice_index bytes (n + 1) == 96) (lexeme kind.Quoted (n + 2)) f name in
    let parts = and_parts (nat_lt 0 n) (slice_index bytes (n + 1) == 96) h.0 in
    let fits : n + 2 ≤ length bytes = omega (arith, there bytes (n + 1) 95 parts.1) in
    let some : 0 < n = grind (arith, nat_tests, parts.0) in
    subst (IsFoundIn bytes) h.1 (record {
      some = omega arith;
      within = fits;
      of_kind = record {
        marks = omega (arith, length-take-le (n + 2) bytes fits);
        between = subst AreWordBytes (sym (between n bytes fits ∙ take_front is_word_byte inner)) (record { some = some; each = all_front is_word_byte inner });
      };
    })
  where
    if_then : (t : Bool) (o : Option Lexeme) (f : Lexeme) → cond t o None ≡ Some f → o ≡ Some f
    if_then true o f e = e
    if_then false o f e = absurd (none_found f e)

text_within : (mark : ℕ) (at : Quoting) (bytes : List ℕ) (n : ℕ) → text_end mark at bytes ≡ Some n → n ≤ length bytes
unfolding text_end
text_within mark at [] n e = go (is_marked at) e
  where
    go : (t : Bool) → cond t (Some 0) None ≡ Some n → n ≤ 0
    go true e = let same : 0 ≡ n = cc in omega arith
    go false e = absurd (cc)
text_within mark at (b ∷ bytes) n e = go (ends mark at b) (text_end mark (behind_byte mark at b) bytes) (text_within mark (behind_byte mark at b) bytes) e
  where
    go : (t : Bool) (o : Option ℕ) → ((m : ℕ) → o ≡ Some m → m ≤ length bytes) → cond t (Some 0) (option_map suc o) ≡ Some n → n ≤ suc (length bytes)
    go true o h e = let same : 0 ≡ n = cc in omega arith
    go false None h e = absurd (cc)
    go false (Some m) h e = let same : suc m ≡ n = cc in omega (arith, h m refl)

text_found : (bytes : List ℕ) (f : Lexeme) → text bytes ≡ Some f → IsFoundIn bytes f
text_found [] f e = absurd (none_found f e)
text_found (b ∷ bytes) f e = go (is_quote b) (text_end b Within bytes) (text_within b Within bytes) e
  where
    go : (t : Bool) (o : Option ℕ) → ((m : ℕ) → o ≡ Some m → m ≤ length bytes) → cond t (text_by o b bytes) None ≡ Some f → IsFoundIn (b ∷ bytes) f
    go true None h e = absurd (none_found f e)
    go true (Some m) h e =
        let same : lexeme (kind.Text (content b Within (take (m - 1) bytes))) (m + 1) ≡ f = cc in
        subst (IsFoundIn (b ∷ bytes)) same (record { some = omega arith; within = omega (arith, h m refl); of_kind = tt })
    go false o h e = absurd (none_found f e)

-- ---- signs

either : (P : Type 0) (a b : Bool) → (a ≡ true → P) → (b ≡ true → P) → (a || b) ≡ true → P
either P true b f g e = f refl
either P false b f g e = g e

-- the byte is n, which is a sign alone
one : (b n : ℕ) → (b == n) ≡ true → Contains signs (n ∷ []) → Contains signs (b ∷ [])
one b n e h = let same : b ≡ n = grind (arith, nat_tests) in subst (λ m. Contains signs (m ∷ [])) (sym same) h

short_sign : (b : ℕ) → is_short_sign b ≡ true → Contains signs (b ∷ [])
short_sign b e =
    either _ (b == 40) _ (λ h. one b 40 h (0, omega arith, refl))
    (either _ (b == 41) _ (λ h. one b 41 h (1, omega arith, refl))
    (either _ (b == 44) _ (λ h. one b 44 h (2, omega arith, refl))
    (either _ (b == 61) _ (λ h. one b 61 h (3, omega arith, refl))
    (either _ (b == 60) _ (λ h. one b 60 h (4, omega arith, refl))
    (either _ (b == 62) _ (λ h. one b 62 h (5, omega arith, refl))
    (either _ (b == 43) _ (λ h. one b 43 h (6, omega arith, refl))
    (either _ (b == 45) _ (λ h. one b 45 h (7, omega arith, refl))
    (either _ (b == 42) _ (λ h. one b 42 h (8, omega arith, refl))
    (either _ (b == 37) _ (λ h. one b 37 h (9, omega arith, refl)) (λ bad. absurd (false≢true bad))))))))))) e

-- the first two bytes are these, which are a sign
two : (bytes both : List ℕ) → length both ≡ 2 → starts_with nat_eq bytes both ≡ true → Contains signs both → (2 ≤ length bytes) × Contains signs (take 2 bytes)
two bytes both length_2 e h =
    let same : both ≡ take 2 bytes = (slice_eq-Decides Decides-eqb both (take (length both) bytes) _ refl).0 e ∙ ap (λ n. take n bytes) length_2 in
    (omega (arith, ap length same, length-take 2 bytes), subst (Contains signs) same h)

long_sign : (bytes : List ℕ) → is_long_sign bytes ≡ true → (2 ≤ length bytes) × Contains signs (take 2 bytes)
long_sign bytes e =
    either _ (starts_with nat_eq bytes (codes "<=")) _ (λ h. two bytes (codes "<=") refl h (10, omega arith, refl))
    (either _ (starts_with nat_eq bytes (codes ">=")) _ (λ h. two bytes (codes ">=") refl h (11, omega arith, refl))
    (either _ (starts_with nat_eq bytes (codes "<>")) _ (λ h. two bytes (codes "<>") refl h (12, omega arith, refl))
    (either _ (starts_with nat_eq bytes (codes "!=")) _ (λ h. two bytes (codes "!=") refl h (13, omega arith, refl)) (λ bad. absurd (false≢true bad))))) e

sign_found : (bytes : List ℕ) (f : Lexeme) → sign bytes ≡ Some f → IsFoundIn bytes f
sign_found [] f e = absurd (none_found f e)
sign_found (b ∷ bytes) f e = go (is_long_sign (b ∷ bytes)) (is_short_sign b) (long_sign (b ∷ bytes)) (short_sign b) e
  where
    go : (t u : Bool) → (t ≡ true → (2 ≤ length (b ∷ bytes)) × (Contains signs (take 2 (b ∷ bytes)))) → (u ≡ true → Contains signs (b ∷ []))
        → cond t (Some (lexeme kind.Sign 2)) (cond u (Some (lexeme kind.Sign 1)) None) ≡ Some f → IsFoundIn (b ∷ bytes) f
    go true u long short e = let same : lexeme kind.Sign 2 ≡ f = cc in subst (IsFoundIn (b ∷ bytes)) same (record { some = omega arith; within = (long refl).0; of_kind = (long refl).1 })
    go false true long short e = let same : lexeme kind.Sign 1 ≡ f = cc in subst (IsFoundIn (b ∷ bytes)) same (record { some = omega arith; within = omega arith; of_kind = short refl })
    go false false long short e = absurd (none_found f e)

-- ---- tokens

found_in : (bytes : List ℕ) (f : Lexeme) → next_token bytes ≡ Some f → IsFoundIn bytes f
unfolding next_token
found_in bytes f e =
    first _ _ (hex_found bytes f) (first _ _ (word_found bytes f) (first _ _ (number_found bytes f) (first _ _ (quoted_found bytes f) (first _ _ (text_found bytes f) (sign_found bytes f))))) e
  where
    first : (o other : Option Lexeme) → (o ≡ Some f → IsFoundIn bytes f) → (other ≡ Some f → IsFoundIn bytes f) → or_else o other ≡ Some f → IsFoundIn bytes f
    first None other g h e = h e
    first (Some k) other g h e = g e

placed_at : (piece : List ℕ) (place : ℕ) (f : Lexeme) → IsFoundIn (drop place piece) f → IsPlaced piece (record { kind = f.kind; from = place; to = place + f.length })
placed_at piece place f h = record {
  order = omega arith;
  within = omega (arith, h.some, h.within, length-drop place piece);
  bytes = subst (AreOfKind f.kind) (ap (λ n. take n (drop place piece)) {x = f.length} {y = place + f.length - place} (omega arith)) h.of_kind;
}

placed_from : (piece : List ℕ) (inside : Bool) (place : ℕ) (bytes : List ℕ) (tokens : List Token) → HasTokens inside place bytes tokens → bytes ≡ drop place piece
    → All (IsPlaced piece) tokens
placed_from piece inside place _ _ done same = All-nil (IsPlaced piece)
placed_from piece inside place bytes tokens (gap {g = g} is rest) same =
    placed_from piece g.inside (place + g.length) (drop g.length bytes) tokens rest (ap (drop g.length) same ∙ drop-drop g.length place piece)
placed_from piece inside place bytes _ (token {tokens = tokens} {f = f} none is rest) same =
    All-cons (IsPlaced piece) _ tokens (placed_at piece place f (subst (λ bs. IsFoundIn bs f) same (found_in bytes f is)))
    (placed_from piece inside (place + f.length) (drop f.length bytes) tokens rest (ap (drop f.length) same ∙ drop-drop f.length place piece))

pub all_placed : (piece : List ℕ) (tokens : List Token) → IsLexed piece tokens → All (IsPlaced piece) tokens
all_placed piece tokens h = placed_from piece false 0 piece tokens h refl
