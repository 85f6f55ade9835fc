-- The steps of loops over bytes.
use Rattle.std.proofs.Common.{◌≡◌, ℕ, suc, ◌+◌, ◌<◌, ◌≤◌, Bool, true, false, cond, List, [], ◌∷◌, ◌++◌, length, take, drop, get_or, Option, Some, None, refl, ap, ◌∙◌, sym, arith, append-nil, append_assoc, ◌*◌}
use Rattle.std.specs.Option.{option_map}
use Rattle.std.specs.List.{take_while}
use Rattle.std.proofs.lemmas.Grind.{common_steps}
use Rattle.std.proofs.lemmas.List.{at_drop_more, at_drop_all, take_more, take_all}
use Rattle.std.proofs.lemmas.List.Sums.{take_while-cons}
use Rattle.pt_token.specs.declared.state.State.{State}
use Rattle.pt_token.specs.declared.state.State.TheVariants.{Plain}
use Rattle.pt_token.specs.Machine.{step, is_plain, is_cut, run}
use Rattle.pt_token.specs.Pieces.{cut_in}
use Rattle.pt_token.specs.Machine.{closing}
use Rattle.pt_token.specs.declared.quoting.Quoting.{Quoting}
use Rattle.pt_token.specs.Quoting.{added, behind_byte, content, ends, hex_bytes, hex_value, is_marked, text_end}

-- a place that is counted from i
abbrev pub moved : ℕ → Option ℕ → Option ℕ
moved i None = None
moved i (Some n) = Some (n + i)

pub moved-zero : (o : Option ℕ) → o ≡ moved 0 o
moved-zero None = refl
moved-zero (Some n) = ap Some (omega arith)

pub moved-suc : (i : ℕ) (o : Option ℕ) → moved i (option_map suc o) ≡ moved (i + 1) o
moved-suc i None = refl
moved-suc i (Some n) = ap Some (omega arith)

pub suc-moved : (i : ℕ) (o : Option ℕ) → option_map suc (moved i o) ≡ moved (suc i) o
suc-moved i None = refl
suc-moved i (Some n) = ap Some (omega arith)

pub moved-one : (o : Option ℕ) → option_map suc o ≡ moved 1 o
moved-one None = refl
moved-one (Some n) = ap Some (omega arith)

pub closing-byte : (s : State) (bytes : List ℕ) (i : ℕ) → i < length bytes
    → closing s (drop i bytes) ≡ cond (is_plain (step s (get_or bytes i 0))) (Some 1) (option_map suc (closing (step s (get_or bytes i 0)) (drop (i + 1) bytes)))
unfolding closing
closing-byte s bytes i h = at_drop_more (closing s) bytes i 0 h

pub closing_found : (whole : Option ℕ) (s : State) (bytes : List ℕ) (i : ℕ) → i < length bytes → whole ≡ moved i (closing s (drop i bytes))
    → is_plain (step s (get_or bytes i 0)) ≡ true → whole ≡ Some (i + 1)
closing_found whole s bytes i h so_far plain = so_far ∙ ap (moved i) (closing-byte s bytes i h) ∙ rw plain (ap Some (omega arith))

pub closing_more : (whole : Option ℕ) (s : State) (bytes : List ℕ) (i : ℕ) → i < length bytes → whole ≡ moved i (closing s (drop i bytes))
    → is_plain (step s (get_or bytes i 0)) ≡ false → whole ≡ moved (i + 1) (closing (step s (get_or bytes i 0)) (drop (i + 1) bytes))
closing_more whole s bytes i h so_far other = so_far ∙ ap (moved i) (closing-byte s bytes i h) ∙ rw other (moved-suc i (closing (step s (get_or bytes i 0)) (drop (i + 1) bytes)))

pub closing_end : (whole : Option ℕ) (s : State) (bytes : List ℕ) (i : ℕ) → length bytes ≤ i → whole ≡ moved i (closing s (drop i bytes)) → whole ≡ None
unfolding closing
closing_end whole s bytes i h so_far = so_far ∙ ap (moved i) (at_drop_all (closing s) bytes i h)

pub cut-byte : (s : State) (bytes : List ℕ) (i : ℕ) → i < length bytes
    → cut_in s (drop i bytes) ≡ cond (is_cut s (get_or bytes i 0)) (Some 0) (option_map suc (cut_in (step s (get_or bytes i 0)) (drop (i + 1) bytes)))
unfolding cut_in
cut-byte s bytes i h = at_drop_more (cut_in s) bytes i 0 h

pub cut_found : (whole : Option ℕ) (s : State) (bytes : List ℕ) (i : ℕ) → i < length bytes → whole ≡ moved i (cut_in s (drop i bytes))
    → is_cut s (get_or bytes i 0) ≡ true → whole ≡ Some i
cut_found whole s bytes i h so_far here = so_far ∙ ap (moved i) (cut-byte s bytes i h) ∙ rw here (ap Some (omega arith))

pub cut_more : (whole : Option ℕ) (s : State) (bytes : List ℕ) (i : ℕ) → i < length bytes → whole ≡ moved i (cut_in s (drop i bytes))
    → is_cut s (get_or bytes i 0) ≡ false → whole ≡ moved (i + 1) (cut_in (step s (get_or bytes i 0)) (drop (i + 1) bytes))
cut_more whole s bytes i h so_far other = so_far ∙ ap (moved i) (cut-byte s bytes i h) ∙ rw other (moved-suc i (cut_in (step s (get_or bytes i 0)) (drop (i + 1) bytes)))

pub cut_end : (whole : Option ℕ) (s : State) (bytes : List ℕ) (i : ℕ) → length bytes ≤ i → whole ≡ moved i (cut_in s (drop i bytes)) → whole ≡ None
unfolding cut_in
cut_end whole s bytes i h so_far = so_far ∙ ap (moved i) (at_drop_all (cut_in s) bytes i h)

pub run-push : (s : State) (front : List ℕ) (b : ℕ) → run s (front ++ b ∷ []) ≡ step (run s front) b
run-push s [] b = refl
run-push s (c ∷ front) b = run-push (step s c) front b

pub run-append : (s : State) (front bytes : List ℕ) → run s (front ++ bytes) ≡ run (run s front) bytes
run-append s [] bytes = refl
run-append s (b ∷ front) bytes = run-append (step s b) front bytes

pub run_more : (s now : State) (bytes : List ℕ) (i : ℕ) → i < length bytes → now ≡ run s (take i bytes) → step now (get_or bytes i 0) ≡ run s (take (i + 1) bytes)
run_more s now bytes i h so_far = ap (λ t. step t (get_or bytes i 0)) so_far ∙ sym (run-push s (take i bytes) (get_or bytes i 0)) ∙ ap (run s) (sym (take_more bytes i 0 h))

pub run_end : (s now : State) (bytes : List ℕ) (i : ℕ) → length bytes ≤ i → now ≡ run s (take i bytes) → now ≡ run s bytes
run_end s now bytes i h so_far = so_far ∙ ap (run s) (take_all i bytes h)

pub front-byte : (p : ℕ → Bool) (bytes : List ℕ) (i : ℕ) → i < length bytes
    → take_while p (drop i bytes) ≡ cond (p (get_or bytes i 0)) (get_or bytes i 0 ∷ take_while p (drop (i + 1) bytes)) []
front-byte p bytes i h = at_drop_more (take_while p) bytes i 0 h ∙ take_while-cons p (get_or bytes i 0) (drop (i + 1) bytes)

-- the first i bytes pass, and none after them was looked at
abbrev pub IsFront : (ℕ → Bool) → List ℕ → ℕ → Type 0
IsFront p bytes i = take_while p bytes ≡ take i bytes ++ take_while p (drop i bytes)

step_front : (bytes more : List ℕ) (i : ℕ) → i < length bytes → take i bytes ++ (get_or bytes i 0 ∷ more) ≡ take (i + 1) bytes ++ more
step_front bytes more i h = grind (arith, common_steps)

pub front_more : (p : ℕ → Bool) (bytes : List ℕ) (i : ℕ) → i < length bytes → IsFront p bytes i → p (get_or bytes i 0) ≡ true → IsFront p bytes (i + 1)
front_more p bytes i h so_far pass =
    so_far ∙ ap (λ more. take i bytes ++ more) (front-byte p bytes i h) ∙ rw pass (step_front bytes (take_while p (drop (i + 1) bytes)) i h)

pub front_found : (p : ℕ → Bool) (bytes : List ℕ) (i : ℕ) → i < length bytes → IsFront p bytes i → p (get_or bytes i 0) ≡ false → take i bytes ≡ take_while p bytes
front_found p bytes i h so_far other =
    sym (so_far ∙ ap (λ more. take i bytes ++ more) (front-byte p bytes i h) ∙ rw other (append-nil (take i bytes)))

pub front_end : (p : ℕ → Bool) (bytes : List ℕ) (i : ℕ) → length bytes ≤ i → IsFront p bytes i → bytes ≡ take_while p bytes
front_end p bytes i h so_far =
    sym (so_far ∙ ap (λ more. take i bytes ++ more) (at_drop_all (take_while p) bytes i h) ∙ append-nil (take i bytes) ∙ take_all i bytes h)

-- a piece and the bytes behind it
pub run_on : (s now : State) (piece front all : List ℕ) → s ≡ run Plain piece → now ≡ run s front → all ≡ piece ++ front → now ≡ run Plain all
run_on s now piece front all before after whole = after ∙ ap (λ t. run t front) before ∙ sym (run-append Plain piece front) ∙ ap (run Plain) (sym whole)

pub text_end-byte : (mark : ℕ) (at : Quoting) (bytes : List ℕ) (i : ℕ) → i < length bytes
    → text_end mark at (drop i bytes) ≡ cond (ends mark at (get_or bytes i 0)) (Some 0) (option_map suc (text_end mark (behind_byte mark at (get_or bytes i 0)) (drop (i + 1) bytes)))
unfolding text_end
text_end-byte mark at bytes i h = at_drop_more (text_end mark at) bytes i 0 h

pub text_found : (whole : Option ℕ) (mark : ℕ) (at : Quoting) (bytes : List ℕ) (i : ℕ) → i < length bytes → whole ≡ moved i (text_end mark at (drop i bytes))
    → ends mark at (get_or bytes i 0) ≡ true → whole ≡ Some i
text_found whole mark at bytes i h so_far ends = so_far ∙ ap (moved i) (text_end-byte mark at bytes i h) ∙ rw ends (ap Some (omega arith))

pub text_more : (whole : Option ℕ) (mark : ℕ) (at : Quoting) (bytes : List ℕ) (i : ℕ) → i < length bytes → whole ≡ moved i (text_end mark at (drop i bytes))
    → ends mark at (get_or bytes i 0) ≡ false → whole ≡ moved (i + 1) (text_end mark (behind_byte mark at (get_or bytes i 0)) (drop (i + 1) bytes))
text_more whole mark at bytes i h so_far goes_on =
    so_far ∙ ap (moved i) (text_end-byte mark at bytes i h) ∙ rw goes_on (moved-suc i (text_end mark (behind_byte mark at (get_or bytes i 0)) (drop (i + 1) bytes)))

text_over : (whole : Option ℕ) (mark : ℕ) (at : Quoting) (bytes : List ℕ) (i : ℕ) → length bytes ≤ i → whole ≡ moved i (text_end mark at (drop i bytes))
    → whole ≡ moved i (cond (is_marked at) (Some 0) None)
unfolding text_end
text_over whole mark at bytes i h so_far = so_far ∙ ap (moved i) (at_drop_all (text_end mark at) bytes i h)

pub text_closed : (whole : Option ℕ) (mark : ℕ) (at : Quoting) (bytes : List ℕ) (i : ℕ) → length bytes ≤ i → i ≤ length bytes → whole ≡ moved i (text_end mark at (drop i bytes))
    → is_marked at ≡ true → whole ≡ Some (length bytes)
text_closed whole mark at bytes i h g so_far marked = text_over whole mark at bytes i h so_far ∙ rw marked (ap Some (omega arith))

pub text_open : (whole : Option ℕ) (mark : ℕ) (at : Quoting) (bytes : List ℕ) (i : ℕ) → length bytes ≤ i → whole ≡ moved i (text_end mark at (drop i bytes))
    → is_marked at ≡ false → whole ≡ None
text_open whole mark at bytes i h so_far other = text_over whole mark at bytes i h so_far ∙ rw other refl

pub content_more : (whole text new : List ℕ) (mark : ℕ) (at : Quoting) (bytes : List ℕ) (i : ℕ) → i < length bytes → whole ≡ text ++ content mark at (drop i bytes)
    → new ≡ text ++ added at (get_or bytes i 0) → whole ≡ new ++ content mark (behind_byte mark at (get_or bytes i 0)) (drop (i + 1) bytes)
unfolding content
content_more whole text new mark at bytes i h so_far push =
    so_far ∙ ap (λ more. text ++ more) (at_drop_more (content mark at) bytes i 0 h)
    ∙ sym (append_assoc text (added at (get_or bytes i 0)) (content mark (behind_byte mark at (get_or bytes i 0)) (drop (i + 1) bytes)))
    ∙ ap (λ front. front ++ content mark (behind_byte mark at (get_or bytes i 0)) (drop (i + 1) bytes)) (sym push)

pub content_end : (whole text : List ℕ) (mark : ℕ) (at : Quoting) (bytes : List ℕ) (i : ℕ) → length bytes ≤ i → whole ≡ text ++ content mark at (drop i bytes) → whole ≡ text
unfolding content
content_end whole text mark at bytes i h so_far = so_far ∙ ap (λ more. text ++ more) (at_drop_all (content mark at) bytes i h) ∙ append-nil text

-- the next pair of digits
pub hex_more : (whole out new digits rest : List ℕ) (byte : ℕ) → 2 ≤ length digits → whole ≡ out ++ hex_bytes digits
    → byte ≡ 16 * hex_value (get_or digits 0 0) + hex_value (get_or digits 1 0) → new ≡ out ++ byte ∷ [] → rest ≡ drop 2 digits → whole ≡ new ++ hex_bytes rest
unfolding hex_bytes
hex_more whole out new [] rest byte some so_far value push left = absurd (omega arith)
hex_more whole out new (high ∷ []) rest byte some so_far value push left = absurd (omega arith)
hex_more whole out new (high ∷ low ∷ digits) rest byte some so_far value push left =
    let same : rest ≡ digits = left in
    so_far ∙ ap (λ b. out ++ b ∷ hex_bytes digits) (sym value) ∙ sym (append_assoc out (byte ∷ []) (hex_bytes digits)) ∙ cc

pub hex_end : (whole out digits : List ℕ) → length digits < 2 → whole ≡ out ++ hex_bytes digits → whole ≡ out
unfolding hex_bytes
hex_end whole out [] few so_far = so_far ∙ append-nil out
hex_end whole out (b ∷ []) few so_far = so_far ∙ append-nil out
hex_end whole out (b ∷ c ∷ digits) few so_far = absurd (omega arith)
