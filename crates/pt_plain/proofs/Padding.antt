-- Bytes with zeros after them.
use Rattle.std.proofs.Common.{◌≡◌, ℕ, suc, ◌+◌, ◌-◌, ◌<◌, List, [], ◌∷◌, ◌++◌, length, take, replicate, set, refl, arith, append_assoc, ap, ◌∙◌, sym}
use Rattle.std.proofs.lemmas.List.{set-append_right}
use Rattle.std.proofs.lemmas.Grind.{common_steps}
use Rattle.pt_plain.specs.Padded.{padded_to}

set-at_first : (n m b : ℕ) → n ≡ suc m → set (replicate n 0) 0 b ≡ b ∷ replicate m 0
set-at_first n m b e = rw e refl

-- one more byte before the zeros
pub set-padded : (front : List ℕ) (i n b : ℕ) → length front ≡ i → i < n → set (front ++ replicate (n - i) 0) i b ≡ (front ++ b ∷ []) ++ replicate (n - (i + 1)) 0
set-padded front i n b at below =
    set-append_right front (replicate (n - i) 0) i i b at (omega arith)
    ∙ ap (λ k. front ++ set (replicate (n - i) 0) k b) (let e : i - i ≡ 0 = omega arith in e)
    ∙ ap (λ xs. front ++ xs) (set-at_first (n - i) (n - (i + 1)) b (omega arith))
    ∙ sym (append_assoc front (b ∷ []) (replicate (n - (i + 1)) 0))

-- the same, where what stands before the zeros is in two parts
pub set-padded_end : (front end : List ℕ) (i n b : ℕ) → i < length end → length front + i < n → take (i + 1) end ≡ take i end ++ b ∷ []
    → set ((front ++ take i end) ++ replicate (n - (length front + i)) 0) (length front + i) b ≡ (front ++ take (i + 1) end) ++ replicate (n - (length front + (i + 1))) 0
set-padded_end front end i n b below room more =
    set-padded (front ++ take i end) (length front + i) n b (grind (arith, common_steps)) room
    ∙ ap (λ xs. xs ++ replicate (n - (length front + i + 1)) 0) (append_assoc front (take i end) (b ∷ []) ∙ ap (λ xs. front ++ xs) (sym more))
    ∙ ap (λ k. (front ++ take (i + 1) end) ++ replicate (n - k) 0) (omega arith)

-- the bytes that were padded are in front
pub take-padded : (size : ℕ) (bytes : List ℕ) (n : ℕ) → length bytes ≡ n → take n (padded_to size bytes) ≡ bytes
take-padded size bytes n e = grind (arith, common_steps)

-- What a name keeps: its length, and its bytes with zeros after them.
pub record IsKept (size : ℕ) (name bytes : List ℕ) (len : ℕ) : Type 0 where
  pub name_is : take len bytes ≡ name
  pub padding : bytes ≡ padded_to size name
  pub len_is : length name ≡ len

pub kept_padded : (size : ℕ) (name bytes : List ℕ) (len : ℕ) → length name ≡ len → bytes ≡ padded_to size name → IsKept size name bytes len
kept_padded size name bytes len at e = record { name_is = ap (take len) e ∙ take-padded size name len at; padding = e; len_is = at }
