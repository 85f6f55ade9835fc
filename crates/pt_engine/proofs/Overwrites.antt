-- Bytes written over others, from the front on.
use Rattle.std.proofs.Common.{◌≡◌, ℕ, suc, ◌+◌, ◌<◌, ◌≤◌, List, [], ◌∷◌, ◌++◌, length, take, drop, set, get_or, refl, ap, ◌∙◌, sym, subst, arith, append_assoc, length-append, add-one, drop-cons}
use Rattle.std.proofs.Math.Seq.{set-append_seam, take-append_seam}
use Rattle.std.proofs.lemmas.Slice.{drop-append-drop}
use Rattle.std.proofs.lemmas.Grind.{common_steps}

set-front : (front old : List ℕ) (n b : ℕ) → length front ≡ n → n < length old → set (front ++ drop n old) n b ≡ (front ++ b ∷ []) ++ drop (n + 1) old
set-front front old n b at below =
    rw (add-one, drop-cons old n 0)
    (subst (λ k. set (front ++ get_or old n 0 ∷ drop (suc n) old) k b ≡ (front ++ b ∷ []) ++ drop (suc n) old) at
    (set-append_seam front (get_or old n 0) (drop (suc n) old) b ∙ sym (append_assoc front (b ∷ []) (drop (suc n) old))))

-- one byte more is written
pub overwrite-more : (old bytes : List ℕ) (at i b : ℕ) → at + length bytes ≤ length old → i < length bytes → take (i + 1) bytes ≡ take i bytes ++ b ∷ []
    → set (take at old ++ take i bytes ++ drop (at + i) old) (at + i) b ≡ take at old ++ take (i + 1) bytes ++ drop (at + (i + 1)) old
overwrite-more old bytes at i b room below more =
    set-front (take at old ++ take i bytes) old (at + i) b (grind (arith, common_steps)) (omega arith)
    ∙ ap (λ xs. xs ++ drop (at + i + 1) old) (append_assoc (take at old) (take i bytes) (b ∷ []) ∙ ap (λ xs. take at old ++ xs) (sym more))
    ∙ ap (λ k. take at old ++ take (i + 1) bytes ++ drop k old) (omega arith)

-- what is written behind the front makes the front longer
pub overwrite-front : (old front bytes into : List ℕ) (at end : ℕ) → length front ≡ at → end ≡ at + length bytes → at + length bytes ≤ length old → into ≡ front ++ drop at old
    → take at into ++ bytes ++ drop end into ≡ (front ++ bytes) ++ drop end old
overwrite-front old front bytes into at end f e room is =
    let taken : take at into ≡ front = rw is (subst (λ n. take n (front ++ drop at old) ≡ front) f (take-append_seam front (drop at old))) in
    let dropped : drop end into ≡ drop end old = rw is (drop-append-drop at old front end (omega arith) f) in
    rw (taken, dropped) refl

-- four pieces written one behind the other
pub four-written : (old w x y z after_w after_x after_y after_z : List ℕ) (p q r s : ℕ) → s ≤ length old
    → after_w ≡ take 0 old ++ w ++ drop p old → p ≡ 0 + length w
    → after_x ≡ take p after_w ++ x ++ drop q after_w → q ≡ p + length x
    → after_y ≡ take q after_x ++ y ++ drop r after_x → r ≡ q + length y
    → after_z ≡ take r after_y ++ z ++ drop s after_y → s ≡ r + length z
    → after_z ≡ w ++ x ++ y ++ z ++ drop s old
four-written old w x y z after_w after_x after_y after_z p q r s room ew ep ex eq ey er ez es =
    let one : after_w ≡ w ++ drop p old = ew ∙ overwrite-front old [] w old 0 p refl ep (omega arith) refl in
    let two : after_x ≡ (w ++ x) ++ drop q old = ex ∙ overwrite-front old w x after_w p q (omega arith) eq (omega arith) one in
    let three : after_y ≡ ((w ++ x) ++ y) ++ drop r old = ey ∙ overwrite-front old (w ++ x) y after_x q r (length-append w x ∙ omega arith) er (omega arith) two in
    ez ∙ overwrite-front old ((w ++ x) ++ y) z after_y r s (length-append (w ++ x) y ∙ ap (λ n. n + length y) (length-append w x) ∙ omega arith) es (omega arith) three
