-- Loose ranges as they are kept, and bytes with the loose ones filled.
use Rattle.std.proofs.Common.{◌≡◌, ◌∙◌, ℕ, ◌+◌, ◌-◌, ◌<◌, Bool, true, false, cond, ◌&&◌, ◌||◌, List, [], ◌∷◌, ◌++◌, length, map, take, length-take, get_or, refl, sym, ap, arith}
use Rattle.std.specs.Prelude.{nat_le, nat_lt}
use Rattle.std.specs.List.{list_any}
use Rattle.std.proofs.lemmas.List.{reverse-append, take_more}
use Rattle.std.proofs.lemmas.Bool.Decides.{nat_tests}
use Rattle.pt_host.specs.Disk.{is_loose}
use Rattle.pt_memhost.specs.Names.{is_in, ranges_of}
use Rattle.pt_memhost.specs.Pick.{filled, loose_byte}

is_in_same : (place at count : ℕ) → (nat_le at place && nat_lt (place - at) count) ≡ (nat_le at place && nat_lt place (at + count))
is_in_same place at count = grind (arith, nat_tests)

or_last : (a b : Bool) → (a || (b || false)) ≡ (b || a)
or_last true true = refl
or_last true false = refl
or_last false true = refl
or_last false false = refl

is_loose-append : (xs ys : List (ℕ × ℕ)) (place : ℕ) → is_loose (xs ++ ys) place ≡ (is_loose xs place || is_loose ys place)
is_loose-append [] ys place = refl
is_loose-append (x ∷ xs) ys place = or_assoc (nat_le x.0 place && nat_lt place x.1) _ _ _ (is_loose-append xs ys place)
  where
    or_assoc : (a b c d : Bool) → d ≡ (b || c) → (a || d) ≡ ((a || b) || c)
    or_assoc true b c d e = refl
    or_assoc false b c d e = e

pub is_loose-ranges_of : (ranges : List (ℕ × ℕ)) (place : ℕ) → list_any (is_in place) ranges ≡ is_loose (ranges_of ranges) place
is_loose-ranges_of [] place = refl
is_loose-ranges_of (range ∷ ranges) place =
    ap (λ b. b || list_any (is_in place) ranges) (is_in_same place range.0 range.1)
    ∙ ap (λ b. (nat_le range.0 place && nat_lt place (range.0 + range.1)) || b) (is_loose-ranges_of ranges place)
    ∙ sym (or_last (is_loose (ranges_of ranges) place) (nat_le range.0 place && nat_lt place (range.0 + range.1)))
    ∙ sym (is_loose-append (ranges_of ranges) ((range.0, range.0 + range.1) ∷ []) place)
    ∙ ap (λ xs. is_loose xs place) (sym (reverse-append ((range.0, range.0 + range.1) ∷ []) (map (λ r. (r.0, r.0 + r.1)) ranges)))

pub filled-push : (fill : ℕ) (loose : List (ℕ × ℕ)) (place : ℕ) (bytes : List ℕ) (byte : ℕ)
    → filled fill loose place (bytes ++ byte ∷ []) ≡ filled fill loose place bytes ++ cond (is_loose loose (place + length bytes)) (loose_byte fill byte) byte ∷ []
filled-push fill loose place [] byte = ap (λ n. cond (is_loose loose n) (loose_byte fill byte) byte ∷ []) (let e : place ≡ place + 0 = omega arith in e)
filled-push fill loose place (b ∷ bytes) byte =
    ap (λ bs. cond (is_loose loose place) (loose_byte fill b) b ∷ bs)
    (filled-push fill loose (place + 1) bytes byte
    ∙ ap (λ n. filled fill loose (place + 1) bytes ++ cond (is_loose loose n) (loose_byte fill byte) byte ∷ []) (let e : place + 1 + length bytes ≡ place + length (b ∷ bytes) = omega arith in e))

-- one more item of a list
pub take_item : {X : Type 0} → (xs : List X) (i : ℕ) (x : X) → i < length xs → x ≡ get_or xs i x → take (i + 1) xs ≡ take i xs ++ x ∷ []
take_item xs i x below is = take_more xs i x below ∙ ap (λ y. take i xs ++ y ∷ []) (sym is)

-- one more byte
pub filled_more : (fill : ℕ) (ranges : List (ℕ × ℕ)) (bytes : List ℕ) (i left : ℕ) → i < length bytes → left ≡ cond (list_any (is_in i) ranges) (loose_byte fill (get_or bytes i 0)) (get_or bytes i 0)
    → filled fill (ranges_of ranges) 0 (take i bytes) ++ left ∷ [] ≡ filled fill (ranges_of ranges) 0 (take (i + 1) bytes)
filled_more fill ranges bytes i left below e =
    let n : 0 + length (take i bytes) ≡ i = (simp length-take (omega arith)) in
    let byte : ℕ = get_or bytes i 0 in
    let loose : List (ℕ × ℕ) = ranges_of ranges in
    ap (λ b. filled fill loose 0 (take i bytes) ++ b ∷ [])
    (e ∙ ap (λ b. cond b (loose_byte fill byte) byte) (is_loose-ranges_of ranges i) ∙ ap (λ k. cond (is_loose loose k) (loose_byte fill byte) byte) (sym n))
    ∙ sym (filled-push fill loose 0 (take i bytes) byte)
    ∙ ap (filled fill loose 0) (sym (take_more bytes i 0 below))
