-- How many values lie between two, on each line.
use Rattle.std.proofs.Common.{◌≡◌, ◌≢◌, ℕ, zero, suc, min, Bool, true, false, not, ◌&&◌, ◌==◌, List, [], ◌∷◌, ◌++◌, length, take, drop, replicate, refl, sym, ap, ◌∙◌, subst, ◌⊎◌, inl, inr, arith, append_assoc, Option, Some, None}
use mir.Syntax.{w32, w128}
use mir.Val.{SFits, of_z, to_z}
use Rattle.std.specs.Prelude.{ℤ, pos, negsuc, ◌+ℤ◌, ◌≤ℤ◌, ◌<ℤ◌, nat_eq, unwrap_or}
use Rattle.std.specs.declared.cmp.Ordering.{Ordering}
use Rattle.std.specs.Ordering.{int_cmp, int_eq, is_le, ordering_then}
use Rattle.std.specs.Cmp.{nat_cmp_total, tied_itself}
use Rattle.std.specs.Cmp.Lexicographic.{bytes_decides, nat_list_cmp_total, nat_list_eq_equiv, pointwise}
use Rattle.std.specs.List.{list_all}
use Rattle.std.proofs.lemmas.Bool.{true≢false, and_parts, eqb-true}
use Rattle.std.proofs.lemmas.Int.{by_lt_z, ints, to_z-of_z}
use Rattle.std.proofs.lemmas.List.{append-nil, append_cancel_left, take-append-drop}
use Rattle.std.proofs.Math.Seq.{take-append_seam}
use Rattle.pt_interval.specs.Line.{at_most, is_from, is_past, IsEnd, IsLine}
use Rattle.pt_interval.specs.Counting.{IsCount}
use Rattle.pt_interval.specs.Instances.{above_int, are_bytes, at_most_int, bytes_cmp, bytes_line, greatest_day, greatest_wide, int_line, int_same, int_unequal, is_int, is_int_read, least_day, least_wide, next_bytes, next_bytes_least, next_int}
use Rattle.pt_interval.specs.Spans.{is_within}
use Rattle.pt_interval.specs.Walk.{CountsTo, walk}
use Rattle.pt_interval.proofs.Lists.{up_to_same}
use Rattle.pt_interval.proofs.Order.{level, reflexive}
use Rattle.pt_interval.proofs.Walks.{walk-last, walk-past, walk-step, walk_up_to}

-- ---- on any line

module _ {T : Type 0} {cmp : T → T → Ordering} {is_value : T → Bool} {least : T} {next : T → T} {is_greatest : T → Bool} (line : IsLine cmp is_value least next is_greatest) where
  start_in : (from : Option T) → IsEnd is_value from → is_value (unwrap_or from least) ≡ true
  start_in None h = line.least_value
  start_in (Some v) h = h

  start_from : (from : Option T) (v : T) → is_value v ≡ true → at_most cmp (unwrap_or from least) v ≡ is_from cmp from v
  start_from None v value = line.least_below v value
  start_from (Some a) v value = refl

  -- as many as are met one after the other
  pub counted_by_walk : (from to : Option T) (limit n : ℕ) → IsEnd is_value from → length (walk cmp next is_greatest limit (unwrap_or from least) to) ≡ n
      → IsCount cmp is_value (λ v. is_from cmp from v && not (is_past cmp v to)) limit n
  counted_by_walk from to limit n from_in e = (
    walk cmp next is_greatest limit (unwrap_or from least) to,
    up_to_same cmp is_value (is_within cmp (record { from = unwrap_or from least; to = to })) (λ v. is_from cmp from v && not (is_past cmp v to)) limit _
        (λ v value. ap (λ b. b && not (is_past cmp v to)) (start_from from v value))
        (walk_up_to line limit (unwrap_or from least) to (start_in from from_in)),
    e,
  )

-- ---- whole numbers

-- where the numbers end: at `to`, or behind the greatest
EndsAt : ℤ → Option ℤ → ℤ → Type 0
EndsAt high None end = end ≡ high +ℤ pos 1
EndsAt high (Some to) end = (end ≡ to) × (to ≤ℤ high)

not_past_int : (high from : ℤ) (to : Option ℤ) (end : ℤ) → EndsAt high to end → from <ℤ end → is_past int_cmp from to ≡ false
unfolding EndsAt
not_past_int high from None end ends h = refl
not_past_int high from (Some to) end ends h = above_int to from (omega (arith, ints, ends.0, h))

past_int : (high from : ℤ) (to : Option ℤ) (end : ℤ) → EndsAt high to end → from ≤ℤ high → end ≤ℤ from → is_past int_cmp from to ≡ true
unfolding EndsAt
past_int high from None end ends in_line h = absurd (omega (arith, ints, ends, in_line, h))
past_int high from (Some to) end ends in_line h = at_most_int to from (omega (arith, ints, ends.0, h))

end_in_line : (high : ℤ) (to : Option ℤ) (end : ℤ) → EndsAt high to end → end ≤ℤ (high +ℤ pos 1)
unfolding EndsAt
end_in_line high None end ends = omega (arith, ints, ends)
end_in_line high (Some to) end ends = omega (arith, ints, ends.0, ends.1)

last_count : (from end high : ℤ) (k : ℕ) → from ≡ high → (from +ℤ pos (suc k)) ≤ℤ end → end ≤ℤ (high +ℤ pos 1) → 1 ≡ suc k
last_count from end high k e below ends = omega (arith, ints, e, below, ends)

below_of_unequal : (from high : ℤ) → from ≤ℤ high → (from <ℤ high) ⊎ (high <ℤ from) → next_int from ≤ℤ high
below_of_unequal from high h (inl less) = omega (arith, ints, less)
below_of_unequal from high h (inr more) = absurd (omega (arith, ints, h, more))

int_walk : (high : ℤ) (to : Option ℤ) (end : ℤ) → EndsAt high to end → (limit n : ℕ) (from : ℤ) → from ≤ℤ high → CountsTo from end limit n
    → length (walk int_cmp next_int (λ z. int_eq z high) limit from to) ≡ n
int_walk high to end ends zero n from in_line counts = omega (arith, counts.few)
int_walk high to end ends (suc m) zero from in_line counts =
    ap length (walk-past int_cmp next_int (λ z. int_eq z high) (suc m) from to (past_int high from to end ends in_line (let e = counts.whole (omega arith) in omega (arith, ints, e))))
int_walk high to end ends (suc m) (suc k) from in_line counts = by (int_eq from high) refl (int_walk high to end ends m k (next_int from))
  where
    before : is_past int_cmp from to ≡ false
    before = not_past_int high from to end ends (let h = counts.below in omega (arith, ints, h))

    counts_on : CountsTo (next_int from) end m k
    counts_on = record {
      below = let h = counts.below in omega (arith, ints, h);
      few = omega (arith, counts.few);
      whole = λ less. let e = counts.whole (omega (arith, less)) in omega (arith, ints, e);
    }

    by : (b : Bool) → int_eq from high ≡ b → (next_int from ≤ℤ high → CountsTo (next_int from) end m k → length (walk int_cmp next_int (λ z. int_eq z high) m (next_int from) to) ≡ k)
        → length (walk int_cmp next_int (λ z. int_eq z high) (suc m) from to) ≡ suc k
    by true last more =
        ap length (walk-last int_cmp next_int (λ z. int_eq z high) m from to before last) ∙ last_count from end high k (int_same from high last) counts.below (end_in_line high to end ends)
    by false inner more =
        ap length (walk-step int_cmp next_int (λ z. int_eq z high) m from to before inner) ∙ ap suc (more (below_of_unequal from high in_line (int_unequal from high inner)) counts_on)

start_up_to : (low high : ℤ) → low ≤ℤ high → (from : Option ℤ) → IsEnd (is_int low high) from → unwrap_or from low ≤ℤ high
start_up_to low high fits None h = fits
start_up_to low high fits (Some v) h = (is_int_read low high v h).1

int_gap : (low high : ℤ) → low ≤ℤ high → (from to : Option ℤ) (end : ℤ) (limit n : ℕ) → EndsAt high to end → IsEnd (is_int low high) from → CountsTo (unwrap_or from low) end limit n
    → IsCount int_cmp (is_int low high) (λ v. is_from int_cmp from v && not (is_past int_cmp v to)) limit n
int_gap low high fits from to end limit n ends from_in counts =
    counted_by_walk (int_line low high fits) from to limit n from_in (int_walk high to end ends limit n (unwrap_or from low) (start_up_to low high fits from from_in) counts)

-- up to another number
pub int_gap_below : (low high : ℤ) → low ≤ℤ high → (from to : Option ℤ) (start last : ℤ) (limit n : ℕ) → IsEnd (is_int low high) from → IsEnd (is_int low high) to
    → start ≡ unwrap_or from low → to ≡ Some last → (last ≤ℤ start → n ≡ 0) → (start <ℤ last → CountsTo start last limit n)
    → IsCount int_cmp (is_int low high) (λ v. is_from int_cmp from v && not (is_past int_cmp v to)) limit n
unfolding EndsAt
int_gap_below low high fits from to start last limit n from_in to_in starts ends none some =
    by_lt_z start last
    (λ less. int_gap low high fits from to last limit n (subst (λ o. EndsAt high o last) (sym ends) (refl, (is_int_read low high last (subst (IsEnd (is_int low high)) ends to_in)).1)) from_in
    (subst (λ s. CountsTo s last limit n) starts (some less)))
    (λ more. counted_by_walk (int_line low high fits) from to limit n from_in
    (ap length (walk-past int_cmp next_int (λ z. int_eq z high) limit (unwrap_or from low) to (ap (is_past int_cmp (unwrap_or from low)) ends ∙ ap (at_most int_cmp last) (sym starts) ∙ at_most_int last start more)) ∙ sym (none more)))

-- up to the greatest
pub int_gap_last : (low high : ℤ) → low ≤ℤ high → (from to : Option ℤ) (start : ℤ) (limit n : ℕ) → IsEnd (is_int low high) from → start ≡ unwrap_or from low → to ≡ None
    → CountsTo start (high +ℤ pos 1) limit n
    → IsCount int_cmp (is_int low high) (λ v. is_from int_cmp from v && not (is_past int_cmp v to)) limit n
unfolding EndsAt
int_gap_last low high fits from to start limit n from_in starts ends counts =
    int_gap low high fits from to (high +ℤ pos 1) limit n (subst (λ o. EndsAt high o (high +ℤ pos 1)) (sym ends) refl) from_in (subst (λ s. CountsTo s (high +ℤ pos 1) limit n) starts counts)

-- the same, where the code passes its numbers on by way of their bits
module _ (low high : ℤ) (fits : low ≤ℤ high) (passed : ℤ → ℤ) (same : (z : ℤ) → is_int low high z ≡ true → passed z ≡ z) where
  starts_by : (from : Option ℤ) (start : ℤ) → IsEnd (is_int low high) from → start ≡ unwrap_or from low → passed start ≡ unwrap_or from low
  starts_by from start from_in starts = same start (ap (is_int low high) starts ∙ start_in (int_line low high fits) from from_in) ∙ starts

  pub passed_gap_below : (from to : Option ℤ) (start last : ℤ) (limit n : ℕ) → IsEnd (is_int low high) from → IsEnd (is_int low high) to
      → start ≡ unwrap_or from low → to ≡ Some last → (passed last ≤ℤ passed start → n ≡ 0) → (passed start <ℤ passed last → CountsTo (passed start) (passed last) limit n)
      → IsCount int_cmp (is_int low high) (λ v. is_from int_cmp from v && not (is_past int_cmp v to)) limit n
  passed_gap_below from to start last limit n from_in to_in starts ends none some =
      int_gap_below low high fits from to (passed start) (passed last) limit n from_in to_in (starts_by from start from_in starts)
      (ends ∙ ap Some (sym (same last (subst (IsEnd (is_int low high)) ends to_in)))) none some

  pub passed_gap_last : (from to : Option ℤ) (start : ℤ) (limit n : ℕ) → IsEnd (is_int low high) from → start ≡ unwrap_or from low → to ≡ None
      → CountsTo (passed start) (high +ℤ pos 1) limit n
      → IsCount int_cmp (is_int low high) (λ v. is_from int_cmp from v && not (is_past int_cmp v to)) limit n
  passed_gap_last from to start limit n from_in starts ends counts = int_gap_last low high fits from to (passed start) limit n from_in (starts_by from start from_in starts) ends counts

pub wide_passed : (z : ℤ) → is_int least_wide greatest_wide z ≡ true → to_z w128 (of_z w128 z) ≡ z
wide_passed z e = let inside = is_int_read least_wide greatest_wide z e in to_z-of_z w128 z (wide_fits_bits z inside.0 inside.1)
  where
    wide_fits_bits : (z : ℤ) → least_wide ≤ℤ z → z ≤ℤ greatest_wide → SFits w128 z
    wide_fits_bits (pos n) h k = record { sfits = omega (arith, ints, k) }
    wide_fits_bits (negsuc n) h k = record { sfits = omega (arith, ints, h) }

pub day_passed : (z : ℤ) → is_int least_day greatest_day z ≡ true → to_z w128 (of_z w128 (to_z w32 (of_z w32 z))) ≡ z
day_passed z e = let inside = is_int_read least_day greatest_day z e in omega (arith, ints, inside.0, inside.1)

-- ---- byte strings

longer_above : (bytes : List ℕ) (x : ℕ) (more : List ℕ) → at_most bytes_cmp (bytes ++ x ∷ more) bytes ≡ false
longer_above [] x more = refl
longer_above (y ∷ ys) x more = ap (λ o. is_le (ordering_then o (bytes_cmp (ys ++ x ∷ more) ys))) (tied_itself nat_cmp_total y) ∙ longer_above ys x more

-- one zero more behind
zero_moved : (from : List ℕ) (k : ℕ) → from ++ replicate (suc k) 0 ≡ next_bytes from ++ replicate k 0
zero_moved from k = sym (append_assoc from (0 ∷ []) (replicate k 0))

suc_min : (n k : ℕ) → suc (min n k) ≡ min (suc n) (suc k)
suc_min n k = omega arith

none_of : (n : ℕ) → 0 ≡ min (suc n) 0
none_of n = omega arith

-- to a byte string that is the first with k zeros behind it
walk-zeros : (limit k : ℕ) (from : List ℕ) → length (walk bytes_cmp next_bytes (λ bytes. false) limit from (Some (from ++ replicate k 0))) ≡ min limit k
walk-zeros zero k from = omega arith
walk-zeros (suc n) zero from =
    ap length (walk-past bytes_cmp next_bytes (λ bytes. false) (suc n) from (Some (from ++ [])) (ap (λ b. at_most bytes_cmp b from) (append-nil from) ∙ reflexive nat_list_cmp_total from)) ∙ none_of n
walk-zeros (suc n) (suc k) from =
    ap length (walk-step bytes_cmp next_bytes (λ bytes. false) n from (Some (from ++ replicate (suc k) 0)) (longer_above from 0 (replicate k 0)) refl)
    ∙ ap (λ to. suc (length (walk bytes_cmp next_bytes (λ bytes. false) n (next_bytes from) (Some to)))) (zero_moved from k)
    ∙ ap suc (walk-zeros n k (next_bytes from)) ∙ suc_min n k

-- to one that is above and has something else behind the first: no step meets it
walk-many : (limit : ℕ) (from to : List ℕ) → at_most bytes_cmp to from ≡ false → ((k : ℕ) → to ≢ from ++ replicate k 0)
    → length (walk bytes_cmp next_bytes (λ bytes. false) limit from (Some to)) ≡ limit
walk-many zero from to above other = refl
walk-many (suc n) from to above other =
    ap length (walk-step bytes_cmp next_bytes (λ bytes. false) n from (Some to) above refl)
    ∙ ap suc (walk-many n (next_bytes from) to (by (at_most bytes_cmp to (next_bytes from)) refl) (λ k e. other (suc k) (e ∙ sym (zero_moved from k))))
  where
    by : (b : Bool) → at_most bytes_cmp to (next_bytes from) ≡ b → b ≡ false
    by false e = refl
    by true e = absurd (other 1 (bytes_line.one to (next_bytes from) (level nat_list_cmp_total to (next_bytes from) e (next_bytes_least from to above))))

-- without end
walk-on : (limit : ℕ) (from : List ℕ) → length (walk bytes_cmp next_bytes (λ bytes. false) limit from None) ≡ limit
walk-on zero from = refl
walk-on (suc n) from = ap suc (walk-on n (next_bytes from))

pub bytes_gap : (from to : Option (List ℕ)) (start last : List ℕ) (limit n : ℕ) → IsEnd are_bytes from → start ≡ unwrap_or from [] → to ≡ Some last
    → n ≡ length (walk bytes_cmp next_bytes (λ bytes. false) limit start (Some last))
    → IsCount bytes_cmp are_bytes (λ v. is_from bytes_cmp from v && not (is_past bytes_cmp v to)) limit n
bytes_gap from to start last limit n from_in starts ends e =
    counted_by_walk bytes_line from to limit n from_in
    (ap (λ o. length (walk bytes_cmp next_bytes (λ bytes. false) limit (unwrap_or from []) o)) ends ∙ ap (λ s. length (walk bytes_cmp next_bytes (λ bytes. false) limit s (Some last))) (sym starts) ∙ sym e)

pub bytes_gap_on : (from to : Option (List ℕ)) (limit : ℕ) → IsEnd are_bytes from → to ≡ None → IsCount bytes_cmp are_bytes (λ v. is_from bytes_cmp from v && not (is_past bytes_cmp v to)) limit limit
bytes_gap_on from to limit from_in ends =
    counted_by_walk bytes_line from to limit limit from_in (ap (λ o. length (walk bytes_cmp next_bytes (λ bytes. false) limit (unwrap_or from []) o)) ends ∙ walk-on limit (unwrap_or from []))

zeros : (bytes : List ℕ) → list_all (λ byte. byte == 0) bytes ≡ true → bytes ≡ replicate (length bytes) 0
zeros [] e = refl
zeros (b ∷ bytes) e =
    let both = and_parts (b == 0) (list_all (λ byte. byte == 0) bytes) e in
    ap (λ c. c ∷ bytes) (eqb-true b 0 both.0) ∙ ap (λ bs. 0 ∷ bs) (zeros bytes both.1)

all_zeros : (k : ℕ) → list_all (λ byte. byte == 0) (replicate k 0) ≡ true
all_zeros zero = refl
all_zeros (suc k) = all_zeros k

-- the answers of the code, in its four cases
pub below_none : (limit : ℕ) (from to : List ℕ) → at_most bytes_cmp to from ≡ true → 0 ≡ length (walk bytes_cmp next_bytes (λ bytes. false) limit from (Some to))
below_none limit from to past = sym (ap length (walk-past bytes_cmp next_bytes (λ bytes. false) limit from (Some to) past))

pub below_zeros : (limit : ℕ) (from to rest : List ℕ) → to ≡ from ++ rest → list_all (λ byte. byte == 0) rest ≡ true
    → min limit (length rest) ≡ length (walk bytes_cmp next_bytes (λ bytes. false) limit from (Some to))
below_zeros limit from to rest e z =
    sym (walk-zeros limit (length rest) from) ∙ ap (λ t. length (walk bytes_cmp next_bytes (λ bytes. false) limit from (Some t))) (ap (λ r. from ++ r) (sym (zeros rest z)) ∙ sym e)

pub below_others : (limit : ℕ) (from to rest : List ℕ) → at_most bytes_cmp to from ≡ false → to ≡ from ++ rest → list_all (λ byte. byte == 0) rest ≡ false
    → limit ≡ length (walk bytes_cmp next_bytes (λ bytes. false) limit from (Some to))
below_others limit from to rest above e z = sym (walk-many limit from to above (λ k same.
    let r : rest ≡ replicate k 0 = append_cancel_left from rest (replicate k 0) (sym e ∙ same) in
    true≢false (sym (all_zeros k) ∙ sym (ap (list_all (λ byte. byte == 0)) r) ∙ z)))

pub below_apart : (limit : ℕ) (from to : List ℕ) → at_most bytes_cmp to from ≡ false → pointwise nat_eq (take (length from) to) from ≡ false
    → limit ≡ length (walk bytes_cmp next_bytes (λ bytes. false) limit from (Some to))
below_apart limit from to above apart = sym (walk-many limit from to above (λ k same.
    let front : take (length from) to ≡ from = ap (take (length from)) same ∙ take-append_seam from (replicate k 0) in
    true≢false (sym (nat_list_eq_equiv.refl from) ∙ sym (ap (λ f. pointwise nat_eq f from) front) ∙ apart)))

pub split_front : (from to : List ℕ) → pointwise nat_eq (take (length from) to) from ≡ true → to ≡ from ++ drop (length from) to
split_front from to e = sym (take-append-drop (length from) to) ∙ ap (λ f. f ++ drop (length from) to) ((bytes_decides (take (length from) to) from).0 e)
