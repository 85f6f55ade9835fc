-- What stands at each place of the script.
use Rattle.std.proofs.Common.{◌≡◌, ℕ, ◌+◌, ◌-◌, ◌<◌, ◌≤◌, zero, suc, map, length, slice_index_or, refl, sym, ap, ◌∙◌, arith, length-append}
use Rattle.std.specs.List.{range_with_len}
use Rattle.std.proofs.lemmas.List.{get_or_append_left, get_or-append_right}
use Rattle.std.proofs.lemmas.List.FromFn.{length-map-range_with_len, get_or-map-range_with_len}
use Rattle.pt_gen.specs.Script.{created, gen_statement, inserted, last_four, script, selected}

pub script_length : (n : ℕ) → n + 5 ≡ length (script n)
script_length n =
    omega (arith, length-append (map inserted (range_with_len 0 n)) last_four, length-map-range_with_len inserted 0 n)

pub at_first : (n i : ℕ) → i ≡ 0 → created ≡ gen_statement n i
unfolding gen_statement
at_first n i is = ap (λ j. slice_index_or (script n) j selected) (sym is)

pub at_insert : (n i : ℕ) → (i ≡ 0 → ⊥) → i ≤ n → inserted (i - 1) ≡ gen_statement n i
unfolding gen_statement
at_insert n zero some within = absurd (some refl)
at_insert n (suc k) some within =
    let below : k < n = omega arith in
    let front : k < length (map inserted (range_with_len 0 n)) = omega (arith, length-map-range_with_len inserted 0 n) in
    let this : suc k - 1 ≡ k = omega arith in
    ap inserted this
    ∙ sym (get_or_append_left (map inserted (range_with_len 0 n)) last_four selected k front
    ∙ get_or-map-range_with_len inserted 0 n k k selected below (omega arith))

pub at_last : (n i : ℕ) → n < i → slice_index_or last_four (i - n - 1) selected ≡ gen_statement n i
unfolding gen_statement
at_last n zero behind = absurd (omega arith)
at_last n (suc k) behind =
    let this : suc k - n - 1 ≡ k - n = omega arith in
    ap (λ j. slice_index_or last_four j selected) this
    ∙ sym (get_or-append_right (map inserted (range_with_len 0 n)) last_four n k selected (length-map-range_with_len inserted 0 n) (omega arith))
