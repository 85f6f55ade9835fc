-- What a new partition takes under LINEAR HASH: the residue modulo a doubled power is the old one, or that and the power.
use Rattle.std.proofs.Common.{◌≡◌, ℕ, zero, suc, ◌+◌, ◌-◌, ◌*◌, ◌/◌, ◌%◌, ◌^◌, ◌<◌, ◌≤◌, nat_lt, if◌then◌else◌, refl, sym, ap, ◌∙◌, arith, ◌⊎◌, inl, inr, ℤ, pos, negsuc, Option}
use Rattle.std.proofs.Math.Nat.{pow-succ'}
use Rattle.std.proofs.lemmas.Nat.{pow_pos, mod-pow-add, mod_below}
use Rattle.std.proofs.lemmas.Bool.{cases_lt, cases_order, cond_below, cond_above}
use Rattle.pt_value.specs.Hashes.{least_power, residue, counted, linear_part, split_source}
use Rattle.pt_hash.proofs.Powers.{least_of, greatest_power-at}

one_bit : (b p r : ℕ) → b < 2 → (b * p + r ≡ r) ⊎ (b * p + r ≡ r + p)
one_bit zero p r below = inl (omega arith)
one_bit (suc zero) p r below = inr (omega arith)
one_bit (suc (suc b)) p r below = absurd (omega (arith, below))

halves : (a k : ℕ) → (a % 2 ^ suc k ≡ a % 2 ^ k) ⊎ (a % 2 ^ suc k ≡ a % 2 ^ k + 2 ^ k)
halves a k =
    let e : a % 2 ^ suc k ≡ (a / 2 ^ k % 2) * 2 ^ k + a % 2 ^ k = ap (λ j. a % 2 ^ j) (omega arith) ∙ mod-pow-add a 1 k in
    elim (one_bit (a / 2 ^ k % 2) (2 ^ k) (a % 2 ^ k) (mod_below _ 2 (omega arith))) [ inl same ↦ inl (e ∙ same) | inr more ↦ inr (e ∙ more) ]

abbrev IsTwice : ℕ → ℕ → ℕ → Type 0
IsTwice power low high = (high ≡ low) ⊎ (high ≡ low + power)

residue-below : (z : ℤ) (k : ℕ) → residue z (2 ^ k) < 2 ^ k
residue-below (pos a) k = mod_below a (2 ^ k) (pow_pos k)
residue-below (negsuc a) k = let positive = pow_pos k in omega (arith, positive)

residues : (z : ℤ) (k : ℕ) → IsTwice (2 ^ k) (residue z (2 ^ k)) (residue z (2 ^ suc k))
residues (pos a) k = halves a k
residues (negsuc a) k =
    let below = mod_below a (2 ^ k) (pow_pos k) in
    let e = pow-succ' 2 k in
    elim (halves a k) [ inl same ↦ inr (omega (arith, below, e, same)) | inr more ↦ inl (omega (arith, below, e, more)) ]

abbrev pick : ℕ → ℕ → ℕ → ℕ
pick n high low = if nat_lt high n then high else low

abbrev Moves : ℕ → ℕ → ℕ → ℕ → Type 0
Moves n source before after = (after ≡ before) ⊎ ((before ≡ source) × (after ≡ n))

picked : (n high low : ℕ) → high < n → pick n high low ≡ high
picked n high low h = sym (cond_below high n high low h)

passed : (n high low : ℕ) → n ≤ high → pick n high low ≡ low
passed n high low h = sym (cond_above high n high low low h refl)

-- n is no power of two
between : (n g low high : ℕ) → g < n → low < g → IsTwice g low high → Moves n (n - g) (pick n high low) (pick (n + 1) high low)
between n g low high above below twice =
    elim (cases_order high n) [
      | inl same ↦
          let before = passed n high low (omega (arith, same)) in
          let after = picked (n + 1) high low (omega (arith, same)) in
          elim twice [
            | inl kept ↦ absurd (omega (arith, kept, same, above, below))
            | inr raised ↦ inr (before ∙ omega (arith, raised, same), after ∙ same)
          ]
      | inr other ↦
          elim other [
            | inl less ↦ inl (picked (n + 1) high low (omega (arith, less)) ∙ sym (picked n high low less))
            | inr more ↦ inl (passed (n + 1) high low (omega (arith, more)) ∙ sym (passed n high low (omega (arith, more))))
          ]
    ]

-- n is the power
at_power : (n g low high : ℕ) → n ≡ g → low < g → IsTwice g low high → Moves n (n - g) low (pick (n + 1) high low)
at_power n g low high here below twice =
    elim (cases_lt high (n + 1)) [
      | inl less ↦
          let after = picked (n + 1) high low less in
          elim twice [
            | inl kept ↦ inl (after ∙ kept)
            | inr raised ↦ inr (omega (arith, raised, less, here), after ∙ omega (arith, raised, less, here))
          ]
      | inr more ↦ inl (passed (n + 1) high low more)
    ]

linear-at : (value : Option ℤ) (n k : ℕ) → least_power n ≡ 2 ^ suc k → linear_part value n ≡ pick n (residue (counted value) (2 ^ suc k)) (residue (counted value) (2 ^ k))
linear-at value n k e =
    let z = counted value in
    let half : 2 ^ suc k / 2 ≡ 2 ^ k = let f = pow-succ' 2 k in omega (arith, f) in
    ap (λ p. pick n (residue z p) (residue z (p / 2))) e ∙ ap (λ h. pick n (residue z (2 ^ suc k)) (residue z h)) half

linear-at_power : (value : Option ℤ) (n k : ℕ) → least_power n ≡ 2 ^ k → n ≡ 2 ^ k → linear_part value n ≡ residue (counted value) (2 ^ k)
linear-at_power value n k e here =
    let z = counted value in
    let below = residue-below z k in
    ap (λ p. pick n (residue z p) (residue z (p / 2))) e ∙ picked n (residue z (2 ^ k)) (residue z (2 ^ k / 2)) (omega (arith, here, below))

moved : (n : ℕ) {source source' before before' after after' : ℕ} → source ≡ source' → before ≡ before' → after ≡ after' → Moves n source' before' after' → Moves n source before after
moved n s b a (inl same) = inl (a ∙ same ∙ sym b)
moved n s b a (inr more) = inr (b ∙ more.0 ∙ sym s, a ∙ more.1)

moves-at : (value : Option ℤ) (n k : ℕ) → 2 ^ k ≤ n → n < 2 ^ suc k → Moves n (n - 2 ^ k) (linear_part value n) (linear_part value (n + 1))
moves-at value n k reached below =
    let z = counted value in
    let f = pow-succ' 2 k in
    let positive = pow_pos k in
    let later = linear-at value (n + 1) k (sym (least_of (n + 1) (suc k) (omega arith) (omega (arith, below)) (omega (arith, f, reached)))) in
    let low = residue-below z k in
    elim (cases_lt (2 ^ k) n) [
      | inl above ↦
          let now = linear-at value n k (sym (least_of n (suc k) (omega (arith, positive, reached)) (omega (arith, below)) (omega (arith, f, above)))) in
          moved n refl now later (between n (2 ^ k) _ _ above low (residues z k))
      | inr most ↦
          let here : n ≡ 2 ^ k = omega (arith, reached, most) in
          let now = linear-at_power value n k (sym (least_of n k (omega (arith, positive, reached)) (omega (arith, here)) (omega (arith, positive, here)))) here in
          moved n refl now later (at_power n (2 ^ k) _ _ here low (residues z k))
    ]

pub splits : (value : Option ℤ) (n : ℕ) → 0 < n → Moves n (split_source n) (linear_part value n) (linear_part value (n + 1))
splits value n some =
    let h = greatest_power-at n some in
    let k = h.power.0 in
    let e = h.power.1 in
    let f = pow-succ' 2 k in
    let below : n < 2 ^ suc k =
    elim (cases_lt n (2 ^ suc k)) [
      | inl less ↦ less
      | inr more ↦ let low = h.greatest (suc k) more in absurd (omega (arith, e, f, low, pow_pos k))
    ] in
    moved n (ap (λ p. n - p) e) refl refl (moves-at value n k (omega (arith, e, h.reached)) below)
