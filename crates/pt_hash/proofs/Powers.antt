-- Powers of two: the least one from n on, and the greatest one up to n.
use Rattle.std.proofs.Common.{◌≡◌, ℕ, zero, suc, ◌*◌, ◌/◌, ◌^◌, ◌<◌, ◌≤◌, nat_lt, nat_le, refl, sym, ap, ◌∙◌, arith, inl, inr}
use Rattle.std.proofs.Math.Nat.{pow-le-pow_right, pow-succ'}
use Rattle.std.proofs.lemmas.Nat.{pow_pos}
use Rattle.std.proofs.lemmas.Bool.{cases_lt, cond_both, ltb-true, ltb-false, leb-true, leb-false}
use Rattle.pt_value.specs.Hashes.{IsLeastPower, least_power, IsGreatestPower, greatest_power}

-- a power above another is at least its double
pub doubled : (j k : ℕ) → 2 ^ j < 2 ^ k → 2 * 2 ^ j ≤ 2 ^ k
doubled j k above =
    elim (cases_lt j k) [
      | inl less ↦ let e = pow-succ' 2 j in let h : 2 ^ suc j ≤ 2 ^ k = pow-le-pow_right (omega arith) (omega arith) in omega (arith, e, h)
      | inr more ↦ let h : 2 ^ k ≤ 2 ^ j = pow-le-pow_right (omega arith) more in absurd (omega (arith, h, above))
    ]

least_again : (n p : ℕ) → IsLeastPower n p → n < p → IsLeastPower (suc n) p
least_again n p h below = record {
  power = h.power;
  reaches = omega arith;
  least = λ k past. h.least k (omega (arith, past));
}

least_next : (n p : ℕ) → IsLeastPower n p → p ≤ n → IsLeastPower (suc n) (2 * p)
least_next n p h past =
    let e = h.power.1 in
    let here : n ≡ p = omega (arith, past, h.reaches) in
    record {
      power = (suc h.power.0, ap (λ q. 2 * q) e ∙ sym (pow-succ' 2 h.power.0));
      reaches = let positive = pow_pos h.power.0 in omega (arith, here, e, positive);
      least = λ k more. let h2 = doubled h.power.0 k (omega (arith, here, e, more)) in omega (arith, e, h2);
    }

pub least_power-is : (n : ℕ) → IsLeastPower n (least_power n)
unfolding least_power
least_power-is zero = record { power = (0, refl); reaches = omega arith; least = λ k h. let positive = pow_pos k in omega (arith, positive) }
least_power-is (suc n) =
    cond_both (nat_lt n (least_power n)) (least_power n) (2 * least_power n) (IsLeastPower (suc n))
    (λ test. least_again n (least_power n) (least_power-is n) (ltb-true _ _ test))
    (λ test. least_next n (least_power n) (least_power-is n) (ltb-false _ _ test))

-- there is one such power
pub one_least : (n p q : ℕ) → IsLeastPower n p → IsLeastPower n q → p ≡ q
one_least n p q a b =
    let e = a.power.1 in
    let f = b.power.1 in
    let down : p ≤ q = let h = a.least b.power.0 (omega (arith, b.reaches, f)) in omega (arith, h, f) in
    let up : q ≤ p = let h = b.least a.power.0 (omega (arith, a.reaches, e)) in omega (arith, h, e) in
    omega (arith, down, up)

greatest_next : (n p : ℕ) → IsGreatestPower n p → 2 * p ≤ suc n → IsGreatestPower (suc n) (2 * p)
greatest_next n p h reached =
    let e = h.power.1 in
    record {
      power = (suc h.power.0, ap (λ q. 2 * q) e ∙ sym (pow-succ' 2 h.power.0));
      reached = reached;
      greatest = λ k most.
          elim (cases_lt (2 * p) (2 ^ k)) [
            | inl more ↦ let f = pow-succ' 2 h.power.0 in let low = h.greatest (suc h.power.0) (omega (arith, e, f, more, most)) in absurd (omega (arith, e, f, low, pow_pos h.power.0))
            | inr less ↦ less
          ];
    }

greatest_again : (n p : ℕ) → IsGreatestPower n p → suc n < 2 * p → IsGreatestPower (suc n) p
greatest_again n p h past = record {
  power = h.power;
  reached = omega (arith, h.reached);
  greatest = λ k most.
      elim (cases_lt p (2 ^ k)) [
        | inl more ↦ let h2 = doubled h.power.0 k (omega (arith, h.power.1, more)) in absurd (omega (arith, h.power.1, h2, past, most))
        | inr less ↦ less
      ];
}

pub greatest_power-is : (n : ℕ) → IsGreatestPower (suc n) (greatest_power (suc n))
unfolding greatest_power
greatest_power-is zero = record {
  power = (0, refl);
  reached = omega arith;
  greatest = λ k h. h;
}
greatest_power-is (suc n) =
    cond_both (nat_le (2 * greatest_power (suc n)) (suc (suc n))) (2 * greatest_power (suc n)) (greatest_power (suc n)) (IsGreatestPower (suc (suc n)))
    (λ test. greatest_next (suc n) (greatest_power (suc n)) (greatest_power-is n) (leb-true _ _ test))
    (λ test. greatest_again (suc n) (greatest_power (suc n)) (greatest_power-is n) (leb-false _ _ test))

pub greatest_power-at : (n : ℕ) → 0 < n → IsGreatestPower n (greatest_power n)
greatest_power-at zero some = absurd (omega (arith, some))
greatest_power-at (suc n) some = greatest_power-is n

-- there is one such power
pub one_greatest : (n p q : ℕ) → IsGreatestPower n p → IsGreatestPower n q → p ≡ q
one_greatest n p q a b =
    let e = a.power.1 in
    let f = b.power.1 in
    let down : p ≤ q = let h = b.greatest a.power.0 (omega (arith, a.reached, e)) in omega (arith, h, e) in
    let up : q ≤ p = let h = a.greatest b.power.0 (omega (arith, b.reached, f)) in omega (arith, h, f) in
    omega (arith, down, up)

-- a power from n on whose half is below n is the least
pub least_of : (n k : ℕ) → 0 < n → n ≤ 2 ^ k → 2 ^ k / 2 < n → 2 ^ k ≡ least_power n
least_of n k some reaches near =
    one_least n (2 ^ k) (least_power n) (record {
      power = (k, refl);
      reaches = reaches;
      least = λ j past.
          elim (cases_lt (2 ^ j) (2 ^ k)) [
            | inl less ↦ let h = doubled j k less in absurd (omega (arith, h, near, past))
            | inr more ↦ more
          ];
    }) (least_power-is n)

-- a power up to n whose double is above n is the greatest
pub greatest_of : (n k : ℕ) → 2 ^ k ≤ n → n < 2 * 2 ^ k → 2 ^ k ≡ greatest_power n
greatest_of n k reached near =
    one_greatest n (2 ^ k) (greatest_power n) (record {
      power = (k, refl);
      reached = reached;
      greatest = λ j most.
          elim (cases_lt (2 ^ k) (2 ^ j)) [
            | inl more ↦ let h = doubled k j more in absurd (omega (arith, h, near, most))
            | inr less ↦ less
          ];
    }) (greatest_power-at n (let positive = pow_pos k in omega (arith, positive, reached)))
