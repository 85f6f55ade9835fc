-- The residue is below the modulus, and a multiple of it away from the number.
use Rattle.std.proofs.Common.{◌≡◌, ℕ, zero, suc, ◌+◌, ◌-◌, ◌*◌, ◌/◌, ◌%◌, ◌<◌, sym, ap, arith, ℤ, pos, negsuc, ◌+ℤ◌, ◌*ℤ◌}
use Rattle.std.proofs.lemmas.Int.{ints}
use Rattle.std.proofs.lemmas.Nat.{div-add-mod', mod_below}
use Rattle.pt_value.specs.Hashes.{IsResidue, residue}

-- -(a + 1) is m - 1 - r above -(q + 1) * m, where a is q * m + r
below_zero : (a q m r : ℕ) → q * suc m + r ≡ a → r < suc m → negsuc a ≡ negsuc q *ℤ pos (suc m) +ℤ pos (suc m - 1 - r)
below_zero a q m r e below = omega (arith, ints, e, below)

pub residue-is : (number : ℤ) (m : ℕ) → 0 < m → IsResidue number m (residue number m)
residue-is number zero some = absurd (omega (arith, some))
residue-is (pos a) (suc m) some = record {
  below = mod_below a (suc m) some;
  apart = (pos (a / suc m), ap pos (sym (div-add-mod' a (suc m))));
}
residue-is (negsuc a) (suc m) some =
    let low = mod_below a (suc m) some in
    record {
      below = omega (arith, low);
      apart = (negsuc (a / suc m), below_zero a (a / suc m) m (a % suc m) (div-add-mod' a (suc m)) low);
    }
