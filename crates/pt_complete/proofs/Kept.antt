-- Truth values of tests that fail, and numbers that fit.
use Rattle.std.proofs.Common.{◌≡◌, ℤ, Bool, true, false, not, ◌||◌, refl, arith}
use Rattle.std.proofs.lemmas.Int.{ints}
use Rattle.pt_value.specs.declared.value.Kind.TheVariants as kind
use Rattle.pt_value.specs.declared.value.Value.TheVariants as value
use Rattle.pt_place.specs.Fitting.{is_in_range}

pub not_false : (b : Bool) → not b ≡ false → b ≡ true
not_false true e = refl
not_false false e = cc

pub first_false : (a b : Bool) → (a || b) ≡ false → a ≡ false
first_false true b e = e
first_false false b e = refl

pub second_false : (a b : Bool) → (a || b) ≡ false → b ≡ false
second_false true b e = cc
second_false false b e = e

pub int_big : (n : ℤ) → is_in_range kind.Int (value.Int n) ≡ true → is_in_range kind.BigInt (value.Int n) ≡ true
int_big n e = grind (arith, ints, e)
