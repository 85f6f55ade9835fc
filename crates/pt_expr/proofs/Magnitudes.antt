-- How far values are from 0, by what their expressions were found to be.
use Rattle.std.proofs.Common.{◌≡◌, ℕ, zero, suc, ◌+◌, ◌-◌, ◌*◌, ◌/◌, ◌<◌, ◌≤◌, ◌^◌, Bool, true, false, refl, sym, ap, ◌∙◌, arith, ℤ, pos, negsuc, neg_ℤ, ◌+ℤ◌, ◌-ℤ◌, ◌*ℤ◌}
use Rattle.std.specs.Prelude.{unsigned_abs, int_div, int_rem, FitsSigned, not, ◌&&◌, ◌==◌}
use Rattle.std.specs.Int.{w128}
use Rattle.std.proofs.lemmas.Int.{ints, fits_signed_from_abs, rem_below, unsigned_abs-mul}
use Rattle.std.proofs.Math.Nat.{div-le_self}
use Rattle.std.proofs.lemmas.Bool.{and_parts, eq-eqb, not-true}
use Rattle.pt_value.specs.declared.value.Value.{Value}
use Rattle.pt_value.specs.declared.value.Value.TheVariants as value
use Rattle.pt_ast.specs.declared.tree.Op.{Op}
use Rattle.pt_ast.specs.declared.tree.Op.TheVariants as op
use Rattle.pt_expr.specs.declared.found.Shape.{Shape}
use Rattle.pt_expr.specs.declared.found.Shape.TheVariants as shape
use Rattle.pt_expr.specs.declared.found.Found.{Found}
use Rattle.pt_expr.specs.Agrees.{AgreesBy, CanMultiply, FitsWide, IsJust, IsWithin}
use Rattle.pt_expr.specs.Found.{bound_after, is_literal, may_be_wide, takes}
use Rattle.pt_expr.specs.Values.{on_numbers, plus, times}

-- ---- magnitudes

pub abs-neg : (z : ℤ) → unsigned_abs (neg_ℤ z) ≡ unsigned_abs z
abs-neg (pos zero) = refl
abs-neg (pos (suc n)) = refl
abs-neg (negsuc n) = refl

abs-plus : (a b : ℤ) → unsigned_abs (a +ℤ b) ≤ unsigned_abs a + unsigned_abs b
abs-plus a b = omega (arith, ints)

abs-minus : (a b : ℤ) → unsigned_abs (a -ℤ b) ≤ unsigned_abs a + unsigned_abs b
abs-minus a b = omega (arith, ints)

abs-quot : (a b : ℤ) → unsigned_abs (int_div a b) ≤ unsigned_abs a
abs-quot (pos a) (pos b) = div-le_self a b
abs-quot (pos a) (negsuc b) = rw (abs-neg (pos (a / suc b))) (div-le_self a (suc b))
abs-quot (negsuc a) (pos b) = rw (abs-neg (pos (suc a / b))) (div-le_self (suc a) b)
abs-quot (negsuc a) (negsuc b) = div-le_self (suc a) (suc b)

abs-zero : (z : ℤ) → z ≡ pos 0 → unsigned_abs z ≡ 0
abs-zero z e = ap unsigned_abs e

mul-mono : (a b m n : ℕ) → a ≤ m → b ≤ n → a * b ≤ m * n
mul-mono a b m n p q = grind arith

narrow_fits : (z : ℤ) → unsigned_abs z < 2 ^ 126 → FitsSigned w128 z
narrow_fits z h = fits_signed_from_abs w128 z (omega arith)

-- ---- values

pub fits_within : (b : ℕ) (v : Value) → b < 2 ^ 126 → IsWithin b v → FitsWide v
fits_within b value.Null h w = tt
fits_within b (value.Int n) h w = narrow_fits n (omega arith)
fits_within b (value.Day day) h w = tt
fits_within b (value.Bytes bytes) h w = tt

just_within : (b : ℕ) (v : Value) → IsJust b v → IsWithin b v
just_within b value.Null j = tt
just_within b (value.Int n) j = omega arith
just_within b (value.Day day) j = j
just_within b (value.Bytes bytes) j = j

null_within : (b : ℕ) (v : Value) → AgreesBy shape.Null b v → IsWithin b v
null_within b value.Null j = tt
null_within b (value.Int n) j = absurd j
null_within b (value.Day day) j = absurd j
null_within b (value.Bytes bytes) j = absurd j

-- what has a place among whole numbers is one, or NULL
pub wide_within : (s : Shape) (b : ℕ) (v : Value) → may_be_wide s ≡ true → AgreesBy s b v → IsWithin b v
wide_within shape.Null b v w a = null_within b v a
wide_within shape.Number b v w a = just_within b v a
wide_within shape.Signed b v w a = just_within b v a
wide_within shape.Wide b v w a = a
wide_within shape.Day b v w a = absurd (cc)
wide_within shape.DayText b v w a = absurd (cc)
wide_within shape.OtherText b v w a = absurd (cc)
wide_within shape.Bytes b v w a = absurd (cc)

literal_just : (s : Shape) (b : ℕ) (v : Value) → is_literal s ≡ true → AgreesBy s b v → IsJust b v
literal_just shape.Null b v w a = absurd (cc)
literal_just shape.Number b v w a = a
literal_just shape.Signed b v w a = a
literal_just shape.Wide b v w a = absurd (cc)
literal_just shape.Day b v w a = absurd (cc)
literal_just shape.DayText b v w a = absurd (cc)
literal_just shape.OtherText b v w a = absurd (cc)
literal_just shape.Bytes b v w a = absurd (cc)

pub plus_within : (m : Bool) (a b : ℕ) (v w : Value) → IsWithin a v → IsWithin b w → IsWithin (a + b) (plus v (m, w))
plus_within m a b value.Null w p q = tt
plus_within m a b (value.Int n) value.Null p q = tt
plus_within true a b (value.Int n) (value.Int k) p q = omega (arith, abs-minus n k)
plus_within false a b (value.Int n) (value.Int k) p q = omega (arith, abs-plus n k)
plus_within m a b (value.Int n) (value.Day day) p q = absurd q
plus_within m a b (value.Int n) (value.Bytes bytes) p q = absurd q
plus_within m a b (value.Day day) w p q = absurd p
plus_within m a b (value.Bytes bytes) w p q = absurd p

-- ---- products

-- a divisor is a number, and not 0
record IsDivisor (b : ℕ) (v : Value) : Type 0 where
  just : IsJust b v
  some : ¬ (b ≡ 0)

divisor : (s : Shape) (b : ℕ) (v : Value) → (is_literal s && not (b == 0)) ≡ true → AgreesBy s b v → IsDivisor b v
divisor s b v h a =
    let parts = and_parts (is_literal s) (not (b == 0)) h in
    record { just = literal_just s b v parts.0 a; some = λ e. absurd (let zero : (b == 0) ≡ true = eq-eqb b 0 e in let other : (b == 0) ≡ false = not-true (b == 0) parts.1 in cc) }

div_within : (a b : ℕ) (v w : Value) → IsWithin a v → IsDivisor b w → IsWithin a (on_numbers int_div v w)
div_within a b value.Null w p d = tt
div_within a b (value.Int n) (value.Int k) p d = omega (arith, abs-quot n k)
div_within a b (value.Int n) value.Null p d = tt
div_within a b (value.Int n) (value.Day day) p d = tt
div_within a b (value.Int n) (value.Bytes bytes) p d = tt
div_within a b (value.Day day) w p d = absurd p
div_within a b (value.Bytes bytes) w p d = absurd p

rem_within : (a b : ℕ) (v w : Value) → IsWithin a v → IsDivisor b w → IsWithin (b - 1) (on_numbers int_rem v w)
rem_within a b value.Null w p d = tt
rem_within a b (value.Int n) (value.Int k) p d =
    let just : unsigned_abs k ≡ b = d.just in
    let some : 0 < unsigned_abs k = omega (arith, d.some) in
    omega (arith, rem_below n k some)
rem_within a b (value.Int n) value.Null p d = tt
rem_within a b (value.Int n) (value.Day day) p d = tt
rem_within a b (value.Int n) (value.Bytes bytes) p d = tt
rem_within a b (value.Day day) w p d = absurd p
rem_within a b (value.Bytes bytes) w p d = absurd p

mul_within : (a b : ℕ) (v w : Value) → IsWithin a v → IsWithin b w → IsWithin (a * b) (on_numbers ◌*ℤ◌ v w)
mul_within a b value.Null w p q = tt
mul_within a b (value.Int n) value.Null p q = tt
mul_within a b (value.Int n) (value.Int k) p q = rw (unsigned_abs-mul n k) (mul-mono (unsigned_abs n) (unsigned_abs k) a b p q)
mul_within a b (value.Int n) (value.Day day) p q = absurd q
mul_within a b (value.Int n) (value.Bytes bytes) p q = absurd q
mul_within a b (value.Day day) w p q = absurd p
mul_within a b (value.Bytes bytes) w p q = absurd p

pub times_within : (o : Op) (a : ℕ) (part : Found) (v w : Value) → takes o part ≡ true → IsWithin a v → AgreesBy part.shape part.bound w → IsWithin (bound_after a o part.bound) (times v (o, w))
times_within op.Times a part v w t p q = mul_within a part.bound v w p (wide_within part.shape part.bound w t q)
times_within op.Div a part v w t p q = div_within a part.bound v w p (divisor part.shape part.bound w t q)
times_within op.Mod a part v w t p q = rem_within a part.bound v w p (divisor part.shape part.bound w t q)

mul_fits : (a b : ℕ) (v w : Value) → a * b < 2 ^ 126 → IsWithin a v → IsWithin b w → CanMultiply op.Times v w
mul_fits a b value.Null w h p q = tt
mul_fits a b (value.Int n) value.Null h p q = tt
mul_fits a b (value.Int n) (value.Int k) h p q = narrow_fits (n *ℤ k) (let m = mul_within a b (value.Int n) (value.Int k) p q in omega arith)
mul_fits a b (value.Int n) (value.Day day) h p q = tt
mul_fits a b (value.Int n) (value.Bytes bytes) h p q = tt
mul_fits a b (value.Day day) w h p q = tt
mul_fits a b (value.Bytes bytes) w h p q = tt

div_fits : (a b : ℕ) (n k : ℤ) → a < 2 ^ 126 → unsigned_abs n ≤ a → unsigned_abs k ≡ b → ¬ (b ≡ 0) → ¬ (k ≡ pos 0) × FitsSigned w128 (int_div n k)
div_fits a b n k h p just some = ((λ e. some (sym just ∙ abs-zero k e)), narrow_fits (int_div n k) (omega (arith, abs-quot n k)))

div_can : (a b : ℕ) (v w : Value) → a < 2 ^ 126 → IsWithin a v → IsDivisor b w → CanMultiply op.Div v w
div_can a b value.Null w h p d = tt
div_can a b (value.Int n) value.Null h p d = tt
div_can a b (value.Int n) (value.Int k) h p d = div_fits a b n k h p d.just d.some
div_can a b (value.Int n) (value.Day day) h p d = tt
div_can a b (value.Int n) (value.Bytes bytes) h p d = tt
div_can a b (value.Day day) w h p d = tt
div_can a b (value.Bytes bytes) w h p d = tt

as_mod : (v w : Value) → CanMultiply op.Div v w → CanMultiply op.Mod v w
as_mod value.Null w c = tt
as_mod (value.Int n) value.Null c = tt
as_mod (value.Int n) (value.Int k) c = c
as_mod (value.Int n) (value.Day day) c = tt
as_mod (value.Int n) (value.Bytes bytes) c = tt
as_mod (value.Day day) w c = tt
as_mod (value.Bytes bytes) w c = tt

-- an operation of a product that was found well doesn't overflow
pub times_can : (o : Op) (a : ℕ) (part : Found) (v w : Value) → a < 2 ^ 126 → bound_after a o part.bound < 2 ^ 126 → takes o part ≡ true → IsWithin a v → AgreesBy part.shape part.bound w → CanMultiply o v w
times_can op.Times a part v w h next t p q = mul_fits a part.bound v w next p (wide_within part.shape part.bound w t q)
times_can op.Div a part v w h next t p q = div_can a part.bound v w h p (divisor part.shape part.bound w t q)
times_can op.Mod a part v w h next t p q = as_mod v w (div_can a part.bound v w h p (divisor part.shape part.bound w t q))
