-- A valid definition has few spots.
use Rattle.std.proofs.Common.{◌≡◌, ℕ, zero, suc, ◌-◌, ◌*◌, ◌<◌, ◌≤◌, ◌^◌, min, Bool, true, false, cond, List, [], ◌∷◌, length, get_or, None, refl, sym, ap, subst, arith, nat_lt}
use Rattle.std.proofs.Math.Nat.{suc-mul}
use Rattle.std.proofs.lemmas.Bool.{eqb-true, ltb-false, ltb-true, not-false}
use Rattle.pt_ast.specs.declared.refusal.Refusal.{Refusal}
use Rattle.pt_ast.specs.declared.table.PartDef.{PartDef}
use Rattle.pt_ast.specs.declared.table.TableDef.{TableDef}
use Rattle.pt_place.specs.Checks.{is_whole}
use Rattle.pt_place.specs.First.{first_in, refused_if}
use Rattle.pt_place.specs.Place.{subs_at}
use Rattle.pt_place.specs.Valid.{IsValid, first_subs, other_subs}
use Rattle.pt_place.proofs.Firsts.{none_first, none_next, passes}
use Rattle.pt_place.proofs.Passing.{can_find, passed}

at_most : (n : ℕ) (r : Refusal) → refused_if (nat_lt 8192 (min n (2 ^ 64 - 1))) r ≡ None → n ≤ 8192
at_most n r e = let within = ltb-false _ _ (passes _ _ e) in omega (arith, within)

right_most : (a b : ℕ) → 0 < a → a * b ≤ 8192 → b ≤ 8192
right_most zero b some most = absurd (omega (arith, some))
right_most (suc a) b some most = omega (arith, most, suc-mul a b)

-- each partition has as many subpartitions as the first
alike_at : (all parts : List PartDef) (i : ℕ) → first_in (other_subs all) parts ≡ None → i < length parts → length (subs_at parts i) ≡ first_subs all
alike_at all [] i e within = absurd (omega (arith, within))
alike_at all (p ∷ ps) zero e within = eqb-true _ _ (not-false _ (passes _ _ (none_first _ _ e)))
alike_at all (p ∷ ps) (suc i) e within = alike_at all ps i (none_next _ _ e) (omega (arith, within))

beyond : (parts : List PartDef) (i : ℕ) → length parts ≤ i → length (subs_at parts i) ≡ 0
beyond [] i past = refl
beyond (p ∷ ps) zero past = absurd (omega (arith, past))
beyond (p ∷ ps) (suc i) past = beyond ps i (omega (arith, past))

pub subs_found : (parts : List PartDef) (i : ℕ) (own : PartDef) → i < length parts → own ≡ get_or parts i own → subs_at parts i ≡ own.subs
subs_found [] i own within is = absurd (omega (arith, within))
subs_found (p ∷ ps) zero own within is = ap (λ (part : PartDef). part.subs) (sym is)
subs_found (p ∷ ps) (suc i) own within is = subs_found ps i own (omega (arith, within)) is

pub few_parts : (def : TableDef) → IsValid def → length def.parts < 2 ^ 32
few_parts def valid = (can_find def valid).few

pub few_subs : (def : TableDef) → IsValid def → (part : ℕ) → is_whole def.sub ≡ false → length (subs_at def.parts part) < 2 ^ 32
few_subs def valid part whole = by (nat_lt part (length def.parts)) refl
  where
    by : (b : Bool) → nat_lt part (length def.parts) ≡ b → length (subs_at def.parts part) < 2 ^ 32
    by true e =
        let p = passed def valid in
        let within : part < length def.parts = ltb-true _ _ e in
        let leaves : length def.parts * cond (is_whole def.sub) 1 (first_subs def.parts) ≤ 8192 = at_most _ _ p.few in
        let most : length def.parts * first_subs def.parts ≤ 8192 = subst (λ b. length def.parts * cond b 1 (first_subs def.parts) ≤ 8192) whole leaves in
        let few : first_subs def.parts ≤ 8192 = right_most (length def.parts) (first_subs def.parts) (omega (arith, within)) most in
        omega (arith, few, alike_at def.parts def.parts part p.alike within)
    by false e = omega (arith, beyond def.parts part (ltb-false _ _ e))
