-- From readings and rests to places: what is read from a place on is spelled there, reaches furthest, and is the only reading.
use Rattle.std.proofs.Common.{◌≡◌, ℕ, zero, suc, ◌+◌, ◌-◌, ◌<◌, ◌≤◌, Bool, [], ◌∷◌, ◌++◌, length, take, drop, slice_range, Some, None, refl, ap, ◌∙◌, sym, subst, arith, length-drop, length-append, append-nil, inl, inr, ◌⊎◌}
use Rattle.std.proofs.Math.Seq.{take-append_seam}
use Rattle.std.proofs.lemmas.Bool.{cases_lt}
use Rattle.std.proofs.lemmas.List.Folds.{drop_split}
use Rattle.pt_parse_expr.specs.Grammar.{Symbols}
use Rattle.pt_parse_expr.specs.declared.alphabet.Mark.TheVariants.{Open, Close}
use Rattle.pt_parse_expr.specs.declared.alphabet.Symbol.{Symbol}
use Rattle.pt_parse_expr.specs.declared.alphabet.Symbol.TheVariants.{Fixed}
use Rattle.pt_parse_expr.specs.Limits.{IsShallow, open_after}
use Rattle.pt_parse_expr.specs.Spelling.{IsLongest, IsUnspelled, OneReading}
use Rattle.pt_parse_expr.specs.Reader.{Reading}
use Rattle.pt_parse_expr.proofs.Sound.{Sound}
use Rattle.pt_parse_expr.proofs.Frame.{Framed}
use Rattle.pt_parse_expr.proofs.Covers.{Covers, covers-exact, covers-far}
use Rattle.pt_parse_expr.proofs.Complete.{expr-covers, cond-covers}

-- ---- fronts

-- what stands before a place, where the symbols are a front and what comes from that place on
front-is : (ts taken : Symbols) (at next : ℕ) → at ≤ next → next ≤ length ts → drop at ts ≡ taken ++ drop next ts → slice_range ts at next ≡ taken
front-is ts taken at next low high is =
    let e = simp (length-append, length-drop) at (ap length is) in
    let n : next - at ≡ length taken = omega (arith, e) in
    ap (λ (n : ℕ). take n (drop at ts)) n ∙ ap (take (length taken)) is ∙ take-append_seam taken (drop next ts)

rest-is : (ts : Symbols) (at end : ℕ) → at ≤ end → slice_range ts at end ++ drop end ts ≡ drop at ts
rest-is ts at end low = sym (drop_split ts at end low)

module _ {A : Type 0} (R : Symbols → A → Symbols → Type 0) (framed : (ts rest : Symbols) (x : A) → R ts x rest → Framed (λ us vs. R us x vs) ts rest) where
  -- what leaves a rest is spelled by what stands before it
  pub spelled : (ts : Symbols) (at next : ℕ) (x : A) → at ≤ next → next ≤ length ts → R (drop at ts) x (drop next ts) → R (slice_range ts at next) x []
  spelled ts at next x low high d =
      let f = framed (drop at ts) (drop next ts) x d in
      subst (λ us. R us x []) (append-nil f.taken ∙ sym (front-is ts f.taken at next low high f.is)) (f.alone [])

  -- what is spelled leaves any rest
  pub extended : (ts : Symbols) (at end : ℕ) (y : A) → at ≤ end → R (slice_range ts at end) y [] → R (drop at ts) y (drop end ts)
  extended ts at end y low d =
      let f = framed (slice_range ts at end) [] y d in
      subst (λ us. R us y (drop end ts))
      (ap (λ us. us ++ drop end ts) (sym (append-nil f.taken) ∙ sym f.is) ∙ rest-is ts at end low)
      (f.alone (drop end ts))

-- ---- what is read from a place on, where the symbols from there are shallow

module _ {A : Type 0} (R : Symbols → A → Symbols → Type 0) (framed : (ts rest : Symbols) (x : A) → R ts x rest → Framed (λ us vs. R us x vs) ts rest)
    (goes_on : Symbols → Bool) (ts : Symbols) (at : ℕ) (reading : Reading A)
    (sound : Sound R (drop at ts) reading) (covered : (y : A) (rest : Symbols) → R (drop at ts) y rest → Covers goes_on reading y rest) where
  pub longest : (x : A) (next : ℕ) → reading ≡ Some (x, drop next ts) → at ≤ next → next ≤ length ts → IsLongest (λ us y. R us y []) ts at x next
  longest x next is low high = record {
    spelled = spelled R framed ts at next x low high (subst (Sound R (drop at ts)) is sound);
    longest = λ end y from to d.
        let far = covers-far (subst (λ r. Covers goes_on r y (drop end ts)) is (covered y (drop end ts) (extended R framed ts at end y from d))) in
        omega (arith, far, length-drop next ts, length-drop end ts);
    within = (low, high);
  }

  pub unspelled : reading ≡ None → IsUnspelled (λ us y. R us y []) ts at
  unspelled is end y d = by_order (cases_lt end at) where
    none : (end : ℕ) → at ≤ end → R (slice_range ts at end) y [] → ⊥
    none end from d = elim (subst (λ r. Covers goes_on r y (drop end ts)) is (covered y (drop end ts) (extended R framed ts at end y from d))) [ ]

    by_order : (end < at) ⊎ (at ≤ end) → ⊥
    by_order (inl before) = none at (omega arith) (subst (λ (n : ℕ). R (take n (drop at ts)) y []) (omega arith) d)
    by_order (inr from) = none end from d

-- ---- symbols are no deeper than there are symbols

open_after-le : (s : Symbol) (height : ℕ) → open_after s height ≤ suc height
open_after-le (Fixed Open) height = omega arith
open_after-le (Fixed Close) zero = omega arith
open_after-le (Fixed Close) (suc height) = omega arith
open_after-le _ height = omega arith

pub shallow-length : (ts : Symbols) (most height : ℕ) → height + length ts ≤ most → IsShallow most height ts
shallow-length [] most height fits = tt
shallow-length (s ∷ ts) most height fits =
    let le = open_after-le s height in
    (omega (arith, le), shallow-length ts most (open_after s height) (omega (arith, le)))

-- ---- one reading

same : {A : Type 0} {x y : A} {us vs : Symbols} {r : Reading A} → r ≡ Some (x, us) → r ≡ Some (y, vs) → x ≡ y
same {x = x} e f = ap (λ r. elim r [ None ↦ x | Some p ↦ p.0 ]) (sym e ∙ f)

pub one_reading : OneReading
one_reading = record {
  expr = λ ts x y d e.
      let n = length ts in
      let shallow = shallow-length ts n 0 (omega arith) in
      same (covers-exact (expr-covers d n n 0 (omega arith) shallow) refl) (covers-exact (expr-covers e n n 0 (omega arith) shallow) refl);
  cond = λ ts x y d e.
      let n = length ts in
      let shallow = shallow-length ts n 0 (omega arith) in
      same (covers-exact (cond-covers d n n 0 (omega arith) shallow) refl) (covers-exact (cond-covers e n n 0 (omega arith) shallow) refl);
}
