-- Symbols that aren't deep are shallow, and so is what is left of them.
use Rattle.std.proofs.Common.{ℕ, zero, suc, pred, ◌<◌, ◌≤◌, [], ◌∷◌, take, drop, arith}
use Rattle.std.specs.List.{fold}
use Rattle.pt_parse_expr.specs.declared.alphabet.Mark.TheVariants.{Open, Close}
use Rattle.pt_parse_expr.specs.declared.alphabet.Symbol.{Symbol}
use Rattle.pt_parse_expr.specs.declared.alphabet.Symbol.TheVariants.{Fixed}
use Rattle.pt_parse_expr.specs.Grammar.{Symbols}
use Rattle.pt_parse_expr.specs.Limits.{IsDeep, IsShallow, open_after, open_behind}

shallow_from : (most height : ℕ) (ss : Symbols) → ((n : ℕ) → fold (λ h s. open_after s h) height (take n ss) ≤ most) → IsShallow most height ss
shallow_from most height [] low = tt
shallow_from most height (s ∷ ts) low = (low 1, shallow_from most (open_after s height) ts (λ n. low (suc n)))

pub shallow : (ss : Symbols) → (IsDeep ss → ⊥) → IsShallow 64 0 ss
shallow ss not_deep = shallow_from 64 0 ss (λ n. let other : 64 < open_behind (take n ss) → ⊥ = λ deep. not_deep (n, deep) in omega arith)

pred-rises : (a b : ℕ) → a ≤ b → pred a ≤ pred b
pred-rises zero b h = omega arith
pred-rises (suc a) zero h = absurd (omega arith)
pred-rises (suc a) (suc b) h = omega arith

rises : (s : Symbol) (a b : ℕ) → a ≤ b → open_after s a ≤ open_after s b
rises (Fixed Open) a b h = omega arith
rises (Fixed Close) a b h = pred-rises a b h
rises _ a b h = h

-- fewer that were open before keep them shallow
pub shallow-lower : (most a b : ℕ) (ss : Symbols) → a ≤ b → IsShallow most b ss → IsShallow most a ss
shallow-lower most a b [] h shallow = tt
shallow-lower most a b (s ∷ ts) h shallow =
    let rise = rises s a b h in
    (omega (arith, rise, shallow.0), shallow-lower most (open_after s a) (open_after s b) ts rise shallow.1)

pub shallow-drop : (most height n : ℕ) (ss : Symbols) → IsShallow most height ss → IsShallow most 0 (drop n ss)
shallow-drop most height zero ss shallow = shallow-lower most 0 height ss (omega arith) shallow
shallow-drop most height (suc n) [] shallow = tt
shallow-drop most height (suc n) (s ∷ ts) shallow = shallow-drop most (open_after s height) n ts shallow.1
