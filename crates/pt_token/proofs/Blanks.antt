-- Gaps from a place to the end.
use Rattle.std.proofs.Common.{◌≡◌, ℕ, Bool, true, false, List, [], ◌∷◌, length, drop, Some, None, subst, sym, arith}
use Rattle.std.specs.Prelude.{◌==◌}
use Rattle.std.proofs.lemmas.Bool.Decides.{nat_tests}
use Rattle.pt_token.specs.declared.gap.Gap.{Gap}
use Rattle.pt_token.specs.Gap.{next_gap, AreGaps, done, more}

-- what is left behind the first gap
pub after_gap : (inside : Bool) (bytes : List ℕ) (g : Gap) → (length bytes == 0) ≡ false → next_gap inside bytes ≡ Some g → AreGaps inside bytes → AreGaps g.inside (drop g.length bytes)
after_gap inside _ g some is done = absurd (cc)
after_gap inside bytes g some is (more {g = h} e rest) = let same : h ≡ g = cc in subst (λ k. AreGaps k.inside (drop k.length bytes)) same rest

pub no_gap : (inside : Bool) (bytes : List ℕ) → (length bytes == 0) ≡ false → next_gap inside bytes ≡ None → AreGaps inside bytes → ⊥
no_gap inside _ some none done = cc
no_gap inside bytes some none (more e rest) = cc

pub all_gaps : (inside : Bool) (bytes : List ℕ) → (length bytes == 0) ≡ true → AreGaps inside bytes
all_gaps inside [] empty = done
all_gaps inside (b ∷ bytes) empty = absurd (grind (arith, nat_tests))

pub gaps_on : (inside : Bool) (bytes rest : List ℕ) (g : Gap) → next_gap inside bytes ≡ Some g → rest ≡ drop g.length bytes → AreGaps g.inside rest → AreGaps inside bytes
gaps_on inside bytes rest g is same gaps = more is (subst (λ xs. AreGaps g.inside xs) same gaps)

pub gaps_back : (inside : Bool) (bytes rest : List ℕ) (g : Gap) → (length bytes == 0) ≡ false → next_gap inside bytes ≡ Some g → rest ≡ drop g.length bytes → AreGaps inside bytes → AreGaps g.inside rest
gaps_back inside bytes rest g some is same gaps = subst (λ xs. AreGaps g.inside xs) (sym same) (after_gap inside bytes g some is gaps)
