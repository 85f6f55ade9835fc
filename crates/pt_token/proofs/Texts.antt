-- A text ends where the cuts have its quote end, or further on where that quote is doubled.
use Rattle.std.proofs.Common.{◌≡◌, ℕ, suc, ◌+◌, cond, Bool, true, false, List, [], ◌∷◌, drop, Option, Some, None, refl, ap, ◌∙◌, arith}
use Rattle.std.specs.Prelude.{◌==◌, not}
use Rattle.std.specs.Option.{option_map, option_and_then}
use Rattle.pt_token.specs.declared.quoting.Quoting.{Quoting}
use Rattle.pt_token.specs.declared.quoting.Quoting.TheVariants.{Within, Escaped, Marked}
use Rattle.pt_token.specs.Quoting.{text_end}
use Rattle.pt_token.specs.Ends.{quote_end}
use Rattle.pt_token.specs.Laws.{doubled_end}

abbrev behind-mark : ℕ → List ℕ → Option ℕ → Option ℕ
behind-mark mark bytes end = option_and_then (λ n. option_map (λ more. n + more) (doubled_end mark (drop n bytes))) end

pub suc-plus : (n : ℕ) (o : Option ℕ) → option_map suc (option_map (λ more. n + more) o) ≡ option_map (λ more. suc n + more) o
suc-plus n None = refl
suc-plus n (Some more) = ap Some (omega arith)

plus-one : (o : Option ℕ) → option_map suc o ≡ option_map (λ more. 1 + more) o
plus-one None = refl
plus-one (Some more) = ap Some (omega arith)

suc-behind : (mark b : ℕ) (bytes : List ℕ) (end : Option ℕ) → option_map suc (behind-mark mark bytes end) ≡ behind-mark mark (b ∷ bytes) (option_map suc end)
suc-behind mark b bytes None = refl
suc-behind mark b bytes (Some n) = suc-plus n (doubled_end mark (drop n bytes))

marked : (mark : ℕ) (bytes : List ℕ) → text_end mark Marked bytes ≡ doubled_end mark bytes
unfolding text_end
marked mark [] = refl
marked mark (b ∷ bytes) = elim (b == mark) as (λ v. cond (not v) (Some 0) (option_map suc (text_end mark Within bytes)) ≡ cond v (option_map suc (text_end mark Within bytes)) (Some 0)) [
  | true ↦ refl
  | false ↦ refl
]

abbrev quoting : Bool → Quoting
quoting true = Escaped
quoting false = Within

texts : (mark : ℕ) (escaped : Bool) (bytes : List ℕ) → text_end mark (quoting escaped) bytes ≡ behind-mark mark bytes (quote_end mark escaped bytes)
unfolding text_end
texts mark true [] = refl
texts mark false [] = refl
texts mark true (b ∷ bytes) = ap (option_map suc) (texts mark false bytes) ∙ suc-behind mark b bytes (quote_end mark false bytes)
texts mark false (b ∷ bytes) =
    elim (b == 92) as (λ v. option_map suc (text_end mark (cond v Escaped (cond (b == mark) Marked Within)) bytes)
    ≡ behind-mark mark (b ∷ bytes) (cond v (option_map suc (quote_end mark true bytes)) (cond (b == mark) (Some 1) (option_map suc (quote_end mark false bytes))))) [
      | true ↦ ap (option_map suc) (texts mark true bytes) ∙ suc-behind mark b bytes (quote_end mark true bytes)
      | false ↦ elim (b == mark) as (λ v. option_map suc (text_end mark (cond v Marked Within) bytes)
          ≡ behind-mark mark (b ∷ bytes) (cond v (Some 1) (option_map suc (quote_end mark false bytes)))) [
            | true ↦ ap (option_map suc) (marked mark bytes) ∙ plus-one (doubled_end mark bytes)
            | false ↦ ap (option_map suc) (texts mark false bytes) ∙ suc-behind mark b bytes (quote_end mark false bytes)
          ]
    ]

pub text-ends : (mark : ℕ) (bytes : List ℕ) → text_end mark Within bytes ≡ behind-mark mark bytes (quote_end mark false bytes)
text-ends mark bytes = texts mark false bytes
