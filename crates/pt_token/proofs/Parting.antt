-- The pieces are what stands between the cuts.
use Rattle.std.proofs.Common.{◌≡◌, inl, inr, ◌⊎◌, ℕ, zero, suc, ◌+◌, ◌≤◌, List, [], ◌∷◌, length, take, drop, Option, Some, None, refl, ap, ◌∙◌, sym, subst, arith, append-nil, length-drop}
use Rattle.pt_token.specs.declared.state.State.TheVariants.{Plain}
use Rattle.pt_token.specs.Pieces.{cut_in, pieces, pieces_after}
use Rattle.pt_token.specs.Outside.{IsCutAt, ArePieces, last, more}
use Rattle.pt_token.proofs.Cutting.{cut_of_first, first_of_cut}
use Rattle.pt_token.proofs.Feeding.{goes_on, pieces-goes_on}

by_cut : (bytes : List ℕ) (cut : Option ℕ) → cut_in Plain bytes ≡ cut → pieces bytes ≡ goes_on cut [] bytes []
by_cut bytes cut e = ap (pieces_after []) (sym (append-nil bytes)) ∙ pieces-goes_on [] bytes [] ∙ ap (λ c. goes_on c [] bytes []) e

pieces_whole : (bytes : List ℕ) → cut_in Plain bytes ≡ None → pieces bytes ≡ bytes ∷ []
unfolding pieces_after
pieces_whole bytes e = by_cut bytes None e

pieces_cut : (bytes : List ℕ) (place : ℕ) → cut_in Plain bytes ≡ Some place → pieces bytes ≡ take place bytes ∷ pieces (drop (place + 1) bytes)
pieces_cut bytes place e = by_cut bytes (Some place) e ∙ ap (λ left. take place bytes ∷ pieces left) (append-nil (drop (place + 1) bytes))

cut_cases : (cut : Option ℕ) → (cut ≡ None) ⊎ ((place : ℕ) × (cut ≡ Some place))
cut_cases None = inl refl
cut_cases (Some place) = inr (place, refl)

no_cut : (bytes : List ℕ) → cut_in Plain bytes ≡ None → (place : ℕ) → IsCutAt bytes place → ⊥
no_cut bytes e place h = let found : cut_in Plain bytes ≡ Some place = cut_of_first bytes place h in cc

parts_in : (most : ℕ) (bytes : List ℕ) → length bytes ≤ most → ArePieces bytes (pieces bytes)
unfolding pieces_after cut_in
parts_in most [] fits = last (no_cut [] refl)
parts_in zero (b ∷ bytes) fits = absurd (omega arith)
parts_in (suc most) (b ∷ bytes) fits = elim (cut_cases (cut_in Plain (b ∷ bytes))) [
  | inl none ↦ subst (ArePieces (b ∷ bytes)) (sym (pieces_whole (b ∷ bytes) none)) (last (no_cut (b ∷ bytes) none))
  | inr found ↦ subst (ArePieces (b ∷ bytes)) (sym (pieces_cut (b ∷ bytes) found.0 found.1))
      (more (first_of_cut (b ∷ bytes) found.0 found.1) (parts_in most (drop (found.0 + 1) (b ∷ bytes)) (omega (arith, length-drop (found.0 + 1) (b ∷ bytes)))))
]

pub parts_of_pieces : (script : List ℕ) (found : List (List ℕ)) → pieces script ≡ found → ArePieces script found
parts_of_pieces script found e = subst (ArePieces script) e (parts_in (length script) script (omega arith))

pub pieces_of_parts : (script : List ℕ) (found : List (List ℕ)) → ArePieces script found → pieces script ≡ found
pieces_of_parts script _ (last none) = pieces_whole script (elim (cut_cases (cut_in Plain script)) [
  | inl whole ↦ whole
  | inr found ↦ absurd (none found.0 (first_of_cut script found.0 found.1))
])
pieces_of_parts script _ (more {place = place} {pieces = rest} cut parts) =
    pieces_cut script place (cut_of_first script place cut) ∙ ap (λ ps. take place script ∷ ps) (pieces_of_parts (drop (place + 1) script) rest parts)
