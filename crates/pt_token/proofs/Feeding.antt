-- The pieces of a script, fed by chunks.
use Rattle.std.proofs.Common.{◌≡◌, ℕ, suc, ◌+◌, cond, true, false, List, [], ◌∷◌, ◌++◌, length, take, drop, Option, Some, None, refl, ap, ◌∙◌, sym, arith, append_assoc, append-nil}
use Rattle.std.specs.Option.{option_map, is_some}
use Rattle.std.proofs.lemmas.List.{drop_all}
use Rattle.pt_token.specs.declared.state.State.TheVariants.{Plain}
use Rattle.pt_token.specs.Machine.{step, is_cut, run}
use Rattle.pt_token.specs.Pieces.{cut_in, pieces_after, before_cut, used_by}
use Rattle.pt_token.specs.Laws.{fed_pieces}
use Rattle.pt_token.proofs.Loops.{run-push}

-- the pieces behind a cut, or behind the bytes where there is none
abbrev pub goes_on : Option ℕ → List ℕ → List ℕ → List ℕ → List (List ℕ)
goes_on None piece bytes rest = pieces_after (piece ++ bytes) rest
goes_on (Some place) piece bytes rest = (piece ++ take place bytes) ∷ pieces_after [] (drop (place + 1) bytes ++ rest)

goes_on-byte : (cut : Option ℕ) (piece : List ℕ) (b : ℕ) (bytes rest : List ℕ) → goes_on cut (piece ++ b ∷ []) bytes rest ≡ goes_on (option_map suc cut) piece (b ∷ bytes) rest
goes_on-byte None piece b bytes rest = ap (λ p. pieces_after p rest) (append_assoc piece (b ∷ []) bytes)
goes_on-byte (Some place) piece b bytes rest =
    let later : suc (place + 1) ≡ suc place + 1 = omega arith in
    ap (λ p. p ∷ pieces_after [] (drop (place + 1) bytes ++ rest)) (append_assoc piece (b ∷ []) (take place bytes))
    ∙ ap (λ n. (piece ++ take (suc place) (b ∷ bytes)) ∷ pieces_after [] (drop n (b ∷ bytes) ++ rest)) later

pub pieces-goes_on : (piece bytes rest : List ℕ) → pieces_after piece (bytes ++ rest) ≡ goes_on (cut_in (run Plain piece) bytes) piece bytes rest
unfolding pieces_after cut_in
pieces-goes_on piece [] rest = ap (λ p. pieces_after p rest) (sym (append-nil piece))
pieces-goes_on piece (b ∷ bytes) rest =
    elim (is_cut (run Plain piece) b) as (λ v. cond v (piece ∷ pieces_after [] (bytes ++ rest)) (pieces_after (piece ++ b ∷ []) (bytes ++ rest)) ≡ goes_on (cond v (Some 0) (option_map suc (cut_in (step (run Plain piece) b) bytes))) piece (b ∷ bytes) rest) [
      | true ↦ ap (λ p. p ∷ pieces_after [] (bytes ++ rest)) (sym (append-nil piece))
      | false ↦ pieces-goes_on (piece ++ b ∷ []) bytes rest
          ∙ ap (λ s. goes_on (cut_in s bytes) (piece ++ b ∷ []) bytes rest) (run-push Plain piece b)
          ∙ goes_on-byte (cut_in (step (run Plain piece) b) bytes) piece b bytes rest
    ]

goes_on-fed : (cut : Option ℕ) (piece bytes rest : List ℕ) → goes_on cut piece bytes rest
    ≡ cond (is_some cut) ((piece ++ before_cut cut bytes) ∷ pieces_after [] (drop (used_by cut bytes) bytes ++ rest)) (pieces_after (piece ++ before_cut cut bytes) (drop (used_by cut bytes) bytes ++ rest))
goes_on-fed None piece bytes rest = let none : drop (length bytes) bytes ≡ [] = drop_all (length bytes) bytes (omega arith) in ap (λ left. pieces_after (piece ++ bytes) (left ++ rest)) (sym none)
goes_on-fed (Some place) piece bytes rest = refl

pub pieces-fed : (piece bytes rest : List ℕ) → pieces_after piece (bytes ++ rest) ≡ fed_pieces piece bytes rest
pieces-fed piece bytes rest = pieces-goes_on piece bytes rest ∙ goes_on-fed (cut_in (run Plain piece) bytes) piece bytes rest
