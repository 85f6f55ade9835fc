-- Which `;` of a script ends a piece, told quote by quote and comment by comment, and the pieces between.
use Rattle.std.specs.Prelude.{◌≡◌, ℕ, suc, ◌+◌, false, ◌&&◌, ◌||◌, ◌==◌, if◌then◌else◌, List, [], ◌∷◌, take, drop, slice_index, Option, Some}
use Rattle.std.specs.Option.{option_map}
use Rattle.pt_token.specs.Bytes.{is_white}
use Rattle.pt_token.specs.Ends.{line_end, quote_end}
use Rattle.pt_token.specs.Gap.{opened_end}

-- behind `-`: a second one with white space behind it, and the line
abbrev pub behind_dash : List ℕ → Option ℕ
behind_dash [] = Some 0
behind_dash (c ∷ bytes) = if c == 45 && is_white (slice_index bytes 0) then option_map suc (line_end bytes) else Some 0

-- behind `/`: a star, and the comment
abbrev pub behind_slash : List ℕ → Option ℕ
behind_slash [] = Some 0
behind_slash (c ∷ bytes) = if c == 42 then option_map suc (opened_end bytes) else Some 0

-- How many bytes behind its first one the quote or the comment has that begins there; none where another byte stands
-- there. None where it goes on to the end.
abbrev pub behind_first : ℕ → List ℕ → Option ℕ
behind_first b bytes =
    if b == 39 || b == 34 then quote_end b false bytes
    else (if b == 35 then line_end bytes
    else (if b == 45 then behind_dash bytes
    else (if b == 47 then behind_slash bytes else Some 0)))

-- The first `;` outside quotes and comments stands at that place.
pub data IsCutAt : List ℕ → ℕ → Type 0 where
  here : {bytes : List ℕ} → IsCutAt (59 ∷ bytes) 0
  later : {b n place : ℕ} {bytes : List ℕ} → (b == 59) ≡ false → behind_first b bytes ≡ Some n → IsCutAt (drop n bytes) place → IsCutAt (b ∷ bytes) (suc (place + n))

-- The pieces of a script: what stands before, between and behind its cuts.
pub data ArePieces : List ℕ → List (List ℕ) → Type 0 where
  last : {bytes : List ℕ} → ((place : ℕ) → IsCutAt bytes place → ⊥) → ArePieces bytes (bytes ∷ [])
  more : {bytes : List ℕ} {place : ℕ} {pieces : List (List ℕ)} → IsCutAt bytes place → ArePieces (drop (place + 1) bytes) pieces → ArePieces bytes (take place bytes ∷ pieces)
