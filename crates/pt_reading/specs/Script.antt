-- A script is cut into pieces. Its statements are the pieces that aren't blank.
use Rattle.std.specs.Prelude.{◌≡◌, false, ℕ, Bool, not, ◌||◌, nat_lt, if◌then◌else◌, List, [], ◌∷◌, ◌++◌, length, filter}
use Rattle.std.specs.List.{list_any}
use Rattle.pt_token.specs.Pieces.{cuts, most_piece, most_script, pieces}
use Rattle.pt_reading.specs.Blank.{is_blank}

-- a limit is passed
unfoldable pub has_excess : List ℕ → Bool
has_excess script = nat_lt most_script (length script) || list_any (λ piece. nat_lt most_piece (length piece)) (pieces script)

-- What was taken of the input, up to this rest of it, passes no limit.
pub record TakesWithin (input rest : List ℕ) : Type 0 where
  pub taken : List ℕ
  pub is : input ≡ taken ++ rest
  pub within : has_excess taken ≡ false

-- The statements of a script, in order. They are numbered from 1.
abbrev pub statements : List ℕ → List (List ℕ)
statements script = filter (λ piece. not (is_blank piece)) (cuts script)

-- The statements of a script within the limits are all its pieces that aren't blank.
abbrev pub StatementsAreAll : Type 0
StatementsAreAll = (script : List ℕ) → has_excess script ≡ false → statements script ≡ filter (λ piece. not (is_blank piece)) (pieces script)

-- a piece more, where it isn't blank
abbrev pub with_piece : List ℕ → List (List ℕ) → List (List ℕ)
with_piece piece before = if is_blank piece then before else before ++ piece ∷ []
