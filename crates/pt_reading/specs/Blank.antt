-- Whether a piece is white space and comments alone, as a test.
use Rattle.std.specs.Prelude.{◌≡◌, ◌↔◌, ℕ, zero, suc, ◌-◌, Bool, true, false, List, [], ◌∷◌, unwrap_or}
use Rattle.std.specs.Option.{option_map}
use Rattle.pt_token.specs.Gap.{IsBlank, next_gap}

-- White space and comments to the end, where so many bytes at the front are passed over: those of the gap before.
abbrev pub are_gaps : ℕ → Bool → List ℕ → Bool
are_gaps passed inside [] = true
are_gaps (suc passed) inside (b ∷ bytes) = are_gaps passed inside bytes
are_gaps zero inside (b ∷ bytes) = unwrap_or (option_map (λ gap. are_gaps (gap.length - 1) gap.inside bytes) (next_gap inside (b ∷ bytes))) false

-- white space and comments alone
abbrev pub is_blank : List ℕ → Bool
is_blank piece = are_gaps 0 false piece

-- The test tells what is white space and comments alone.
abbrev pub TellsBlank : Type 0
TellsBlank = (piece : List ℕ) → (is_blank piece ≡ true) ↔ IsBlank piece
