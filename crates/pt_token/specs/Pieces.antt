-- The pieces of a script. A `;` outside quotes and comments ends a piece and belongs to none.
use Rattle.std.specs.List.{take_while}
use Rattle.std.specs.Prelude.{ℕ, suc, ◌+◌, ◌-◌, ◌^◌, Bool, nat_le, if◌then◌else◌, List, [], ◌∷◌, ◌++◌, length, take, Option, Some, None}
use Rattle.std.specs.Option.{option_map}
use Rattle.pt_token.specs.declared.state.State.{State}
use Rattle.pt_token.specs.declared.state.State.TheVariants.{Plain}
use Rattle.pt_token.specs.Machine.{step, is_cut, run}

-- the place of the first cut, where the bytes before these left that state
unfoldable pub cut_in : State → List ℕ → Option ℕ
cut_in s [] = None
cut_in s (b ∷ bytes) = if is_cut s b then Some 0 else option_map suc (cut_in (step s b) bytes)

-- the bytes before that place
abbrev pub before_cut : Option ℕ → List ℕ → List ℕ
before_cut None bytes = bytes
before_cut (Some place) bytes = take place bytes

-- how many bytes there are up to and with the cut
abbrev pub used_by : Option ℕ → List ℕ → ℕ
used_by None bytes = length bytes
used_by (Some place) bytes = place + 1

-- the pieces, where the first one begins with these bytes
unfoldable pub pieces_after : List ℕ → List ℕ → List (List ℕ)
pieces_after piece [] = piece ∷ []
pieces_after piece (b ∷ bytes) = if is_cut (run Plain piece) b then piece ∷ pieces_after [] bytes else pieces_after (piece ++ b ∷ []) bytes

-- what stands before, between and behind the cuts of a script
abbrev pub pieces : List ℕ → List (List ℕ)
pieces script = pieces_after [] script

-- the most bytes of a piece
abbrev pub most_piece : ℕ
most_piece = 2 ^ 20

-- the most bytes of a script
abbrev pub most_script : ℕ
most_script = 2 ^ 32

abbrev pub fits : List ℕ → Bool
fits piece = nat_le (length piece) most_piece

-- the pieces that are closed by a cut
abbrev pub closed_pieces : List ℕ → List (List ℕ)
closed_pieces script = take (length (pieces script) - 1) (pieces script)

-- The pieces of a script, up to the first that is too long. Of a script that is too long they are those that are closed
-- within its limit.
unfoldable pub cuts : List ℕ → List (List ℕ)
cuts script = take_while fits (if nat_le (length script) most_script then pieces script else closed_pieces (take most_script script))
