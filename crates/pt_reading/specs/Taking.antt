-- What a script is cut into while it is taken, chunk by chunk. (In the shape of the code.)
use Rattle.std.specs.Prelude.{◌≡◌, ℕ, ◌+◌, ◌<◌, ◌≤◌, Bool, true, false, not, List, ◌++◌, length, take, filter, Option, Some, None}
use Rattle.std.specs.List.{list_all}
use Rattle.pt_token.specs.Pieces.{fits, pieces, pieces_after}
use Rattle.pt_reading.specs.declared.script.Script.{Script}
use Rattle.pt_reading.specs.Blank.{is_blank}
use Rattle.pt_reading.specs.Script.{has_excess, statements}

-- These bytes were taken: their closed pieces, and the piece that is still open.
pub record IsTaken (front : List ℕ) (script : Script) : Type 0 where
  pub closed : List (List ℕ)
  pub cut : (rest : List ℕ) → pieces (front ++ rest) ≡ closed ++ pieces_after script.splitter.piece rest
  pub short : list_all fits closed ≡ true
  pub statements : script.statements ≡ filter (λ piece. not (is_blank piece)) closed
  pub count : length front ≡ script.taken

-- Whatever comes behind these bytes, a limit is passed, and these are the statements before the excess.
abbrev pub IsCutShort : List ℕ → Script → Type 0
IsCutShort front script = (rest : List ℕ) → (script.statements ≡ statements (front ++ rest)) × (has_excess (front ++ rest) ≡ true)

-- these bytes are the whole script, within the limits
pub record IsWhole (all : List ℕ) (script : Script) : Type 0 where
  pub statements : script.statements ≡ statements all
  pub within : has_excess all ≡ false

-- after more bytes: taken, or there is an excess among them
abbrev pub Takes : List ℕ → List ℕ → Bool → Script → Type 0
Takes front bytes true script = IsTaken (front ++ bytes) script
Takes front bytes false script = IsCutShort (front ++ bytes) script

-- so many of the bytes are taken, one at least
pub record TakesPart (bytes : List ℕ) (used : ℕ) (old new : Script) : Type 0 where
  pub some : 0 < length bytes → 0 < used
  pub within : used ≤ length bytes
  pub taken : (front : List ℕ) → IsTaken front old → IsTaken (front ++ take used bytes) new
  pub count : new.taken ≡ old.taken + used

-- some of the bytes are taken, or they make the piece that is open too long
abbrev pub TakesSome : List ℕ → Script → Script → Option ℕ → Type 0
TakesSome bytes old new (Some used) = TakesPart bytes used old new
TakesSome bytes old new None = (front : List ℕ) → IsTaken front old → IsCutShort (front ++ bytes) new
