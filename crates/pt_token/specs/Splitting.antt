-- What a splitter stands for, and what it is fed.
use Rattle.std.specs.Prelude.{◌≡◌, ℕ, Bool, false, List, ◌++◌, Option}
use Rattle.pt_token.specs.declared.state.State.TheVariants.{Plain}
use Rattle.pt_token.specs.Machine.{run}
use Rattle.pt_token.specs.Pieces.{cut_in, before_cut}

-- the piece so far; whether a cut ended it; whether a call was refused
pub record Split : Type 0 where
  pub piece : List ℕ
  pub whole : Bool
  pub spent : Bool

-- more bytes may be fed
pub record IsReady (split : Split) : Type 0 where
  pub live : split.spent ≡ false
  pub clear : split.whole ≡ false

-- where the next bytes have their first cut, as they are read on after the piece
abbrev pub next_cut : List ℕ → List ℕ → Option ℕ
next_cut piece bytes = cut_in (run Plain piece) bytes

-- the piece, with the bytes up to the first cut
abbrev pub piece_after : List ℕ → List ℕ → List ℕ
piece_after piece bytes = piece ++ before_cut (next_cut piece bytes) bytes
