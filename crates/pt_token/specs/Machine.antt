-- Where a byte of a script stands: outside, in a quote or in a comment. It is told by going over the bytes before it. (In the
-- shape of the code; Ends, Gap and Outside tell without it where quotes and comments end and which `;` cuts.)
use Rattle.std.specs.Prelude.{ℕ, suc, ◌+◌, ◌-◌, ◌*◌, Bool, true, false, ◌&&◌, ◌||◌, ◌==◌, nat_le, nat_lt, if◌then◌else◌, List, [], ◌∷◌, Option, Some, None}
use Rattle.std.specs.Option.{option_map}
use Rattle.pt_token.specs.Bytes.{is_digit, is_white}
use Rattle.pt_token.specs.declared.state.State.{State}
use Rattle.pt_token.specs.declared.state.State.TheVariants.{Plain, Quote, Escaped, Dash, Dashes, Line, Slash, Opened, Block, Star, Version, Read, ReadStar, ReadQuote, ReadEscaped}

-- 34 and 39 are the quotes, 35 is '#', 45 '-', 47 '/'
abbrev pub from_plain : ℕ → State
from_plain b =
    if b == 39 || b == 34 then Quote b
    else (if b == 35 then Line
    else (if b == 45 then Dash
    else (if b == 47 then Slash else Plain)))

-- 42 is '*'
abbrev pub from_block : ℕ → State
from_block b = if b == 42 then Star else Block

abbrev pub from_read : ℕ → State
from_read b = if b == 39 || b == 34 then ReadQuote b else (if b == 42 then ReadStar else Read)

-- Behind `/*!` and digits. The comment is read where there are no digits, or five that are at most 50799 with no digit
-- behind them. The number has a 1 before the digits, so 1 has none, and 100000 and more have five.
abbrev pub after_version : ℕ → ℕ → State
after_version version b =
    if is_digit b then (if nat_lt version 100000 then Version (10 * version + (b - 48)) else Block)
    else (if version == 1 || (nat_le 100000 version && nat_le version 150799) then from_read b else from_block b)

-- the state after a byte; 92 is the backslash, 10 the line feed, 33 is '!'
abbrev pub step : State → ℕ → State
step Plain b = from_plain b
step (Quote mark) b = if b == 92 then Escaped mark else (if b == mark then Plain else Quote mark)
step (Escaped mark) b = Quote mark
step Dash b = if b == 45 then Dashes else from_plain b
step Dashes b = if b == 45 then Dashes else (if b == 10 then Plain else (if is_white b then Line else from_plain b))
step Line b = if b == 10 then Plain else Line
step Slash b = if b == 42 then Opened else from_plain b
step Opened b = if b == 33 then Version 1 else from_block b
step Block b = from_block b
step Star b = if b == 47 then Plain else from_block b
step (Version version) b = after_version version b
step Read b = from_read b
step ReadStar b = if b == 47 then Plain else from_read b
step (ReadQuote mark) b = if b == 92 then ReadEscaped mark else (if b == mark then Read else ReadQuote mark)
step (ReadEscaped mark) b = ReadQuote mark

abbrev pub is_plain : State → Bool
is_plain Plain = true
is_plain _ = false

-- outside quotes and comments
abbrev pub is_outside : State → Bool
is_outside Plain = true
is_outside Dash = true
is_outside Dashes = true
is_outside Slash = true
is_outside _ = false

-- a `;` outside quotes and comments
abbrev pub is_cut : State → ℕ → Bool
is_cut s b = b == 59 && is_outside s

-- the state after bytes among which there is no cut
abbrev pub run : State → List ℕ → State
run s [] = s
run s (b ∷ bytes) = run (step s b) bytes

-- How many bytes what is open goes on for, with its end. None where it has no end among these.
unfoldable pub closing : State → List ℕ → Option ℕ
closing s [] = None
closing s (b ∷ bytes) = if is_plain (step s b) then Some 1 else option_map suc (closing (step s b) bytes)
