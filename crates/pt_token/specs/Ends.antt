-- Where a line, a quote and a comment end: how many bytes there are up to and with the end. None where it isn't among them.
use Rattle.std.specs.Prelude.{ℕ, zero, suc, Bool, true, false, ◌&&◌, ◌==◌, if◌then◌else◌, List, [], ◌∷◌, slice_index, Option, Some, None}
use Rattle.std.specs.Option.{option_map, option_and_then}
use Rattle.pt_token.specs.Bytes.{is_quote}

-- up to and with the first line feed
abbrev pub line_end : List ℕ → Option ℕ
line_end [] = None
line_end (b ∷ bytes) = if b == 10 then Some 1 else option_map suc (line_end bytes)

-- Up to and with the first such quote that no backslash escapes. The first byte is escaped or not.
abbrev pub quote_end : ℕ → Bool → List ℕ → Option ℕ
quote_end mark escaped [] = None
quote_end mark true (b ∷ bytes) = option_map suc (quote_end mark false bytes)
quote_end mark false (b ∷ bytes) = if b == 92 then option_map suc (quote_end mark true bytes) else (if b == mark then Some 1 else option_map suc (quote_end mark false bytes))

-- a `*/`
abbrev pub closes_comment : ℕ → List ℕ → Bool
closes_comment b bytes = b == 42 && slice_index bytes 0 == 47

-- up to and with the first `*/`
abbrev pub comment_end : List ℕ → Option ℕ
comment_end [] = None
comment_end (b ∷ bytes) = if closes_comment b bytes then Some 2 else option_map suc (comment_end bytes)

-- Up to and with the first `*/` outside quotes. So many bytes at the front are passed over: those of an opener or of a quote.
abbrev pub read_end : ℕ → List ℕ → Option ℕ
read_end passed [] = None
read_end (suc passed) (b ∷ bytes) = option_map suc (read_end passed bytes)
read_end zero (b ∷ bytes) =
    if closes_comment b bytes then Some 2
    else (if is_quote b then option_map suc (option_and_then (λ n. read_end n bytes) (quote_end b false bytes))
    else option_map suc (read_end zero bytes))
