-- The reader, as functions on bytes in the shape of the code. What it reads is what is spelled.
use Rattle.std.specs.Prelude.{ℕ, zero, suc, ◌==◌, nat_eq, nat_le, if◌then◌else◌, List, [], ◌∷◌, length, take, drop, Option, Some, None}
use Rattle.std.specs.Int.{w32, w64, cast_signed}
use Rattle.std.specs.Option.{option_map, option_and_then}
use Rattle.pt_value.specs.declared.value.Value.{Value}
use Rattle.pt_value.specs.declared.value.Value.TheVariants.{Null, Int, Day, Bytes}
use Rattle.pt_ast.specs.declared.database.Row.{Row}
use Rattle.pt_bytes.specs.Numbers.{number_of}
use Rattle.pt_rowfile.specs.declared.record.Record.{Record}
use Rattle.pt_rowfile.specs.declared.record.Record.TheVariants.{Put, Delete}
use Rattle.pt_rowfile.specs.Rows.{after}

-- so many bytes, and those behind them
unfoldable pub split : ℕ → List ℕ → Option (List ℕ × List ℕ)
split n bytes = if nat_le n (length bytes) then Some (take n bytes, drop n bytes) else None

-- the number of so many bytes, and those behind them
unfoldable pub number_at : ℕ → List ℕ → Option (ℕ × List ℕ)
number_at n bytes = option_map (λ parts. (number_of parts.0, parts.1)) (split n bytes)

-- so many bytes as a number of n bytes says, and those behind them
unfoldable pub counted_at : ℕ → List ℕ → Option (List ℕ × List ℕ)
counted_at n bytes = option_and_then (λ read. split read.0 read.1) (number_at n bytes)

unfoldable pub int_at : List ℕ → Option (Value × List ℕ)
int_at bytes = option_map (λ read. (Int (cast_signed w64 read.0), read.1)) (number_at 8 bytes)

unfoldable pub day_at : List ℕ → Option (Value × List ℕ)
day_at bytes = option_map (λ read. (Day (cast_signed w32 read.0), read.1)) (number_at 4 bytes)

unfoldable pub text_at : List ℕ → Option (Value × List ℕ)
text_at bytes = option_map (λ parts. (Bytes parts.0, parts.1)) (counted_at 2 bytes)

unfoldable pub cell_of_kind : ℕ → List ℕ → Option (Value × List ℕ)
cell_of_kind kind bytes = if kind == 0 then Some (Null, bytes) else (if kind == 1 then int_at bytes else (if kind == 2 then day_at bytes else (if kind == 3 then text_at bytes else None)))

-- the cell in front, and the bytes behind it
unfoldable pub cell_at : List ℕ → Option (Value × List ℕ)
cell_at [] = None
cell_at (kind ∷ bytes) = cell_of_kind kind bytes

abbrev pub in_front : Value → List Value × List ℕ → List Value × List ℕ
in_front cell more = (cell ∷ more.0, more.1)

-- so many cells, and the bytes behind them
unfoldable pub cells_at : ℕ → List ℕ → Option (List Value × List ℕ)
cells_at zero bytes = Some ([], bytes)
cells_at (suc n) bytes = option_and_then (λ read. option_map (in_front read.0) (cells_at n read.1)) (cell_at bytes)

abbrev pub put_whole : ℕ → List Value × List ℕ → Option Record
put_whole serial read = if nat_eq (length read.1) 0 then Some (Put (record { serial = serial; cells = read.0 })) else None

unfoldable pub put_of : ℕ → List ℕ → Option Record
put_of serial bytes = option_and_then (λ count. option_and_then (put_whole serial) (cells_at count.0 count.1)) (number_at 4 bytes)

unfoldable pub delete_of : ℕ → List ℕ → Option Record
delete_of serial bytes = if nat_eq (length bytes) 0 then Some (Delete serial) else None

-- the kind and the serial of a body, and the bytes behind them
unfoldable pub head_at : List ℕ → Option ((ℕ × ℕ) × List ℕ)
head_at [] = None
head_at (kind ∷ bytes) = option_map (λ read. ((kind, read.0), read.1)) (number_at 8 bytes)

-- the kind and the serial of a body
unfoldable pub head_of : List ℕ → Option (ℕ × ℕ)
head_of body = option_map (λ read. read.0) (head_at body)

-- the kind and the serial of the record in front, and the bytes behind the record
unfoldable pub headed_at : List ℕ → Option ((ℕ × ℕ) × List ℕ)
headed_at bytes = option_and_then (λ parts. option_map (λ head. (head, parts.1)) (head_of parts.0)) (counted_at 4 bytes)

unfoldable pub record_of_kind : (ℕ × ℕ) × List ℕ → Option Record
record_of_kind head = if head.0.0 == 1 then put_of head.0.1 head.1 else (if head.0.0 == 2 then delete_of head.0.1 head.1 else None)

unfoldable pub record_of : List ℕ → Option Record
record_of body = option_and_then record_of_kind (head_at body)

-- the record in front, and the bytes behind it
unfoldable pub record_at : List ℕ → Option (Record × List ℕ)
record_at bytes = option_and_then (λ parts. option_map (λ entry. (entry, parts.1)) (record_of parts.0)) (counted_at 4 bytes)

-- the rows that so many records at most lead to, where they are all of the bytes
unfoldable pub rows_from : ℕ → List Row → List ℕ → Option (List Row)
rows_from zero rows bytes = if nat_eq (length bytes) 0 then Some rows else None
rows_from (suc n) rows bytes =
    if nat_eq (length bytes) 0 then Some rows else option_and_then (λ read. option_and_then (λ later. rows_from n later read.1) (after read.0 rows)) (record_at bytes)

-- the rows that bytes leave, as a function: each record takes a byte at least
unfoldable pub rows_spelled : List ℕ → Option (List Row)
rows_spelled bytes = rows_from (length bytes) [] bytes
