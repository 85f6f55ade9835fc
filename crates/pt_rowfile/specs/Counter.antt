-- The file of the next serial. docs/FILES.md, "The counter".
use Rattle.std.specs.Prelude.{ℕ, ◌-◌, ◌/◌, ◌*◌, ◌%◌, ◌^◌, Bool, nat_eq, nat_le, nat_lt, ◌&&◌, if◌then◌else◌, List, length, drop, Result, Ok, Err}
use Rattle.pt_bytes.specs.Numbers.{number_of}

-- the number of the last eight bytes
abbrev pub last_number : List ℕ → ℕ
last_number bytes = number_of (drop (length bytes - 8) bytes)

-- a next serial is from 1 to 2^62
abbrev pub is_next : ℕ → Bool
is_next number = nat_lt 0 number && nat_le number (2 ^ 62)

-- The next serial by numbers of eight bytes: the last one, 1 where there is none. Else the place where that number begins.
abbrev pub last_serial : List ℕ → Result ℕ ℕ
last_serial bytes = if nat_eq (length bytes) 0 then Ok 1 else (if is_next (last_number bytes) then Ok (last_number bytes) else Err (length bytes - 8))

-- The next serial by any bytes. Where their length is no multiple of 8, the last multiple of 8.
unfoldable pub counter_of : List ℕ → Result ℕ ℕ
counter_of bytes = if nat_eq (length bytes % 8) 0 then last_serial bytes else Err (8 * (length bytes / 8))
