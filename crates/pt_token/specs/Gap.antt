-- White space and comments. In a comment that is read, as in `/*!50100 .. */`, only white space and its end are such.
use Rattle.std.specs.Prelude.{◌≡◌, ℕ, ◌+◌, Bool, true, false, ◌&&◌, ◌||◌, ◌==◌, nat_le, nat_eq, if◌then◌else◌, List, [], length, drop, codes, slice_index, Option, Some, None, unwrap_or}
use Rattle.std.specs.List.{starts_with}
use Rattle.pt_token.specs.declared.comment.Comment.{Comment}
use Rattle.pt_token.specs.declared.comment.Comment.TheVariants.{Plain, Read, Malformed}
use Rattle.pt_token.specs.declared.gap.Gap.{Gap}
use Rattle.pt_token.specs.declared.bytes.Class.TheVariants.{Digit}
use Rattle.pt_token.specs.Bytes.{digits_number, front, is_white}
use Rattle.pt_token.specs.Ends.{line_end, comment_end, read_end}

-- how many bytes there are to the line's end, with its line feed
abbrev pub line : List ℕ → ℕ
line bytes = unwrap_or (line_end bytes) (length bytes)

-- what the digits behind `/*!` say
abbrev pub by_digits : List ℕ → Comment
by_digits ds =
    if length ds == 0 then Read 1
    else (if length ds == 5 then (if nat_le (digits_number ds) 50799 then Read 6 else Plain) else Malformed)

-- what kind of a comment it is, by the bytes behind `/*`
unfoldable pub kind : List ℕ → Comment
kind bytes = if slice_index bytes 0 == 33 then by_digits (front Digit (drop 1 bytes)) else Plain

-- How many bytes a comment of that kind has behind its `/*`, with its end. What belongs to the opener of one that is read is
-- passed over.
abbrev pub end_of : Comment → List ℕ → Option ℕ
end_of Plain bytes = comment_end bytes
end_of (Read n) bytes = read_end n bytes
end_of Malformed bytes = comment_end bytes

-- how many bytes there are behind `/*` up to and with the comment's end; None where it is open to the end
unfoldable pub opened_end : List ℕ → Option ℕ
opened_end bytes = end_of (kind bytes) bytes

-- the bytes behind the `/*` that belong to the opener of a comment that is read
abbrev pub opener : Comment → ℕ
opener (Read n) = n
opener _ = 0

abbrev pub gap_of : ℕ → Bool → Gap
gap_of length inside = record { length = length; inside = inside }

-- a comment, or the opener of one that is read, where it is closed
abbrev pub comment_gap : Comment → Option ℕ → Option Gap
comment_gap _ None = None
comment_gap Plain (Some n) = Some (gap_of (n + 2) false)
comment_gap (Read n) (Some _) = Some (gap_of (n + 2) true)
comment_gap Malformed (Some _) = None

-- `--`, and white space or the end behind it
abbrev pub is_dashes : List ℕ → Bool
is_dashes bytes = starts_with nat_eq bytes (codes "--") && (length bytes == 2 || is_white (slice_index bytes 2))

-- what the bytes begin with, where that is white space or a comment
abbrev pub gap_outside : List ℕ → Option Gap
gap_outside bytes =
    if is_white (slice_index bytes 0) then Some (gap_of 1 false)
    else (if slice_index bytes 0 == 35 then Some (gap_of (line (drop 1 bytes) + 1) false)
    else (if is_dashes bytes then Some (gap_of (line (drop 2 bytes) + 2) false)
    else (if starts_with nat_eq bytes (codes "/*") then comment_gap (kind (drop 2 bytes)) (opened_end (drop 2 bytes)) else None)))

-- the same within a comment that is read: white space, or its end
abbrev pub gap_inside : List ℕ → Option Gap
gap_inside bytes =
    if is_white (slice_index bytes 0) then Some (gap_of 1 true)
    else (if starts_with nat_eq bytes (codes "*/") then Some (gap_of 2 false) else None)

-- `inside` is true within a comment that is read
unfoldable pub next_gap : Bool → List ℕ → Option Gap
next_gap true bytes = gap_inside bytes
next_gap false bytes = gap_outside bytes

-- white space and comments, to the end
pub data AreGaps : Bool → List ℕ → Type 0 where
  done : {inside : Bool} → AreGaps inside []
  more : {inside : Bool} {bytes : List ℕ} {g : Gap} → next_gap inside bytes ≡ Some g → AreGaps g.inside (drop g.length bytes) → AreGaps inside bytes

-- a piece of white space and comments alone
abbrev pub IsBlank : List ℕ → Type 0
IsBlank piece = AreGaps false piece
