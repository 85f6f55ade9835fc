-- The image that a stop leaves, by a choice.
--
-- With p pending name operations the first `choice % (p + 1)` of them survive. The quotient says what is left of each file:
-- its least length where it is even, and its present length where it is odd; and half of it, by 4, what its loose bytes
-- hold: the present ones, or each 0, or 1, or 255.
use Rattle.std.specs.Prelude.{ℕ, ◌+◌, ◌/◌, ◌%◌, cond, ◌==◌, List, [], ◌∷◌, length, take}
use Rattle.std.specs.Option.{option_map}
use Rattle.pt_host.specs.Disk.{Object, is_loose, NameOp, names_after, Fs, Files}

abbrev pub kept_by : ℕ → List NameOp → List NameOp
kept_by choice pending = take (choice % (length pending + 1)) pending

abbrev pub loose_byte : ℕ → ℕ → ℕ
loose_byte fill byte = cond (fill == 0) byte (cond (fill == 1) 0 (cond (fill == 2) 1 255))

-- bytes from a place on, with the loose ones filled
abbrev pub filled : ℕ → List (ℕ × ℕ) → ℕ → List ℕ → List ℕ
filled fill loose place [] = []
filled fill loose place (byte ∷ bytes) = cond (is_loose loose place) (loose_byte fill byte) byte ∷ filled fill loose (place + 1) bytes

abbrev pub left_by : ℕ → Object → List ℕ
left_by rest object = filled (rest / 2 % 4) object.loose 0 (take (cond (rest % 2 == 0) object.least (length object.bytes)) object.bytes)

abbrev pub picked : ℕ → Fs → Files
picked choice fs name = option_map (λ object. left_by (choice / (length fs.pending + 1)) (fs.objects object)) (names_after (kept_by choice fs.pending) fs.names name)
