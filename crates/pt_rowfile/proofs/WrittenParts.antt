-- Records that are written part by part.
use Rattle.std.proofs.Common.{Fits, get_or, take, ◌≡◌, ℕ, ◌+◌, ◌/◌, ◌%◌, ◌<◌, ◌≤◌, ◌^◌, ◌&&◌, All, Bool, true, false, ℤ, List, [], ◌∷◌, ◌++◌, length, refl, sym, ap, ◌∙◌, subst, arith, append_assoc, length-append}
use Rattle.std.specs.List.{flat_map, AllByRecursion}
use Rattle.std.specs.Prelude.{nat_lt}
use Rattle.std.proofs.lemmas.Bool.Decides.{Decides-ltb}
use Rattle.std.proofs.lemmas.List.{flat_map_more, take_more}
use Rattle.std.proofs.lemmas.List.Elements.{All-tail}
use Rattle.std.specs.Int.{w32, w64, cast_unsigned}
use Rattle.pt_value.specs.declared.value.Value.{Value}
use Rattle.pt_value.specs.declared.value.Value.TheVariants.{Bytes, Day, Int}
use Rattle.pt_ast.specs.declared.database.Row.{Row}
use Rattle.pt_bytes.specs.Numbers.{le_bytes}
use Rattle.pt_bytes.proofs.Numbers.{length-le_bytes}
use Rattle.pt_rowfile.specs.declared.record.Record.TheVariants.{Put, Delete}
use Rattle.pt_rowfile.specs.Cells.{IsCell, cell_bytes}
use Rattle.pt_rowfile.specs.Records.{IsRecord, record_bytes}
use Rattle.pt_rowfile.specs.Rows.{is_serial}
use Rattle.pt_rowfile.specs.Written.{IsShortRow}

abbrev joined : List ℕ → List ℕ → List ℕ
joined a b = a ++ b

-- two parts behind others
two : (old a b : List ℕ) → (old ++ a) ++ b ≡ old ++ (a ++ b)
two old a b = append_assoc old a b

pub delete_written : (old a b d : List ℕ) (serial : ℕ) → a ≡ old ++ le_bytes 4 9 → b ≡ a ++ 2 ∷ [] → d ≡ b ++ le_bytes 8 serial → d ≡ old ++ record_bytes (Delete serial)
delete_written old a b d serial first second third =
    third
    ∙ ap (λ xs. xs ++ le_bytes 8 serial) (second ∙ ap (λ xs. xs ++ 2 ∷ []) first)
    ∙ two (old ++ le_bytes 4 9) (2 ∷ []) (le_bytes 8 serial)
    ∙ two old (le_bytes 4 9) (2 ∷ le_bytes 8 serial)
    ∙ ap (λ n. old ++ (le_bytes 4 n ++ (2 ∷ le_bytes 8 serial))) (let l = length-le_bytes 8 serial in omega (arith, l))

pub put_written : (old a b d e f : List ℕ) (row : Row) (size : ℕ) → size ≡ length (flat_map cell_bytes row.cells) → a ≡ old ++ le_bytes 4 (13 + size) → b ≡ a ++ 1 ∷ [] → d ≡ b ++ le_bytes 8 row.serial
    → e ≡ d ++ le_bytes 4 (length row.cells) → f ≡ e ++ flat_map cell_bytes row.cells → f ≡ old ++ record_bytes (Put row)
put_written old a b d e f row size is first second third fourth fifth =
    let cells = flat_map cell_bytes row.cells in
    let serial = le_bytes 8 row.serial in
    let count = le_bytes 4 (length row.cells) in
    fifth
    ∙ ap (λ xs. xs ++ cells) (fourth ∙ ap (λ xs. xs ++ count) (third ∙ ap (λ xs. xs ++ serial) (second ∙ ap (λ xs. xs ++ 1 ∷ []) first)))
    ∙ two (((old ++ le_bytes 4 (13 + size)) ++ 1 ∷ []) ++ serial) count cells
    ∙ two ((old ++ le_bytes 4 (13 + size)) ++ 1 ∷ []) serial (count ++ cells)
    ∙ two (old ++ le_bytes 4 (13 + size)) (1 ∷ []) (serial ++ (count ++ cells))
    ∙ two old (le_bytes 4 (13 + size)) (1 ∷ (serial ++ (count ++ cells)))
    ∙ ap (λ n. old ++ (le_bytes 4 n ++ (1 ∷ (serial ++ (count ++ cells)))))
    (omega (arith, is, length-append serial (count ++ cells), length-append count cells, length-le_bytes 8 row.serial, length-le_bytes 4 (length row.cells)))

high : (n : ℕ) → n ≤ 4096 → n / 256 ≡ n / 256 % 256
high n low = omega arith

pub text_written : (old a b d e bytes : List ℕ) → length bytes ≤ 4096 → a ≡ old ++ 3 ∷ [] → b ≡ a ++ length bytes % 256 ∷ [] → d ≡ b ++ length bytes / 256 ∷ [] → e ≡ d ++ bytes
    → e ≡ old ++ cell_bytes (Bytes bytes)
unfolding le_bytes
text_written old a b d e bytes low first second third fourth =
    let m = length bytes % 256 in
    let n = length bytes / 256 in
    fourth
    ∙ ap (λ xs. xs ++ bytes) (third ∙ ap (λ xs. xs ++ n ∷ []) (second ∙ ap (λ xs. xs ++ m ∷ []) first))
    ∙ two (((old ++ 3 ∷ []) ++ m ∷ [])) (n ∷ []) bytes
    ∙ two (old ++ 3 ∷ []) (m ∷ []) (n ∷ bytes)
    ∙ two old (3 ∷ []) (m ∷ n ∷ bytes)
    ∙ ap (λ k. old ++ (3 ∷ m ∷ k ∷ bytes)) (high (length bytes) low)

-- one cell more
pub cells_written : (init before new : List ℕ) (cells : List Value) (i : ℕ) (cell : Value) → i < length cells → cell ≡ get_or cells i cell → before ≡ init ++ flat_map cell_bytes (take i cells) → new ≡ before ++ cell_bytes cell
    → new ≡ init ++ flat_map cell_bytes (take (i + 1) cells)
cells_written init before new cells i cell within is so_far more =
    more
    ∙ ap (λ xs. xs ++ cell_bytes cell) so_far
    ∙ flat_map_more cell_bytes init (take i cells) cell
    ∙ ap (λ (xs : List Value). init ++ flat_map cell_bytes xs) (ap (λ (v : Value). take i cells ++ v ∷ []) is ∙ sym (take_more cells i cell within))

-- # What is written is a record

pub delete_record : (serial : ℕ) → Fits w64 serial → IsRecord (Delete serial)
delete_record serial small = record { writable = (let h : serial < 2 ^ 64 = omega arith in h); fits = omega (arith, length-le_bytes 8 serial) }

each_cell : (cells : List Value) → All IsCell cells → AllByRecursion IsCell cells
each_cell [] each = tt
each_cell (cell ∷ cells) each = (each 0 cell (omega arith), each_cell cells (All-tail IsCell cell cells each))

serial_below : (serial : ℕ) → is_serial serial ≡ true → serial < 2 ^ 64
serial_below serial is = go (nat_lt 0 serial) (nat_lt serial (2 ^ 62)) refl is
  where
    go : (a b : Bool) → nat_lt serial (2 ^ 62) ≡ b → (a && b) ≡ true → serial < 2 ^ 64
    go true true h both = let low : serial < 2 ^ 62 = (Decides-ltb serial (2 ^ 62)).0 h in omega arith
    go true false h both = absurd cc
    go false b h both = absurd cc

pub put_record : (row : Row) (size : ℕ) → size ≡ length (flat_map cell_bytes row.cells) → size ≤ 4_099_000_000 → IsShortRow row → All IsCell row.cells → IsRecord (Put row)
put_record row size is most short each =
    let cells = flat_map cell_bytes row.cells in
    let serial = le_bytes 8 row.serial in
    let count = le_bytes 4 (length row.cells) in
    let few : length row.cells ≤ 1_000_000 = short.few in
    record {
      writable = (serial_below row.serial short.serial, (let h : length row.cells < 2 ^ 32 = omega arith in h), each_cell row.cells each);
      fits = omega (arith, is, length-append serial (count ++ cells), length-append count cells, length-le_bytes 8 row.serial, length-le_bytes 4 (length row.cells));
    }

-- # How many bytes a cell takes

pub size_int : (cell : Value) (n : ℤ) → cell ≡ Int n → 9 ≡ length (cell_bytes cell)
size_int cell n is = let l = length-le_bytes 8 (cast_unsigned w64 n) in subst (λ (v : Value). 9 ≡ length (cell_bytes v)) (sym is) (omega (arith, l))

pub size_day : (cell : Value) (n : ℤ) → cell ≡ Day n → 5 ≡ length (cell_bytes cell)
size_day cell n is = let l = length-le_bytes 4 (cast_unsigned w32 n) in subst (λ (v : Value). 5 ≡ length (cell_bytes v)) (sym is) (omega (arith, l))

pub size_text : (cell : Value) (bytes looked : List ℕ) → cell ≡ Bytes bytes → looked ≡ bytes → 3 + length looked ≡ length (cell_bytes cell)
size_text cell bytes looked is same =
    subst (λ (v : Value). 3 + length looked ≡ length (cell_bytes v)) (sym is)
    (omega (arith, ap (λ (xs : List ℕ). length xs) same, length-le_bytes 2 (length bytes), length-append (le_bytes 2 (length bytes)) bytes))
