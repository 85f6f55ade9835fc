-- Records: what is written is read back, and what is read was written.
use Rattle.std.proofs.Common.{◌≡◌, ℕ, ◌<◌, ◌≤◌, ◌^◌, Bool, true, false, cond, ◌==◌, List, [], ◌∷◌, ◌++◌, length, Option, Some, None, refl, sym, ap, ap₂, ◌∙◌, subst, arith, append-nil, length-append}
use Rattle.std.specs.Prelude.{nat_eq}
use Rattle.std.specs.List.{flat_map, AllByRecursion}
use Rattle.std.specs.Option.{option_map, option_and_then}
use Rattle.std.proofs.lemmas.Bool.Decides.{Decides-eqb}
use Rattle.std.proofs.lemmas.List.{nil_from_length}
use Rattle.std.proofs.lemmas.List.Elements.{All-tail}
use Rattle.pt_value.specs.declared.value.Value.{Value}
use Rattle.pt_ast.specs.declared.database.Row.{Row}
use Rattle.pt_bytes.specs.Numbers.{AreBytes, le_bytes}
use Rattle.pt_bytes.proofs.Numbers.{length-le_bytes}
use Rattle.pt_rowfile.specs.declared.record.Record.{Record}
use Rattle.pt_rowfile.specs.declared.record.Record.TheVariants.{Put, Delete}
use Rattle.pt_rowfile.specs.Cells.{cell_bytes, IsCell}
use Rattle.pt_rowfile.specs.Records.{IsRecord, IsWritable, body_of, cells_bytes, record_bytes}
use Rattle.pt_rowfile.specs.Laws.{OneRecord}
use Rattle.pt_rowfile.specs.Reader.{cells_at, counted_at, delete_of, head_at, number_at, put_of, put_whole, record_at, record_of, record_of_kind}
use Rattle.pt_rowfile.proofs.Parts.{one_some, from_map, from_then, number_front, number_sound, counted_front, counted_sound}
use Rattle.pt_rowfile.proofs.Cells.{cells_complete, cells_sound}

abbrev Head : Type 0
Head = (ℕ × ℕ) × List ℕ

-- # What is written is read

pub head_front : (kind serial : ℕ) (rest : List ℕ) → serial < 256 ^ 8 → head_at (kind ∷ (le_bytes 8 serial ++ rest)) ≡ Some ((kind, serial), rest)
unfolding head_at
head_front kind serial rest fits = ap (option_map (λ (read : ℕ × List ℕ). ((kind, read.0), read.1))) (number_front 8 serial rest fits)

put_front : (row : Row) → length row.cells < 256 ^ 4 → AllByRecursion IsCell row.cells → put_of row.serial (cells_bytes row.cells) ≡ Some (Put row)
unfolding put_of
put_front row few each =
    let step = λ (count : ℕ × List ℕ). option_and_then (put_whole row.serial) (cells_at count.0 count.1) in
    ap (option_and_then step) (number_front 4 (length row.cells) (flat_map cell_bytes row.cells) few)
    ∙ ap (λ (xs : List ℕ). option_and_then (put_whole row.serial) (cells_at (length row.cells) xs)) (sym (append-nil (flat_map cell_bytes row.cells)))
    ∙ ap (option_and_then (put_whole row.serial)) (cells_complete row.cells [] each)

pub record_of_complete : (entry : Record) → IsWritable entry → record_of (body_of entry) ≡ Some entry
unfolding record_of record_of_kind delete_of
record_of_complete (Put row) is =
    ap (option_and_then record_of_kind) (head_front 1 row.serial (cells_bytes row.cells) (let h = is.0 in omega arith))
    ∙ put_front row (let h = is.1 in omega arith) is.2
record_of_complete (Delete serial) is =
    ap (λ (xs : List ℕ). option_and_then record_of_kind (head_at (2 ∷ xs))) (sym (append-nil (le_bytes 8 serial)))
    ∙ ap (option_and_then record_of_kind) (head_front 2 serial [] (omega arith))

pub record_complete : (entry : Record) (rest : List ℕ) → IsRecord entry → record_at (record_bytes entry ++ rest) ≡ Some (entry, rest)
unfolding record_at
record_complete entry rest is =
    let long : length (body_of entry) < 256 ^ 4 = (let h = is.fits in omega arith) in
    let step : List ℕ × List ℕ → Option (Record × List ℕ) = λ parts. option_map (λ (e : Record). (e, parts.1)) (record_of parts.0) in
    ap (option_and_then step) (counted_front 4 (body_of entry) rest long)
    ∙ ap (option_map (λ (e : Record). (e, rest))) (record_of_complete entry is.writable)

-- # What is read was written

pub record IsBodyOf (body : List ℕ) (entry : Record) : Type 0 where
  pub writable : IsWritable entry
  pub text : body ≡ body_of entry

none_left : (n : ℕ) → nat_eq n 0 ≡ true → n ≡ 0
none_left n h = (Decides-eqb n 0).0 h

put_sound : (bytes : List ℕ) (serial : ℕ) (entry : Record) → AreBytes bytes → serial < 2 ^ 64 → put_of serial bytes ≡ Some entry → IsBodyOf (1 ∷ (le_bytes 8 serial ++ bytes)) entry
unfolding put_of
put_sound bytes serial entry are fits e =
    let step = λ (count : ℕ × List ℕ). option_and_then (put_whole serial) (cells_at count.0 count.1) in
    let f = from_then step (number_at 4 bytes) entry e in
    let num = number_sound 4 bytes f.0.0 f.0.1 are f.1 in
    let g = from_then (put_whole serial) (cells_at f.0.0 f.0.1) entry f.2 in
    let cells = cells_sound f.0.0 f.0.1 g.0.0 g.0.1 num.are g.1 in
    let number : length g.0.0 ≡ f.0.0 = cells.number in
    let low : f.0.0 < 256 ^ 4 = num.fits in
    go g.0.0 g.0.1 (nat_eq (length g.0.1) 0) refl g.2
    (λ none.
    let nil : g.0.1 ≡ [] = nil_from_length g.0.1 none in
    record {
      writable = (fits, (let h : length g.0.0 < 2 ^ 32 = omega arith in h), cells.each);
      text = ap (λ (xs : List ℕ). 1 ∷ (le_bytes 8 serial ++ xs)) (
          num.text
          ∙ ap₂ (λ (m : ℕ) (xs : List ℕ). le_bytes 4 m ++ xs) (sym number) (cells.text ∙ ap (λ (xs : List ℕ). flat_map cell_bytes g.0.0 ++ xs) nil ∙ append-nil (flat_map cell_bytes g.0.0)));
    })
  where
    go : (cells : List Value) (rest : List ℕ) (b : Bool) → nat_eq (length rest) 0 ≡ b → cond b (Some (Put (record { serial = serial; cells = cells }))) None ≡ Some entry
        → (length rest ≡ 0 → IsBodyOf (1 ∷ (le_bytes 8 serial ++ bytes)) (Put (record { serial = serial; cells = cells }))) → IsBodyOf (1 ∷ (le_bytes 8 serial ++ bytes)) entry
    go cells rest true h same own =
        subst (IsBodyOf (1 ∷ (le_bytes 8 serial ++ bytes))) (one_some (Put (record { serial = serial; cells = cells })) entry same) (own (none_left (length rest) h))
    go cells rest false h same own = absurd cc

delete_sound : (bytes : List ℕ) (serial : ℕ) (entry : Record) → serial < 2 ^ 64 → delete_of serial bytes ≡ Some entry → IsBodyOf (2 ∷ (le_bytes 8 serial ++ bytes)) entry
unfolding delete_of
delete_sound bytes serial entry fits e = go (nat_eq (length bytes) 0) refl e
  where
    go : (b : Bool) → nat_eq (length bytes) 0 ≡ b → cond b (Some (Delete serial)) None ≡ Some entry → IsBodyOf (2 ∷ (le_bytes 8 serial ++ bytes)) entry
    go true h same =
        let nil : bytes ≡ [] = nil_from_length bytes (none_left (length bytes) h) in
        subst (IsBodyOf (2 ∷ (le_bytes 8 serial ++ bytes))) (one_some (Delete serial) entry same)
        (record { writable = fits; text = ap (λ (xs : List ℕ). 2 ∷ (le_bytes 8 serial ++ xs)) nil ∙ ap (λ (xs : List ℕ). 2 ∷ xs) (append-nil (le_bytes 8 serial)) })
    go false h same = absurd cc

kind_sound : (kind serial : ℕ) (bytes : List ℕ) (entry : Record) → AreBytes bytes → serial < 2 ^ 64 → record_of_kind ((kind, serial), bytes) ≡ Some entry → IsBodyOf (kind ∷ (le_bytes 8 serial ++ bytes)) entry
unfolding record_of_kind
kind_sound kind serial bytes entry are fits e = go (kind == 1) refl (kind == 2) refl e
  where
    moved : (k : ℕ) → (kind == k) ≡ true → IsBodyOf (k ∷ (le_bytes 8 serial ++ bytes)) entry → IsBodyOf (kind ∷ (le_bytes 8 serial ++ bytes)) entry
    moved k h is = subst (λ n. IsBodyOf (n ∷ (le_bytes 8 serial ++ bytes)) entry) (sym ((Decides-eqb kind k).0 h)) is

    go : (b1 : Bool) → (kind == 1) ≡ b1 → (b2 : Bool) → (kind == 2) ≡ b2 → cond b1 (put_of serial bytes) (cond b2 (delete_of serial bytes) None) ≡ Some entry → IsBodyOf (kind ∷ (le_bytes 8 serial ++ bytes)) entry
    go true h1 b2 h2 f = moved 1 h1 (put_sound bytes serial entry are fits f)
    go false h1 true h2 f = moved 2 h2 (delete_sound bytes serial entry fits f)
    go false h1 false h2 f = absurd (let bad : None ≡ Some entry = f in cc)

pub record_of_sound : (body : List ℕ) (entry : Record) → AreBytes body → record_of body ≡ Some entry → IsBodyOf body entry
unfolding record_of head_at
record_of_sound [] entry are e = absurd (let bad : None ≡ Some entry = e in cc)
record_of_sound (kind ∷ bytes) entry are e =
    let own : AreBytes bytes = All-tail (λ b. b < 256) kind bytes are in
    let f = from_then record_of_kind (option_map (λ (read : ℕ × List ℕ). ((kind, read.0), read.1)) (number_at 8 bytes)) entry e in
    let g = from_map (λ (read : ℕ × List ℕ). ((kind, read.0), read.1)) (number_at 8 bytes) f.0 f.1 in
    let num = number_sound 8 bytes g.0.0 g.0.1 own g.1 in
    let low : g.0.0 < 256 ^ 8 = num.fits in
    let read : record_of_kind ((kind, g.0.0), g.0.1) ≡ Some entry = ap record_of_kind g.2 ∙ f.2 in
    subst (λ (xs : List ℕ). IsBodyOf (kind ∷ xs) entry) (sym num.text) (kind_sound kind g.0.0 g.0.1 entry num.are (omega arith) read)

pub record IsRecordOf (bytes : List ℕ) (entry : Record) (rest : List ℕ) : Type 0 where
  pub is : IsRecord entry
  pub text : bytes ≡ record_bytes entry ++ rest
  pub are : AreBytes rest

pub record_sound : (bytes : List ℕ) (entry : Record) (rest : List ℕ) → AreBytes bytes → record_at bytes ≡ Some (entry, rest) → IsRecordOf bytes entry rest
unfolding record_at
record_sound bytes entry rest are e =
    let step = λ (parts : List ℕ × List ℕ). option_map (λ (x : Record). (x, parts.1)) (record_of parts.0) in
    let f = from_then step (counted_at 4 bytes) (entry, rest) e in
    let counted = counted_sound 4 bytes f.0.0 f.0.1 are f.1 in
    let g = from_map (λ (x : Record). (x, f.0.1)) (record_of f.0.0) (entry, rest) f.2 in
    let body = record_of_sound f.0.0 g.0 counted.front g.1 in
    let long : length f.0.0 < 256 ^ 4 = counted.fits in
    let own : IsRecordOf bytes g.0 f.0.1 = record {
      is = record { writable = body.writable; fits = subst (λ (xs : List ℕ). length xs < 2 ^ 32) body.text (omega arith) };
      text = counted.text ∙ ap (λ (xs : List ℕ). (le_bytes 4 (length xs) ++ xs) ++ f.0.1) body.text;
      are = counted.are;
    } in
    subst (λ (p : Record × List ℕ). IsRecordOf bytes p.0 p.1) g.2 own

-- # No record begins another

pub one_record : OneRecord
one_record a b x y is_a is_b e =
    let p : Record × List ℕ = (a, x) in
    let q : Record × List ℕ = (b, y) in
    let same : p ≡ q = one_some p q (sym (record_complete a x is_a) ∙ ap record_at e ∙ record_complete b y is_b) in
    (ap (λ (p : Record × List ℕ). p.0) same, ap (λ (p : Record × List ℕ). p.1) same)

-- a record takes four bytes at least
pub record_takes : (entry : Record) → 4 ≤ length (record_bytes entry)
record_takes entry = omega (arith, length-append (le_bytes 4 (length (body_of entry))) (body_of entry), length-le_bytes 4 (length (body_of entry)))
