-- Cells: what is written is read back, and what is read was written.
use Rattle.std.proofs.Common.{◌≡◌, ℕ, zero, suc, ◌-◌, ◌<◌, ◌^◌, Bool, true, false, cond, ◌==◌, ℤ, List, [], ◌∷◌, ◌++◌, length, Option, Some, None, refl, sym, ap, ◌∙◌, subst, arith, append_assoc, append-nil}
use Rattle.std.specs.Int.{w32, w64, cast_signed, cast_unsigned}
use Rattle.std.specs.Int.RustNames.{FitsSigned}
use Rattle.std.specs.List.{flat_map, AllByRecursion}
use Rattle.std.specs.Option.{option_map, option_and_then}
use Rattle.std.proofs.Math.Facts.{Fits-of_lt, Fits-of_z, sfits_to_z}
use Rattle.std.proofs.lemmas.Int.{to_z-of_z, of_z-to_z}
use Rattle.std.proofs.lemmas.Bool.Decides.{Decides-eqb}
use Rattle.std.proofs.lemmas.List.Elements.{All-tail}
use Rattle.pt_value.specs.declared.value.Value.{Value}
use Rattle.pt_value.specs.declared.value.Value.TheVariants.{Null, Int, Day, Bytes}
use Rattle.pt_bytes.specs.Numbers.{AreBytes, le_bytes}
use Rattle.pt_rowfile.specs.Cells.{cell_bytes, IsCell}
use Rattle.pt_rowfile.specs.Reader.{number_at, counted_at, int_at, day_at, text_at, cell_of_kind, cell_at, cells_at, in_front}
use Rattle.pt_rowfile.proofs.Parts.{one_some, from_map, from_then, number_front, number_sound, counted_front, counted_sound}

pub record IsCellOf (bytes : List ℕ) (value : Value) (rest : List ℕ) : Type 0 where
  pub cell : IsCell value
  pub text : bytes ≡ cell_bytes value ++ rest
  pub are : AreBytes rest

abbrev Read : Type 0
Read = Value × List ℕ

-- # What is written is read

below64 : (n : ℤ) → FitsSigned w64 n → cast_unsigned w64 n < 256 ^ 8
below64 n fits = let f = Fits-of_z {w = w64} {z = n} fits in omega arith

below32 : (n : ℤ) → FitsSigned w32 n → cast_unsigned w32 n < 256 ^ 4
below32 n fits = let f = Fits-of_z {w = w32} {z = n} fits in omega arith

pub cell_complete : (value : Value) (rest : List ℕ) → IsCell value → cell_at (cell_bytes value ++ rest) ≡ Some (value, rest)
unfolding cell_at cell_of_kind int_at day_at text_at
cell_complete Null rest is = refl
cell_complete (Int n) rest is =
    ap (option_map (λ (read : ℕ × List ℕ). (Int (cast_signed w64 read.0), read.1))) (number_front 8 (cast_unsigned w64 n) rest (below64 n is))
    ∙ ap (λ z. Some (Int z, rest)) (to_z-of_z w64 n is)
cell_complete (Day n) rest is =
    ap (option_map (λ (read : ℕ × List ℕ). (Day (cast_signed w32 read.0), read.1))) (number_front 4 (cast_unsigned w32 n) rest (below32 n is))
    ∙ ap (λ z. Some (Day z, rest)) (to_z-of_z w32 n is)
cell_complete (Bytes bytes) rest is =
    ap (option_map (λ (parts : List ℕ × List ℕ). (Bytes parts.0, parts.1))) (counted_front 2 bytes rest (omega (arith, is.0)))

-- # What is read was written

int_sound : (bytes : List ℕ) (value : Value) (rest : List ℕ) → AreBytes bytes → int_at bytes ≡ Some (value, rest) → IsCellOf (1 ∷ bytes) value rest
unfolding int_at
int_sound bytes value rest are e =
    let f = from_map (λ (read : ℕ × List ℕ). (Int (cast_signed w64 read.0), read.1)) (number_at 8 bytes) (value, rest) e in
    let is = number_sound 8 bytes f.0.0 f.0.1 are f.1 in
    let val : Int (cast_signed w64 f.0.0) ≡ value = ap (λ (p : Read). p.0) f.2 in
    let same : f.0.1 ≡ rest = ap (λ (p : Read). p.1) f.2 in
    let low : f.0.0 < 2 ^ 64 = omega (arith, is.fits) in
    let z = cast_signed w64 f.0.0 in
    let own : IsCellOf (1 ∷ bytes) (Int z) f.0.1 = record {
      cell = sfits_to_z {w = w64} {n = f.0.0} (Fits-of_lt {w = w64} low);
      text = ap (λ (xs : List ℕ). 1 ∷ xs) (is.text ∙ ap (λ m. le_bytes 8 m ++ f.0.1) (sym (of_z-to_z w64 f.0.0 low)));
      are = is.are;
    } in
    subst (λ (v : Value). IsCellOf (1 ∷ bytes) v rest) val (subst (λ (r : List ℕ). IsCellOf (1 ∷ bytes) (Int z) r) same own)

day_sound : (bytes : List ℕ) (value : Value) (rest : List ℕ) → AreBytes bytes → day_at bytes ≡ Some (value, rest) → IsCellOf (2 ∷ bytes) value rest
unfolding day_at
day_sound bytes value rest are e =
    let f = from_map (λ (read : ℕ × List ℕ). (Day (cast_signed w32 read.0), read.1)) (number_at 4 bytes) (value, rest) e in
    let is = number_sound 4 bytes f.0.0 f.0.1 are f.1 in
    let val : Day (cast_signed w32 f.0.0) ≡ value = ap (λ (p : Read). p.0) f.2 in
    let same : f.0.1 ≡ rest = ap (λ (p : Read). p.1) f.2 in
    let low : f.0.0 < 2 ^ 32 = omega (arith, is.fits) in
    let z = cast_signed w32 f.0.0 in
    let own : IsCellOf (2 ∷ bytes) (Day z) f.0.1 = record {
      cell = sfits_to_z {w = w32} {n = f.0.0} (Fits-of_lt {w = w32} low);
      text = ap (λ (xs : List ℕ). 2 ∷ xs) (is.text ∙ ap (λ m. le_bytes 4 m ++ f.0.1) (sym (of_z-to_z w32 f.0.0 low)));
      are = is.are;
    } in
    subst (λ (v : Value). IsCellOf (2 ∷ bytes) v rest) val (subst (λ (r : List ℕ). IsCellOf (2 ∷ bytes) (Day z) r) same own)

text_sound : (bytes : List ℕ) (value : Value) (rest : List ℕ) → AreBytes bytes → text_at bytes ≡ Some (value, rest) → IsCellOf (3 ∷ bytes) value rest
unfolding text_at
text_sound bytes value rest are e =
    let f = from_map (λ (parts : List ℕ × List ℕ). (Bytes parts.0, parts.1)) (counted_at 2 bytes) (value, rest) e in
    let is = counted_sound 2 bytes f.0.0 f.0.1 are f.1 in
    let val : Bytes f.0.0 ≡ value = ap (λ (p : Read). p.0) f.2 in
    let same : f.0.1 ≡ rest = ap (λ (p : Read). p.1) f.2 in
    let own : IsCellOf (3 ∷ bytes) (Bytes f.0.0) f.0.1 = record { cell = ((let h = is.fits in omega arith), is.front); text = ap (λ (xs : List ℕ). 3 ∷ xs) is.text; are = is.are } in
    subst (λ (v : Value). IsCellOf (3 ∷ bytes) v rest) val (subst (λ (r : List ℕ). IsCellOf (3 ∷ bytes) (Bytes f.0.0) r) same own)

is_number : (a b : ℕ) → (a == b) ≡ true → a ≡ b
is_number a b h = (Decides-eqb a b).0 h

kind_sound : (kind : ℕ) (bytes : List ℕ) (value : Value) (rest : List ℕ) → AreBytes bytes → cell_of_kind kind bytes ≡ Some (value, rest) → IsCellOf (kind ∷ bytes) value rest
unfolding cell_of_kind
kind_sound kind bytes value rest are e = go (kind == 0) refl (kind == 1) refl (kind == 2) refl (kind == 3) refl e
  where
    moved : (k : ℕ) → (kind == k) ≡ true → IsCellOf (k ∷ bytes) value rest → IsCellOf (kind ∷ bytes) value rest
    moved k h is = subst (λ n. IsCellOf (n ∷ bytes) value rest) (sym (is_number kind k h)) is

    null_sound : ◌≡◌ {A = Option Read} (Some (Null, bytes)) (Some (value, rest)) → IsCellOf (0 ∷ bytes) value rest
    null_sound f =
        let p : Read = (Null, bytes) in
        let q : Read = (value, rest) in
        let same : p ≡ q = one_some p q f in
        let own : IsCellOf (0 ∷ bytes) Null bytes = record { cell = tt; text = refl; are = are } in
        subst (λ (p : Read). IsCellOf (0 ∷ bytes) p.0 p.1) same own

    go : (b0 : Bool) → (kind == 0) ≡ b0 → (b1 : Bool) → (kind == 1) ≡ b1 → (b2 : Bool) → (kind == 2) ≡ b2 → (b3 : Bool) → (kind == 3) ≡ b3
        → cond b0 (Some (Null, bytes)) (cond b1 (int_at bytes) (cond b2 (day_at bytes) (cond b3 (text_at bytes) None))) ≡ Some (value, rest) → IsCellOf (kind ∷ bytes) value rest
    go true h b1 h1 b2 h2 b3 h3 f = moved 0 h (null_sound f)
    go false h true h1 b2 h2 b3 h3 f = moved 1 h1 (int_sound bytes value rest are f)
    go false h false h1 true h2 b3 h3 f = moved 2 h2 (day_sound bytes value rest are f)
    go false h false h1 false h2 true h3 f = moved 3 h3 (text_sound bytes value rest are f)
    go false h false h1 false h2 false h3 f = absurd (let bad : None ≡ Some (value, rest) = f in cc)

pub cell_sound : (bytes : List ℕ) (value : Value) (rest : List ℕ) → AreBytes bytes → cell_at bytes ≡ Some (value, rest) → IsCellOf bytes value rest
unfolding cell_at
cell_sound [] value rest are e = absurd (let bad : None ≡ Some (value, rest) = e in cc)
cell_sound (kind ∷ bytes) value rest are e = kind_sound kind bytes value rest (All-tail (λ b. b < 256) kind bytes are) e

-- # So many cells

pub cells_complete : (cells : List Value) (rest : List ℕ) → AllByRecursion IsCell cells → cells_at (length cells) (flat_map cell_bytes cells ++ rest) ≡ Some (cells, rest)
unfolding cells_at
cells_complete [] rest each = refl
cells_complete (cell ∷ cells) rest each =
    ap (λ xs. option_and_then (λ (read : Read). option_map (in_front read.0) (cells_at (length cells) read.1)) (cell_at xs)) (append_assoc (cell_bytes cell) (flat_map cell_bytes cells) rest)
    ∙ ap (option_and_then (λ (read : Read). option_map (in_front read.0) (cells_at (length cells) read.1))) (cell_complete cell (flat_map cell_bytes cells ++ rest) each.0)
    ∙ ap (option_map (in_front cell)) (cells_complete cells rest each.1)

pub record AreCellsOf (n : ℕ) (bytes : List ℕ) (cells : List Value) (rest : List ℕ) : Type 0 where
  pub each : AllByRecursion IsCell cells
  pub number : length cells ≡ n
  pub text : bytes ≡ flat_map cell_bytes cells ++ rest
  pub are : AreBytes rest

pub cells_sound : (n : ℕ) (bytes : List ℕ) (cells : List Value) (rest : List ℕ) → AreBytes bytes → cells_at n bytes ≡ Some (cells, rest) → AreCellsOf n bytes cells rest
unfolding cells_at
cells_sound zero bytes cells rest are e =
    let p : List Value × List ℕ = ([], bytes) in
    let q : List Value × List ℕ = (cells, rest) in
    let same : p ≡ q = one_some p q e in
    let own : AreCellsOf 0 bytes [] bytes = record { each = tt; number = refl; text = refl; are = are } in
    subst (λ (p : List Value × List ℕ). AreCellsOf 0 bytes p.0 p.1) same own
cells_sound (suc n) bytes cells rest are e =
    let f = from_then (λ (read : Read). option_map (in_front read.0) (cells_at n read.1)) (cell_at bytes) (cells, rest) e in
    let first = cell_sound bytes f.0.0 f.0.1 are f.1 in
    let g = from_map (in_front f.0.0) (cells_at n f.0.1) (cells, rest) f.2 in
    let more = cells_sound n f.0.1 g.0.0 g.0.1 first.are g.1 in
    let own : AreCellsOf (suc n) bytes (f.0.0 ∷ g.0.0) g.0.1 = record {
      each = (first.cell, more.each);
      number = ap suc more.number;
      text = first.text ∙ ap (λ (xs : List ℕ). cell_bytes f.0.0 ++ xs) more.text ∙ sym (append_assoc (cell_bytes f.0.0) (flat_map cell_bytes g.0.0) g.0.1);
      are = more.are;
    } in
    subst (λ (p : List Value × List ℕ). AreCellsOf (suc n) bytes p.0 p.1) g.2 own

-- # The loop over cells

pub cells_step : (n : ℕ) (bytes rest : List ℕ) (cell : Value) → 0 < n → cell_at bytes ≡ Some (cell, rest) → cells_at n bytes ≡ option_map (in_front cell) (cells_at (n - 1) rest)
unfolding cells_at
cells_step zero bytes rest cell some e = absurd (omega arith)
cells_step (suc n) bytes rest cell some e =
    ap (option_and_then (λ (read : Read). option_map (in_front read.0) (cells_at n read.1))) e ∙ ap (λ k. option_map (in_front cell) (cells_at k rest)) (omega arith)

pub cells_fail : (n : ℕ) (bytes : List ℕ) → 0 < n → cell_at bytes ≡ None → cells_at n bytes ≡ None
unfolding cells_at
cells_fail zero bytes some e = absurd (omega arith)
cells_fail (suc n) bytes some e = ap (option_and_then (λ (read : Read). option_map (in_front read.0) (cells_at n read.1))) e

abbrev pub behind : List Value → List Value × List ℕ → List Value × List ℕ
behind cells more = (cells ++ more.0, more.1)

pub cells_preserved : (whole : Option (List Value × List ℕ)) (cells later : List Value) (n : ℕ) (bytes rest : List ℕ) (cell : Value) → whole ≡ option_map (behind cells) (cells_at n bytes) → 0 < n
    → cell_at bytes ≡ Some (cell, rest) → later ≡ cells ++ cell ∷ [] → whole ≡ option_map (behind later) (cells_at (n - 1) rest)
cells_preserved whole cells later n bytes rest cell is some e pushed =
    is ∙ ap (option_map (behind cells)) (cells_step n bytes rest cell some e) ∙ go (cells_at (n - 1) rest) ∙ ap (λ cs. option_map (behind cs) (cells_at (n - 1) rest)) (sym pushed)
  where
    go : (o : Option (List Value × List ℕ)) → option_map (behind cells) (option_map (in_front cell) o) ≡ option_map (behind (cells ++ cell ∷ [])) o
    go None = refl
    go (Some more) = ap (λ cs. Some (cs, more.1)) (sym (append_assoc cells (cell ∷ []) more.0))

pub cells_end : (whole : Option (List Value × List ℕ)) (cells : List Value) (n : ℕ) (bytes : List ℕ) → whole ≡ option_map (behind cells) (cells_at n bytes) → n ≡ 0 → whole ≡ Some (cells, bytes)
unfolding cells_at
cells_end whole cells n bytes is none = is ∙ ap (λ k. option_map (behind cells) (cells_at k bytes)) none ∙ ap (λ cs. Some (cs, bytes)) (append-nil cells)

pub cells_begin : (n : ℕ) (bytes : List ℕ) → cells_at n bytes ≡ option_map (behind []) (cells_at n bytes)
cells_begin n bytes = go (cells_at n bytes)
  where
    go : (o : Option (List Value × List ℕ)) → o ≡ option_map (behind []) o
    go None = refl
    go (Some more) = refl
