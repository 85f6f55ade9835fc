-- The place of a row, record by record.
use Rattle.std.proofs.Common.{◌≡◌, ℕ, ◌+◌, ◌-◌, ◌<◌, ◌≤◌, ◌^◌, List, [], ◌∷◌, ◌++◌, length, Option, Some, None, refl, sym, ap, ap₂, ◌∙◌, subst, arith, append-nil, length-append}
use Rattle.std.specs.List.{flat_map, AllByRecursion}
use Rattle.std.specs.Option.{option_map, option_and_then}
use Rattle.pt_bytes.specs.Numbers.{le_bytes}
use Rattle.pt_rowfile.specs.declared.record.Record.{Record}
use Rattle.pt_rowfile.specs.declared.record.Record.TheVariants.{Put, Delete}
use Rattle.pt_rowfile.specs.Records.{IsRecord, IsWritable, body_of, cells_bytes, record_bytes}
use Rattle.pt_rowfile.specs.Reader.{head_at, head_of, headed_at}
use Rattle.pt_rowfile.specs.Placed.{IsPlaceOf, IsRowFile, place_after, place_left}
use Rattle.pt_rowfile.specs.OnPlace.{IsOnPlace, placed}
use Rattle.pt_rowfile.proofs.Parts.{one_some, counted_front}
use Rattle.pt_rowfile.proofs.Records.{head_front, record_takes}

abbrev head_by : Record → ℕ × ℕ
head_by (Put row) = (1, row.serial)
head_by (Delete serial) = (2, serial)

head_complete : (entry : Record) → IsWritable entry → head_of (body_of entry) ≡ Some (head_by entry)
unfolding head_of
head_complete (Put row) is = ap (option_map (λ (h : (ℕ × ℕ) × List ℕ). h.0)) (head_front 1 row.serial (cells_bytes row.cells) (let h = is.0 in omega arith))
head_complete (Delete serial) is =
    ap (λ (xs : List ℕ). option_map (λ (h : (ℕ × ℕ) × List ℕ). h.0) (head_at (2 ∷ xs))) (sym (append-nil (le_bytes 8 serial)))
    ∙ ap (option_map (λ (h : (ℕ × ℕ) × List ℕ). h.0)) (head_front 2 serial [] (omega arith))

headed_complete : (entry : Record) (rest : List ℕ) → IsRecord entry → headed_at (record_bytes entry ++ rest) ≡ Some (head_by entry, rest)
unfolding headed_at
headed_complete entry rest is =
    let long : length (body_of entry) < 256 ^ 4 = (let h = is.fits in omega arith) in
    let step : List ℕ × List ℕ → Option ((ℕ × ℕ) × List ℕ) = λ parts. option_map (λ (h : ℕ × ℕ). (h, parts.1)) (head_of parts.0) in
    ap (option_and_then step) (counted_front 4 (body_of entry) rest long)
    ∙ ap (option_map (λ (h : ℕ × ℕ). (h, rest))) (head_complete entry is.writable)

placed_is : (serial : ℕ) (entry : Record) (here : ℕ) (found : Option ℕ) → place_after serial entry here found ≡ placed serial (head_by entry) here found
placed_is serial (Put row) here found = refl
placed_is serial (Delete other) here found = refl

pub on_begin : (bytes : List ℕ) (serial : ℕ) → IsRowFile bytes → IsOnPlace bytes bytes serial None
on_begin bytes serial file =
    let records = file.spells.records in
    let none : 0 ≡ length bytes - length bytes = omega arith in
    record {
      records = records;
      each = file.spells.each;
      text = file.spells.text;
      more = records;
      each_more = file.spells.each;
      rest_text = file.spells.text;
      most = omega arith;
      last = ap (λ (n : ℕ). place_left serial records n None) none;
    }

-- what stands in front of bytes that aren't all read
pub record IsAhead (bytes rest : List ℕ) (serial : ℕ) (found : Option ℕ) : Type 0 where
  pub head : ℕ × ℕ
  pub behind : List ℕ
  pub read : headed_at rest ≡ Some (head, behind)
  pub less : length behind < length rest
  pub later : IsOnPlace bytes behind serial (placed serial head (length bytes - length rest) found)

ahead : (bytes rest : List ℕ) (serial : ℕ) (found : Option ℕ) → IsOnPlace bytes rest serial found → 0 < length rest → IsAhead bytes rest serial found
ahead bytes rest serial found on some = go on.more on.each_more on.rest_text on.last
  where
    go : (more : List Record) → AllByRecursion IsRecord more → rest ≡ flat_map record_bytes more
        → place_left serial on.records 0 None ≡ place_left serial more (length bytes - length rest) found → IsAhead bytes rest serial found
    go [] each text last = absurd (omega (arith, ap (λ (xs : List ℕ). length xs) text))
    go (entry ∷ more) each text last =
        let behind = flat_map record_bytes more in
        let here = length bytes - length rest in
        let long : length rest ≡ length (record_bytes entry) + length behind = ap (λ (xs : List ℕ). length xs) text ∙ length-append (record_bytes entry) behind in
        let four : 4 ≤ length (record_bytes entry) = record_takes entry in
        let most : length rest ≤ length bytes = on.most in
        let there : here + length (record_bytes entry) ≡ length bytes - length behind = omega arith in
        record {
          head = head_by entry;
          behind = behind;
          read = ap headed_at text ∙ headed_complete entry behind each.0;
          less = omega arith;
          later = record {
            records = on.records;
            each = on.each;
            text = on.text;
            more = more;
            each_more = each.1;
            rest_text = refl;
            most = omega arith;
            last = last ∙ ap₂ (λ (n : ℕ) (place : Option ℕ). place_left serial more n place) there (placed_is serial entry here found);
          };
        }

pub on_none : (bytes rest : List ℕ) (serial : ℕ) (found : Option ℕ) → IsOnPlace bytes rest serial found → 0 < length rest → headed_at rest ≡ None → ⊥
on_none bytes rest serial found on some none = let a = ahead bytes rest serial found on some in let bad : ◌≡◌ {A = Option ((ℕ × ℕ) × List ℕ)} None (Some (a.head, a.behind)) = sym none ∙ a.read in cc

pub on_more : (bytes rest behind : List ℕ) (serial : ℕ) (found : Option ℕ) (head : ℕ × ℕ) → IsOnPlace bytes rest serial found → 0 < length rest → headed_at rest ≡ Some (head, behind)
    → (length behind < length rest) × IsOnPlace bytes behind serial (placed serial head (length bytes - length rest) found)
on_more bytes rest behind serial found head on some read =
    let a = ahead bytes rest serial found on some in
    let p : (ℕ × ℕ) × List ℕ = (a.head, a.behind) in
    let q : (ℕ × ℕ) × List ℕ = (head, behind) in
    let same : p ≡ q = one_some p q (sym a.read ∙ read) in
    subst (λ (z : (ℕ × ℕ) × List ℕ). (length z.1 < length rest) × IsOnPlace bytes z.1 serial (placed serial z.0 (length bytes - length rest) found)) same (a.less, a.later)

pub on_most : (bytes rest : List ℕ) (serial : ℕ) (found : Option ℕ) → IsOnPlace bytes rest serial found → length rest ≤ length bytes
on_most bytes rest serial found on = on.most

pub on_end : (bytes rest : List ℕ) (serial : ℕ) (found : Option ℕ) → IsOnPlace bytes rest serial found → length rest ≡ 0 → IsPlaceOf bytes serial found
on_end bytes rest serial found on none = record { records = on.records; each = on.each; text = on.text; last = sym (on.last ∙ go on.more on.rest_text) }
  where
    go : (more : List Record) → rest ≡ flat_map record_bytes more → place_left serial more (length bytes - length rest) found ≡ found
    go [] text = refl
    go (entry ∷ more) text =
        absurd (omega (arith, none, ap (λ (xs : List ℕ). length xs) text, length-append (record_bytes entry) (flat_map record_bytes more), record_takes entry))
