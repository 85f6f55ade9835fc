-- Reading record by record.
use Rattle.std.proofs.Common.{◌≡◌, ℕ, ◌-◌, ◌<◌, ◌≤◌, List, [], ◌∷◌, ◌++◌, length, take, drop, get_or, Some, None, refl, sym, ap, ◌∙◌, subst, arith, append_assoc, append-nil, length-append}
use Rattle.std.specs.List.{flat_map, AllByRecursion}
use Rattle.std.specs.Option.{option_and_then}
use Rattle.std.proofs.lemmas.Grind.{flat_map-append}
use Rattle.std.proofs.lemmas.List.{take_at, drop_at, nil_from_length, get_or_default}
use Rattle.pt_ast.specs.declared.database.Row.{Row}
use Rattle.pt_bytes.specs.Numbers.{AreBytes}
use Rattle.pt_rowfile.specs.declared.record.Record.{Record}
use Rattle.pt_rowfile.specs.Records.{IsRecord, record_bytes}
use Rattle.pt_rowfile.specs.Rows.{IsBadAt, Spells, SpellsRows, after, left}
use Rattle.pt_rowfile.specs.SoFar.{IsSoFar}
use Rattle.pt_rowfile.specs.Laws.{Appended}
use Rattle.pt_rowfile.specs.Reader.{record_at}
use Rattle.pt_rowfile.proofs.Parts.{from_then, one_some}
use Rattle.pt_rowfile.proofs.Records.{record_complete, record_sound, record_takes}

-- # One record more

left_push : (records : List Record) (entry : Record) (old rows later : List Row) → left records old ≡ Some rows → after entry rows ≡ Some later → left (records ++ entry ∷ []) old ≡ Some later
left_push [] entry old rows later is step =
    let same : old ≡ rows = one_some old rows is in
    ap (λ (x : List Row). option_and_then (left []) (after entry x)) same ∙ ap (option_and_then (left [])) step
left_push (first ∷ records) entry old rows later is step =
    let f = from_then (left records) (after first old) rows is in
    ap (option_and_then (left (records ++ entry ∷ []))) f.1 ∙ left_push records entry f.0 rows later f.2 step

each_push : (records : List Record) (entry : Record) → AllByRecursion IsRecord records → IsRecord entry → AllByRecursion IsRecord (records ++ entry ∷ [])
each_push [] entry each is = (is, tt)
each_push (first ∷ records) entry each is = (each.0, each_push records entry each.1 is)

spells_push : (old rows later : List Row) (bytes : List ℕ) (entry : Record) → Spells old bytes rows → IsRecord entry → after entry rows ≡ Some later → Spells old (bytes ++ record_bytes entry) later
spells_push old rows later bytes entry spells is step = record {
  records = spells.records ++ entry ∷ [];
  each = each_push spells.records entry spells.each is;
  text =
      ap (λ (xs : List ℕ). xs ++ record_bytes entry) spells.text
      ∙ ap (λ (xs : List ℕ). flat_map record_bytes spells.records ++ xs) (sym (append-nil (record_bytes entry)))
      ∙ sym (flat_map-append record_bytes spells.records (entry ∷ []));
  leaves = left_push spells.records entry old rows later spells.leaves step;
}

pub appended : Appended
appended bytes rows later entry spells is step = spells_push [] rows later bytes entry spells is step

-- # The loop

pub are_bytes : (bytes : List ℕ) → ((i : ℕ) → get_or bytes i 0 < 256) → AreBytes bytes
are_bytes bytes fits k d within = subst (λ n. n < 256) (get_or_default bytes k 0 d within) (fits k)

pub so_far_begin : (bytes : List ℕ) → AreBytes bytes → IsSoFar bytes bytes []
so_far_begin bytes are = record { front = []; parts = refl; spells = record { records = []; each = tt; text = refl; leaves = refl }; are = are }

pub so_far_more : (bytes rest behind : List ℕ) (rows later : List Row) (entry : Record) → IsSoFar bytes rest rows → record_at rest ≡ Some (entry, behind) → after entry rows ≡ Some later → IsSoFar bytes behind later
so_far_more bytes rest behind rows later entry so_far read step =
    let is = record_sound rest entry behind so_far.are read in
    record {
      front = so_far.front ++ record_bytes entry;
      parts = so_far.parts ∙ ap (λ (xs : List ℕ). so_far.front ++ xs) is.text ∙ sym (append_assoc so_far.front (record_bytes entry) behind);
      spells = spells_push [] rows later so_far.front entry so_far.spells is.is step;
      are = is.are;
    }

pub so_far_long : (bytes rest : List ℕ) (rows : List Row) → IsSoFar bytes rest rows → length rest ≤ length bytes
so_far_long bytes rest rows so_far = omega (arith, ap (λ (xs : List ℕ). length xs) so_far.parts, length-append so_far.front rest)

pub shorter : (bytes rest behind : List ℕ) (rows : List Row) (entry : Record) → IsSoFar bytes rest rows → record_at rest ≡ Some (entry, behind) → length behind < length rest
shorter bytes rest behind rows entry so_far read =
    let is = record_sound rest entry behind so_far.are read in
    omega (arith, ap (λ (xs : List ℕ). length xs) is.text, length-append (record_bytes entry) behind, record_takes entry)

pub so_far_end : (bytes rest : List ℕ) (rows : List Row) → IsSoFar bytes rest rows → length rest ≡ 0 → SpellsRows bytes rows
so_far_end bytes rest rows so_far none =
    subst (λ (xs : List ℕ). SpellsRows xs rows)
    (sym (so_far.parts ∙ ap (λ (xs : List ℕ). so_far.front ++ xs) (nil_from_length rest none) ∙ append-nil so_far.front)) so_far.spells

-- what stands where the reading ends isn't proper
bad_at : (bytes rest : List ℕ) (rows : List Row) → IsSoFar bytes rest rows → 0 < length rest
    → ((entry : Record) (behind : List ℕ) → IsRecord entry → rest ≡ record_bytes entry ++ behind → after entry rows ≡ None) → IsBadAt bytes (length bytes - length rest)
bad_at bytes rest rows so_far some none =
    let long : length so_far.front ≡ length bytes - length rest = omega (arith, ap (λ (xs : List ℕ). length xs) so_far.parts, length-append so_far.front rest) in
    let front : take (length bytes - length rest) bytes ≡ so_far.front = ap (take (length bytes - length rest)) so_far.parts ∙ take_at so_far.front rest (length bytes - length rest) long in
    let behind : drop (length bytes - length rest) bytes ≡ rest = ap (drop (length bytes - length rest)) so_far.parts ∙ drop_at so_far.front rest (length bytes - length rest) long in
    record {
      rows = rows;
      before = subst (λ (xs : List ℕ). SpellsRows xs rows) (sym front) so_far.spells;
      there = omega (arith, so_far_long bytes rest rows so_far);
      none = λ entry more is text. none entry more is (sym behind ∙ text);
    }

pub bad_none : (bytes rest : List ℕ) (rows : List Row) → IsSoFar bytes rest rows → 0 < length rest → record_at rest ≡ None → IsBadAt bytes (length bytes - length rest)
bad_none bytes rest rows so_far some none =
    bad_at bytes rest rows so_far some (λ entry more is text. absurd (let bad : None ≡ Some (entry, more) = sym none ∙ ap record_at text ∙ record_complete entry more is in cc))

pub bad_after : (bytes rest behind : List ℕ) (rows : List Row) (entry : Record) → IsSoFar bytes rest rows → 0 < length rest → record_at rest ≡ Some (entry, behind) → after entry rows ≡ None
    → IsBadAt bytes (length bytes - length rest)
bad_after bytes rest behind rows entry so_far some read none =
    bad_at bytes rest rows so_far some (λ other more is text.
    let p : Record × List ℕ = (entry, behind) in
    let q : Record × List ℕ = (other, more) in
    let same : p ≡ q = one_some p q (sym read ∙ ap record_at text ∙ record_complete other more is) in
    subst (λ (r : Record × List ℕ). after r.0 rows ≡ None) same none)
