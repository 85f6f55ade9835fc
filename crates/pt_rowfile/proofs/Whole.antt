-- The rows of a file as a function of its bytes.
use Rattle.std.proofs.Common.{◌≡◌, ◌≢◌, ℕ, zero, suc, ◌+◌, ◌≤◌, Bool, true, false, cond, List, [], ◌∷◌, ◌++◌, length, Option, Some, None, refl, ap, ◌∙◌, arith, length-append}
use Rattle.std.specs.Prelude.{nat_eq}
use Rattle.std.specs.List.{flat_map, AllByRecursion}
use Rattle.std.specs.Option.{option_and_then}
use Rattle.std.proofs.lemmas.Bool.Decides.{Decides-eqb}
use Rattle.std.proofs.lemmas.List.{nil_from_length}
use Rattle.pt_ast.specs.declared.database.Row.{Row}
use Rattle.pt_bytes.specs.Numbers.{AreBytes}
use Rattle.pt_rowfile.specs.declared.record.Record.{Record}
use Rattle.pt_rowfile.specs.Records.{IsRecord, record_bytes}
use Rattle.pt_rowfile.specs.Rows.{Spells, after, left}
use Rattle.pt_rowfile.specs.Laws.{OneFile}
use Rattle.pt_rowfile.specs.Reader.{record_at, rows_from, rows_spelled}
use Rattle.pt_rowfile.proofs.Parts.{from_then, one_some}
use Rattle.pt_rowfile.proofs.Records.{record_complete, record_sound, record_takes}

abbrev next_of : ℕ → Record × List ℕ → List Row → Option (List Row)
next_of n read later = rows_from n later read.1

abbrev step_of : ℕ → List Row → Record × List ℕ → Option (List Row)
step_of n rows read = option_and_then (next_of n read) (after read.0 rows)

spells_none : (old new : List Row) (bytes : List ℕ) → length bytes ≡ 0 → old ≡ new → Spells old bytes new
spells_none old new bytes none same = record { records = []; each = tt; text = nil_from_length bytes none; leaves = ap Some same }

spells_cons : (old later new : List Row) (bytes rest : List ℕ) (entry : Record) → IsRecord entry → bytes ≡ record_bytes entry ++ rest → after entry old ≡ Some later → Spells later rest new → Spells old bytes new
spells_cons old later new bytes rest entry is text step spells = record {
  records = entry ∷ spells.records;
  each = (is, spells.each);
  text = text ∙ ap (λ (xs : List ℕ). record_bytes entry ++ xs) spells.text;
  leaves = ap (option_and_then (left spells.records)) step ∙ spells.leaves;
}

none_left : (n : ℕ) → nat_eq n 0 ≡ true → n ≡ 0
none_left n h = (Decides-eqb n 0).0 h

rows_sound : (n : ℕ) (old new : List Row) (bytes : List ℕ) → AreBytes bytes → rows_from n old bytes ≡ Some new → Spells old bytes new
unfolding rows_from
rows_sound zero old new bytes are e = go (nat_eq (length bytes) 0) refl e
  where
    go : (b : Bool) → nat_eq (length bytes) 0 ≡ b → cond b (Some old) None ≡ Some new → Spells old bytes new
    go true h same = spells_none old new bytes (none_left (length bytes) h) (one_some old new same)
    go false h same = absurd cc
rows_sound (suc n) old new bytes are e = go (nat_eq (length bytes) 0) refl e (rows_sound n)
  where
    go : (b : Bool) → nat_eq (length bytes) 0 ≡ b → cond b (Some old) (option_and_then (step_of n old) (record_at bytes)) ≡ Some new
        → ((rows later : List Row) (rest : List ℕ) → AreBytes rest → rows_from n rows rest ≡ Some later → Spells rows rest later) → Spells old bytes new
    go true h same more = spells_none old new bytes (none_left (length bytes) h) (one_some old new same)
    go false h same more =
        let f = from_then (step_of n old) (record_at bytes) new same in
        let is = record_sound bytes f.0.0 f.0.1 are f.1 in
        let g = from_then (next_of n f.0) (after f.0.0 old) new f.2 in
        spells_cons old g.0 new bytes f.0.1 f.0.0 is.is is.text g.1 (more g.0 new f.0.1 is.are g.2)

rows_end : (n : ℕ) (old : List Row) → rows_from n old [] ≡ Some old
unfolding rows_from
rows_end zero old = refl
rows_end (suc n) old = refl

rows_next : (n : ℕ) (old later new : List Row) (bytes rest : List ℕ) (entry : Record) → length bytes ≢ 0 → record_at bytes ≡ Some (entry, rest) → after entry old ≡ Some later → rows_from n later rest ≡ Some new
    → rows_from (suc n) old bytes ≡ Some new
unfolding rows_from
rows_next n old later new bytes rest entry some read step more =
    ap (λ b. cond b (Some old) (option_and_then (step_of n old) (record_at bytes))) (false_from (nat_eq (length bytes) 0) (λ h. some (none_left (length bytes) h)))
    ∙ ap (option_and_then (step_of n old)) read
    ∙ ap (option_and_then (λ (rows : List Row). rows_from n rows rest)) step
    ∙ more
  where
    false_from : (b : Bool) → (b ≡ true → ⊥) → b ≡ false
    false_from true h = absurd (h refl)
    false_from false h = refl

rows_complete : (records : List Record) (n : ℕ) (old new : List Row) (bytes : List ℕ) → AllByRecursion IsRecord records → bytes ≡ flat_map record_bytes records → left records old ≡ Some new → length bytes ≤ n
    → rows_from n old bytes ≡ Some new
rows_complete [] n old new bytes each text leaves few = ap (λ (xs : List ℕ). rows_from n old xs) text ∙ rows_end n old ∙ leaves
rows_complete (entry ∷ records) zero old new bytes each text leaves few =
    absurd (omega (arith, ap (λ (xs : List ℕ). length xs) text, length-append (record_bytes entry) (flat_map record_bytes records), record_takes entry))
rows_complete (entry ∷ records) (suc n) old new bytes each text leaves few =
    let rest = flat_map record_bytes records in
    let long : length bytes ≡ length (record_bytes entry) + length rest = ap (λ (xs : List ℕ). length xs) text ∙ length-append (record_bytes entry) rest in
    let four : 4 ≤ length (record_bytes entry) = record_takes entry in
    let f = from_then (left records) (after entry old) new leaves in
    rows_next n old f.0 new bytes rest entry (λ none. omega arith) (ap record_at text ∙ record_complete entry rest each.0) f.1
    (rows_complete records n f.0 new rest each.1 refl f.2 (omega arith))

pub one_file : OneFile
unfolding rows_spelled
one_file bytes rows are = (
  (λ e. rows_sound (length bytes) [] rows bytes are e),
  λ spells. rows_complete spells.records (length bytes) [] rows bytes spells.each spells.text spells.leaves (omega arith),
)
