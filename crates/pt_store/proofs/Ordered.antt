-- Entries whose names rise.
use Rattle.std.proofs.Common.{◌≡◌, ℕ, zero, suc, ◌<◌, List, [], ◌∷◌, ◌++◌, length, get_or, map, sym, subst, arith, Less, Greater}
use Rattle.std.specs.Prelude.{insert, Some}
use Rattle.std.specs.List.{AllByRecursion}
use Rattle.std.specs.List.Sorted.{IsStrictlySortedBy}
use Rattle.std.specs.Cmp.Lexicographic.{slice_cmp}
use Rattle.std.specs.Ordering.{nat_cmp}
use Rattle.std.proofs.lemmas.Map.Keys.{sorted_head, sorted_tail}
use Rattle.pt_host.specs.Listed.{AreRising}
use Rattle.pt_plain.proofs.Rising.{sorted_cons, sorted_nil}
use Rattle.pt_store.specs.declared.entry.Entry.{Entry}
use Rattle.pt_store.specs.Entries.{AreEntries, AreInOrder, Parses}
use Rattle.pt_left.specs.Left.{serials_name}
use Rattle.pt_left.specs.Spelling.{Spells}
use Rattle.pt_store.proofs.Listing.{less_back, all_above}
use Rattle.pt_store.proofs.Parsed.{entry_names}
use Rattle.pt_store.proofs.Placed.{AreBefore, nowhere, stands}

pub none_in_order : AreInOrder []
none_in_order = sorted_nil (slice_cmp nat_cmp)

-- entries of files whose names rise
pub in_order : (bytes : List ℕ) (entries : List Entry) (files : List (List ℕ × List ℕ)) → AreEntries bytes entries files → AreRising files → AreInOrder entries
in_order bytes entries files are rising = subst (IsStrictlySortedBy (slice_cmp nat_cmp)) (sym (entry_names bytes entries files are)) rising

pub parsed_in_order : (bytes : List ℕ) (entries : List Entry) → Parses Spells bytes (Some entries) → AreInOrder entries
parsed_in_order bytes entries found = in_order bytes entries found.0 found.2 found.1.map.rising

abbrev names : List Entry → List (List ℕ)
names entries = map (λ entry. entry.name) entries

-- # With an entry for `serials.cnt` in its place

all_inserted : (P : List ℕ → Type 0) (entries : List Entry) (i : ℕ) → P serials_name → AllByRecursion P (names entries) → AllByRecursion P (names (insert entries i nowhere))
all_inserted P [] zero here each = (here, tt)
all_inserted P [] (suc i) here each = (here, tt)
all_inserted P (e ∷ entries) zero here each = (here, each)
all_inserted P (e ∷ entries) (suc i) here each = (each.0, all_inserted P entries i here each.1)

all_pushed : (P : List ℕ → Type 0) (entries : List Entry) → P serials_name → AllByRecursion P (names entries) → AllByRecursion P (names (entries ++ nowhere ∷ []))
all_pushed P [] here each = (here, tt)
all_pushed P (e ∷ entries) here each = (each.0, all_pushed P entries here each.1)

pub inserted_in_order : (entries : List Entry) (i : ℕ) → i < length entries → AreBefore entries i → ((d : Entry) → stands (get_or entries i d) ≡ Greater) → AreInOrder entries → AreInOrder (insert entries i nowhere)
inserted_in_order [] i within before after order = absurd (omega arith)
inserted_in_order (e ∷ entries) zero within before after order =
    let less = less_back e.name serials_name (after e) in
    sorted_cons (slice_cmp nat_cmp) serials_name (names (e ∷ entries)) (less, all_above serials_name e.name (names entries) less (sorted_head (slice_cmp nat_cmp) e.name (names entries) order)) order
inserted_in_order (e ∷ entries) (suc i) within before after order =
    sorted_cons (slice_cmp nat_cmp) e.name (names (insert entries i nowhere))
    (all_inserted (λ y. slice_cmp nat_cmp e.name y ≡ Less) entries i (before 0 e (omega arith)) (sorted_head (slice_cmp nat_cmp) e.name (names entries) order))
    (inserted_in_order entries i (omega arith) (λ k d below. before (suc k) d (omega arith)) after (sorted_tail (slice_cmp nat_cmp) e.name (names entries) order))

pub pushed_in_order : (entries : List Entry) → AreBefore entries (length entries) → AreInOrder entries → AreInOrder (entries ++ nowhere ∷ [])
pushed_in_order [] before order = sorted_cons (slice_cmp nat_cmp) serials_name [] tt (sorted_nil (slice_cmp nat_cmp))
pushed_in_order (e ∷ entries) before order =
    sorted_cons (slice_cmp nat_cmp) e.name (names (entries ++ nowhere ∷ []))
    (all_pushed (λ y. slice_cmp nat_cmp e.name y ≡ Less) entries (before 0 e (omega arith)) (sorted_head (slice_cmp nat_cmp) e.name (names entries) order))
    (pushed_in_order entries (λ k d below. before (suc k) d (omega arith)) (sorted_tail (slice_cmp nat_cmp) e.name (names entries) order))
