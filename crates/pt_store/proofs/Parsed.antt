-- Entries of files that rise.
use Rattle.std.proofs.Common.{◌≡◌, ℕ, List, [], ◌∷◌, map, refl, sym, ap, ap₂, subst, ◌∙◌}
use Rattle.std.specs.Prelude.{Some, None}
use Rattle.std.specs.Cmp.Lexicographic.{slice_cmp}
use Rattle.std.specs.Ordering.{nat_cmp}
use Rattle.std.specs.List.Sorted.{IsStrictlySortedBy}
use Rattle.pt_host.specs.Listed.{FileList}
use Rattle.pt_left.specs.Spelling.{SpellsFiles, Spells}
use Rattle.pt_left.proofs.Once.{files_spelled, spells_once}
use Rattle.pt_store.specs.declared.entry.Entry.{Entry}
use Rattle.pt_store.specs.Entries.{AreEntries, Parses}

pub entry_names : (bytes : List ℕ) (entries : List Entry) (files : FileList) → AreEntries bytes entries files → map (λ e. e.name) entries ≡ map (λ f. f.0) files
unfolding AreEntries
entry_names bytes [] [] are = refl
entry_names bytes [] (f ∷ files) are = absurd are
entry_names bytes (e ∷ entries) [] are = absurd are
entry_names bytes (e ∷ entries) (f ∷ files) are = ap₂ (λ (x : List ℕ) (xs : List (List ℕ)). x ∷ xs) are.0.named (entry_names bytes entries files are.1)

pub parse_rising : (bytes : List ℕ) (entries : List Entry) → Parses SpellsFiles bytes (Some entries) → IsStrictlySortedBy (slice_cmp nat_cmp) (map (λ e. e.name) entries) → Parses Spells bytes (Some entries)
parse_rising bytes entries found rising = (
  found.0,
  record {
    map = record { each = found.1.each; rising = subst (IsStrictlySortedBy (slice_cmp nat_cmp)) (entry_names bytes entries found.0 found.2) rising };
    few = found.1.few;
    spelled = found.1.spelled;
  },
  found.2,
)

pub parse_falling : (bytes : List ℕ) (entries : List Entry) → Parses SpellsFiles bytes (Some entries) → (IsStrictlySortedBy (slice_cmp nat_cmp) (map (λ e. e.name) entries) → ⊥) → Parses Spells bytes None
parse_falling bytes entries found falls files s =
    falls (subst (IsStrictlySortedBy (slice_cmp nat_cmp)) (ap (λ fs. map (λ f. f.0) fs) (spells_once bytes files found.0 (files_spelled bytes files s) found.1) ∙ sym (entry_names bytes entries found.0 found.2)) s.map.rising)

pub parse_none : (bytes : List ℕ) → Parses SpellsFiles bytes None → Parses Spells bytes None
parse_none bytes none files s = none files (files_spelled bytes files s)
