-- Files that are read entry by entry.
use Rattle.std.proofs.Common.{◌≡◌, ℕ, ◌+◌, ◌<◌, ◌≤◌, List, [], ◌∷◌, ◌++◌, length, get_or, map, take, drop, All, refl, sym, ap, ap₂, ◌∙◌, subst, arith, Less, Greater}
use Rattle.std.specs.List.{AllByRecursion}
use Rattle.std.specs.BTreeMap.{insert_entry}
use Rattle.std.specs.Cmp.Lexicographic.{slice_cmp}
use Rattle.std.specs.Ordering.{nat_cmp, match_ordering, ordering_reverse}
use Rattle.std.proofs.lemmas.Cmp.{nat_list_cmp_total}
use Rattle.std.proofs.lemmas.List.{take_more, get_or-take, length-take, map-append}
use Rattle.std.proofs.lemmas.List.Elements.{All-nil, All-cons, All-map, at_read, recursion_from_All}
use Rattle.pt_store.specs.declared.entry.Entry.{Entry}
use Rattle.pt_store.specs.Entries.{AreEntries, AreInOrder, AreWithin, files_at}
use Rattle.pt_store.proofs.Sought.{entries_rise}

abbrev names : List (List ℕ × List ℕ) → List (List ℕ)
names files = map (λ file. file.0) files

-- # Entries and their files

pub are_files : (bytes : List ℕ) (entries : List Entry) (files : List (List ℕ × List ℕ)) → AreEntries bytes entries files → files_at bytes entries ≡ files
unfolding AreEntries
are_files bytes [] [] are = refl
are_files bytes [] (f ∷ files) are = absurd are
are_files bytes (e ∷ entries) [] are = absurd are
are_files bytes (e ∷ entries) (f ∷ files) are = ap₂ (λ (x : List ℕ × List ℕ) (xs : List (List ℕ × List ℕ)). x ∷ xs) (ap₂ pair are.0.named are.0.here) (are_files bytes entries files are.1)
  where
    pair : List ℕ → List ℕ → List ℕ × List ℕ
    pair name content = (name, content)

pub are_within : (bytes : List ℕ) (entries : List Entry) (files : List (List ℕ × List ℕ)) → AreEntries bytes entries files → AreWithin bytes entries
unfolding AreEntries
are_within bytes [] [] are = All-nil (λ entry. entry.place + entry.length ≤ length bytes)
are_within bytes [] (f ∷ files) are = absurd are
are_within bytes (e ∷ entries) [] are = absurd are
are_within bytes (e ∷ entries) (f ∷ files) are = All-cons (λ entry. entry.place + entry.length ≤ length bytes) e entries are.0.within (are_within bytes entries files are.1)

-- # The loop

-- a file behind all names goes to the end
pub inserted_last : (files : List (List ℕ × List ℕ)) (name bytes : List ℕ) → AllByRecursion (λ y. slice_cmp nat_cmp y name ≡ Less) (names files) → insert_entry (slice_cmp nat_cmp) files name bytes ≡ files ++ (name, bytes) ∷ []
inserted_last [] name bytes each = refl
inserted_last (file ∷ files) name bytes each =
    ap (λ o. match_ordering o ((name, bytes) ∷ file ∷ files) ((file.0, bytes) ∷ files) (file ∷ insert_entry (slice_cmp nat_cmp) files name bytes)) behind
    ∙ ap (λ rest. file ∷ rest) (inserted_last files name bytes each.1)
  where
    behind : slice_cmp nat_cmp name file.0 ≡ Greater
    behind = nat_list_cmp_total.antisymm name file.0 ∙ ap ordering_reverse each.0

-- the names before an entry are less than its own
names_before : (entries : List Entry) (i : ℕ) (entry : Entry) → AreInOrder entries → i < length entries → entry ≡ get_or entries i entry → AllByRecursion (λ y. slice_cmp nat_cmp y entry.name ≡ Less) (map (λ (e : Entry). e.name) (take i entries))
names_before entries i entry order within is =
    recursion_from_All (λ y. slice_cmp nat_cmp y entry.name ≡ Less) (map (λ (e : Entry). e.name) (take i entries))
    (All-map (λ y. slice_cmp nat_cmp y entry.name ≡ Less) (λ (e : Entry). e.name) (take i entries) before)
  where
    before : All (λ (e : Entry). slice_cmp nat_cmp e.name entry.name ≡ Less) (take i entries)
    before k d below =
        let less : k < i = omega (arith, below, length-take i entries) in
        subst (λ (e : Entry). slice_cmp nat_cmp e.name entry.name ≡ Less) (sym (get_or-take i entries k d less))
        (subst (λ (e : Entry). slice_cmp nat_cmp (get_or entries k d).name e.name ≡ Less) (at_read entries (λ e. e ≡ entry) i entry within is refl d) (entries_rise entries k i d order less within))

taken_more : (entries : List Entry) (i : ℕ) (entry : Entry) → i < length entries → entry ≡ get_or entries i entry → take (i + 1) entries ≡ take i entries ++ entry ∷ []
taken_more entries i entry within is = take_more entries i entry within ∙ ap (λ e. take i entries ++ e ∷ []) (sym is)

module _ (entries : List Entry) (i : ℕ) (entry : Entry) (order : AreInOrder entries) (within : i < length entries) (is : entry ≡ get_or entries i entry) where
  pub one_more : (files later : List (List ℕ × List ℕ)) (bytes : List ℕ) → names files ≡ map (λ (e : Entry). e.name) (take i entries) → later ≡ insert_entry (slice_cmp nat_cmp) files entry.name bytes → later ≡ files ++ (entry.name, bytes) ∷ []
  one_more files later bytes named put_in =
      put_in ∙ inserted_last files entry.name bytes (subst (λ ns. AllByRecursion (λ y. slice_cmp nat_cmp y entry.name ≡ Less) ns) (sym named) (names_before entries i entry order within is))

  pub names_more : (files later : List (List ℕ × List ℕ)) (bytes : List ℕ) → names files ≡ map (λ (e : Entry). e.name) (take i entries) → later ≡ files ++ (entry.name, bytes) ∷ [] → names later ≡ map (λ (e : Entry). e.name) (take (i + 1) entries)
  names_more files later bytes named more =
      ap names more ∙ map-append (λ (file : List ℕ × List ℕ). file.0) files ((entry.name, bytes) ∷ [])
      ∙ ap (λ ns. ns ++ entry.name ∷ []) named
      ∙ sym (map-append (λ (e : Entry). e.name) (take i entries) (entry ∷ []))
      ∙ ap (map (λ (e : Entry). e.name)) (sym (taken_more entries i entry within is))

  pub files_more : (whole : List ℕ) (files later : List (List ℕ × List ℕ)) (bytes : List ℕ) → files ≡ files_at whole (take i entries) → bytes ≡ take entry.length (drop entry.place whole) → later ≡ files ++ (entry.name, bytes) ∷ [] → later ≡ files_at whole (take (i + 1) entries)
  files_more whole files later bytes so_far read more =
      more ∙ ap₂ (λ (fs : List (List ℕ × List ℕ)) (b : List ℕ). fs ++ (entry.name, b) ∷ []) so_far read
      ∙ sym (map-append (λ (e : Entry). (e.name, take e.length (drop e.place whole))) (take i entries) (entry ∷ []))
      ∙ ap (files_at whole) (sym (taken_more entries i entry within is))
