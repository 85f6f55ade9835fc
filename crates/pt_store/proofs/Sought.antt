-- An entry that is sought by halves is the first one of its name.
use Rattle.std.proofs.Common.{◌≡◌, ℕ, zero, suc, ◌+◌, ◌<◌, false, cond, List, [], ◌∷◌, length, get_or, map, refl, sym, ap, ap₂, ◌∙◌, subst, arith, inl, inr, Ordering, Less, Equal, Greater}
use Rattle.std.specs.Prelude.{Some, None, Ok, Err}
use Rattle.std.specs.List.{find}
use Rattle.std.specs.List.Sorted.{IsBinarySearchResult, IsNonDecreasingBy}
use Rattle.std.specs.Str.{bytes_eq}
use Rattle.std.specs.Cmp.Lexicographic.{slice_cmp}
use Rattle.std.specs.Ordering.{nat_cmp, is_eq, is_lt, ordering_index, ordering_reverse}
use Rattle.std.proofs.lemmas.Bool.{cases_lt}
use Rattle.std.proofs.lemmas.Cmp.{nat_list_cmp_total}
use Rattle.std.proofs.lemmas.List.{get_or-map, length-map}
use Rattle.std.proofs.lemmas.List.Sorted.{searchable_from_sorted}
use Rattle.std.proofs.lemmas.Map.Keys.{Less-from_sorted, sorted_tail}
use Rattle.std.proofs.lemmas.Map.Text.{is_eq-slice_cmp}
use Rattle.std.proofs.lemmas.Slice.Eq.{bytes_eq-Decides}
use Rattle.pt_store.specs.declared.entry.Entry.{Entry}
use Rattle.pt_store.specs.Entries.{AreInOrder}

-- the test by comparison
same_name : (a b : List ℕ) (o : Ordering) → slice_cmp nat_cmp a b ≡ o → bytes_eq a b ≡ is_eq o
same_name a b o is = sym (is_eq-slice_cmp a b) ∙ ap is_eq is

pub entries_rise : (entries : List Entry) (i j : ℕ) (d : Entry) → AreInOrder entries → i < j → j < length entries → slice_cmp nat_cmp (get_or entries i d).name (get_or entries j d).name ≡ Less
entries_rise entries i j d order less within =
    ap₂ (slice_cmp nat_cmp) (sym (get_or-map (λ (e : Entry). e.name) entries i d [] (omega arith))) (sym (get_or-map (λ (e : Entry). e.name) entries j d [] within))
    ∙ Less-from_sorted (slice_cmp nat_cmp) (map (λ (e : Entry). e.name) entries) i j [] order less (subst (λ n. j < n) (sym (length-map entries (λ (e : Entry). e.name))) within)

searchable : (entries : List Entry) (query : List ℕ) → AreInOrder entries → IsNonDecreasingBy (λ entry. ordering_index (slice_cmp nat_cmp entry.name query)) entries
searchable entries query order =
    searchable_from_sorted nat_list_cmp_total (λ (e : Entry). e.name) entries query
    (λ k d low within.
    let a = (get_or entries k d).name in
    let b = (get_or entries (k + 1) d).name in
    let less : slice_cmp nat_cmp a b ≡ Less = entries_rise entries k (k + 1) d order (omega arith) within in
    ap is_lt (nat_list_cmp_total.antisymm b a ∙ ap ordering_reverse less))

-- where names rise, an entry of the name is the first one
found_at : (entries : List Entry) (i : ℕ) (d : Entry) (query : List ℕ) → AreInOrder entries → i < length entries → (get_or entries i d).name ≡ query → find (λ entry. bytes_eq entry.name query) entries ≡ Some (get_or entries i d)
found_at [] i d query order within named = absurd (omega arith)
found_at (e ∷ entries) zero d query order within named = ap (λ b. cond b (Some e) (find (λ entry. bytes_eq entry.name query) entries)) ((bytes_eq-Decides e.name query).1 named)
found_at (e ∷ entries) (suc i) d query order within named =
    ap (λ b. cond b (Some e) (find (λ entry. bytes_eq entry.name query) entries)) other
    ∙ found_at entries i d query (sorted_tail (slice_cmp nat_cmp) e.name (map (λ x. x.name) entries) order) (omega arith) named
  where
    less : slice_cmp nat_cmp e.name (get_or entries i d).name ≡ Less
    less = entries_rise (e ∷ entries) 0 (suc i) d order (omega arith) within

    other : bytes_eq e.name query ≡ false
    other = same_name e.name query Less (subst (λ name. slice_cmp nat_cmp e.name name ≡ Less) named less)

found_none : (entries : List Entry) (query : List ℕ) → ((k : ℕ) (d : Entry) → k < length entries → bytes_eq (get_or entries k d).name query ≡ false) → find (λ entry. bytes_eq entry.name query) entries ≡ None
found_none [] query none = refl
found_none (e ∷ entries) query none =
    ap (λ b. cond b (Some e) (find (λ entry. bytes_eq entry.name query) entries)) (none 0 e (omega arith))
    ∙ found_none entries query (λ k d within. none (suc k) d (omega arith))

module _ (entries : List Entry) (query : List ℕ) (order : AreInOrder entries) where
  pub sought : (i : ℕ) (entry : Entry) → IsBinarySearchResult (λ e. slice_cmp nat_cmp e.name query) entries (Ok i) → i < length entries → entry ≡ get_or entries i entry → Some entry ≡ find (λ e. bytes_eq e.name query) entries
  sought i entry result within is =
      ap Some is ∙ sym (found_at entries i entry query order within ((bytes_eq-Decides (get_or entries i entry).name query).0 (same_name (get_or entries i entry).name query Equal (result entry))))

  pub sought_none : (i : ℕ) → IsBinarySearchResult (λ e. slice_cmp nat_cmp e.name query) entries (Err i) → None ≡ find (λ e. bytes_eq e.name query) entries
  sought_none i result =
      let parts = result (searchable entries query order) in
      sym (found_none entries query (λ k d within. elim (cases_lt k i) [
        | inl before ↦ same_name (get_or entries k d).name query Less (parts.0 k d (omega arith) before)
        | inr past ↦ same_name (get_or entries k d).name query Greater (parts.1 k d past within)
      ]))
