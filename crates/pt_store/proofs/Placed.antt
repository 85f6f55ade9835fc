-- A map with a `serials.cnt` in it, and its entries.
use Rattle.std.proofs.Common.{◌≡◌, ℕ, zero, suc, ◌+◌, ◌<◌, ◌≤◌, Bool, true, false, cond, is_some, List, [], ◌∷◌, ◌++◌, length, map, take, drop, get_or, refl, sym, ap, subst, ◌∙◌, arith, Ordering, Less, Equal, Greater, inl, inr}
use Rattle.std.proofs.lemmas.Bool.{cases_lt}
use Rattle.std.proofs.lemmas.List.Elements.{at_read}
use Rattle.std.specs.Prelude.{insert, Some, IsSome}
use Rattle.std.specs.Str.{bytes_eq}
use Rattle.std.proofs.lemmas.Map.Text.{is_eq-slice_cmp}
use Rattle.std.specs.Cmp.Lexicographic.{slice_cmp}
use Rattle.std.specs.Ordering.{nat_cmp, is_eq}
use Rattle.pt_host.specs.Listed.{FileList}
use Rattle.pt_store.specs.declared.entry.Entry.{Entry}
use Rattle.pt_store.specs.Entries.{IsEntry, AreEntries, size_of, length_in}
use Rattle.pt_left.specs.Left.{serials_name, with_serials}

-- the entry of no bytes at all
abbrev pub nowhere : Entry
nowhere = record { name = serials_name; place = 0; length = 0 }

nowhere_is : (bytes : List ℕ) → IsEntry bytes nowhere (serials_name, [])
nowhere_is bytes = record { named = refl; long = refl; within = omega arith; here = refl }

abbrev pub stands : Entry → Ordering
stands entry = slice_cmp nat_cmp entry.name serials_name

-- the first entries stand before `serials.cnt`
abbrev pub AreBefore : List Entry → ℕ → Type 0
AreBefore entries i = (k : ℕ) (d : Entry) → k < i → stands (get_or entries k d) ≡ Less

module _ (bytes : List ℕ) where
  same_place : (e : Entry) (f : List ℕ × List ℕ) (o : Ordering) → IsEntry bytes e f → stands e ≡ o → slice_cmp nat_cmp f.0 serials_name ≡ o
  same_place e f o is at = ap (λ (name : List ℕ). slice_cmp nat_cmp name serials_name) (sym is.named) ∙ at

  pub at_end : (entries : List Entry) (files : FileList) → AreBefore entries (length entries) → AreEntries bytes entries files → AreEntries bytes (entries ++ nowhere ∷ []) (with_serials files)
  unfolding AreEntries with_serials
  at_end [] [] before are = (nowhere_is bytes, tt)
  at_end [] (f ∷ files) before are = absurd are
  at_end (e ∷ entries) [] before are = absurd are
  at_end (e ∷ entries) (f ∷ files) before are =
      rw (same_place e f Less are.0 (before 0 e (omega arith)))
      (are.0, at_end entries files (λ k d below. before (suc k) d (omega arith)) are.1)

  pub in_front : (entries : List Entry) (files : FileList) (i : ℕ) → i < length entries → AreBefore entries i → ((d : Entry) → stands (get_or entries i d) ≡ Greater) → AreEntries bytes entries files
      → AreEntries bytes (insert entries i nowhere) (with_serials files)
  unfolding AreEntries with_serials
  in_front [] files i within before after are = absurd (omega arith)
  in_front (e ∷ entries) [] i within before after are = absurd are
  in_front (e ∷ entries) (f ∷ files) zero within before after are = rw (same_place e f Greater are.0 (after e)) (nowhere_is bytes, are)
  in_front (e ∷ entries) (f ∷ files) (suc i) within before after are =
      rw (same_place e f Less are.0 (before 0 e (omega arith)))
      (are.0, in_front entries files i (omega arith) (λ k d below. before (suc k) d (omega arith)) after are.1)

  pub already : (entries : List Entry) (files : FileList) (i : ℕ) → i < length entries → AreBefore entries i → ((d : Entry) → stands (get_or entries i d) ≡ Equal) → AreEntries bytes entries files
      → AreEntries bytes entries (with_serials files)
  unfolding AreEntries with_serials
  already [] files i within before same are = absurd (omega arith)
  already (e ∷ entries) [] i within before same are = absurd are
  already (e ∷ entries) (f ∷ files) zero within before same are = rw (same_place e f Equal are.0 (same e)) are
  already (e ∷ entries) (f ∷ files) (suc i) within before same are =
      rw (same_place e f Less are.0 (before 0 e (omega arith)))
      (are.0, already entries files i (omega arith) (λ k d below. before (suc k) d (omega arith)) same are.1)

-- # The loop

pub stands_at : (entries : List Entry) (i : ℕ) (entry : Entry) (name : List ℕ) (answer o : Ordering) → i < length entries → entry ≡ get_or entries i entry → name ≡ serials_name → answer ≡ slice_cmp nat_cmp entry.name name → answer ≡ o
    → (d : Entry) → stands (get_or entries i d) ≡ o
stands_at entries i entry name answer o within is named e at =
    at_read entries (λ x. stands x ≡ o) i entry within is (ap (slice_cmp nat_cmp entry.name) (sym named) ∙ sym e ∙ at)

pub before_more : (entries : List Entry) (i : ℕ) → AreBefore entries i → ((d : Entry) → stands (get_or entries i d) ≡ Less) → AreBefore entries (i + 1)
before_more entries i before here k d below =
    elim (cases_lt k i) [
      | inl less ↦ before k d less
      | inr past ↦ let same : i ≡ k = omega arith in subst (λ n. stands (get_or entries n d) ≡ Less) same (here d)
    ]

pub before_all : (entries : List Entry) (i : ℕ) → length entries ≤ i → AreBefore entries i → AreBefore entries (length entries)
before_all entries i through before k d below = before k d (omega arith)

-- # The entries have a `serials.cnt`

-- it has a length among them
abbrev pub HasSerials : List Entry → Type 0
HasSerials entries = IsSome (length_in (map size_of entries) serials_name)

has_behind : (front back : List Entry) → HasSerials back → HasSerials (front ++ back)
has_behind [] back has = has
has_behind (e ∷ front) back has = go (bytes_eq e.name serials_name) (has_behind front back has)
  where
    go : (same : Bool) → HasSerials (front ++ back) → IsSome (cond same (Some e.length) (length_in (map size_of (front ++ back)) serials_name))
    go true rest = refl
    go false rest = rest

pub has_at_end : (entries : List Entry) → HasSerials (entries ++ nowhere ∷ [])
has_at_end entries = has_behind entries (nowhere ∷ []) refl

pub has_inserted : (entries : List Entry) (i : ℕ) → HasSerials (insert entries i nowhere)
has_inserted entries i = has_behind (take i entries) (nowhere ∷ drop i entries) refl

pub has_already : (entries : List Entry) (i : ℕ) (entry : Entry) → i < length entries → ((d : Entry) → stands (get_or entries i d) ≡ Equal) → HasSerials entries
has_already [] i entry within same = absurd (omega arith)
has_already (e ∷ entries) zero entry within same =
    ap (λ b. is_some (cond b (Some e.length) (length_in (map size_of entries) serials_name))) (sym (is_eq-slice_cmp e.name serials_name) ∙ ap is_eq (same e))
has_already (e ∷ entries) (suc i) entry within same = has_behind (e ∷ []) entries (has_already entries i entry (omega arith) same)
