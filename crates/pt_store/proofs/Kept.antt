-- What a store keeps of its map.
use Rattle.std.proofs.Common.{◌≡◌, ℕ, zero, suc, ◌+◌, ◌≤◌, Bool, true, false, cond, List, [], ◌∷◌, length, map, take, drop, refl, sym, ap, ap₂, subst, ◌∙◌, Bor}
use Rattle.std.specs.Prelude.{Option, Some, None, slice_get, IsSome}
use Rattle.std.specs.Option.{option_map, option_copied}
use Rattle.std.specs.List.{find}
use Rattle.std.specs.Str.{bytes_eq}
use Rattle.pt_host.specs.Listed.{FileList, by_name}
use Rattle.pt_store.specs.declared.entry.Entry.{Entry}
use Rattle.pt_host.specs.Disk.{shown}
use Rattle.pt_host.specs.World.{World}
use Rattle.pt_store.specs.declared.store.Store.{Store}
use Rattle.pt_left.specs.Left.{whole_name}
use Rattle.pt_store.specs.Entries.{AreEntries, HasEntries, bytes_of, size_of, length_in}
use Rattle.pt_store.specs.Store.{IsStore, sizes, sizes_of}
use Rattle.pt_store.proofs.Reading.{no_entries, entries_long}

-- a missing file has no entries
pub no_entries_read : (whole : Option (List ℕ)) (entries : List Entry) → whole ≡ None → entries ≡ [] → HasEntries whole entries
no_entries_read whole entries none empty = rw (none, empty) (record { files = []; spelled = refl; are = no_entries [] })

-- # Names and lengths

pub entry_sizes : (bytes : List ℕ) (entries : List Entry) (files : FileList) → AreEntries bytes entries files → map size_of entries ≡ sizes_of files
unfolding AreEntries
entry_sizes bytes [] [] are = refl
entry_sizes bytes [] (f ∷ files) are = absurd are
entry_sizes bytes (e ∷ entries) [] are = absurd are
entry_sizes bytes (e ∷ entries) (f ∷ files) are =
    ap₂ (λ (x : List ℕ × ℕ) (xs : List (List ℕ × ℕ)). x ∷ xs) (ap₂ size are.0.named are.0.long) (entry_sizes bytes entries files are.1)
  where
    size : List ℕ → ℕ → List ℕ × ℕ
    size name long = (name, long)

-- the length at a name, of entries and of files
pub found_length : (entries : List Entry) (query : List ℕ) → option_map (λ e. e.length) (find (λ e. bytes_eq e.name query) entries) ≡ length_in (map size_of entries) query
found_length [] query = refl
found_length (e ∷ entries) query = go (bytes_eq e.name query) (found_length entries query)
  where
    go : (same : Bool) → option_map (λ x. x.length) (find (λ x. bytes_eq x.name query) entries) ≡ length_in (map size_of entries) query
        → option_map (λ x. x.length) (cond same (Some e) (find (λ x. bytes_eq x.name query) entries)) ≡ cond same (Some e.length) (length_in (map size_of entries) query)
    go true rest = refl
    go false rest = rest

pub file_length : (files : FileList) (query : List ℕ) → length_in (sizes_of files) query ≡ option_map (λ b. length b) (by_name files query)
file_length [] query = refl
file_length (f ∷ files) query = go (bytes_eq f.0 query) (file_length files query)
  where
    go : (same : Bool) → length_in (sizes_of files) query ≡ option_map (λ b. length b) (by_name files query)
        → cond same (Some (length f.1)) (length_in (sizes_of files) query) ≡ option_map (λ b. length b) (cond same (Some f.1) (by_name files query))
    go true rest = refl
    go false rest = rest

name_of : (files : FileList) (i : ℕ) → option_map (λ size. size.0) (slice_get (sizes_of files) i) ≡ option_map (λ file. file.0) (slice_get files i)
name_of [] i = refl
name_of (f ∷ files) zero = refl
name_of (f ∷ files) (suc i) = name_of files i

-- # Bytes

-- the bytes at a name stand where its entry says
pub entry_bytes : (bytes : List ℕ) (entries : List Entry) (files : FileList) (query : List ℕ) (entry : Entry) → AreEntries bytes entries files → find (λ e. bytes_eq e.name query) entries ≡ Some entry
    → (entry.place + entry.length ≤ length bytes) × (by_name files query ≡ Some (take entry.length (drop entry.place bytes)))
unfolding AreEntries
entry_bytes bytes [] [] query entry are found = let bad : None ≡ Some entry = found in cc
entry_bytes bytes [] (f ∷ files) query entry are found = absurd are
entry_bytes bytes (e ∷ entries) [] query entry are found = absurd are
entry_bytes bytes (e ∷ entries) (f ∷ files) query entry are found =
    rw tests (go (bytes_eq e.name query) found (λ there. entry_bytes bytes entries files query entry are.1 there))
  where
    tests : bytes_eq f.0 query ≡ bytes_eq e.name query
    tests = ap (λ (name : List ℕ). bytes_eq name query) (sym are.0.named)

    go : (same : Bool) → cond same (Some e) (find (λ x. bytes_eq x.name query) entries) ≡ Some entry
        → (find (λ x. bytes_eq x.name query) entries ≡ Some entry → (entry.place + entry.length ≤ length bytes) × (by_name files query ≡ Some (take entry.length (drop entry.place bytes))))
        → (entry.place + entry.length ≤ length bytes) × (cond same (Some f.1) (by_name files query) ≡ Some (take entry.length (drop entry.place bytes)))
    go true here rest =
        let one : Some e ≡ Some entry = here in
        let same : e ≡ entry = cc in
        subst (λ (x : Entry). (x.place + x.length ≤ length bytes) × (Some f.1 ≡ Some (take x.length (drop x.place bytes)))) same (are.0.within, ap Some (sym are.0.here))
    go false there rest = rest there

-- # A store over its map

module _ (store : Store) (files : FileList) (w : World) (is : IsStore store files w) where
  pub sizes_are : sizes store ≡ sizes_of files
  sizes_are = entry_sizes (bytes_of (shown w.now.fs whole_name)) store.entries files is.here

  pub count_is : length store.entries ≡ length files
  count_is = entries_long (bytes_of (shown w.now.fs whole_name)) store.entries files is.here

  pub name_is : (i : ℕ) → option_map (λ size. size.0) (slice_get (sizes store) i) ≡ option_map (λ file. file.0) (slice_get files i)
  name_is i = ap (λ all. option_map (λ size. size.0) (slice_get all i)) sizes_are ∙ name_of files i

  pub length_is : (query : List ℕ) → length_in (sizes store) query ≡ option_map (λ b. length b) (by_name files query)
  length_is query = ap (λ all. length_in all query) sizes_are ∙ file_length files query

-- what is asked of a name is there
pub found : (entries : List Entry) (query : List ℕ) (o : Option (Bor Entry)) → option_copied o ≡ find (λ e. bytes_eq e.name query) entries → IsSome (length_in (map size_of entries) query) → IsSome o
found entries query (Some e) is held = refl
found entries query None is held =
    let none : None ≡ length_in (map size_of entries) query = (ap (option_map (λ e. e.length)) is ∙ found_length entries query) in
    rw (← none) at held

pub found_is : (entries lent : List Entry) (query : List ℕ) (o : Option (Bor Entry)) (e : Bor Entry) → lent ≡ entries → option_copied o ≡ find (λ x. bytes_eq x.name query) lent → o ≡ Some e
    → find (λ x. bytes_eq x.name query) entries ≡ Some e.now
found_is entries lent query o e same is at = ap (find (λ x. bytes_eq x.name query)) (sym same) ∙ sym is ∙ ap option_copied at

module _ (store : Store) (files : FileList) (w : World) (is : IsStore store files w) (query : List ℕ) (e : Entry) (at : find (λ x. bytes_eq x.name query) store.entries ≡ Some e) where
  stands : (e.place + e.length ≤ length (bytes_of (shown w.now.fs whole_name))) × (by_name files query ≡ Some (take e.length (drop e.place (bytes_of (shown w.now.fs whole_name)))))
  stands = entry_bytes (bytes_of (shown w.now.fs whole_name)) store.entries files query e is.here at

  pub entry_within : e.place + e.length ≤ length (bytes_of (shown w.now.fs whole_name))
  entry_within = stands.0

  pub reads_bytes : (bytes : List ℕ) → bytes ≡ take e.length (drop e.place (bytes_of (shown w.now.fs whole_name))) → by_name files query ≡ Some bytes
  reads_bytes bytes read = stands.1 ∙ ap Some (sym read)
