-- The names of the row files that tables need, among those that a store has.
use Rattle.std.proofs.Common.{◌≡◌, ◌⊎◌, inl, inr, ℕ, zero, suc, ◌+◌, ◌<◌, ◌≤◌, Bool, true, false, cond, not, ◌||◌, true≢false, List, [], ◌∷◌, ◌++◌, length, map, take, get_or, is_some, refl, sym, ap, ◌∙◌, subst, arith}
use Rattle.std.specs.Prelude.{Option, Some, None, IsSome, IsTrue, ◌↔◌, nat_eq, slice_get}
use Rattle.std.specs.BTreeSet.{BTreeSet, IsEmpty}
use Rattle.std.specs.Cmp.Lexicographic.{pointwise, slice_cmp}
use Rattle.std.specs.List.{All, Contains, list_any}
use Rattle.std.specs.Option.{option_map}
use Rattle.std.specs.Ordering.{is_eq, nat_cmp}
use Rattle.std.specs.Str.{bytes_eq}
use Rattle.std.proofs.lemmas.List.{take_all}
use Rattle.std.proofs.lemmas.List.Elements.{All-contains, All-get_or, All-map, All-nil, All-push, All-weaker, Contains-append_left, Contains-push}
use Rattle.std.proofs.lemmas.Map.Entries.{place_from_lookup}
use Rattle.std.proofs.lemmas.Map.Text.{is_eq-slice_cmp}
use Rattle.std.proofs.lemmas.Option.{slice_get_within}
use Rattle.std.proofs.lemmas.Slice.Eq.{bytes_eq-Decides}
use Rattle.indexmap.specs.IndexMap.{IndexMap}
use Rattle.pt_ast.specs.declared.database.Spot.{Spot}
use Rattle.pt_ast.specs.declared.table.TableDef.{TableDef}
use Rattle.pt_store.specs.declared.store.Store.{Store}
use Rattle.pt_store.specs.Entries.{length_in}
use Rattle.pt_store.proofs.Maps.{taken}
use Rattle.pt_db.specs.Spots.{IsSpotOf, spots_of}
use Rattle.pt_db.proofs.SpotLists.{spot_listed, spots_each}
use Rattle.pt_holds.specs.Batch.{IsRowFileOf}
use Rattle.pt_holds.specs.Holds.{spot_file}
use Rattle.pt_session.specs.Session.{length_of}
use Rattle.pt_session.specs.Opening.{AddsFiles, IsNeeded, has, table_in}

-- # One table

-- those of a table are in the list of them
contains_map : {X Y : Type 0} (f : X → Y) (xs : List X) (x : X) → Contains xs x → Contains (map f xs) (f x)
contains_map f [] x h = absurd (let within = h.1 in omega (arith, within))
contains_map f (y ∷ ys) x (zero, within, is) = (zero, omega arith, ap f is)
contains_map f (y ∷ ys) x (suc k, within, is) = let rest = contains_map f ys x (k, omega (arith, within), is) in (suc rest.0, let below = rest.1 in omega (arith, below), rest.2)

module _ (name : List ℕ) (def : TableDef) where
  pub file_listed : (file : List ℕ) → IsRowFileOf name def file → Contains (map (spot_file name def) (spots_of def)) file
  file_listed file of = subst (λ f. Contains (map (spot_file name def) (spots_of def)) f) (sym of.2) (contains_map (spot_file name def) (spots_of def) of.0 (spot_listed def of.0 of.1))

  pub each_listed : All (IsRowFileOf name def) (map (spot_file name def) (spots_of def))
  each_listed =
      All-map (IsRowFileOf name def) (spot_file name def) (spots_of def)
      (All-weaker (IsSpotOf def) (λ (spot : Spot). IsRowFileOf name def (spot_file name def spot)) (λ spot is. (spot, is, refl)) (spots_of def) (spots_each def))

-- as far as these files
pub record AddsListed (store : Store) (old new : List ℕ → Bool) (files : List (List ℕ)) : Type 0 where
  pub keeps : (file : List ℕ) → old file ≡ true → new file ≡ true
  pub adds : All (λ (file : List ℕ). new file ≡ true) files
  pub only : (file : List ℕ) → new file ≡ true → (old file ≡ true) ⊎ Contains files file
  pub held : All (λ (file : List ℕ). IsSome (length_of store file)) files

pub none_listed : (store : Store) (old : List ℕ → Bool) → AddsListed store old old []
none_listed store old = record {
  keeps = λ file h. h;
  adds = All-nil (λ (file : List ℕ). old file ≡ true);
  only = λ file h. inl h;
  held = All-nil (λ (file : List ℕ). IsSome (length_of store file));
}

module _ (store : Store) (old mid new : List ℕ → Bool) (file : List ℕ) (put : (query : List ℕ) → new query ≡ cond (is_eq (slice_cmp nat_cmp file query)) true (mid query)) where
  kept : (query : List ℕ) → mid query ≡ true → new query ≡ true
  kept query there = put query ∙ by (is_eq (slice_cmp nat_cmp file query))
    where
      by : (t : Bool) → cond t true (mid query) ≡ true
      by true = refl
      by false = there

  here : new file ≡ true
  here = put file ∙ ap (λ t. cond t true (mid file)) (is_eq-slice_cmp file file ∙ (bytes_eq-Decides file file).1 refl)

  came : (query : List ℕ) → new query ≡ true → (mid query ≡ true) ⊎ (file ≡ query)
  came query there = by (is_eq (slice_cmp nat_cmp file query)) refl (sym (put query) ∙ there)
    where
      by : (t : Bool) → is_eq (slice_cmp nat_cmp file query) ≡ t → cond t true (mid query) ≡ true → (mid query ≡ true) ⊎ (file ≡ query)
      by true e h = inr ((bytes_eq-Decides file query).0 (sym (is_eq-slice_cmp file query) ∙ e))
      by false e h = inl h

  one_listed : (files : List (List ℕ)) → IsSome (length_of store file) → AddsListed store old mid files → AddsListed store old new (files ++ file ∷ [])
  one_listed files there so = record {
    keeps = λ query h. kept query (so.keeps query h);
    adds = All-push (λ (query : List ℕ). new query ≡ true) files file (All-weaker (λ (query : List ℕ). mid query ≡ true) (λ (query : List ℕ). new query ≡ true) kept files so.adds) here;
    only = λ query h. only query (came query h);
    held = All-push (λ (query : List ℕ). IsSome (length_of store query)) files file so.held there;
  }
    where
      only : (query : List ℕ) → (mid query ≡ true) ⊎ (file ≡ query) → (old query ≡ true) ⊎ Contains (files ++ file ∷ []) query
      only query (inl h) = elim (so.only query h) [ inl was ↦ inl was | inr in_list ↦ inr (Contains-append_left files (file ∷ []) query in_list) ]
      only query (inr same) = inr (subst (λ q. Contains (files ++ file ∷ []) q) same (Contains-push files file))

  pub more_listed : (files : List (List ℕ)) (k : ℕ) → k < length files → file ≡ get_or files k file → IsSome (length_of store file) → AddsListed store old mid (take k files) → AddsListed store old new (take (k + 1) files)
  more_listed files k within is there so = subst (λ l. AddsListed store old new l) (sym (taken files k file within is)) (one_listed (take k files) there so)

pub all_listed : (store : Store) (old new : List ℕ → Bool) (files : List (List ℕ)) (k : ℕ) (name : List ℕ) (def : TableDef) → length files ≤ k → files ≡ map (spot_file name def) (spots_of def)
    → AddsListed store old new (take k files) → AddsFiles store old new name def
all_listed store old new files k name def past are part = record {
  keeps = all.keeps;
  adds = λ file of. All-contains (λ (f : List ℕ). new f ≡ true) listed file all.adds (file_listed name def file of);
  only = λ file h. elim (all.only file h) [ inl was ↦ inl was | inr in_list ↦ inr (All-contains (IsRowFileOf name def) listed file (each_listed name def) in_list) ];
  held = λ file of. All-contains (λ (f : List ℕ). IsSome (length_of store f)) listed file all.held (file_listed name def file of);
}
  where
    listed : List (List ℕ)
    listed = map (spot_file name def) (spots_of def)

    all : AddsListed store old new listed
    all = subst (λ l. AddsListed store old new l) (take_all k files past ∙ are) part

-- a file of the list that isn't there
pub one_missing : (files : List (List ℕ)) (k : ℕ) (file name : List ℕ) (def : TableDef) → k < length files → file ≡ get_or files k file → files ≡ map (spot_file name def) (spots_of def) → IsRowFileOf name def file
one_missing files k file name def within is are =
    subst (λ f. IsRowFileOf name def f) (sym is) (All-get_or (IsRowFileOf name def) files k file within (subst (λ l. All (IsRowFileOf name def) l) (sym are) (each_listed name def)))

-- # All tables

-- these names are the files of the first tables
pub record AreFirst (store : Store) (tables : List ℕ → Option TableDef) (entries : List (List ℕ × TableDef)) (names : List ℕ → Bool) (i : ℕ) : Type 0 where
  pub sound : (file : List ℕ) → names file ≡ true → IsNeeded tables file
  pub all : (k : ℕ) (entry : List ℕ × TableDef) → k < i → slice_get entries k ≡ Some entry → (file : List ℕ) → IsRowFileOf entry.0 entry.1 file → (names file ≡ true) × IsSome (length_of store file)

at_or_before : (k i : ℕ) → k < i + 1 → (k < i) ⊎ (k ≡ i)
at_or_before zero zero h = inr refl
at_or_before zero (suc i) h = inl (omega arith)
at_or_before (suc k) zero h = absurd (omega (arith, h))
at_or_before (suc k) (suc i) h = elim (at_or_before k i (omega (arith, h))) [ inl below ↦ inl (omega (arith, below)) | inr same ↦ inr (ap suc same) ]

pub none_has : (names : BTreeSet (List ℕ)) → IsEmpty names → (file : List ℕ) → has names file ≡ false
none_has names none file = ap (λ keys. list_any (λ key. is_eq (slice_cmp nat_cmp file key)) keys) none

pub none_first : (store : Store) (tables : List ℕ → Option TableDef) (entries : List (List ℕ × TableDef)) (names : List ℕ → Bool) → ((file : List ℕ) → names file ≡ false) → AreFirst store tables entries names 0
none_first store tables entries names none = record {
  sound = λ file there. absurd (true≢false (sym there ∙ none file));
  all = λ k entry below. absurd (omega (arith, below));
}

pub more_first : (store : Store) (tables : List ℕ → Option TableDef) (entries : List (List ℕ × TableDef)) (old new : List ℕ → Bool) (i : ℕ) (name : List ℕ) (def : TableDef)
    → tables name ≡ Some def → slice_get entries i ≡ Some (name, def) → AddsFiles store old new name def → AreFirst store tables entries old i → AreFirst store tables entries new (i + 1)
more_first store tables entries old new i name def held at added so = record {
  sound = λ file there. elim (added.only file there) [ inl was ↦ so.sound file was | inr of ↦ record { table = name; def = def; held = held; of = of } ];
  all = λ k entry below is file of. by k entry is file of (at_or_before k i below);
}
  where
    by : (k : ℕ) (entry : List ℕ × TableDef) → slice_get entries k ≡ Some entry → (file : List ℕ) → IsRowFileOf entry.0 entry.1 file → (k < i) ⊎ (k ≡ i) → (new file ≡ true) × IsSome (length_of store file)
    by k entry is file of (inl below) = let was = so.all k entry below is file of in (added.keeps file was.0, was.1)
    by k entry is file of (inr same) =
        let alike : entry ≡ (name, def) = let e : Some entry ≡ Some (name, def) = sym is ∙ ap (λ j. slice_get entries j) same ∙ at in cc in
        let here : IsRowFileOf name def file = subst (λ (e : List ℕ × TableDef). IsRowFileOf e.0 e.1 file) alike of in
        (added.adds file here, added.held file here)

module _ {S : Type 0} (store : Store) (tables : IndexMap (List ℕ) TableDef S) (names : List ℕ → Bool) (i : ℕ) (past : length tables.entries ≤ i) (so : AreFirst store (table_in tables) tables.entries names i) where
  found : (file : List ℕ) → IsNeeded (table_in tables) file → (names file ≡ true) × IsSome (length_of store file)
  found file is =
      let place = place_from_lookup (pointwise nat_eq is.table) tables.entries is.def is.held in
      let same : is.table ≡ place.1 = (bytes_eq-Decides is.table place.1).0 place.3 in
      let within = slice_get_within tables.entries place.0 (place.1, is.def) place.2 in
      so.all place.0 (place.1, is.def) (omega (arith, within, past)) place.2 file (subst (λ (n : List ℕ). IsRowFileOf n is.def file) same is.of)

  pub all_needed : (file : List ℕ) → IsTrue (names file) ↔ IsNeeded (table_in tables) file
  all_needed file = (so.sound file, λ is. (found file is).0)

  pub all_held : (file : List ℕ) → IsNeeded (table_in tables) file → IsSome (length_of store file)
  all_held file is = (found file is).1

-- # The names of the store

there_next : (sizes : List (List ℕ × ℕ)) (i : ℕ) (name query : List ℕ) → option_map (λ (size : List ℕ × ℕ). size.0) (slice_get sizes i) ≡ Some name
    → is_some (length_in (take (suc i) sizes) query) ≡ (is_some (length_in (take i sizes) query) || bytes_eq name query)
there_next [] i name query e = let bad : None ≡ Some name = e in cc
there_next (size ∷ sizes) zero name query e = by (bytes_eq size.0 query) ∙ ap (λ n. bytes_eq n query) (let f : Some size.0 ≡ Some name = e in cc)
  where
    by : (t : Bool) → is_some (cond t (Some size.1) None) ≡ t
    by true = refl
    by false = refl
there_next (size ∷ sizes) (suc i) name query e = by (bytes_eq size.0 query) (there_next sizes i name query e)
  where
    by : (t : Bool) → is_some (length_in (take (suc i) sizes) query) ≡ (is_some (length_in (take i sizes) query) || bytes_eq name query)
        → is_some (cond t (Some size.1) (length_in (take (suc i) sizes) query)) ≡ (is_some (cond t (Some size.1) (length_in (take i sizes) query)) || bytes_eq name query)
    by true h = refl
    by false h = h

-- a name more
pub there_more : (sizes : List (List ℕ × ℕ)) (i : ℕ) (name query : List ℕ) → option_map (λ (size : List ℕ × ℕ). size.0) (slice_get sizes i) ≡ Some name
    → is_some (length_in (take (i + 1) sizes) query) ≡ (is_some (length_in (take i sizes) query) || bytes_eq name query)
there_more sizes i name query e = let next : i + 1 ≡ suc i = omega arith in ap (λ n. is_some (length_in (take n sizes) query)) next ∙ there_next sizes i name query e

-- what holds of the names before and of this one holds of the names up to it
pub each_there : (sizes : List (List ℕ × ℕ)) (i : ℕ) (name : List ℕ) (P : List ℕ → Type 0) → option_map (λ (size : List ℕ × ℕ). size.0) (slice_get sizes i) ≡ Some name
    → ((query : List ℕ) → IsSome (length_in (take i sizes) query) → P query) → P name → (query : List ℕ) → IsSome (length_in (take (i + 1) sizes) query) → P query
each_there sizes i name P at before here query there = by (is_some (length_in (take i sizes) query)) (bytes_eq name query) refl refl (sym (there_more sizes i name query at) ∙ there)
  where
    by : (s t : Bool) → is_some (length_in (take i sizes) query) ≡ s → bytes_eq name query ≡ t → (s || t) ≡ true → P query
    by true t e f h = before query e
    by false true e f h = subst P ((bytes_eq-Decides name query).0 f) here
    by false false e f h = absurd (true≢false (sym h))

pub name_there : (sizes : List (List ℕ × ℕ)) (i : ℕ) (name : List ℕ) → option_map (λ (size : List ℕ × ℕ). size.0) (slice_get sizes i) ≡ Some name → IsSome (length_in sizes name)
name_there [] i name e = let bad : None ≡ Some name = e in cc
name_there (size ∷ sizes) zero name e = rw ((bytes_eq-Decides size.0 name).1 (let f : Some size.0 ≡ Some name = e in cc)) refl
name_there (size ∷ sizes) (suc i) name e = by (bytes_eq size.0 name) (name_there sizes i name e)
  where
    by : (t : Bool) → IsSome (length_in sizes name) → IsSome (cond t (Some size.1) (length_in sizes name))
    by true h = refl
    by false h = h

-- a file that is not missing is there
pub some_there : {X : Type 0} (found answer : Option X) (none : Bool) → answer ≡ found → is_some answer ≡ not none → none ≡ false → IsSome found
some_there found answer none is told e = ap is_some (sym is) ∙ told ∙ ap not e

-- a row file that is told as no stray is among the needed ones
pub not_stray : (told among : Bool) (P : Type 0) → (P × (among ≡ false) → told ≡ true) → told ≡ false → P → among ≡ true
not_stray told true P tells e h = refl
not_stray told false P tells e h = absurd (true≢false (sym (tells (h, refl)) ∙ e))
