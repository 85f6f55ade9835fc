-- Rising lists of files against maps from names to bytes: each change of one name leads from list to list, and two lists with the
-- same files are one.
use Rattle.std.proofs.Common.{◌≡◌, ℕ, Bool, true, false, cond, not, List, [], ◌∷◌, ◌++◌, map, refl, sym, ap, ap₂, ◌∙◌, subst, Ordering, Less, Equal, Greater}
use Rattle.std.specs.Prelude.{Option, Some, None}
use Rattle.std.specs.List.{AllByRecursion, filter}
use Rattle.std.specs.List.Sorted.{IsStrictlySortedBy}
use Rattle.std.specs.Str.{bytes_eq}
use Rattle.std.specs.Option.{option_map}
use Rattle.std.specs.Map.{lookup}
use Rattle.std.specs.BTreeMap.{BTreeMap, insert_entry, is_at}
use Rattle.std.specs.Cmp.Lexicographic.{slice_cmp}
use Rattle.std.specs.Ordering.{nat_cmp, is_eq, match_ordering, ordering_reverse}
use Rattle.std.proofs.lemmas.Bool.{true≢false}
use Rattle.std.proofs.lemmas.Cmp.{nat_list_cmp_total}
use Rattle.std.proofs.lemmas.Map.Keys.{sorted_head, sorted_tail}
use Rattle.std.proofs.lemmas.Map.Lookups.{exact_bytes}
use Rattle.std.proofs.lemmas.Map.Text.{is_eq-slice_cmp}
use Rattle.std.proofs.lemmas.Slice.Eq.{bytes_eq-Decides}
use Rattle.pt_host.specs.Disk.{Files, put, moved}
use Rattle.pt_host.specs.Images.{AreSame}
use Rattle.pt_host.specs.Listed.{AreRising, by_name}
use Rattle.pt_host.specs.Name.{is_extra, shadow_end}
use Rattle.pt_plain.proofs.Rising.{sorted_cons, sorted_nil}
use Rattle.pt_ddl_log.specs.declared.chain.Act.{Act}
use Rattle.pt_ddl_log.specs.declared.chain.Act.TheVariants.{Delete, Rename, Replace, Exchange}
use Rattle.pt_ddl_log.specs.Chain.{act_on, after_act}
use Rattle.pt_store.specs.Batch.{added_to, added, appended}
use Rattle.pt_store.specs.Reshape.{with_shadows, without_extra}
use Rattle.pt_store.specs.Contents.{files_in}

-- # Names that rise

pub less_back : (a b : List ℕ) → slice_cmp nat_cmp a b ≡ Greater → slice_cmp nat_cmp b a ≡ Less
less_back a b e = nat_list_cmp_total.antisymm b a ∙ ap ordering_reverse e

-- what is less isn't equal
less_other : (a b : List ℕ) → slice_cmp nat_cmp a b ≡ Less → bytes_eq a b ≡ false
less_other a b e = sym (is_eq-slice_cmp a b) ∙ ap is_eq e

not_equal : (a b : List ℕ) → bytes_eq a b ≡ false → bytes_eq b a ≡ false
not_equal a b other = by_test (bytes_eq b a) refl
  where
    by_test : (t : Bool) → bytes_eq b a ≡ t → t ≡ false
    by_test true e = let bad : false ≡ true = (sym other ∙ (bytes_eq-Decides a b).1 (sym ((bytes_eq-Decides b a).0 e))) in cc
    by_test false e = refl

pub all_above : (low name : List ℕ) (names : List (List ℕ)) → slice_cmp nat_cmp low name ≡ Less → AllByRecursion (λ y. slice_cmp nat_cmp name y ≡ Less) names → AllByRecursion (λ y. slice_cmp nat_cmp low y ≡ Less) names
all_above low name [] less each = tt
all_above low name (y ∷ names) less each = (nat_list_cmp_total.trans low name y less each.0, all_above low name names less each.1)

abbrev names : List (List ℕ × List ℕ) → List (List ℕ)
names files = map (λ file. file.0) files

-- a name below all others isn't there
below_absent : (files : List (List ℕ × List ℕ)) (query : List ℕ) → AllByRecursion (λ y. slice_cmp nat_cmp query y ≡ Less) (names files) → by_name files query ≡ None
below_absent [] query each = refl
below_absent (file ∷ files) query each =
    ap (λ b. cond b (Some file.1) (by_name files query)) (not_equal query file.0 (less_other query file.0 each.0)) ∙ below_absent files query each.1

-- # Two lists with the same files

by_name_first : (file : List ℕ × List ℕ) (files : List (List ℕ × List ℕ)) → by_name (file ∷ files) file.0 ≡ Some file.1
by_name_first file files = ap (λ b. cond b (Some file.1) (by_name files file.0)) ((bytes_eq-Decides file.0 file.0).1 refl)

head_of : (file : List ℕ × List ℕ) (files : List (List ℕ × List ℕ)) → AreRising (file ∷ files) → AllByRecursion (λ y. slice_cmp nat_cmp file.0 y ≡ Less) (names files)
head_of file files = sorted_head (slice_cmp nat_cmp) file.0 (names files)

tail_of : (file : List ℕ × List ℕ) (files : List (List ℕ × List ℕ)) → AreRising (file ∷ files) → AreRising files
tail_of file files = sorted_tail (slice_cmp nat_cmp) file.0 (names files)

-- the first of one isn't below the first of the other
not_below : (f g : List ℕ × List ℕ) (a b : List (List ℕ × List ℕ)) → AreRising (g ∷ b) → by_name (f ∷ a) f.0 ≡ by_name (g ∷ b) f.0 → slice_cmp nat_cmp f.0 g.0 ≡ Less → ⊥
not_below f g a b rising same less =
    let bad : Some f.1 ≡ None = (sym (by_name_first f a) ∙ same ∙ below_absent (g ∷ b) f.0 (less, all_above f.0 g.0 (names b) less (head_of g b rising))) in cc

-- what holds of all names holds behind the first, where the first two are one file
same_behind : (f : List ℕ × List ℕ) (a b : List (List ℕ × List ℕ)) → AreRising (f ∷ a) → AreRising (f ∷ b) → AreSame (by_name (f ∷ a)) (by_name (f ∷ b)) → AreSame (by_name a) (by_name b)
same_behind f a b up_a up_b same query = by_test (bytes_eq f.0 query) refl (same query)
  where
    by_test : (t : Bool) → bytes_eq f.0 query ≡ t → cond t (Some f.1) (by_name b query) ≡ cond t (Some f.1) (by_name a query) → by_name b query ≡ by_name a query
    by_test true e rest =
        let is = (bytes_eq-Decides f.0 query).0 e in
        subst (λ q. by_name b q ≡ by_name a q) is (below_absent b f.0 (head_of f b up_b) ∙ sym (below_absent a f.0 (head_of f a up_a)))
    by_test false e rest = rest

pub one_list : (a b : List (List ℕ × List ℕ)) → AreRising a → AreRising b → AreSame (by_name a) (by_name b) → a ≡ b
one_list [] [] up_a up_b same = refl
one_list [] (g ∷ b) up_a up_b same = let bad : Some g.1 ≡ None = (sym (by_name_first g b) ∙ same g.0) in cc
one_list (f ∷ a) [] up_a up_b same = let bad : None ≡ Some f.1 = (same f.0 ∙ by_name_first f a) in cc
one_list (f ∷ a) (g ∷ b) up_a up_b same = go (slice_cmp nat_cmp f.0 g.0) refl (λ again. one_list a b (tail_of f a up_a) (tail_of g b up_b) again)
  where
    go : (o : Ordering) → slice_cmp nat_cmp f.0 g.0 ≡ o → (AreSame (by_name a) (by_name b) → a ≡ b) → f ∷ a ≡ g ∷ b
    go Less e rest = absurd (not_below f g a b up_b (sym (same f.0)) e)
    go Greater e rest = absurd (not_below g f b a up_a (same g.0) (less_back f.0 g.0 e))
    go Equal e rest =
        let named : f.0 ≡ g.0 = exact_bytes f.0 g.0 e in
        let held : Some g.1 ≡ Some f.1 = (sym (by_name_first g b) ∙ subst (λ n. by_name (g ∷ b) n ≡ by_name (f ∷ a) n) named (same f.0) ∙ subst (λ n. by_name (f ∷ a) n ≡ Some f.1) named (by_name_first f a)) in
        let content : f.1 ≡ g.1 = cc in
        let first : f ≡ g = ap₂ pair named content in
        ap₂ (λ (x : List ℕ × List ℕ) (xs : List (List ℕ × List ℕ)). x ∷ xs) first
        (rest (same_behind f a b up_a (subst (λ x. AreRising (x ∷ b)) (sym first) up_b) (subst (λ x. AreSame (by_name (f ∷ a)) (by_name (x ∷ b))) (sym first) same)))
      where
        pair : List ℕ → List ℕ → List ℕ × List ℕ
        pair name bytes = (name, bytes)

-- # A rising list for a map

-- A rising list has the files of this map.
pub record IsListed (files : Files) : Type 0 where
  pub list : List (List ℕ × List ℕ)
  pub rising : AreRising list
  pub same : AreSame files (by_name list)

pub listed_same : (f g : Files) → AreSame f g → IsListed f → IsListed g
listed_same f g same of_f = record { list = of_f.list; rising = of_f.rising; same = λ query. of_f.same query ∙ sym (same query) }

module _ (name bytes : List ℕ) where
  with_all : (P : List ℕ → Type 0) (files : List (List ℕ × List ℕ)) → P name → AllByRecursion P (names files) → AllByRecursion P (names (insert_entry (slice_cmp nat_cmp) files name bytes))
  with_all P [] here each = (here, tt)
  with_all P (file ∷ files) here each = go (slice_cmp nat_cmp name file.0) (with_all P files here each.1)
    where
      go : (o : Ordering) → AllByRecursion P (names (insert_entry (slice_cmp nat_cmp) files name bytes))
          → AllByRecursion P (names (match_ordering o ((name, bytes) ∷ file ∷ files) ((file.0, bytes) ∷ files) (file ∷ insert_entry (slice_cmp nat_cmp) files name bytes)))
      go Less rest = (here, each)
      go Equal rest = each
      go Greater rest = (each.0, rest)

  with_rising : (files : List (List ℕ × List ℕ)) → AreRising files → AreRising (insert_entry (slice_cmp nat_cmp) files name bytes)
  with_rising [] rising = sorted_cons (slice_cmp nat_cmp) name [] tt (sorted_nil (slice_cmp nat_cmp))
  with_rising (file ∷ files) rising = go (slice_cmp nat_cmp name file.0) refl (with_rising files (tail_of file files rising))
    where
      go : (o : Ordering) → slice_cmp nat_cmp name file.0 ≡ o → AreRising (insert_entry (slice_cmp nat_cmp) files name bytes)
          → AreRising (match_ordering o ((name, bytes) ∷ file ∷ files) ((file.0, bytes) ∷ files) (file ∷ insert_entry (slice_cmp nat_cmp) files name bytes))
      go Less e rest = sorted_cons (slice_cmp nat_cmp) name (names (file ∷ files)) (e, all_above name file.0 (names files) e (head_of file files rising)) rising
      go Equal e rest = rising
      go Greater e rest =
          sorted_cons (slice_cmp nat_cmp) file.0 (names (insert_entry (slice_cmp nat_cmp) files name bytes))
          (with_all (λ y. slice_cmp nat_cmp file.0 y ≡ Less) files (less_back name file.0 e) (head_of file files rising)) rest

  with_read : (files : List (List ℕ × List ℕ)) (query : List ℕ) → by_name (insert_entry (slice_cmp nat_cmp) files name bytes) query ≡ cond (bytes_eq name query) (Some bytes) (by_name files query)
  with_read [] query = refl
  with_read (file ∷ files) query = go (slice_cmp nat_cmp name file.0) refl (with_read files query)
    where
      twice : (t : Bool) (x y z : Option (List ℕ)) → cond t x z ≡ cond t x (cond t y z)
      twice true x y z = refl
      twice false x y z = refl

      swapped : (s t : Bool) (x y z : Option (List ℕ)) → (s ≡ true → t ≡ true → ⊥) → cond s x (cond t y z) ≡ cond t y (cond s x z)
      swapped true true x y z apart = absurd (apart refl refl)
      swapped true false x y z apart = refl
      swapped false t x y z apart = refl

      go : (o : Ordering) → slice_cmp nat_cmp name file.0 ≡ o → by_name (insert_entry (slice_cmp nat_cmp) files name bytes) query ≡ cond (bytes_eq name query) (Some bytes) (by_name files query)
          → by_name (match_ordering o ((name, bytes) ∷ file ∷ files) ((file.0, bytes) ∷ files) (file ∷ insert_entry (slice_cmp nat_cmp) files name bytes)) query ≡ cond (bytes_eq name query) (Some bytes) (by_name (file ∷ files) query)
      go Less e rest = refl
      go Equal e rest =
          let same : name ≡ file.0 = exact_bytes name file.0 e in
          subst (λ n. cond (bytes_eq file.0 query) (Some bytes) (by_name files query) ≡ cond (bytes_eq n query) (Some bytes) (cond (bytes_eq file.0 query) (Some file.1) (by_name files query))) (sym same)
          (twice (bytes_eq file.0 query) (Some bytes) (Some file.1) (by_name files query))
      go Greater e rest =
          ap (cond (bytes_eq file.0 query) (Some file.1)) rest
          ∙ swapped (bytes_eq file.0 query) (bytes_eq name query) (Some file.1) (Some bytes) (by_name files query)
          (λ p q.
          let same : name ≡ file.0 = (bytes_eq-Decides name query).0 q ∙ sym ((bytes_eq-Decides file.0 query).0 p) in
          let t : bytes_eq name file.0 ≡ true = (bytes_eq-Decides name file.0).1 same in
          true≢false (sym t ∙ sym (is_eq-slice_cmp name file.0) ∙ ap is_eq e))

-- # Files that are left out

nothing_either : (t : Bool) (file : Option (List ℕ)) → file ≡ cond t file file
nothing_either true file = refl
nothing_either false file = refl

module _ (keeps : List ℕ → Bool) where
  abbrev kept : List (List ℕ × List ℕ) → List (List ℕ × List ℕ)
  kept files = filter (λ file. keeps file.0) files

  kept_all : (P : List ℕ → Type 0) (files : List (List ℕ × List ℕ)) → AllByRecursion P (names files) → AllByRecursion P (names (kept files))
  kept_all P [] each = tt
  kept_all P (file ∷ files) each = go (keeps file.0) (kept_all P files each.1)
    where
      go : (b : Bool) → AllByRecursion P (names (kept files)) → AllByRecursion P (names (cond b (file ∷ kept files) (kept files)))
      go true rest = (each.0, rest)
      go false rest = rest

  pub kept_rising : (files : List (List ℕ × List ℕ)) → AreRising files → AreRising (kept files)
  kept_rising [] rising = rising
  kept_rising (file ∷ files) rising = go (keeps file.0) (kept_rising files (tail_of file files rising))
    where
      go : (b : Bool) → AreRising (kept files) → AreRising (cond b (file ∷ kept files) (kept files))
      go true rest = sorted_cons (slice_cmp nat_cmp) file.0 (names (kept files)) (kept_all (λ y. slice_cmp nat_cmp file.0 y ≡ Less) files (head_of file files rising)) rest
      go false rest = rest

  pub kept_read : (files : List (List ℕ × List ℕ)) (query : List ℕ) → by_name (kept files) query ≡ cond (keeps query) (by_name files query) None
  kept_read [] query = nothing_either (keeps query) None
  kept_read (file ∷ files) query = go (keeps file.0) (bytes_eq file.0 query) refl refl (kept_read files query)
    where
      go : (b t : Bool) → keeps file.0 ≡ b → bytes_eq file.0 query ≡ t → by_name (kept files) query ≡ cond (keeps query) (by_name files query) None
          → by_name (cond b (file ∷ kept files) (kept files)) query ≡ cond (keeps query) (cond t (Some file.1) (by_name files query)) None
      go true true keep e rest =
          ap (λ u. cond u (Some file.1) (by_name (kept files) query)) e
          ∙ ap (λ u. cond u (Some file.1) None) (sym (ap keeps (sym ((bytes_eq-Decides file.0 query).0 e)) ∙ keep))
      go true false keep e rest = ap (λ u. cond u (Some file.1) (by_name (kept files) query)) e ∙ rest
      go false true keep e rest =
          let out : keeps query ≡ false = ap keeps (sym ((bytes_eq-Decides file.0 query).0 e)) ∙ keep in
          rest ∙ ap (λ u. cond u (by_name files query) None) out ∙ ap (λ u. cond u (Some file.1) None) (sym out)
      go false false keep e rest = rest

-- # Each step has a list

listed_with : (f : Files) (name bytes : List ℕ) → IsListed f → IsListed (put f name (Some bytes))
listed_with f name bytes of_f = record {
  list = insert_entry (slice_cmp nat_cmp) of_f.list name bytes;
  rising = with_rising name bytes of_f.list of_f.rising;
  same = λ query. with_read name bytes of_f.list query ∙ ap (λ file. cond (bytes_eq name query) (Some bytes) file) (of_f.same query);
}

listed_without : (f : Files) (name : List ℕ) → IsListed f → IsListed (put f name None)
listed_without f name of_f = record {
  list = filter (λ file. not (bytes_eq name file.0)) of_f.list;
  rising = kept_rising (λ n. not (bytes_eq name n)) of_f.list of_f.rising;
  same = λ query. kept_read (λ n. not (bytes_eq name n)) of_f.list query ∙ turn (bytes_eq name query) (by_name of_f.list query) ∙ ap (λ file. cond (bytes_eq name query) None file) (of_f.same query);
}
  where
    turn : (t : Bool) (file : Option (List ℕ)) → cond (not t) file None ≡ cond t None file
    turn true file = refl
    turn false file = refl

listed_put : (f : Files) (name : List ℕ) (to : Option (List ℕ)) → IsListed f → IsListed (put f name to)
listed_put f name None of_f = listed_without f name of_f
listed_put f name (Some bytes) of_f = listed_with f name bytes of_f

listed_moved : (f : Files) (from to : List ℕ) (there : Option (List ℕ)) → IsListed f → IsListed (moved f from to there)
listed_moved f from to None of_f = of_f
listed_moved f from to (Some bytes) of_f = listed_put (put f from None) to (Some bytes) (listed_put f from None of_f)

listed_act : (act : Act) (f : Files) → IsListed f → IsListed (after_act act f)
listed_act (Delete name) f of_f = listed_put f name None of_f
listed_act (Rename from to) f of_f = listed_moved f from to (f from) of_f
listed_act (Replace from to) f of_f = listed_moved f from to (f from) of_f
listed_act (Exchange a b) f of_f = listed_put (put f a (f b)) b (f a) (listed_put f a (f b) of_f)

pub listed_acts : (acts : List Act) (f : Files) → IsListed f → IsListed (act_on acts f)
listed_acts [] f of_f = of_f
listed_acts (act ∷ acts) f of_f = listed_acts acts (after_act act f) (listed_act act f of_f)

pub listed_shadows : (fresh : List (List ℕ × List ℕ)) (f : Files) → IsListed f → IsListed (with_shadows fresh f)
listed_shadows [] f of_f = of_f
listed_shadows (file ∷ fresh) f of_f = listed_shadows fresh (put f (file.0 ++ shadow_end) (Some file.1)) (listed_put f (file.0 ++ shadow_end) (Some file.1) of_f)

turned : (t : Bool) (file : Option (List ℕ)) → cond (not t) file None ≡ cond t None file
turned true file = refl
turned false file = refl

pub lasting_read : (files : List (List ℕ × List ℕ)) → AreSame (without_extra (by_name files)) (by_name (filter (λ file. not (is_extra file.0)) files))
lasting_read files query = kept_read (λ n. not (is_extra n)) files query ∙ turned (is_extra query) (by_name files query)

pub lasting_rising : (files : List (List ℕ × List ℕ)) → AreRising files → AreRising (filter (λ file. not (is_extra file.0)) files)
lasting_rising = kept_rising (λ n. not (is_extra n))

pub listed_lasting : (f : Files) → IsListed f → IsListed (without_extra f)
listed_lasting f of_f = record {
  list = filter (λ file. not (is_extra file.0)) of_f.list;
  rising = lasting_rising of_f.list of_f.rising;
  same = λ query. lasting_read of_f.list query ∙ ap (λ file. cond (is_extra query) None file) (of_f.same query);
}

-- # Bytes added

pub appended_names : (batch files : List (List ℕ × List ℕ)) → names (appended batch files) ≡ names files
appended_names batch [] = refl
appended_names batch (file ∷ files) = ap (λ ns. file.0 ∷ ns) (appended_names batch files)

pub appended_rising : (batch files : List (List ℕ × List ℕ)) → AreRising files → AreRising (appended batch files)
appended_rising batch files rising = subst (IsStrictlySortedBy (slice_cmp nat_cmp)) (sym (appended_names batch files)) rising

pub appended_read : (batch files : List (List ℕ × List ℕ)) → AreSame (added batch (by_name files)) (by_name (appended batch files))
appended_read batch [] query = refl
appended_read batch (file ∷ files) query = by_test (bytes_eq file.0 query) refl (appended_read batch files query)
  where
    by_test : (t : Bool) → bytes_eq file.0 query ≡ t → by_name (appended batch files) query ≡ added batch (by_name files) query
        → cond t (Some (file.1 ++ added_to batch file.0)) (by_name (appended batch files) query) ≡ option_map (λ bytes. bytes ++ added_to batch query) (cond t (Some file.1) (by_name files query))
    by_test true e rest = ap (λ n. Some (file.1 ++ added_to batch n)) ((bytes_eq-Decides file.0 query).0 e)
    by_test false e rest = rest

-- # A tree as a list

pub same_mapped : (files : List (List ℕ × List ℕ)) → map (λ (file : List ℕ × List ℕ). file) files ≡ files
same_mapped [] = refl
same_mapped (file ∷ files) = ap (λ rest. file ∷ rest) (same_mapped files)

same_test : (a b : List ℕ) → bytes_eq b a ≡ bytes_eq a b
same_test a b = by_test (bytes_eq a b) refl
  where
    by_test : (t : Bool) → bytes_eq a b ≡ t → bytes_eq b a ≡ t
    by_test true e = (bytes_eq-Decides b a).1 (sym ((bytes_eq-Decides a b).0 e))
    by_test false e = not_equal a b e

looked_up : (entries : List (List ℕ × List ℕ)) (query : List ℕ) → by_name entries query ≡ lookup (is_at (slice_cmp nat_cmp query)) entries
looked_up [] query = refl
looked_up (file ∷ files) query =
    ap (λ t. cond t (Some file.1) (by_name files query)) (same_test query file.0 ∙ sym (is_eq-slice_cmp query file.0))
    ∙ ap (cond (is_eq (slice_cmp nat_cmp query file.0)) (Some file.1)) (looked_up files query)

pub tree_read : (contents : BTreeMap (List ℕ) (List ℕ)) → AreSame (files_in contents) (by_name contents.entries)
tree_read contents query = looked_up contents.entries query
