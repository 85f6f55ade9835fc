-- What the store is asked where files get new bytes and others go, and what that makes of files, name by name.
use Rattle.std.proofs.Common.{◌≡◌, ◌≢◌, ◌⊎◌, inl, inr, ℕ, zero, suc, ◌+◌, ◌<◌, ◌≤◌, ◌^◌, Bool, true, false, true≢false, cond, ◌||◌, is_some, List, [], ◌∷◌, ◌++◌, length, map, take, get_or, Option, Some, None, refl, sym, ap, ap₂, ◌∙◌, subst, arith}
use Rattle.std.specs.Prelude.{Contains, IsSome}
use Rattle.std.specs.List.{All, AllPairs, filter, list_any}
use Rattle.std.specs.Cmp.Lexicographic.{slice_cmp}
use Rattle.std.specs.Ordering.{is_eq, nat_cmp}
use Rattle.std.specs.Str.{bytes_eq}
use Rattle.std.proofs.lemmas.Bool.{or_left, or_right}
use Rattle.std.proofs.lemmas.List.{get_or-map, length-map, take_more}
use Rattle.std.proofs.lemmas.List.Elements.{All-append, All-cons, All-head, All-map, All-tail, Contains-append_cases, Contains-append_left, Contains-append_right}
use Rattle.std.proofs.lemmas.List.Folds.{list_any-append}
use Rattle.std.proofs.lemmas.List.Kept.{AllPairs-cons}
use Rattle.std.proofs.lemmas.Map.Text.{is_eq-slice_cmp}
use Rattle.std.proofs.lemmas.Slice.Eq.{bytes_eq-Decides}
use Rattle.pt_plain.proofs.Pairs.{pairs_head, pairs_tail}
use Rattle.pt_host.specs.Disk.{Files}
use Rattle.pt_host.specs.Listed.{FileList, by_name}
use Rattle.pt_host.specs.Name.{is_extra, shadow_end}
use Rattle.pt_host.proofs.Lookups.{present_at}
use Rattle.pt_ddl_log.specs.declared.chain.Act.{Act}
use Rattle.pt_ddl_log.specs.declared.chain.Act.TheVariants.{Delete, Rename, Replace}
use Rattle.pt_ddl_log.specs.declared.chain.Chain.{Chain}
use Rattle.pt_ddl_log.specs.Chain.{names_of}
use Rattle.pt_ddl_log.specs.Clean.{AreApart, HasTwo, IsClean, IsLasting, is_exchange, names_but_from}
use Rattle.pt_store.specs.Entries.{length_in}
use Rattle.pt_store.specs.Reshape.{Fits, Gives, IsReshape, ReshapesByName, fixed_names, reshaped}
use Rattle.pt_store.proofs.EachName.{each_name}
use Rattle.pt_session.specs.Shaping.{goes, is_listed, renews}
use Rattle.pt_session.proofs.FileEnds.{IsOwn, one_name, one_shadow, own_not_fixed, own_not_shadow, own_plain, shadow_extra, shadow_not_fixed, two_names}
use Rattle.pt_session.proofs.Reshaping.{apart_goes, go_alone, of_acts, one_all}
use Rattle.pt_session.proofs.ShapeFiles.{from_map, pairs_map, to_map}

-- # Lists

pairs_both : {X : Type 0} (R : X → X → Type 0) (xs ys : List X) → AllPairs R xs → AllPairs R ys → All (λ x. All (R x) ys) xs → AllPairs R (xs ++ ys)
pairs_both R [] ys a b between = b
pairs_both R (x ∷ xs) ys a b between =
    AllPairs-cons R x (xs ++ ys) (All-append (R x) xs ys (pairs_head R x xs a) (All-head (λ y. All (R y) ys) x xs between))
    (pairs_both R xs ys (pairs_tail R x xs a) b (All-tail (λ y. All (R y) ys) x xs between))

pub listed_is : (names : List (List ℕ)) (file : List ℕ) → Contains names file → is_listed names file ≡ true
listed_is [] file held = absurd (let within = held.1 in omega (arith, within))
listed_is (name ∷ names) file (zero, within, is) = or_left (bytes_eq name file) (is_listed names file) ((bytes_eq-Decides name file).1 is)
listed_is (name ∷ names) file (suc k, within, is) = or_right (bytes_eq name file) (is_listed names file) (listed_is names file (k, omega (arith, within), is))

-- one name more
pub listed_more : (old new : List ℕ → Bool) (names : List (List ℕ)) (k : ℕ) (name : List ℕ) → k < length names → name ≡ get_or names k name
    → ((file : List ℕ) → new file ≡ cond (is_eq (slice_cmp nat_cmp name file)) true (old file)) → ((file : List ℕ) → old file ≡ is_listed (take k names) file)
    → (file : List ℕ) → new file ≡ is_listed (take (k + 1) names) file
listed_more old new names k name within is put before file =
    put file
    ∙ ap₂ (λ (a b : Bool). cond a true b) (is_eq-slice_cmp name file) (before file)
    ∙ turned (bytes_eq name file) (is_listed (take k names) file)
    ∙ sym (ap (λ (all : List (List ℕ)). is_listed all file) (take_more names k name within ∙ ap (λ (last : List ℕ). take k names ++ last ∷ []) (sym is)) ∙ list_any-append (λ other. bytes_eq other file) (take k names) (name ∷ []))
  where
    turned : (a b : Bool) → cond a true b ≡ (b || (a || false))
    turned true true = refl
    turned true false = refl
    turned false true = refl
    turned false false = refl

pub is_there : (names : List (List ℕ)) (file : List ℕ) → is_listed names file ≡ true → Contains names file
is_there [] file e = let bad : false ≡ true = e in cc
is_there (name ∷ names) file e = go (bytes_eq name file) refl (is_there names file) e
  where
    go : (t : Bool) → bytes_eq name file ≡ t → (is_listed names file ≡ true → Contains names file) → (t || is_listed names file) ≡ true → Contains (name ∷ names) file
    go true is rest h = (0, omega arith, (bytes_eq-Decides name file).0 is)
    go false is rest h = Contains-append_right (name ∷ []) names file (rest h)

pub filter_there : {X : Type 0} (p : X → Bool) (xs : List X) (x : X) → Contains xs x → p x ≡ true → Contains (filter p xs) x
filter_there p [] x held e = absurd (let within = held.1 in omega (arith, within))
filter_there p (y ∷ xs) x (zero, within, is) e =
    subst (λ kept. Contains kept x) (sym (ap (λ t. cond t (y ∷ filter p xs) (filter p xs)) (ap p is ∙ e))) (0, omega arith, is)
filter_there p (y ∷ xs) x (suc k, within, is) e = go (p y) (filter_there p xs x (k, omega (arith, within), is) e)
  where
    go : (t : Bool) → Contains (filter p xs) x → Contains (cond t (y ∷ filter p xs) (filter p xs)) x
    go true held = Contains-append_right (y ∷ []) (filter p xs) x held
    go false held = held

-- # One act

module _ (lengths : List (List ℕ × ℕ)) where
  renew_names : (file : List ℕ) → names_of (renews lengths file) ≡ (file ++ shadow_end) ∷ file ∷ []
  renew_names file = go (is_some (length_in lengths file))
    where
      go : (t : Bool) → names_of (cond t (Replace (file ++ shadow_end) file) (Rename (file ++ shadow_end) file)) ≡ (file ++ shadow_end) ∷ file ∷ []
      go true = refl
      go false = refl

  renew_last : (file : List ℕ) → names_but_from (renews lengths file) ≡ file ∷ []
  renew_last file = go (is_some (length_in lengths file))
    where
      go : (t : Bool) → names_but_from (cond t (Replace (file ++ shadow_end) file) (Rename (file ++ shadow_end) file)) ≡ file ∷ []
      go true = refl
      go false = refl

  renew_plain : (file : List ℕ) → is_exchange (renews lengths file) ≡ false
  renew_plain file = go (is_some (length_in lengths file))
    where
      go : (t : Bool) → is_exchange (cond t (Replace (file ++ shadow_end) file) (Rename (file ++ shadow_end) file)) ≡ false
      go true = refl
      go false = refl

  renew_two : (file : List ℕ) → HasTwo (renews lengths file)
  renew_two file = go (is_some (length_in lengths file))
    where
      go : (t : Bool) → HasTwo (cond t (Replace (file ++ shadow_end) file) (Rename (file ++ shadow_end) file))
      go true = tt
      go false = tt

  renew_gives : (file : List ℕ) → Gives file (renews lengths file)
  renew_gives file = go (is_some (length_in lengths file))
    where
      go : (t : Bool) → Gives file (cond t (Replace (file ++ shadow_end) file) (Rename (file ++ shadow_end) file))
      go true = refl
      go false = refl

  renew_fits : (files : FileList) (file : List ℕ) → IsSome (by_name files file) → Fits lengths files (renews lengths file)
  renew_fits files file there = go (length_in lengths file) refl
    where
      go : (o : Option ℕ) → length_in lengths file ≡ o → Fits lengths files (cond (is_some o) (Replace (file ++ shadow_end) file) (Rename (file ++ shadow_end) file))
      go None e = (record { shadow = refl; bytes = there }, e)
      go (Some size) e = (record { shadow = refl; bytes = there }, ap is_some e)

  renew_two_names : (file name : List ℕ) → Contains (names_of (renews lengths file)) name → (file ++ shadow_end ≡ name) ⊎ (file ≡ name)
  renew_two_names file name stands = two_names (file ++ shadow_end) file name (subst (λ names. Contains names name) (renew_names file) stands)

  apart_renews : (a b : List ℕ) → IsOwn a → IsOwn b → a ≢ b → AreApart (renews lengths a) (renews lengths b)
  apart_renews a b own_a own_b other name in_a in_b = go (renew_two_names a name in_a) (renew_two_names b name in_b)
    where
      go : (a ++ shadow_end ≡ name) ⊎ (a ≡ name) → (b ++ shadow_end ≡ name) ⊎ (b ≡ name) → ⊥
      go (inl x) (inl y) = other (one_shadow a b (x ∙ sym y))
      go (inl x) (inr y) = own_not_shadow b a own_b (y ∙ sym x)
      go (inr x) (inl y) = own_not_shadow a b own_a (x ∙ sym y)
      go (inr x) (inr y) = other (x ∙ sym y)

  apart_both : (a b : List ℕ) → IsOwn b → a ≢ b → AreApart (renews lengths a) (goes b)
  apart_both a b own_b other name in_a in_b = go (renew_two_names a name in_a) (one_name b name in_b)
    where
      go : (a ++ shadow_end ≡ name) ⊎ (a ≡ name) → b ≡ name → ⊥
      go (inl x) y = own_not_shadow b a own_b (y ∙ sym x)
      go (inr x) y = other (x ∙ sym y)

  -- # A chain

  abbrev pub renew : List ℕ × List ℕ → Act
  renew file = renews lengths file.0

  renew_alone : (files : FileList) → list_any is_exchange (map renew files) ≡ false
  renew_alone [] = refl
  renew_alone (file ∷ files) = ap₂ (λ (a b : Bool). a || b) (renew_plain file.0) (renew_alone files)

  module _ (files : FileList) (gone : List (List ℕ)) where
    abbrev pub alter_acts : List Act
    alter_acts = map renew files ++ map goes gone

    module _ (own : All (λ (file : List ℕ × List ℕ). IsOwn file.0) files) (own_gone : All IsOwn gone) (once : AllPairs (λ (a b : List ℕ × List ℕ). a.0 ≢ b.0) files)
        (once_gone : AllPairs (λ (a b : List ℕ). a ≢ b) gone) (apart : All (λ (file : List ℕ × List ℕ). All (λ name. file.0 ≢ name) gone) files) (there : All (λ name. IsSome (length_in lengths name)) gone)
        (few : length alter_acts < 2 ^ 32) where
      alter_alone : list_any is_exchange alter_acts ≡ false
      alter_alone = list_any-append is_exchange (map renew files) (map goes gone) ∙ ap₂ (λ (a b : Bool). a || b) (renew_alone files) (go_alone gone)

      alter_clean : IsClean (of_acts alter_acts)
      alter_clean = record {
        apart =
            pairs_both AreApart (map renew files) (map goes gone)
            (pairs_map (λ (a b : List ℕ × List ℕ). a.0 ≢ b.0) AreApart (λ (file : List ℕ × List ℕ). IsOwn file.0) renew files (λ a b own_a own_b other. apart_renews a.0 b.0 own_a own_b other) own once)
            (pairs_map (λ (a b : List ℕ). a ≢ b) AreApart IsOwn goes gone (λ a b own_a own_b other. apart_goes a b other) own_gone once_gone)
            (All-map (λ act. All (AreApart act) (map goes gone)) renew files
            (λ k d below. All-map (AreApart (renew (get_or files k d))) goes gone (λ j e under. apart_both (get_or files k d).0 (get_or gone j e) (own_gone j e under) (apart k d below j e under))));
        lasting =
            All-append IsLasting (map renew files) (map goes gone)
            (All-map IsLasting renew files
            (λ k d below. let name = (get_or files k d).0 in
            subst (All (λ other. is_extra other ≡ false)) (sym (renew_last name)) (one_all (λ other. is_extra other ≡ false) name (own_plain name (own k d below)))))
            (All-map IsLasting goes gone (λ k d below. one_all (λ other. is_extra other ≡ false) (get_or gone k d) (own_plain (get_or gone k d) (own_gone k d below))));
        two = All-append HasTwo (map renew files) (map goes gone) (All-map HasTwo renew files (λ k d below. renew_two (get_or files k d).0)) (All-map HasTwo goes gone (λ k d below. tt));
        alone = λ some. absurd (true≢false (sym some ∙ alter_alone));
      }

      pub alter_asks : IsReshape lengths files (of_acts alter_acts)
      alter_asks = record {
        clean = alter_clean;
        few = few;
        fit =
            All-append (Fits lengths files) (map renew files) (map goes gone)
            (All-map (Fits lengths files) renew files (λ k d below. renew_fits files (get_or files k d).0 (present_at files k d below)))
            (All-map (Fits lengths files) goes gone there);
        distinct = once;
        given = λ k d below. (
          renew (get_or files k d),
          Contains-append_left (map renew files) (map goes gone) (renew (get_or files k d)) (k, omega (arith, below, length-map files renew), get_or-map renew files k d (renew (get_or files k d)) below),
          renew_gives (get_or files k d).0,
        );
        free =
            All-append (λ act. All (λ name. Contains fixed_names name → ⊥) (names_of act)) (map renew files) (map goes gone)
            (All-map (λ act. All (λ name. Contains fixed_names name → ⊥) (names_of act)) renew files
            (λ k d below. let name = (get_or files k d).0 in
            subst (All (λ other. Contains fixed_names other → ⊥)) (sym (renew_names name))
            (All-cons (λ other. Contains fixed_names other → ⊥) (name ++ shadow_end) (name ∷ []) (shadow_not_fixed name) (one_all (λ other. Contains fixed_names other → ⊥) name (own_not_fixed name (own k d below))))))
            (All-map (λ act. All (λ name. Contains fixed_names name → ⊥) (names_of act)) goes gone
            (λ k d below. one_all (λ other. Contains fixed_names other → ⊥) (get_or gone k d) (own_not_fixed (get_or gone k d) (own_gone k d below))));
        short =
            All-append (λ act. All (λ name. length name ≤ 154) (names_but_from act)) (map renew files) (map goes gone)
            (All-map (λ act. All (λ name. length name ≤ 154) (names_but_from act)) renew files
            (λ k d below. let name = (get_or files k d).0 in
            subst (All (λ (other : List ℕ). length other ≤ 154)) (sym (renew_last name)) (one_all (λ (other : List ℕ). length other ≤ 154) name (own k d below).short)))
            (All-map (λ act. All (λ name. length name ≤ 154) (names_but_from act)) goes gone (λ k d below. one_all (λ (other : List ℕ). length other ≤ 154) (get_or gone k d) (own_gone k d below).short));
      }

    -- # Name by name

    module _ (chain : Chain) (before : Files) (asks : IsReshape lengths files chain) (are : chain.acts ≡ alter_acts) where
      by_names : ReshapesByName files chain before
      by_names = each_name lengths files chain before asks

      pub renewed : (name bytes : List ℕ) → by_name files name ≡ Some bytes → reshaped files chain before name ≡ Some bytes
      renewed name bytes at = by_names.given name bytes at

      pub gone_away : (name : List ℕ) → Contains gone name → reshaped files chain before name ≡ None
      gone_away name held =
          by_names.deleted name
          (subst (λ acts. Contains acts (Delete name)) (sym are) (Contains-append_right (map renew files) (map goes gone) (Delete name) (to_map goes gone name held)))

      pub left_alone : (name : List ℕ) → is_extra name ≡ false → ((file : List ℕ × List ℕ) → Contains files file → file.0 ≢ name) → ((other : List ℕ) → Contains gone other → other ≢ name)
          → reshaped files chain before name ≡ before name
      left_alone name plain not_file not_gone = by_names.others name plain (λ act held stands. none act (Contains-append_cases (map renew files) (map goes gone) act (subst (λ acts. Contains acts act) are held)) stands)
        where
          none : (act : Act) → Contains (map renew files) act ⊎ Contains (map goes gone) act → Contains (names_of act) name → ⊥
          none act (inl held) stands =
              let one = from_map renew files act held in
              go one.0 one.1 (renew_two_names one.0.0 name (subst (λ a. Contains (names_of a) name) (sym one.2) stands))
            where
              go : (file : List ℕ × List ℕ) → Contains files file → (file.0 ++ shadow_end ≡ name) ⊎ (file.0 ≡ name) → ⊥
              go file there (inl e) = true≢false (sym (shadow_extra file.0) ∙ ap is_extra e ∙ plain)
              go file there (inr e) = not_file file there e
          none act (inr held) stands =
              let one = from_map goes gone act held in
              not_gone one.0 one.1 (one_name one.0 name (subst (λ a. Contains (names_of a) name) (sym one.2) stands))
