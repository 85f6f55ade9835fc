-- What a reshape makes of a map, name by name.
use Rattle.std.proofs.Common.{◌≡◌, ◌≢◌, ℕ, suc, ◌<◌, Bool, true, false, cond, List, [], ◌∷◌, ◌++◌, length, get_or, refl, sym, ap, ◌∙◌, subst, arith, length-append}
use Rattle.std.specs.Prelude.{Option, Some, None, Contains, IsSome, AllPairs}
use Rattle.std.specs.Str.{bytes_eq}
use Rattle.std.proofs.lemmas.List.Elements.{All-contains}
use Rattle.std.proofs.lemmas.Slice.Eq.{bytes_eq-Decides}
use Rattle.pt_host.specs.Disk.{Files, put, moved}
use Rattle.pt_host.specs.Listed.{FileList, by_name}
use Rattle.pt_host.specs.Name.{is_extra, shadow_end}
use Rattle.pt_host.proofs.Lookups.{all_present}
use Rattle.pt_left.proofs.Fields.{same_parts}
use Rattle.pt_ddl_log.specs.declared.chain.Act.{Act}
use Rattle.pt_ddl_log.specs.declared.chain.Act.TheVariants.{Delete, Rename, Replace, Exchange}
use Rattle.pt_ddl_log.specs.declared.chain.Chain.{Chain}
use Rattle.pt_ddl_log.specs.Chain.{act_on, after_act, names_of}
use Rattle.pt_ddl_log.specs.Clean.{HasTwo, IsLasting}
use Rattle.pt_ddl_log.proofs.ByName.{on_here, on_others}
use Rattle.pt_ddl_log.proofs.Names.{put_here, put_other}
use Rattle.pt_store.specs.Reshape.{with_shadows, reshaped, Fits, Gives, IsFresh, IsReshape, ReshapesByName, EachName}
use Rattle.pt_store.proofs.Stepping.{shadows_other}

-- # The fresh bytes under their shadows

one_shadow : (a b : List ℕ) → a ++ shadow_end ≡ b ++ shadow_end → a ≡ b
one_shadow a b e = (same_parts a b shadow_end shadow_end (omega (arith, ap (λ (n : List ℕ). length n) e, length-append a shadow_end, length-append b shadow_end)) e).0

shadow_test : (a b : List ℕ) → bytes_eq a b ≡ false → bytes_eq (a ++ shadow_end) (b ++ shadow_end) ≡ false
shadow_test a b other = by_test (bytes_eq (a ++ shadow_end) (b ++ shadow_end)) refl
  where
    by_test : (t : Bool) → bytes_eq (a ++ shadow_end) (b ++ shadow_end) ≡ t → t ≡ false
    by_test true e = let bad : false ≡ true = (sym other ∙ (bytes_eq-Decides a b).1 (one_shadow a b ((bytes_eq-Decides (a ++ shadow_end) (b ++ shadow_end)).0 e))) in cc
    by_test false e = refl

-- a name that isn't fresh has nothing put under its shadow
shadow_none : (fresh : FileList) (files : Files) (name : List ℕ) → by_name fresh name ≡ None → with_shadows fresh files (name ++ shadow_end) ≡ files (name ++ shadow_end)
shadow_none [] files name none = refl
shadow_none (file ∷ fresh) files name none = go (bytes_eq file.0 name) refl none (shadow_none fresh (put files (file.0 ++ shadow_end) (Some file.1)) name)
  where
    go : (t : Bool) → bytes_eq file.0 name ≡ t → cond t (Some file.1) (by_name fresh name) ≡ None
        → (by_name fresh name ≡ None → with_shadows fresh (put files (file.0 ++ shadow_end) (Some file.1)) (name ++ shadow_end) ≡ put files (file.0 ++ shadow_end) (Some file.1) (name ++ shadow_end))
        → with_shadows fresh (put files (file.0 ++ shadow_end) (Some file.1)) (name ++ shadow_end) ≡ files (name ++ shadow_end)
    go true e gone rest = let bad : Some file.1 ≡ None = gone in cc
    go false e gone rest = rest gone ∙ ap (λ t. cond t (Some file.1) (files (name ++ shadow_end))) (shadow_test file.0 name e)

-- names that are distinct
abbrev Distinct : FileList → Type 0
Distinct fresh = AllPairs (λ (a b : List ℕ × List ℕ). a.0 ≢ b.0) fresh

behind : (file : List ℕ × List ℕ) (fresh : FileList) → Distinct (file ∷ fresh) → Distinct fresh
behind file fresh distinct i j d less within = distinct (suc i) (suc j) d (omega arith) (omega arith)

first_alone : (file : List ℕ × List ℕ) (fresh : FileList) → Distinct (file ∷ fresh) → by_name fresh file.0 ≡ None
first_alone file fresh distinct = go fresh (λ k d within. distinct 0 (suc k) d (omega arith) (omega arith))
  where
    go : (files : FileList) → ((k : ℕ) (d : List ℕ × List ℕ) → k < length files → file.0 ≢ (get_or files k d).0) → by_name files file.0 ≡ None
    go [] apart = refl
    go (other ∷ files) apart = by_test (bytes_eq other.0 file.0) refl (go files (λ k d within. apart (suc k) d (omega arith)))
      where
        by_test : (t : Bool) → bytes_eq other.0 file.0 ≡ t → by_name files file.0 ≡ None → cond t (Some other.1) (by_name files file.0) ≡ None
        by_test true e rest = absurd (apart 0 other (omega arith) (sym ((bytes_eq-Decides other.0 file.0).0 e)))
        by_test false e rest = rest

shadow_here : (fresh : FileList) (files : Files) (name bytes : List ℕ) → Distinct fresh → by_name fresh name ≡ Some bytes → with_shadows fresh files (name ++ shadow_end) ≡ Some bytes
shadow_here [] files name bytes distinct there = let bad : None ≡ Some bytes = there in cc
shadow_here (file ∷ fresh) files name bytes distinct there =
    go (bytes_eq file.0 name) refl there (λ later. shadow_here fresh (put files (file.0 ++ shadow_end) (Some file.1)) name bytes (behind file fresh distinct) later)
  where
    go : (t : Bool) → bytes_eq file.0 name ≡ t → cond t (Some file.1) (by_name fresh name) ≡ Some bytes
        → (by_name fresh name ≡ Some bytes → with_shadows fresh (put files (file.0 ++ shadow_end) (Some file.1)) (name ++ shadow_end) ≡ Some bytes)
        → with_shadows fresh (put files (file.0 ++ shadow_end) (Some file.1)) (name ++ shadow_end) ≡ Some bytes
    go true e here rest =
        let same : file.0 ≡ name = (bytes_eq-Decides file.0 name).0 e in
        shadow_none fresh (put files (file.0 ++ shadow_end) (Some file.1)) name (subst (λ n. by_name fresh n ≡ None) same (first_alone file fresh distinct))
        ∙ put_here files (file.0 ++ shadow_end) (name ++ shadow_end) (Some file.1) (ap (λ n. n ++ shadow_end) same) ∙ here
    go false e here rest = rest here

-- # Name by name

only : (a : List ℕ) → Contains (a ∷ []) a
only a = (0, omega arith, refl)

first : (a b : List ℕ) → Contains (a ∷ b ∷ []) a
first a b = (0, omega arith, refl)

second : (a b : List ℕ) → Contains (a ∷ b ∷ []) b
second a b = (1, omega arith, refl)

module _ (sizes : List (List ℕ × ℕ)) (fresh : FileList) (chain : Chain) (files : Files) (is : IsReshape sizes fresh chain) where
  lasting : (act : Act) → Contains chain.acts act → IsLasting act
  lasting act there = All-contains IsLasting chain.acts act is.clean.lasting there

  fits : (act : Act) → Contains chain.acts act → Fits sizes fresh act
  fits act there = All-contains (Fits sizes fresh) chain.acts act is.fit there

  lasts : (name : List ℕ) (file : Option (List ℕ)) → is_extra name ≡ false → act_on chain.acts (with_shadows fresh files) name ≡ file → reshaped fresh chain files name ≡ file
  lasts name file out made = ap (λ t. cond t None (act_on chain.acts (with_shadows fresh files) name)) out ∙ made

  here : (act : Act) (name : List ℕ) → Contains chain.acts act → Contains (names_of act) name → act_on chain.acts (with_shadows fresh files) name ≡ after_act act (with_shadows fresh files) name
  here act name there stands = on_here chain.acts (with_shadows fresh files) act name is.clean.apart there stands

  -- what is moved from a shadow
  from_shadow : (from to bytes : List ℕ) → IsFresh fresh from to → by_name fresh to ≡ Some bytes → moved (with_shadows fresh files) from to (with_shadows fresh files from) to ≡ Some bytes
  from_shadow from to bytes gets held =
      ap (λ there. moved (with_shadows fresh files) from to there to) (ap (with_shadows fresh files) gets.shadow ∙ shadow_here fresh files to bytes is.distinct held)
      ∙ put_here (put (with_shadows fresh files) from None) to to (Some bytes) refl

  given_one : (act : Act) (name bytes : List ℕ) → Contains chain.acts act → Gives name act → by_name fresh name ≡ Some bytes → reshaped fresh chain files name ≡ Some bytes
  given_one (Delete other) name bytes there gives held = absurd gives
  given_one (Exchange a b) name bytes there gives held = absurd gives
  given_one (Rename from to) name bytes there gives held =
      subst (λ n. reshaped fresh chain files n ≡ Some bytes) gives
      (lasts to (Some bytes) (lasting (Rename from to) there 0 [] (omega arith))
      (here (Rename from to) to there (second from to) ∙ from_shadow from to bytes (fits (Rename from to) there).0 (ap (by_name fresh) gives ∙ held)))
  given_one (Replace from to) name bytes there gives held =
      subst (λ n. reshaped fresh chain files n ≡ Some bytes) gives
      (lasts to (Some bytes) (lasting (Replace from to) there 0 [] (omega arith))
      (here (Replace from to) to there (second from to) ∙ from_shadow from to bytes (fits (Replace from to) there).0 (ap (by_name fresh) gives ∙ held)))

  exchanged_one : (a b : List ℕ) → Contains chain.acts (Exchange a b) → (reshaped fresh chain files a ≡ files b) × (reshaped fresh chain files b ≡ files a)
  exchanged_one a b there =
      let two : HasTwo (Exchange a b) = All-contains HasTwo chain.acts (Exchange a b) is.clean.two there in
      let a_lasts : is_extra a ≡ false = lasting (Exchange a b) there 0 [] (omega arith) in
      let b_lasts : is_extra b ≡ false = lasting (Exchange a b) there 1 [] (omega arith) in
      let f = with_shadows fresh files in (
        lasts a (files b) a_lasts
            (here (Exchange a b) a there (first a b) ∙ put_other (put f a (f b)) b a (f a) (λ e. two (sym e)) ∙ put_here f a a (f b) refl ∙ shadows_other fresh files b b_lasts),
        lasts b (files a) b_lasts
            (here (Exchange a b) b there (second a b) ∙ put_here (put f a (f b)) b b (f a) refl ∙ shadows_other fresh files a a_lasts),
      )

  pub by_names : ReshapesByName fresh chain files
  by_names = record {
    extra = λ name out. ap (λ t. cond t None (act_on chain.acts (with_shadows fresh files) name)) out;
    deleted = λ name there. lasts name None (lasting (Delete name) there 0 [] (omega arith)) (here (Delete name) name there (only name) ∙ put_here (with_shadows fresh files) name name None refl);
    given = λ name bytes held.
        let one = all_present (λ n. (act : Act) × Contains chain.acts act × Gives n act) fresh is.given name (subst IsSome (sym held) refl) in
        given_one one.0 name bytes one.1 one.2 held;
    exchanged = exchanged_one;
    others = λ name out none. lasts name (files name) out (on_others chain.acts (with_shadows fresh files) name none ∙ shadows_other fresh files name out);
  }

pub each_name : EachName
each_name sizes fresh chain files is = by_names sizes fresh chain files is
