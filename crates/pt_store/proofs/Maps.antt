-- Maps from names to bytes: one name changed, bytes added, fresh files put in, acts done.
use Rattle.std.proofs.Common.{◌≡◌, ℕ, ◌+◌, ◌<◌, Bool, true, false, cond, List, [], ◌∷◌, ◌++◌, length, get_or, take, refl, sym, ap, ◌∙◌, append_assoc, append-nil}
use Rattle.std.specs.Prelude.{Option, Some, None, Result, Ok, Err, OnOk}
use Rattle.std.specs.Option.{option_map}
use Rattle.std.specs.Str.{bytes_eq}
use Rattle.std.specs.BTreeMap.{BTreeMap, get}
use Rattle.std.specs.Cmp.Lexicographic.{slice_cmp}
use Rattle.std.specs.Ordering.{nat_cmp, is_eq}
use Rattle.std.proofs.lemmas.List.{take_more}
use Rattle.std.proofs.lemmas.Map.Text.{is_eq-slice_cmp}
use Rattle.std.proofs.lemmas.Slice.Eq.{bytes_eq-Decides}
use Rattle.pt_host.specs.Disk.{Files, put, moved}
use Rattle.pt_host.specs.Images.{AreSame}
use Rattle.pt_host.specs.Name.{shadow_end}
use Rattle.pt_ddl_log.specs.declared.chain.Act.{Act}
use Rattle.pt_ddl_log.specs.Chain.{act_on, after_act}
use Rattle.pt_ddl_log.proofs.Names.{act_local, put_same}
use Rattle.pt_store.specs.Batch.{added_to, added}
use Rattle.pt_store.specs.Reshape.{with_shadows}
use Rattle.pt_store.specs.Contents.{files_in}

pub same_none : (f : Files) → AreSame f f
same_none f query = refl

pub same_then : (f g h : Files) → AreSame f g → AreSame g h → AreSame f h
same_then f g h first then query = then query ∙ first query

-- # One name

-- what a tree's clause says of a change
pub put_in : (old new : BTreeMap (List ℕ) (List ℕ)) (name : List ℕ) (to : Option (List ℕ)) → ((query : List ℕ) → get (slice_cmp nat_cmp) new query ≡ cond (is_eq (slice_cmp nat_cmp name query)) to (get (slice_cmp nat_cmp) old query))
    → AreSame (put (files_in old) name to) (files_in new)
put_in old new name to updates query = updates query ∙ ap (λ b. cond b to (files_in old query)) (is_eq-slice_cmp name query)

pub put_alike : (f g : Files) (name : List ℕ) (to : Option (List ℕ)) → AreSame f g → AreSame (put f name to) (put g name to)
put_alike f g name to same query = put_same g f name query to to refl (same query)

-- a name that is changed twice has what it got last
pub put_twice : (f : Files) (name : List ℕ) (first then : Option (List ℕ)) → AreSame (put (put f name first) name then) (put f name then)
put_twice f name first then query = by_test (bytes_eq name query)
  where
    by_test : (b : Bool) → cond b then (f query) ≡ cond b then (cond b first (f query))
    by_test true = refl
    by_test false = refl

-- the same, of one change behind the other
pub put_again : (f g h : Files) (name : List ℕ) (first then : Option (List ℕ)) → AreSame (put f name first) g → AreSame (put g name then) h → AreSame (put f name then) h
put_again f g h name first then one two query =
    two query ∙ put_alike (put f name first) g name then one query ∙ sym (put_twice f name first then query)

-- a name that isn't there may be taken away
pub put_nothing : (f : Files) (name : List ℕ) → f name ≡ None → AreSame (put f name None) f
put_nothing f name none query = by_test (bytes_eq name query) refl
  where
    by_test : (b : Bool) → bytes_eq name query ≡ b → f query ≡ cond b None (f query)
    by_test true e = ap f (sym ((bytes_eq-Decides name query).0 e)) ∙ none
    by_test false e = refl

-- # Bytes added

pub added_alike : (batch : List (List ℕ × List ℕ)) (f g : Files) → AreSame f g → AreSame (added batch f) (added batch g)
added_alike batch f g same query = ap (option_map (λ bytes. bytes ++ added_to batch query)) (same query)

nothing_added : (file : Option (List ℕ)) → option_map (λ bytes. bytes ++ []) file ≡ file
nothing_added None = refl
nothing_added (Some bytes) = ap Some (append-nil bytes)

pub added_nothing : (f : Files) → AreSame (added [] f) f
added_nothing f query = sym (nothing_added (f query))

pub added_absent : (f : Files) (name bytes : List ℕ) → f name ≡ None → AreSame (added ((name, bytes) ∷ []) f) f
added_absent f name bytes none query = by_test (bytes_eq name query) refl
  where
    by_test : (b : Bool) → bytes_eq name query ≡ b → f query ≡ option_map (λ old. old ++ (cond b bytes [] ++ [])) (f query)
    by_test true e =
        let gone : f query ≡ None = ap f (sym ((bytes_eq-Decides name query).0 e)) ∙ none in
        gone ∙ ap (option_map (λ old. old ++ (bytes ++ []))) (sym gone)
    by_test false e = sym (nothing_added (f query))

pub added_here : (f : Files) (name bytes old : List ℕ) → f name ≡ Some old → AreSame (added ((name, bytes) ∷ []) f) (put f name (Some (old ++ bytes)))
added_here f name bytes old there query = by_test (bytes_eq name query) refl
  where
    by_test : (b : Bool) → bytes_eq name query ≡ b → cond b (Some (old ++ bytes)) (f query) ≡ option_map (λ file. file ++ (cond b bytes [] ++ [])) (f query)
    by_test true e =
        let here : f query ≡ Some old = ap f (sym ((bytes_eq-Decides name query).0 e)) ∙ there in
        ap (λ more. Some (old ++ more)) (sym (append-nil bytes)) ∙ ap (option_map (λ file. file ++ (bytes ++ []))) (sym here)
    by_test false e = sym (nothing_added (f query))

pub extended : (f g h : Files) (name bytes old made : List ℕ) → f name ≡ Some old → made ≡ old ++ bytes → AreSame (put f name None) g → AreSame (put g name (Some made)) h → AreSame (added ((name, bytes) ∷ []) f) h
extended f g h name bytes old made there is took gave query =
    put_again f g h name None (Some made) took gave query ∙ ap (λ b. put f name (Some b) query) is ∙ added_here f name bytes old there query

added_twice : (file : Option (List ℕ)) (a b : List ℕ) → option_map (λ bytes. bytes ++ b) (option_map (λ bytes. bytes ++ a) file) ≡ option_map (λ bytes. bytes ++ (a ++ b)) file
added_twice None a b = refl
added_twice (Some bytes) a b = ap Some (append_assoc bytes a b)

added-append : (a b : List (List ℕ × List ℕ)) (query : List ℕ) → added_to (a ++ b) query ≡ added_to a query ++ added_to b query
added-append [] b query = refl
added-append (part ∷ a) b query = ap (λ more. cond (bytes_eq part.0 query) part.1 [] ++ more) (added-append a b query) ∙ sym (append_assoc (cond (bytes_eq part.0 query) part.1 []) (added_to a query) (added_to b query))

pub added_more : (batch : List (List ℕ × List ℕ)) (part : List ℕ × List ℕ) (f g h : Files) → AreSame (added batch f) g → AreSame (added (part ∷ []) g) h → AreSame (added (batch ++ part ∷ []) f) h
added_more batch part f g h first then query =
    then query ∙ ap (option_map (λ bytes. bytes ++ added_to (part ∷ []) query)) (first query)
    ∙ added_twice (f query) (added_to batch query) (added_to (part ∷ []) query)
    ∙ ap (λ more. option_map (λ bytes. bytes ++ more) (f query)) (sym (added-append batch (part ∷ []) query))

-- # Fresh files and acts

pub on_ok : {T E : Type 0} (r : Result T E) (P Q : Type 0) → (P → Q) → OnOk r P → OnOk r Q
on_ok (Ok x) P Q then here = then here
on_ok (Err e) P Q then here = tt

pub taken : {X : Type 0} (xs : List X) (i : ℕ) (x : X) → i < length xs → x ≡ get_or xs i x → take (i + 1) xs ≡ take i xs ++ x ∷ []
taken xs i x within is = take_more xs i x within ∙ ap (λ y. take i xs ++ y ∷ []) (sym is)

shadows-push : (fresh : List (List ℕ × List ℕ)) (file : List ℕ × List ℕ) (f : Files) → with_shadows (fresh ++ file ∷ []) f ≡ put (with_shadows fresh f) (file.0 ++ shadow_end) (Some file.1)
shadows-push [] file f = refl
shadows-push (other ∷ fresh) file f = shadows-push fresh file (put f (other.0 ++ shadow_end) (Some other.1))

pub shadows_more : (fresh : List (List ℕ × List ℕ)) (file : List ℕ × List ℕ) (f g h : Files) → AreSame (with_shadows fresh f) g → AreSame (put g (file.0 ++ shadow_end) (Some file.1)) h → AreSame (with_shadows (fresh ++ file ∷ []) f) h
shadows_more fresh file f g h first then query =
    then query ∙ put_alike (with_shadows fresh f) g (file.0 ++ shadow_end) (Some file.1) first query
    ∙ ap (λ (files : Files). files query) (sym (shadows-push fresh file f))

acts-push : (acts : List Act) (act : Act) (f : Files) → act_on (acts ++ act ∷ []) f ≡ after_act act (act_on acts f)
acts-push [] act f = refl
acts-push (first ∷ acts) act f = acts-push acts act (after_act first f)

pub act_alike : (act : Act) (f g : Files) → AreSame f g → AreSame (after_act act f) (after_act act g)
act_alike act f g same query = act_local act g f query (λ name stands. same name) (same query)

pub acts_more : (acts : List Act) (act : Act) (f g h : Files) → AreSame (act_on acts f) g → AreSame (after_act act g) h → AreSame (act_on (acts ++ act ∷ []) f) h
acts_more acts act f g h first then query =
    then query ∙ act_alike act (act_on acts f) g first query ∙ ap (λ (files : Files). files query) (sym (acts-push acts act f))

pub renamed : (f g h : Files) (from to : List ℕ) (there : Option (List ℕ)) (bytes : List ℕ) → there ≡ f from → there ≡ Some bytes → AreSame (put f from None) g → AreSame (put g to (Some bytes)) h → AreSame (moved f from to (f from)) h
renamed f g h from to there bytes is some first then query =
    then query ∙ put_alike (put f from None) g to (Some bytes) first query
    ∙ ap (λ file. moved f from to file query) (sym some ∙ is)

pub renamed_nothing : (f g : Files) (from to : List ℕ) (there : Option (List ℕ)) → there ≡ f from → there ≡ None → AreSame f g → AreSame (moved f from to (f from)) g
renamed_nothing f g from to there is none same query = same query ∙ ap (λ file. moved f from to file query) (sym none ∙ is)

module _ (f g one two done : Files) (a b : List ℕ) (first second : Option (List ℕ)) where
  pub exchanged : first ≡ f a → AreSame (put f a None) g → second ≡ g b → AreSame (put g b None) one → AreSame (put one a second) two → AreSame (put two b first) done → AreSame (put (put f a (f b)) b (f a)) done
  exchanged had_a took_a had_b took_b put_a put_b query = put_b query ∙ by_b (bytes_eq b query) refl
    where
      -- the other file, where it is another
      other : (t : Bool) → bytes_eq b query ≡ false → a ≡ query → bytes_eq a b ≡ t → cond t None (f b) ≡ f b
      other true not_b is_a e = let bad : false ≡ true = (sym not_b ∙ (bytes_eq-Decides b query).1 (sym ((bytes_eq-Decides a b).0 e) ∙ is_a)) in cc
      other false not_b is_a e = refl

      by_a : (t : Bool) → bytes_eq a query ≡ t → bytes_eq b query ≡ false → cond t second (one query) ≡ cond t (f b) (f query)
      by_a true e not_b = had_b ∙ took_a b ∙ other (bytes_eq a b) not_b ((bytes_eq-Decides a query).0 e) refl
      by_a false e not_b = took_b query ∙ ap (λ t. cond t None (g query)) not_b ∙ took_a query ∙ ap (λ t. cond t None (f query)) e

      by_b : (t : Bool) → bytes_eq b query ≡ t → cond t first (two query) ≡ cond t (f a) (put f a (f b) query)
      by_b true e = had_a
      by_b false e = put_a query ∙ by_a (bytes_eq a query) refl e
