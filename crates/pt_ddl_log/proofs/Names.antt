-- The names of an act, and what an act does at a name.
use Rattle.std.proofs.Common.{◌≡◌, ◌≢◌, ℕ, Bool, true, false, cond, List, [], ◌∷◌, refl, ap, ◌∙◌, subst, arith}
use Rattle.std.specs.Prelude.{Option, Some, None, Contains}
use Rattle.std.specs.Str.{bytes_eq}
use Rattle.std.proofs.lemmas.Slice.Eq.{bytes_eq-Decides}
use Rattle.std.proofs.lemmas.Cmp.{nat_list_eq_equiv}
use Rattle.std.proofs.lemmas.Map.Views.{Contains-from_any, list_any-from_Contains}
use Rattle.pt_host.specs.Disk.{Files, put, moved}
use Rattle.pt_ddl_log.specs.declared.chain.Act.{Act}
use Rattle.pt_ddl_log.specs.declared.chain.Act.TheVariants.{Delete, Rename, Replace, Exchange}
use Rattle.pt_ddl_log.specs.Chain.{names_of, after_act}
use Rattle.pt_ddl_log.specs.Tests.{has}

pub has_name : (act : Act) (name : List ℕ) → has act name ≡ true → Contains (names_of act) name
has_name act name e = Contains-from_any {eq = bytes_eq} (λ x y same. (bytes_eq-Decides x y).0 same) name (names_of act) e

pub name_had : (act : Act) (name : List ℕ) → Contains (names_of act) name → has act name ≡ true
name_had act name stands = list_any-from_Contains {eq = bytes_eq} nat_list_eq_equiv name (names_of act) stands

-- # One name of a map

pub put_here : (files : Files) (name query : List ℕ) (to : Option (List ℕ)) → name ≡ query → put files name to query ≡ to
put_here files name query to same = ap (λ b. cond b to (files query)) ((bytes_eq-Decides name query).1 same)

pub put_other : (files : Files) (name query : List ℕ) (to : Option (List ℕ)) → name ≢ query → put files name to query ≡ files query
put_other files name query to other = by_test (bytes_eq name query) refl
  where
    by_test : (b : Bool) → bytes_eq name query ≡ b → cond b to (files query) ≡ files query
    by_test true e = absurd (other ((bytes_eq-Decides name query).0 e))
    by_test false e = refl

-- two maps with the same at a name have the same there when one name is changed in both
pub put_same : (f g : Files) (name query : List ℕ) (a b : Option (List ℕ)) → a ≡ b → f query ≡ g query → put f name a query ≡ put g name b query
put_same f g name query a b same rest = by_test (bytes_eq name query)
  where
    by_test : (t : Bool) → cond t a (f query) ≡ cond t b (g query)
    by_test true = same
    by_test false = rest

-- # An act at a name

module _ (files : Files) (from to query : List ℕ) (not_from : from ≢ query) (not_to : to ≢ query) where
  pub moved_other : (there : Option (List ℕ)) → moved files from to there query ≡ files query
  moved_other None = refl
  moved_other (Some bytes) = put_other (put files from None) to query (Some bytes) not_to ∙ put_other files from query None not_from

moved_same : (f g : Files) (from to query : List ℕ) (there : Option (List ℕ)) → f query ≡ g query → moved f from to there query ≡ moved g from to there query
moved_same f g from to query None same = same
moved_same f g from to query (Some bytes) same = put_same (put f from None) (put g from None) to query (Some bytes) (Some bytes) refl (put_same f g from query None None refl same)

first : (a b : List ℕ) → Contains (a ∷ b ∷ []) a
first a b = (0, omega arith, refl)

second : (a b : List ℕ) → Contains (a ∷ b ∷ []) b
second a b = (1, omega arith, refl)

only : (a : List ℕ) → Contains (a ∷ []) a
only a = (0, omega arith, refl)

-- a name that doesn't stand in an act isn't one of its names
other_than : (act : Act) (name query : List ℕ) → (Contains (names_of act) query → ⊥) → Contains (names_of act) name → name ≢ query
other_than act name query none stands same = none (subst (λ n. Contains (names_of act) n) same stands)

-- an act changes its own names alone
pub act_others : (act : Act) (files : Files) (query : List ℕ) → (Contains (names_of act) query → ⊥) → after_act act files query ≡ files query
act_others (Delete name) files query none = put_other files name query None (other_than (Delete name) name query none (only name))
act_others (Rename from to) files query none =
    moved_other files from to query (other_than (Rename from to) from query none (first from to)) (other_than (Rename from to) to query none (second from to)) (files from)
act_others (Replace from to) files query none =
    moved_other files from to query (other_than (Replace from to) from query none (first from to)) (other_than (Replace from to) to query none (second from to)) (files from)
act_others (Exchange a b) files query none =
    put_other (put files a (files b)) b query (files a) (other_than (Exchange a b) b query none (second a b))
    ∙ put_other files a query (files b) (other_than (Exchange a b) a query none (first a b))

-- what an act makes of a name is made of its own names alone
pub act_local : (act : Act) (f g : Files) (query : List ℕ) → ((name : List ℕ) → Contains (names_of act) name → f name ≡ g name) → f query ≡ g query → after_act act f query ≡ after_act act g query
act_local (Delete name) f g query same here = put_same f g name query None None refl here
act_local (Rename from to) f g query same here =
    ap (λ there. moved f from to there query) (same from (first from to)) ∙ moved_same f g from to query (g from) here
act_local (Replace from to) f g query same here =
    ap (λ there. moved f from to there query) (same from (first from to)) ∙ moved_same f g from to query (g from) here
act_local (Exchange a b) f g query same here =
    put_same (put f a (f b)) (put g a (g b)) b query (f a) (g a) (same a (first a b)) (put_same f g a query (f b) (g b) (same b (second a b)) here)
