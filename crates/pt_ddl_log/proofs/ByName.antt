-- What acts that have no name in common make of a map, name by name.
use Rattle.std.proofs.Common.{◌≡◌, ◌⊎◌, ℕ, zero, suc, ◌<◌, Bool, true, false, List, [], ◌∷◌, length, get_or, refl, sym, ap, subst, ◌∙◌, arith, inl, inr}
use Rattle.std.specs.Prelude.{Contains, AllPairs}
use Rattle.std.proofs.lemmas.List.Sorted.{Contains-permutation, IsPermutation-sym}
use Rattle.pt_host.specs.Disk.{Files}
use Rattle.pt_ddl_log.specs.declared.chain.Act.{Act}
use Rattle.pt_ddl_log.specs.Chain.{names_of, after_act, act_on}
use Rattle.pt_ddl_log.specs.Clean.{AreApart}
use Rattle.pt_ddl_log.specs.Laws.{OneActEach, InAnyOrder}
use Rattle.pt_ddl_log.specs.Tests.{has}
use Rattle.pt_ddl_log.proofs.Names.{has_name, name_had, act_others, act_local}
use Rattle.pt_ddl_log.proofs.Apart.{permuted_apart}

-- the name stands in none of the acts
abbrev StandsInNone : List Act → List ℕ → Type 0
StandsInNone acts name = (act : Act) → Contains acts act → Contains (names_of act) name → ⊥

later : (first : Act) (acts : List Act) (act : Act) → Contains acts act → Contains (first ∷ acts) act
later first acts act there = (suc there.0, omega (arith, there.1), there.2)

at_front : (first : Act) (acts : List Act) → Contains (first ∷ acts) first
at_front first acts = (0, omega arith, refl)

pub on_others : (acts : List Act) (files : Files) (name : List ℕ) → StandsInNone acts name → act_on acts files name ≡ files name
on_others [] files name none = refl
on_others (first ∷ acts) files name none =
    on_others acts (after_act first files) name (λ act there stands. none act (later first acts act there) stands)
    ∙ act_others first files name (λ stands. none first (at_front first acts) stands)

-- the first act has no name in common with a later one
apart_from_first : (first : Act) (acts : List Act) (act : Act) → AllPairs AreApart (first ∷ acts) → Contains acts act → AreApart first act
apart_from_first first acts act pairs there name in_first in_act =
    pairs 0 (suc there.0) act (omega arith) (omega (arith, there.1)) name in_first (rw there.2 in_act)

pairs_behind : (first : Act) (acts : List Act) → AllPairs AreApart (first ∷ acts) → AllPairs AreApart acts
pairs_behind first acts pairs i j d less within = pairs (suc i) (suc j) d (omega arith) (omega arith)

pub on_here : (acts : List Act) (files : Files) (act : Act) (name : List ℕ) → AllPairs AreApart acts → Contains acts act → Contains (names_of act) name → act_on acts files name ≡ after_act act files name
on_here [] files act name pairs there stands = absurd (omega (arith, there.1))
on_here (first ∷ acts) files act name pairs there stands =
    go there.0 there.1 there.2 (λ behind. on_here acts (after_act first files) act name (pairs_behind first acts pairs) behind stands)
  where
    go : (k : ℕ) → k < length (first ∷ acts) → get_or (first ∷ acts) k act ≡ act → (Contains acts act → act_on acts (after_act first files) name ≡ after_act act (after_act first files) name)
        → act_on acts (after_act first files) name ≡ after_act act files name
    go zero within is rest =
        on_others acts (after_act first files) name (λ other there in_other. apart_from_first first acts other pairs there name (subst (λ a. Contains (names_of a) name) (sym is) stands) in_other)
        ∙ ap (λ a. after_act a files name) is
    go (suc k) within is rest =
        let there : Contains acts act = (k, omega arith, is) in
        rest there
        ∙ act_local act (after_act first files) files name
        (λ query in_act. act_others first files query (λ in_first. apart_from_first first acts act pairs there query in_first in_act))
        (act_others first files name (λ in_first. apart_from_first first acts act pairs there name in_first stands))

pub one_act_each : OneActEach
one_act_each chain files clean = record {
  here = λ act name there stands. on_here chain.acts files act name clean.apart there stands;
  others = λ name none. on_others chain.acts files name none;
}

-- the act in which the name stands, or that there is none
act_of : (acts : List Act) (name : List ℕ) → ((act : Act) × Contains acts act × Contains (names_of act) name) ⊎ StandsInNone acts name
act_of [] name = inr (λ act there stands. absurd (omega (arith, there.1)))
act_of (first ∷ acts) name = go (has first name) refl (act_of acts name)
  where
    go : (b : Bool) → has first name ≡ b → ((act : Act) × Contains acts act × Contains (names_of act) name) ⊎ StandsInNone acts name
        → ((act : Act) × Contains (first ∷ acts) act × Contains (names_of act) name) ⊎ StandsInNone (first ∷ acts) name
    go true is rest = inl (first, at_front first acts, has_name first name is)
    go false is (inl found) = inl (found.0, later first acts found.0 found.1, found.2)
    go false is (inr none) = inr (λ act there stands. in_none act there.0 there.1 there.2 stands)
      where
        in_none : (act : Act) (k : ℕ) → k < length (first ∷ acts) → get_or (first ∷ acts) k act ≡ act → Contains (names_of act) name → ⊥
        in_none act zero within at stands = let bad : false ≡ true = (sym is ∙ name_had first name (rw at stands)) in cc
        in_none act (suc k) within at stands = none act (k, omega arith, at) stands

pub in_any_order : InAnyOrder
in_any_order chain acts files name clean same =
    elim (act_of chain.acts name) [
      | inl found ↦
          on_here acts files found.0 name (permuted_apart chain.acts acts same clean.apart) (Contains-permutation chain.acts acts found.0 same found.1) found.2
          ∙ sym (on_here chain.acts files found.0 name clean.apart found.1 found.2)
      | inr none ↦
          on_others acts files name (λ act there stands. none act (Contains-permutation acts chain.acts act (IsPermutation-sym chain.acts acts same) there) stands)
          ∙ sym (on_others chain.acts files name none)
    ]
