-- Acts with no name in common.
use Rattle.std.proofs.Common.{◌≡◌, ◌≢◌, ℕ, ◌+◌, ◌<◌, Bool, true, false, cond, eqb, List, length, get_or, take, refl, sym, ap, ◌∙◌, subst, inl, inr, arith}
use Rattle.std.specs.Prelude.{AllPairs}
use Rattle.std.specs.List.{list_any, swap}
use Rattle.std.specs.List.Sorted.{IsPermutation}
use Rattle.std.proofs.lemmas.Bool.{cases_lt, eqb-true, eqb-false}
use Rattle.std.proofs.lemmas.Bool.Decides.{nat_tests}
use Rattle.std.proofs.lemmas.List.{get_or-take, length-take}
use Rattle.std.proofs.lemmas.List.Elements.{at_read}
use Rattle.std.proofs.lemmas.List.Edits.{length-swap, Swapped, swapped_from_swap}
use Rattle.std.proofs.lemmas.List.Folds.{Any-from_list_any, list_any_at, list_any-from_Any}
use Rattle.std.proofs.lemmas.List.Sorted.{IsPermutation-keeps}
use Rattle.pt_ddl_log.specs.declared.chain.Act.{Act}
use Rattle.pt_ddl_log.specs.Chain.{names_of}
use Rattle.pt_ddl_log.specs.Clean.{AreApart}
use Rattle.pt_ddl_log.specs.Tests.{has, meets}
use Rattle.pt_ddl_log.proofs.Names.{has_name, name_had}

-- # The test

pub apart_from_test : (a b : Act) → meets a b ≡ false → AreApart a b
apart_from_test a b none name in_a in_b =
    let bad : false ≡ true = (sym none ∙ list_any-from_Any (has b) (names_of a) (in_a.0, name, in_a.1, in_a.2, name_had b name in_b)) in cc

pub not_apart : (a b : Act) → meets a b ≡ true → AreApart a b → ⊥
not_apart a b some apart =
    let found = Any-from_list_any (has b) (names_of a) some in
    apart found.1 (found.0, found.2, found.3) (has_name b found.1 found.4)

pub apart_back : (a b : Act) → AreApart a b → AreApart b a
apart_back a b apart name in_b in_a = apart name in_a in_b

-- # The loop

-- where a test fails on the elements below a place, it fails at each
none_below : (acts : List Act) (i : ℕ) (act : Act) → list_any (λ other. meets other act) (take i acts) ≡ false → (j : ℕ) (d : Act) → j < i → i < length acts → meets (get_or (take i acts) j d) act ≡ false
none_below acts i act none j d below within = by_test (meets (get_or (take i acts) j d) act) refl
  where
    by_test : (b : Bool) → meets (get_or (take i acts) j d) act ≡ b → b ≡ false
    by_test true is =
        let bad : false ≡ true = (sym none ∙ list_any_at (λ other. meets other act) (take i acts) j d (omega (arith, length-take i acts)) is) in cc
    by_test false is = refl

read_at : (acts : List Act) (i : ℕ) (act d : Act) → i < length acts → act ≡ get_or acts i act → get_or acts i d ≡ act
read_at acts i act d within is = at_read acts (λ other. other ≡ act) i act within is refl d

-- the acts below i are apart
abbrev pub ApartBelow : List Act → ℕ → Type 0
ApartBelow acts i = (j k : ℕ) (d : Act) → j < k → k < i → AreApart (get_or acts j d) (get_or acts k d)

pub apart_more : (acts : List Act) (i : ℕ) (act : Act) → ApartBelow acts i → i < length acts → act ≡ get_or acts i act → list_any (λ other. meets other act) (take i acts) ≡ false → ApartBelow acts (i + 1)
apart_more acts i act below within is none j k d less in_bound =
    elim (cases_lt k i) [
      | inl before ↦ below j k d less before
      | inr past ↦
          let same : i ≡ k = omega arith in
          subst (λ n. AreApart (get_or acts j d) (get_or acts n d)) same
          (at_read acts (AreApart (get_or acts j d)) i act within is
          (subst (λ other. AreApart other act) (get_or-take i acts j d (omega arith))
          (apart_from_test (get_or (take i acts) j d) act (none_below acts i act none j d (omega arith) within))) d)
    ]

pub met : (acts : List Act) (i : ℕ) (act : Act) → i < length acts → act ≡ get_or acts i act → list_any (λ other. meets other act) (take i acts) ≡ true → AllPairs AreApart acts → ⊥
met acts i act within is some pairs =
    let found = Any-from_list_any (λ other. meets other act) (take i acts) some in
    let below : found.0 < i = omega (arith, found.2, length-take i acts) in
    let at : get_or acts found.0 found.1 ≡ found.1 = sym (get_or-take i acts found.0 found.1 below) ∙ found.3 in
    not_apart found.1 act found.4
    (subst (λ other. AreApart other act) at
    (subst (λ other. AreApart (get_or acts found.0 found.1) other) (read_at acts i act found.1 within is) (pairs found.0 i found.1 below within)))

-- # Acts in another order

-- of any two places
AllApart : List Act → Type 0
AllApart acts = (j k : ℕ) (d : Act) → j ≢ k → j < length acts → k < length acts → AreApart (get_or acts j d) (get_or acts k d)

-- where the act at a place stood before the swap
place : ℕ → ℕ → ℕ → ℕ
place i j m = cond (eqb m i) j (cond (eqb m j) i m)

swap_at : (acts : List Act) (i j m : ℕ) (d : Act) → i < length acts → j < length acts → get_or (swap acts i j) m d ≡ get_or acts (place i j m) d
unfolding place
swap_at acts i j m d at_i at_j = go (eqb m i) (eqb m j) refl refl
  where
    swapped : Swapped (λ n. get_or acts n d) (λ n. get_or (swap acts i j) n d) i j
    swapped = swapped_from_swap acts (swap acts i j) i j d at_i at_j refl

    go : (b c : Bool) → eqb m i ≡ b → eqb m j ≡ c → get_or (swap acts i j) m d ≡ get_or acts (cond b j (cond c i m)) d
    go true c is_i is_j = ap (λ n. get_or (swap acts i j) n d) (eqb-true m i is_i) ∙ swapped.0
    go false true is_i is_j = ap (λ n. get_or (swap acts i j) n d) (eqb-true m j is_j) ∙ swapped.1
    go false false is_i is_j = swapped.2 m (eqb-false m i is_i) (eqb-false m j is_j)

apart_swapped : (acts : List Act) (i j : ℕ) → i < length acts → j < length acts → AllApart acts → AllApart (swap acts i j)
unfolding AllApart place
apart_swapped acts i j at_i at_j all m n d other at_m at_n =
    rw (swap_at acts i j m d at_i at_j, swap_at acts i j n d at_i at_j)
    (all (place i j m) (place i j n) d (grind (arith, nat_tests)) (grind (arith, nat_tests, length-swap acts i j)) (grind (arith, nat_tests, length-swap acts i j)))

all_from_pairs : (acts : List Act) → AllPairs AreApart acts → AllApart acts
unfolding AllApart
all_from_pairs acts pairs j k d other at_j at_k =
    elim (cases_lt j k) [
      | inl less ↦ pairs j k d less at_k
      | inr past ↦ apart_back (get_or acts k d) (get_or acts j d) (pairs k j d (omega arith) at_j)
    ]

pairs_from_all : (acts : List Act) → AllApart acts → AllPairs AreApart acts
unfolding AllApart
pairs_from_all acts all i j d less at_j = all i j d (omega arith) (omega arith) at_j

pub permuted_apart : (acts others : List Act) → IsPermutation acts others → AllPairs AreApart acts → AllPairs AreApart others
permuted_apart acts others same pairs = pairs_from_all others (IsPermutation-keeps acts AllApart (all_from_pairs acts pairs) apart_swapped others same)
