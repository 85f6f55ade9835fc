-- Lists in which no value stands twice have no tuple in common.
use Rattle.std.proofs.Common.{◌≡◌, ℕ, zero, suc, ◌<◌, Bool, true, false, ◌||◌, List, [], ◌∷◌, ◌++◌, map, length, take, get_or, refl, sym, ap, ◌∙◌, arith, inl, inr, None}
use Rattle.std.specs.declared.cmp.Ordering.{Ordering}
use Rattle.std.specs.declared.cmp.Ordering.TheVariants.{Less, Equal, Greater}
use Rattle.std.specs.Ordering.{is_eq}
use Rattle.std.specs.List.{list_any}
use Rattle.std.proofs.lemmas.Bool.{or_cases, true≢false}
use Rattle.std.proofs.lemmas.List.{get_or-map, get_or-take, length-take-le}
use Rattle.std.proofs.lemmas.List.Folds.{list_any-append}
use Rattle.pt_ast.specs.declared.table.Bound.{Bound}
use Rattle.pt_ast.specs.declared.table.PartDef.{PartDef}
use Rattle.pt_ast.specs.Bounds.{tuple_cmp}
use Rattle.pt_ast.specs.Lists.{entries, has_tuple, is_list_fault, list_fault, repeats, stands_among}
use Rattle.pt_bounds.proofs.Firsts.{none_before}
use Rattle.pt_bounds.proofs.Orders.{tuple_cmp-Equal}
use Rattle.pt_bounds.proofs.Standing.{stands_in_entries}

neither : (a b : Bool) → (a || b) ≡ false → (a ≡ false) × (b ≡ false)
neither true b e = absurd (true≢false e)
neither false b e = (refl, e)

tied : (o : Ordering) → is_eq o ≡ true → o ≡ Equal
tied Less e = cc
tied Equal e = refl
tied Greater e = cc

-- what stands in a list that repeats nothing didn't stand before
not_before : (before tuples : List (List Bound)) (tuple : List Bound) → repeats before tuples ≡ false → stands_among tuples tuple ≡ true → stands_among before tuple ≡ false
not_before before [] tuple fine stands = cc
not_before before (first ∷ rest) tuple fine stands =
    let parts = neither (stands_among before first) (repeats (before ++ first ∷ []) rest) fine in
    elim (or_cases (is_eq (tuple_cmp first tuple)) (stands_among rest tuple) stands) [
      | inl same ↦ ap (stands_among before) (sym (tuple_cmp-Equal first tuple (tied _ same))) ∙ parts.0
      | inr later ↦
          let wider = not_before (before ++ first ∷ []) rest tuple parts.1 later in
          (neither (stands_among before tuple) (stands_among (first ∷ []) tuple) (sym (list_any-append _ before (first ∷ [])) ∙ wider)).0
    ]

any_at : {X : Type 0} (test : X → Bool) (xs : List X) (i : ℕ) (d : X) → i < length xs → test (get_or xs i d) ≡ true → list_any test xs ≡ true
any_at test [] i d within passes = absurd (omega (arith, within))
any_at test (x ∷ xs) zero d within passes = ap (λ b. b || list_any test xs) passes
any_at test (x ∷ xs) (suc i) d within passes = or_true (test x) (list_any test xs) (any_at test xs i d (omega (arith, within)) passes)
  where
    or_true : (a b : Bool) → b ≡ true → (a || b) ≡ true
    or_true true b e = refl
    or_true false b e = e

pub once : (parts : List PartDef) (tuple : List Bound) (i j : ℕ) (part : PartDef) → list_fault parts ≡ None → i < j → j < length parts
    → has_tuple tuple (get_or parts i part) ≡ true → has_tuple tuple (get_or parts j part) ≡ true → ⊥
once parts tuple i j part none before within first second =
    let own = get_or-map (λ p. p.bounds) parts j part [] within in
    let fine : is_list_fault parts j ≡ false = none_before (is_list_fault parts) (length parts) none j within in
    let apart = not_before (entries (take j parts)) (get_or (map (λ p. p.bounds) parts) j []) tuple fine (ap (λ l. stands_among l tuple) own ∙ second) in
    let there : list_any (has_tuple tuple) (take j parts) ≡ true =
    any_at (has_tuple tuple) (take j parts) i part (omega (arith, before, within, length-take-le j parts)) (ap (has_tuple tuple) (get_or-take j parts i part before) ∙ first) in
    true≢false (sym there ∙ sym (stands_in_entries (take j parts) tuple) ∙ apart)
