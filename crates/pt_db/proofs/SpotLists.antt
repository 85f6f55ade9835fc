-- The list of a table's spots has each of them, and each once.
use Rattle.std.proofs.Common.{◌≡◌, ◌≢◌, ℕ, zero, suc, ◌+◌, ◌<◌, ◌≤◌, List, [], ◌∷◌, ◌++◌, get_or, refl, sym, ap, subst, ◌∙◌, arith}
use Rattle.std.specs.List.{All, AllPairs, Contains, flat_map, range_with_len}
use Rattle.std.proofs.lemmas.List.Elements.{All-append, All-head, All-map, All-nil, All-tail, All-weaker, Contains-append_left, Contains-append_right}
use Rattle.std.proofs.lemmas.List.FromFn.{get_or-map-range_with_len, get_or-range_with_len, length-map-range_with_len, length-range_with_len}
use Rattle.std.proofs.lemmas.List.Kept.{AllPairs-cons}
use Rattle.pt_ast.specs.declared.database.Spot.{Spot}
use Rattle.pt_ast.specs.declared.table.TableDef.{TableDef}
use Rattle.pt_plain.proofs.Pairs.{all_flat_map, pairs_head, pairs_tail}
use Rattle.pt_db.specs.Spots.{IsSpotOf, part_count, spot_at, spots_in, spots_of, sub_count}

range_within : (a n : ℕ) → All (λ i. i < a + n) (range_with_len a n)
range_within a n k d below =
    let within : k < n = omega (arith, below, length-range_with_len a n) in
    let is = get_or-range_with_len a n k d within in
    omega (arith, is, within)

module _ (def : TableDef) where
  -- each spot of the list is one of the table's
  pub spots_each : All (IsSpotOf def) (spots_of def)
  spots_each =
      all_flat_map (IsSpotOf def) (spots_in def) (range_with_len 0 (part_count def)) (λ k d below.
      let part = get_or (range_with_len 0 (part_count def)) k d in
      let within = range_within 0 (part_count def) k d below in
      All-map (IsSpotOf def) (spot_at part) (range_with_len 0 (sub_count def part)) (λ j e under.
      record { part = omega (arith, within); sub = let low = range_within 0 (sub_count def part) j e under in omega (arith, low) }))

contains_flat : {X A : Type 0} (f : X → List A) (xs : List X) (x : X) (a : A) → Contains xs x → Contains (f x) a → Contains (flat_map f xs) a
contains_flat f [] x a h held = absurd (let within = h.1 in omega (arith, within))
contains_flat f (y ∷ ys) x a (zero, within, is) held = Contains-append_left (f y) (flat_map f ys) a (subst (λ z. Contains (f z) a) (sym is) held)
contains_flat f (y ∷ ys) x a (suc k, within, is) held = Contains-append_right (f y) (flat_map f ys) a (contains_flat f ys x a (k, omega (arith, within), is) held)

range_contains : (n i : ℕ) → i < n → Contains (range_with_len 0 n) i
range_contains n i below =
    let is = get_or-range_with_len 0 n i i below in
    (i, omega (arith, below, length-range_with_len 0 n), omega (arith, is))

pairs_append : {X : Type 0} (R : X → X → Type 0) (xs ys : List X) → AllPairs R xs → AllPairs R ys → All (λ x. All (R x) ys) xs → AllPairs R (xs ++ ys)
pairs_append R [] ys first second across = second
pairs_append R (x ∷ xs) ys first second across =
    AllPairs-cons R x (xs ++ ys) (All-append (R x) xs ys (pairs_head R x xs first) (All-head (λ z. All (R z) ys) x xs across))
    (pairs_append R xs ys (pairs_tail R x xs first) second (All-tail (λ z. All (R z) ys) x xs across))

module _ (def : TableDef) where
  -- each of the table's spots stands in the list
  pub spot_listed : (spot : Spot) → IsSpotOf def spot → Contains (spots_of def) spot
  spot_listed spot is =
      contains_flat (spots_in def) (range_with_len 0 (part_count def)) spot.part spot (range_contains (part_count def) spot.part is.part)
      (spot.sub, let below = is.sub in omega (arith, below, length-map-range_with_len (spot_at spot.part) 0 (sub_count def spot.part)), get_or-map-range_with_len (spot_at spot.part) 0 (sub_count def spot.part) spot.sub spot.sub spot is.sub (omega arith))

  apart_in : (part : ℕ) → AllPairs (λ (a b : Spot). a ≢ b) (spots_in def part)
  apart_in part i j d before below same =
      let within : j < sub_count def part = omega (arith, below, length-map-range_with_len (spot_at part) 0 (sub_count def part)) in
      let first = get_or-map-range_with_len (spot_at part) 0 (sub_count def part) i i d (omega (arith, before, within)) (omega arith) in
      let second = get_or-map-range_with_len (spot_at part) 0 (sub_count def part) j j d within (omega arith) in
      let subs : i ≡ j = ap (λ (s : Spot). s.sub) (sym first ∙ same ∙ second) in
      omega (arith, subs, before)

  part_in : (part : ℕ) → All (λ (s : Spot). s.part ≡ part) (spots_in def part)
  part_in part = All-map (λ (s : Spot). s.part ≡ part) (spot_at part) (range_with_len 0 (sub_count def part)) (λ k d below. refl)

  parts_from : (from n : ℕ) → All (λ (s : Spot). from ≤ s.part) (flat_map (spots_in def) (range_with_len from n))
  parts_from from zero = All-nil (λ (s : Spot). from ≤ s.part)
  parts_from from (suc n) =
      All-append (λ (s : Spot). from ≤ s.part) (spots_in def from) (flat_map (spots_in def) (range_with_len (from + 1) n))
      (All-weaker (λ (s : Spot). s.part ≡ from) (λ (s : Spot). from ≤ s.part) (λ s is. omega (arith, is)) (spots_in def from) (part_in from))
      (All-weaker (λ (s : Spot). from + 1 ≤ s.part) (λ (s : Spot). from ≤ s.part) (λ s above. omega (arith, above)) _ (parts_from (from + 1) n))

  apart_from : (from n : ℕ) → AllPairs (λ (a b : Spot). a ≢ b) (flat_map (spots_in def) (range_with_len from n))
  apart_from from zero = λ i j d before below same. absurd (omega (arith, below))
  apart_from from (suc n) =
      pairs_append (λ (a b : Spot). a ≢ b) (spots_in def from) (flat_map (spots_in def) (range_with_len (from + 1) n)) (apart_in from) (apart_from (from + 1) n)
      (All-weaker (λ (s : Spot). s.part ≡ from) (λ (s : Spot). All (λ (t : Spot). s ≢ t) (flat_map (spots_in def) (range_with_len (from + 1) n)))
      (λ s is. All-weaker (λ (t : Spot). from + 1 ≤ t.part) (λ (t : Spot). s ≢ t) (λ t above same. let parts = ap (λ (u : Spot). u.part) same in omega (arith, is, above, parts)) _ (parts_from (from + 1) n))
      (spots_in def from) (part_in from))

  -- and none stands in it twice
  pub spots_apart : AllPairs (λ (a b : Spot). a ≢ b) (spots_of def)
  spots_apart = apart_from 0 (part_count def)
