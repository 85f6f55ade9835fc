-- The names of a table's files: each once, few, and none that a directory has for itself.
use Rattle.std.proofs.Common.{◌≡◌, ◌≢◌, ◌⊎◌, inl, inr, ℕ, zero, suc, ◌*◌, ◌<◌, ◌≤◌, ◌^◌, Bool, true, false, cond, not, ◌==◌, List, [], ◌∷◌, length, map, get_or, None, refl, sym, ap, ◌∙◌, arith, length-append, eqb-true, ltb-false}
use Rattle.std.proofs.Math.Nat.{suc-mul}
use Rattle.std.specs.Prelude.{IfSome, Contains, slice_get}
use Rattle.std.specs.List.{All, AllPairs, flat_map, range_with_len}
use Rattle.std.proofs.lemmas.Bool.{not-false}
use Rattle.std.proofs.lemmas.List.{get_or-map, length-map}
use Rattle.std.proofs.lemmas.List.Elements.{All-cons, All-contains, All-head, All-map, All-nil, All-tail, Contains-append_right}
use Rattle.std.proofs.lemmas.List.FromFn.{length-map-range_with_len, length-range_with_len}
use Rattle.std.proofs.lemmas.List.Kept.{AllPairs-cons}
use Rattle.pt_plain.proofs.Pairs.{pairs_head, pairs_tail}
use Rattle.pt_value.specs.Ident.{IsIdent}
use Rattle.pt_names.specs.Names.{def_name}
use Rattle.pt_ast.specs.declared.database.Spot.{Spot}
use Rattle.pt_ast.specs.declared.refusal.Refusal.TheVariants as refusal
use Rattle.pt_ast.specs.declared.table.PartDef.{PartDef}
use Rattle.pt_ast.specs.declared.table.TableDef.{TableDef}
use Rattle.pt_place.specs.Checks.{is_whole}
use Rattle.pt_place.specs.First.{first_in}
use Rattle.pt_place.specs.Place.{leaf_of, part_name, sub_name, subs_at}
use Rattle.pt_place.specs.Valid.{IsValid, first_subs, leaf_count, other_subs}
use Rattle.pt_place.proofs.Firsts.{none_first, none_next, passes}
use Rattle.pt_place.proofs.Passing.{passed}
use Rattle.pt_defs.specs.Fitting.{FitsPart}
use Rattle.pt_db.specs.Spots.{IsSpotOf, part_count, spot_at, spots_in, spots_of, sub_count}
use Rattle.pt_db.proofs.SpotLists.{spots_apart, spots_each}
use Rattle.pt_holds.specs.Batch.{IsRowFileOf}
use Rattle.pt_holds.specs.Holds.{spot_file}
use Rattle.pt_holds.proofs.FileNames.{def_not_rows, one_row_file}
use Rattle.pt_holds.proofs.Leaves.{one_leaf}
use Rattle.pt_session.specs.Shaping.{row_files, table_files}
use Rattle.pt_session.proofs.RowFiles.{each_listed, file_listed}
use Rattle.pt_session.proofs.FileEnds.{IsOwn, def_own, row_own}

-- # Lists

pub from_map : {X Y : Type 0} (f : X → Y) (xs : List X) (y : Y) → Contains (map f xs) y → (x : X) × Contains xs x × (f x ≡ y)
from_map f [] y held = absurd (let within = held.1 in omega (arith, within))
from_map f (x ∷ xs) y (zero, within, is) = (x, (0, omega arith, refl), is)
from_map f (x ∷ xs) y (suc k, within, is) =
    let rest = from_map f xs y (k, omega (arith, within), is) in (rest.0, Contains-append_right (x ∷ []) xs rest.0 rest.1, rest.2)

pub to_map : {X Y : Type 0} (f : X → Y) (xs : List X) (x : X) → Contains xs x → Contains (map f xs) (f x)
to_map f xs x (k, within, is) = (k, omega (arith, within, length-map xs f), get_or-map f xs k x (f x) within ∙ ap f is)

-- elements apart have images apart
pub pairs_map : {X Y : Type 0} (R : X → X → Type 0) (S : Y → Y → Type 0) (P : X → Type 0) (f : X → Y) (xs : List X) → ((a b : X) → P a → P b → R a b → S (f a) (f b)) → All P xs → AllPairs R xs → AllPairs S (map f xs)
pairs_map R S P f [] step each apart = λ i j d before below. absurd (omega (arith, below))
pairs_map R S P f (x ∷ xs) step each apart =
    AllPairs-cons S (f x) (map f xs)
    (All-map (S (f x)) f xs (λ k d below. step x (get_or xs k d) (All-head P x xs each) (All-tail P x xs each k d below) (pairs_head R x xs apart k d below)))
    (pairs_map R S P f xs step (All-tail P x xs each) (pairs_tail R x xs apart))

got : {X : Type 0} (P : X → Type 0) (xs : List X) (k : ℕ) → All P xs → IfSome (slice_get xs k) P
got P [] k each = tt
got P (x ∷ xs) zero each = All-head P x xs each
got P (x ∷ xs) (suc k) each = got P xs k (All-tail P x xs each)

flat_few : {X A : Type 0} (f : X → List A) (most : ℕ) (xs : List X) → All (λ x. length (f x) ≤ most) xs → length (flat_map f xs) ≤ length xs * most
flat_few f most [] each = omega arith
flat_few f most (x ∷ xs) each =
    let first : length (f x) ≤ most = All-head (λ y. length (f y) ≤ most) x xs each in
    let rest = flat_few f most xs (All-tail (λ y. length (f y) ≤ most) x xs each) in
    omega (arith, first, rest, length-append (f x) (flat_map f xs), suc-mul (length xs) most)

-- # Leaves

subs_ident : (parts : List PartDef) (i : ℕ) → All FitsPart parts → All IsIdent (subs_at parts i)
subs_ident [] i each = All-nil IsIdent
subs_ident (part ∷ parts) zero each = (All-head FitsPart part parts each).subs
subs_ident (part ∷ parts) (suc i) each = subs_ident parts i (All-tail FitsPart part parts each)

pub leaf_ident : (def : TableDef) (spot : Spot) → All FitsPart def.parts → IfSome (leaf_of def spot) IsIdent
leaf_ident def spot each = by_level (is_whole def.sub)
  where
    by_level : (t : Bool) → IfSome (cond t (part_name def spot) (sub_name def spot)) IsIdent
    by_level true = got IsIdent (map (λ (part : PartDef). part.name) def.parts) spot.part (All-map IsIdent (λ (part : PartDef). part.name) def.parts (λ k d below. (each k d below).name))
    by_level false = got IsIdent (subs_at def.parts spot.part) spot.sub (subs_ident def.parts spot.part each)

-- # How many spots there are

subs_same : (all parts : List PartDef) (i : ℕ) → first_in (other_subs all) parts ≡ None → length (subs_at parts i) ≤ first_subs all
subs_same all [] i alike = omega arith
subs_same all (part ∷ parts) zero alike =
    let h = eqb-true (length part.subs) (first_subs all)
    (not-false (length part.subs == first_subs all) (passes (not (length part.subs == first_subs all)) (refusal.SubpartitionsDiffer part.name) (none_first (other_subs all part) (first_in (other_subs all) parts) alike))) in
    omega (arith, h)
subs_same all (part ∷ parts) (suc i) alike = subs_same all parts i (none_next (other_subs all part) (first_in (other_subs all) parts) alike)

first_few : (parts : List PartDef) → length parts * first_subs parts ≤ 8192 → first_subs parts ≤ 8192
first_few [] most = omega arith
first_few (part ∷ parts) most = omega (arith, most, suc-mul (length parts) (length part.subs))

module _ (def : TableDef) (valid : IsValid def) where
  -- the most subpartitions of a partition
  abbrev width : ℕ
  width = cond (is_whole def.sub) 1 (first_subs def.parts)

  leaves : leaf_count def.sub def.parts ≤ 8192
  leaves = let within = ltb-false _ _ (passes _ _ (passed def valid).few) in omega (arith, within)

  subs_most : (part : ℕ) → sub_count def part ≤ width
  subs_most part = by_level (is_whole def.sub)
    where
      by_level : (t : Bool) → cond t 1 (length (subs_at def.parts part)) ≤ cond t 1 (first_subs def.parts)
      by_level true = omega arith
      by_level false = subs_same def.parts def.parts part (passed def valid).alike

  width_few : width ≤ 8192
  width_few = by_level (is_whole def.sub) leaves
    where
      by_level : (t : Bool) → length def.parts * cond t 1 (first_subs def.parts) ≤ 8192 → cond t 1 (first_subs def.parts) ≤ 8192
      by_level true most = omega arith
      by_level false most = first_few def.parts most

  all_few : part_count def * width ≤ 8192
  all_few = by_level (is_whole def.by)
    where
      by_level : (t : Bool) → cond t 1 (length def.parts) * width ≤ 8192
      by_level true = omega (arith, width_few)
      by_level false = leaves

  spots_few : length (spots_of def) ≤ 8192
  spots_few =
      let most = flat_few (spots_in def) width (range_with_len 0 (part_count def))
      (λ k d below. let part = get_or (range_with_len 0 (part_count def)) k d in let few = subs_most part in omega (arith, few, length-map-range_with_len (spot_at part) 0 (sub_count def part))) in
      let long : length (range_with_len 0 (part_count def)) * width ≡ part_count def * width = ap (λ n. n * width) (length-range_with_len 0 (part_count def)) in
      omega (arith, most, long, all_few)

  pub files_few : (name : List ℕ) → length (table_files name def) < 2 ^ 32
  files_few name = omega (arith, spots_few, length-map (spots_of def) (spot_file name def))

-- # The names

pub row_listed : (name : List ℕ) (def : TableDef) (spot : Spot) → IsSpotOf def spot → Contains (row_files name def) (spot_file name def spot)
row_listed name def spot is = file_listed name def (spot_file name def spot) (spot, is, refl)

pub listed_row : (name : List ℕ) (def : TableDef) (file : List ℕ) → Contains (row_files name def) file → IsRowFileOf name def file
listed_row name def file held = All-contains (IsRowFileOf name def) (row_files name def) file (each_listed name def) held

-- one of a table's files is its definition's, or one of its rows
pub listed_file : (name : List ℕ) (def : TableDef) (file : List ℕ) → Contains (table_files name def) file → (file ≡ def_name name) ⊎ IsRowFileOf name def file
listed_file name def file (zero, within, is) = inl (sym is)
listed_file name def file (suc k, within, is) = inr (listed_row name def file (k, omega (arith, within), is))

module _ (name : List ℕ) (def : TableDef) (name_is : IsIdent name) where
  pub files_own : All FitsPart def.parts → All IsOwn (table_files name def)
  files_own each = All-cons IsOwn (def_name name) (row_files name def) (def_own name name_is) (All-map IsOwn (spot_file name def) (spots_of def) (λ k d below. row_own name (leaf_of def (get_or (spots_of def) k d)) name_is (leaf_ident def (get_or (spots_of def) k d) each)))

  pub files_apart : IsValid def → AllPairs (λ (a b : List ℕ). a ≢ b) (table_files name def)
  files_apart valid =
      AllPairs-cons (λ (a b : List ℕ). a ≢ b) (def_name name) (row_files name def)
      (All-map (λ (file : List ℕ). def_name name ≢ file) (spot_file name def) (spots_of def) (λ k d below. def_not_rows name name (leaf_of def (get_or (spots_of def) k d))))
      (pairs_map (λ (a b : Spot). a ≢ b) (λ (a b : List ℕ). a ≢ b) (IsSpotOf def) (spot_file name def) (spots_of def)
      (λ a b is_a is_b other same. other (one_leaf def valid a b is_a is_b (one_row_file name name (leaf_of def a) (leaf_of def b) name_is name_is same).1)) (spots_each def) (spots_apart def))
