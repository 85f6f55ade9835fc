-- Files of a list looked up by their names.
use Rattle.std.proofs.Common.{◌≡◌, ℕ, zero, suc, ◌<◌, Bool, true, false, cond, List, [], ◌∷◌, length, get_or, map, Some, All, refl, sym, ap, ◌∙◌, subst, arith, Less}
use Rattle.std.specs.Prelude.{IsSome, Contains}
use Rattle.std.specs.Option.{option_map}
use Rattle.std.specs.Str.{bytes_eq}
use Rattle.std.specs.List.{find, AllByRecursion}
use Rattle.std.specs.Ordering.{nat_cmp, is_eq}
use Rattle.std.specs.Cmp.Lexicographic.{slice_cmp}
use Rattle.std.proofs.lemmas.Slice.Eq.{bytes_eq-Decides}
use Rattle.std.proofs.lemmas.List.Elements.{All-contains_itself, All-from_recursion, recursion_from_All}
use Rattle.std.proofs.lemmas.List.{get_or-map, length-map}
use Rattle.std.proofs.lemmas.Map.Keys.{sorted_head, sorted_tail}
use Rattle.std.proofs.lemmas.Map.Text.{is_eq-slice_cmp}
use Rattle.pt_host.specs.Listed.{FileList, by_name, AreRising}

-- a search gives the look-up
pub found_file : (files : FileList) (name : List ℕ) → option_map (λ (file : List ℕ × List ℕ). file.1) (find (λ file. bytes_eq file.0 name) files) ≡ by_name files name
found_file [] name = refl
found_file (file ∷ files) name = go (bytes_eq file.0 name) (found_file files name)
  where
    go : (t : Bool) → option_map (λ (f : List ℕ × List ℕ). f.1) (find (λ f. bytes_eq f.0 name) files) ≡ by_name files name
        → option_map (λ (f : List ℕ × List ℕ). f.1) (cond t (Some file) (find (λ f. bytes_eq f.0 name) files)) ≡ cond t (Some file.1) (by_name files name)
    go true e = refl
    go false e = e

-- what holds of each name holds of each that is there
pub each_present : (P : List ℕ → Type 0) (files : FileList) → AllByRecursion (λ file. P file.0) files → (name : List ℕ) → IsSome (by_name files name) → P name
each_present P [] each name there = let bad : false ≡ true = there in cc
each_present P (file ∷ files) each name there = go (bytes_eq file.0 name) refl (each_present P files each.1 name) there
  where
    go : (t : Bool) → bytes_eq file.0 name ≡ t → (IsSome (by_name files name) → P name) → IsSome (cond t (Some file.1) (by_name files name)) → P name
    go true e later h = subst P ((bytes_eq-Decides file.0 name).0 e) each.0
    go false e later h = later h

pub all_present : (P : List ℕ → Type 0) (files : FileList) → All (λ file. P file.0) files → (name : List ℕ) → IsSome (by_name files name) → P name
all_present P files each = each_present P files (recursion_from_All (λ file. P file.0) files each)

-- a file's name is there
pub present_at : (files : FileList) (k : ℕ) (d : List ℕ × List ℕ) → k < length files → IsSome (by_name files (get_or files k d).0)
present_at [] k d below = absurd (omega arith)
present_at (file ∷ files) zero d below = rw ((bytes_eq-Decides file.0 file.0).1 refl) refl
present_at (file ∷ files) (suc k) d below = go (bytes_eq file.0 (get_or files k d).0) (present_at files k d (omega arith))
  where
    go : (t : Bool) → IsSome (by_name files (get_or files k d).0) → IsSome (cond t (Some file.1) (by_name files (get_or files k d).0))
    go true h = refl
    go false h = h

-- where names rise, a file is the one of its name
pub by_name_at : (files : FileList) (k : ℕ) (d : List ℕ × List ℕ) → AreRising files → k < length files → by_name files (get_or files k d).0 ≡ Some (get_or files k d).1
by_name_at [] k d rising below = absurd (omega arith)
by_name_at (file ∷ files) zero d rising below = rw ((bytes_eq-Decides file.0 file.0).1 refl) refl
by_name_at (file ∷ files) (suc k) d rising below =
    let later : All (λ n. slice_cmp nat_cmp file.0 n ≡ Less) (map (λ f. f.0) files) =
    All-from_recursion (λ n. slice_cmp nat_cmp file.0 n ≡ Less) (map (λ f. f.0) files) (sorted_head (slice_cmp nat_cmp) file.0 (map (λ f. f.0) files) rising) in
    let less : slice_cmp nat_cmp file.0 (get_or files k d).0 ≡ Less = subst (λ n. slice_cmp nat_cmp file.0 n ≡ Less) (get_or-map (λ (f : List ℕ × List ℕ). f.0) files k d d.0 (omega arith)) (later k d.0 (omega (arith, length-map files (λ (f : List ℕ × List ℕ). f.0)))) in
    let apart : bytes_eq file.0 (get_or files k d).0 ≡ false = sym (is_eq-slice_cmp file.0 (get_or files k d).0) ∙ ap is_eq less in
    rw apart (by_name_at files k d (sorted_tail (slice_cmp nat_cmp) file.0 (map (λ f. f.0) files) rising) (omega arith))

-- a name that is there is one of the names
pub contains_present : (files : FileList) (name : List ℕ) → IsSome (by_name files name) → Contains (map (λ f. f.0) files) name
contains_present files name there =
    let all = map (λ (f : List ℕ × List ℕ). f.0) files in
    all_present (Contains all) files
    (λ k d within. subst (Contains all) (get_or-map (λ (f : List ℕ × List ℕ). f.0) files k d d.0 within) (All-contains_itself all k d.0 (omega (arith, length-map files (λ (f : List ℕ × List ℕ). f.0)))))
    name there
