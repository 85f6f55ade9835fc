-- Lists that tests go through, and rows by rising serials without one of them.
use Rattle.std.proofs.Common.{◌≡◌, ◌≢◌, ℕ, ◌+◌, ◌==◌, Bool, true, false, cond, not, ◌&&◌, List, [], ◌∷◌, length, map, Some, None, refl, sym, ap, ◌∙◌, subst, arith, true≢false}
use Rattle.std.specs.List.{All, AllByRecursion, filter}
use Rattle.std.specs.Option.{option_map}
use Rattle.std.specs.Ordering.{nat_cmp}
use Rattle.std.proofs.lemmas.Bool.{eq-eqb, eqb-true, ne_eqb}
use Rattle.std.proofs.lemmas.List.Elements.{All-weaker, recursion_from_All}
use Rattle.std.proofs.lemmas.Map.Keys.{sorted_head, sorted_tail}
use Rattle.pt_value.specs.declared.value.Value.{Value}
use Rattle.pt_ast.specs.declared.database.Row.{Row}
use Rattle.pt_db.specs.Rows.{AreRising, is_numbered, others, row_at}
use Rattle.pt_db.proofs.Keyed as keyed
use Rattle.pt_db.proofs.Serials.{by_serials, cells_found, cells_in, others_rise, row_gone, row_left, same_rows, serial_of}

-- # Tests

module _ {X : Type 0} (p : X → Bool) where
  kept_by : (xs : List X) → AllByRecursion (λ x. p x ≡ true) xs → filter p xs ≡ xs
  kept_by [] all = refl
  kept_by (x ∷ xs) all = ap (λ t. cond t (x ∷ filter p xs) (filter p xs)) all.0 ∙ ap (λ zs. x ∷ zs) (kept_by xs all.1)

  pub filter_keeps : (xs : List X) → All (λ x. p x ≡ true) xs → filter p xs ≡ xs
  filter_keeps xs all = kept_by xs (recursion_from_All (λ x. p x ≡ true) xs all)

  none_by : (xs : List X) → AllByRecursion (λ x. p x ≡ false) xs → filter p xs ≡ []
  none_by [] all = refl
  none_by (x ∷ xs) all = ap (λ t. cond t (x ∷ filter p xs) (filter p xs)) all.0 ∙ none_by xs all.1

  pub filter_none : (xs : List X) → All (λ x. p x ≡ false) xs → filter p xs ≡ []
  filter_none xs all = none_by xs (recursion_from_All (λ x. p x ≡ false) xs all)

  module _ (q : X → Bool) where
    pub filter_both : (xs : List X) → filter p (filter q xs) ≡ filter (λ x. q x && p x) xs
    filter_both [] = refl
    filter_both (x ∷ xs) = by (q x) (filter_both xs)
      where
        by : (t : Bool) → filter p (filter q xs) ≡ filter (λ y. q y && p y) xs
            → filter p (cond t (x ∷ filter q xs) (filter q xs)) ≡ cond (t && p x) (x ∷ filter (λ y. q y && p y) xs) (filter (λ y. q y && p y) xs)
        by true rest = ap (λ zs. cond (p x) (x ∷ zs) zs) rest
        by false rest = rest

    inner_by : (xs : List X) → AllByRecursion (λ x. q x ≡ false → p x ≡ false) xs → filter p (filter q xs) ≡ filter p xs
    inner_by [] all = refl
    inner_by (x ∷ xs) all = by (q x) refl (inner_by xs all.1)
      where
        by : (t : Bool) → q x ≡ t → filter p (filter q xs) ≡ filter p xs → filter p (cond t (x ∷ filter q xs) (filter q xs)) ≡ cond (p x) (x ∷ filter p xs) (filter p xs)
        by true e rest = ap (λ zs. cond (p x) (x ∷ zs) zs) rest
        by false e rest = rest ∙ sym (ap (λ t. cond t (x ∷ filter p xs) (filter p xs)) (all.0 e))

    -- what goes for the one goes for the other
    pub filter_inner : (xs : List X) → All (λ x. q x ≡ false → p x ≡ false) xs → filter p (filter q xs) ≡ filter p xs
    filter_inner xs all = inner_by xs (recursion_from_All (λ x. q x ≡ false → p x ≡ false) xs all)

    pub filter_turned : (xs : List X) → filter p (filter q xs) ≡ filter q (filter p xs)
    filter_turned [] = refl
    filter_turned (x ∷ xs) = by (p x) (q x) refl refl (filter_turned xs)
      where
        by : (t s : Bool) → p x ≡ t → q x ≡ s → filter p (filter q xs) ≡ filter q (filter p xs) → filter p (cond s (x ∷ filter q xs) (filter q xs)) ≡ filter q (cond t (x ∷ filter p xs) (filter p xs))
        by true true e f rest =
            ap (λ b. cond b (x ∷ filter p (filter q xs)) (filter p (filter q xs))) e
            ∙ ap (λ zs. x ∷ zs) rest
            ∙ sym (ap (λ b. cond b (x ∷ filter q (filter p xs)) (filter q (filter p xs))) f)
        by true false e f rest = rest ∙ sym (ap (λ b. cond b (x ∷ filter q (filter p xs)) (filter q (filter p xs))) f)
        by false true e f rest = ap (λ b. cond b (x ∷ filter p (filter q xs)) (filter p (filter q xs))) e ∙ rest
        by false false e f rest = rest

pub filter_mapped : {X Y : Type 0} (f : X → Y) (p : Y → Bool) (xs : List X) → map f (filter (λ x. p (f x)) xs) ≡ filter p (map f xs)
filter_mapped f p [] = refl
filter_mapped {X} {Y} f p (x ∷ xs) = by (p (f x)) (filter_mapped f p xs)
  where
    by : (t : Bool) → map f (filter (λ y. p (f y)) xs) ≡ filter p (map f xs)
        → map f (cond t (x ∷ filter (λ y. p (f y)) xs) (filter (λ y. p (f y)) xs)) ≡ cond t (f x ∷ filter p (map f xs)) (filter p (map f xs))
    by true rest = ap (λ zs. f x ∷ zs) rest
    by false rest = rest

-- # Rows without one

module _ (serial : ℕ) where
  -- no row has the serial
  pub others_apart : (rows : List Row) → All (λ row. row.serial ≢ serial) rows → others serial rows ≡ rows
  others_apart rows apart =
      filter_keeps (λ row. not (is_numbered serial row)) rows
      (All-weaker (λ (row : Row). row.serial ≢ serial) (λ (row : Row). not (is_numbered serial row) ≡ true) (λ row other. ap (λ b. not b) (ne_eqb row.serial serial other)) rows apart)

  others_absent : (rows : List Row) → AreRising rows → row_at rows serial ≡ None → others serial rows ≡ rows
  others_absent rows up none = same_rows (others serial rows) rows (others_rise serial rows up) up (λ query. by query (serial == query) refl)
    where
      by : (query : ℕ) (t : Bool) → (serial == query) ≡ t → row_at (others serial rows) query ≡ row_at rows query
      by query true e = subst (λ n. row_at (others serial rows) n ≡ row_at rows n) (eqb-true serial query e) (row_gone serial rows ∙ sym none)
      by query false e = row_left serial query rows (λ same. true≢false (sym (eq-eqb serial query same) ∙ e))

  -- one row less
  pub others_one : (rows : List Row) (cells : List Value) → AreRising rows → row_at rows serial ≡ Some cells → length (others serial rows) + 1 ≡ length rows
  others_one [] cells up at = let bad : None ≡ Some cells = at in cc
  others_one (row ∷ rows) cells up at = by (is_numbered serial row) refl at (others_one rows cells (sorted_tail nat_cmp row.serial (map serial_of rows) up))
    where
      none : row.serial ≡ serial → row_at rows serial ≡ None
      none same =
          subst (λ n. row_at rows n ≡ None) same
          (cells_found rows row.serial
          ∙ ap (option_map cells_in) (keyed.below_absent nat_cmp (λ x y. x == y) by_serials serial_of rows row.serial (sorted_head nat_cmp row.serial (map serial_of rows) up)))

      by : (t : Bool) → is_numbered serial row ≡ t → cond t (Some row.cells) (row_at rows serial) ≡ Some cells → (row_at rows serial ≡ Some cells → length (others serial rows) + 1 ≡ length rows)
          → length (cond (not t) (row ∷ others serial rows) (others serial rows)) + 1 ≡ length (row ∷ rows)
      by true e here rest =
          let same : length (others serial rows) ≡ length rows = ap (λ (rs : List Row). length rs) (others_absent rows (sorted_tail nat_cmp row.serial (map serial_of rows) up) (none (eqb-true row.serial serial e))) in
          omega (arith, same)
      by false e here rest = let more = rest here in omega (arith, more)
