-- A table's rows stay sound where rows go, where one is added, and where one has other cells.
use Rattle.std.proofs.Common.{◌≡◌, ℕ, ◌+◌, ◌<◌, Bool, true, false, cond, not, ◌&&◌, ◌||◌, List, [], ◌∷◌, ◌++◌, map, get_or, refl, sym, ap, ap₂, subst, ◌∙◌, arith, Less, Equal, Greater}
use Rattle.std.specs.Prelude.{slice_index_or}
use Rattle.std.specs.List.{All, AllByRecursion, AllPairs, filter}
use Rattle.std.specs.Ordering.{eq_by_cmp, nat_cmp}
use Rattle.std.proofs.lemmas.Bool.{and_parts, eq-eqb, eqb-true, le-ltb, ne_eqb, or_parts}
use Rattle.std.proofs.lemmas.List.Elements.{All-cons, All-filter, All-map, All-nil, All-push, All-weaker}
use Rattle.std.proofs.lemmas.List.Kept.{AllPairs-cons, AllPairs-filter}
use Rattle.std.proofs.lemmas.List.Quantifiers.{all_pairs_push}
use Rattle.std.proofs.lemmas.Map.Keys.{sorted_head, sorted_tail}
use Rattle.std.proofs.lemmas.Map.Views.{tells_apart}
use Rattle.pt_value.specs.Value.{value_cmp}
use Rattle.pt_value.specs.declared.value.Value.{Value}
use Rattle.pt_value.specs.declared.value.Value.TheVariants.{Null}
use Rattle.pt_value.proofs.Order.{value_cmp-Equal}
use Rattle.pt_ast.specs.declared.database.Row.{Row}
use Rattle.pt_ast.specs.declared.table.TableDef.{TableDef}
use Rattle.pt_ast.specs.Keys.{AreUnique, agree, agree_on, agrees, is_alike, is_null, is_taken, unique_keys}
use Rattle.pt_plain.proofs.Pairs.{pairs_head, pairs_tail}
use Rattle.pt_db.specs.Rows.{AreRising, is_numbered, others, with_cells}
use Rattle.pt_db.specs.Sound.{AreSoundRows, IsSoundRow}
use Rattle.pt_db.proofs.Serials.{cells_rise, filtered_rise, pushed_rise}
use Rattle.pt_db.proofs.Sounds.{later_row}

-- ---- rows agree both ways

alike_turned : (a b : Value) → is_alike a b ≡ true → is_alike b a ≡ true
alike_turned a b h =
    let is = tells_apart value_cmp-Equal a b (and_parts (not (is_null a)) (eq_by_cmp value_cmp a b) h).1 in
    subst (λ x. is_alike x a ≡ true) is (subst (λ x. is_alike a x ≡ true) (sym is) h)

both_ways : (s t : Bool) → (s ≡ true → t ≡ true) → (t ≡ true → s ≡ true) → s ≡ t
both_ways true t f g = sym (f refl)
both_ways false true f g = g refl
both_ways false false f g = refl

alike_same : (a b : Value) → is_alike a b ≡ is_alike b a
alike_same a b = both_ways (is_alike a b) (is_alike b a) (alike_turned a b) (alike_turned b a)

agree_same : (a b : List Value) (columns : List ℕ) → agree a b columns ≡ agree b a columns
agree_same a b [] = refl
agree_same a b (column ∷ columns) =
    ap₂ (λ (x y : Bool). x && y) (alike_same (slice_index_or a column Null) (slice_index_or b column Null)) (agree_same a b columns)

agree_on_same : (keys : List (List ℕ)) (a b : List Value) → agree_on keys a b ≡ agree_on keys b a
agree_on_same [] a b = refl
agree_on_same (key ∷ keys) a b = ap₂ (λ (x y : Bool). x || y) (agree_same a b key) (agree_on_same keys a b)

pub agrees_same : (def : TableDef) (a b : List Value) → agrees def a b ≡ agrees def b a
agrees_same def a b = agree_on_same (unique_keys def) a b

-- ---- no row agrees

-- these cells agree with no row
abbrev pub IsFreeOf : TableDef → List Value → Row → Type 0
IsFreeOf def cells row = agrees def cells row.cells ≡ false

pub free_rows : (def : TableDef) (cells : List Value) (rows : List Row) → is_taken def cells rows ≡ false → All (IsFreeOf def cells) rows
free_rows def cells [] h = All-nil (IsFreeOf def cells)
free_rows def cells (row ∷ rows) h =
    let parts = or_parts (agrees def cells row.cells) (is_taken def cells rows) h in
    All-cons (IsFreeOf def cells) row rows parts.0 (free_rows def cells rows parts.1)

module _ (next : ℕ) (def : TableDef) where
  -- ---- rows go

  pub rows_kept : (keep : Row → Bool) (rows : List Row) → AreSoundRows next def rows → AreSoundRows next def (filter keep rows)
  rows_kept keep rows s = record {
    each = All-filter keep (IsSoundRow next def) rows s.each;
    unique = AllPairs-filter (λ (a b : Row). agrees def b.cells a.cells ≡ false) keep rows s.unique;
    rising = filtered_rise keep rows s.rising;
  }

  -- ---- a row more, with the next serial

  pub row_pushed : (rows : List Row) (cells : List Value) → AreSoundRows next def rows → IsSoundRow (next + 1) def (record { serial = next; cells = cells }) → is_taken def cells rows ≡ false
      → AreSoundRows (next + 1) def (rows ++ record { serial = next; cells = cells } ∷ [])
  row_pushed rows cells s new free =
      let row : Row = record { serial = next; cells = cells } in
      let all = free_rows def cells rows free in
      record {
        each = All-push (IsSoundRow (next + 1) def) rows row
            (All-weaker (IsSoundRow next def) (IsSoundRow (next + 1) def) (λ other old. later_row next (next + 1) def other (omega arith) old) rows s.each) new;
        unique = all_pairs_push (λ (a b : Row). agrees def b.cells a.cells ≡ false) rows row s.unique (λ k d below. all k d below);
        rising = pushed_rise rows row s.rising (All-weaker (IsSoundRow next def) (λ (other : Row). other.serial < next) (λ other old. old.below) rows s.each);
      }

-- ---- other cells in a row

module _ (def : TableDef) (serial : ℕ) (cells : List Value) where
  abbrev changed : Row → Row
  changed row = cond (is_numbered serial row) (record row { cells = cells }) row

  -- what the row with these cells has and every other row, all have
  each_changed : (P : Row → Type 0) → P (record { serial = serial; cells = cells }) → (rows : List Row) → All P rows → All P (with_cells serial cells rows)
  each_changed P new rows all = All-map P changed rows (λ k d below. by_test (get_or rows k d) (is_numbered serial (get_or rows k d)) refl (all k d below))
    where
      by_test : (row : Row) (t : Bool) → is_numbered serial row ≡ t → P row → P (cond t (record row { cells = cells }) row)
      by_test row true e old = subst (λ n. P (record { serial = n; cells = cells })) (sym (eqb-true row.serial serial e)) new
      by_test row false e old = old

  -- where no row has the serial nothing changes, and nothing is left out
  above_same : (rows : List Row) → AllByRecursion (λ k. nat_cmp serial k ≡ Less) (map (λ (row : Row). row.serial) rows) → (with_cells serial cells rows ≡ rows) × (others serial rows ≡ rows)
  above_same [] above = (refl, refl)
  above_same (row ∷ rows) above =
      let rest = above_same rows above.1 in
      let other : is_numbered serial row ≡ false = ne_eqb row.serial serial (λ same. let bad : Equal ≡ Less = (sym (tie serial) ∙ ap (nat_cmp serial) (sym same) ∙ above.0) in cc) in (
        ap₂ (λ (b : Bool) (zs : List Row). cond b (record row { cells = cells }) row ∷ zs) other rest.0,
        ap (λ b. cond (not b) (row ∷ others serial rows) (others serial rows)) other ∙ ap (λ zs. row ∷ zs) rest.1,
      )
    where
      tie : (n : ℕ) → nat_cmp n n ≡ Equal
      tie n = ap₂ (λ (a b : Bool). cond a Less (cond b Equal Greater)) (le-ltb n n (omega arith)) (eq-eqb n n refl)

  pub unique_changed : (rows : List Row) → AreRising rows → AreUnique def rows → is_taken def cells (others serial rows) ≡ false → AreUnique def (with_cells serial cells rows)
  unique_changed [] up unique free = λ i j d before below. absurd (omega (arith, below))
  unique_changed (row ∷ rows) up unique free =
      by_test (is_numbered serial row) refl free
      (unique_changed rows (sorted_tail nat_cmp row.serial (map (λ (other : Row). other.serial) rows) up) (pairs_tail (λ (a b : Row). agrees def b.cells a.cells ≡ false) row rows unique))
    where
      below_all : is_numbered serial row ≡ true → AllByRecursion (λ k. nat_cmp serial k ≡ Less) (map (λ (other : Row). other.serial) rows)
      below_all e = subst (λ n. AllByRecursion (λ k. nat_cmp n k ≡ Less) (map (λ (other : Row). other.serial) rows)) (eqb-true row.serial serial e) (sorted_head nat_cmp row.serial (map (λ (other : Row). other.serial) rows) up)

      tail : AllPairs (λ (a b : Row). agrees def b.cells a.cells ≡ false) rows
      tail = pairs_tail (λ (a b : Row). agrees def b.cells a.cells ≡ false) row rows unique

      head : All (λ (b : Row). agrees def b.cells row.cells ≡ false) rows
      head = pairs_head (λ (a b : Row). agrees def b.cells a.cells ≡ false) row rows unique

      by_test : (t : Bool) → is_numbered serial row ≡ t → is_taken def cells (cond (not t) (row ∷ others serial rows) (others serial rows)) ≡ false
          → (is_taken def cells (others serial rows) ≡ false → AllPairs (λ (a b : Row). agrees def b.cells a.cells ≡ false) (with_cells serial cells rows))
          → AllPairs (λ (a b : Row). agrees def b.cells a.cells ≡ false) (cond t (record row { cells = cells }) row ∷ with_cells serial cells rows)
      by_test true e none more =
          let same = above_same rows (below_all e) in
          let all : All (IsFreeOf def cells) rows = free_rows def cells rows (ap (is_taken def cells) (sym same.1) ∙ none) in
          subst (λ zs. AllPairs (λ (a b : Row). agrees def b.cells a.cells ≡ false) (record row { cells = cells } ∷ zs)) (sym same.0)
          (AllPairs-cons (λ (a b : Row). agrees def b.cells a.cells ≡ false) (record row { cells = cells }) rows
          (All-weaker (IsFreeOf def cells) (λ (b : Row). agrees def b.cells cells ≡ false) (λ b free_b. agrees_same def b.cells cells ∙ free_b) rows all) tail)
      by_test false e none more =
          let parts = or_parts (agrees def cells row.cells) (is_taken def cells (others serial rows)) none in
          AllPairs-cons (λ (a b : Row). agrees def b.cells a.cells ≡ false) row (with_cells serial cells rows)
          (each_changed (λ (b : Row). agrees def b.cells row.cells ≡ false) parts.0 rows head)
          (more parts.1)

  -- the row that had the serial keeps it
  pub cells_changed : (next : ℕ) (rows : List Row) → AreSoundRows next def rows → IsSoundRow next def (record { serial = serial; cells = cells })
      → is_taken def cells (others serial rows) ≡ false → AreSoundRows next def (with_cells serial cells rows)
  cells_changed next rows s new free = record {
    each = each_changed (IsSoundRow next def) new rows s.each;
    unique = unique_changed rows s.rising s.unique free;
    rising = cells_rise serial cells rows s.rising;
  }
