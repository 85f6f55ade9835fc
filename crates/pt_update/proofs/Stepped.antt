-- One row of an UPDATE: what holds of the rows, the books and the change before it holds behind it.
use Rattle.std.proofs.Common.{◌≡◌, ◌≢◌, ℕ, ◌+◌, ◌≤◌, ◌^◌, ◌==◌, Bool, true, false, cond, not, ◌&&◌, List, [], ◌∷◌, ◌++◌, length, Option, Some, None, refl, sym, ap, ap₂, ◌∙◌, subst, true≢false, arith, length-append}
use Rattle.std.specs.List.{All, AllPairs}
use Rattle.std.specs.Option.{IsSome, IsSomeAnd}
use Rattle.std.proofs.lemmas.Bool.{eq-eqb, eqb-true, lt-ltb}
use Rattle.std.proofs.lemmas.List.Elements.{All-cons, All-filter, All-push, All-weaker}
use Rattle.std.proofs.lemmas.List.Folds.{list_any_none}
use Rattle.pt_plain.proofs.Pairs.{pairs_head, pairs_tail}
use Rattle.pt_value.specs.declared.value.Value.{Value}
use Rattle.pt_ast.specs.declared.database.Row.{Row}
use Rattle.pt_ast.specs.declared.database.Spot.{Spot}
use Rattle.pt_ast.specs.declared.table.TableDef.{TableDef}
use Rattle.pt_ast.specs.Keys.{AreUnique, agrees, is_taken}
use Rattle.pt_place.specs.Place.{place_of}
use Rattle.pt_checks.specs.Assigned.{are_same}
use Rattle.pt_unique.proofs.Marks.{cells_decide}
use Rattle.pt_db.specs.Rows.{is_numbered, others, row_at, with_cells}
use Rattle.pt_db.specs.Sound.{IsSoundRow}
use Rattle.pt_db.specs.Spots.{IsSpotOf}
use Rattle.pt_db.proofs.RowSounds.{IsFreeOf, agrees_same, cells_changed}
use Rattle.pt_db.proofs.Serials.{cells_other, cells_same, row_holds, same_rows, cells_rise}
use Rattle.pt_flat.specs.declared.updating.Updating.{Updating}
use Rattle.pt_flat.specs.Update.{with_updated}
use Rattle.pt_holds.specs.RowChanges.{changed_at, is_deleted, rows_put}
use Rattle.pt_books.specs.Books.{AreBooks, is_keyed}
use Rattle.pt_update.specs.declared.work.Work.{Work}
use Rattle.pt_update.specs.Parts.{IsPlacedIn}
use Rattle.pt_update.specs.Work.{IsFresh, IsMoving, IsPut, IsWork}
use Rattle.pt_update.proofs.Pushed.{apart_more, changed_other, changed_own, deleted_other, deleted_own, once_more, put_other, rows_more, still_deleted}

-- # The same cells

cells_apart : (a b : List Value) → are_same a b ≡ true → a ≡ b
cells_apart a b same = (cells_decide a b).0 same

-- # A row that is there agrees with none of the others

pub free_of_others : (def : TableDef) (rows : List Row) (serial : ℕ) (cells : List Value) → AreUnique def rows → row_at rows serial ≡ Some cells → is_taken def cells (others serial rows) ≡ false
free_of_others def rows serial cells unique there = list_any_none (λ (row : Row). agrees def cells row.cells) (others serial rows) (each rows unique there)
  where
    each : (rs : List Row) → AreUnique def rs → row_at rs serial ≡ Some cells → All (IsFreeOf def cells) (others serial rs)
    each [] unique at = let bad : None ≡ Some cells = at in cc
    each (row ∷ rs) unique at = by (is_numbered serial row) at (each rs (pairs_tail (λ (a b : Row). agrees def b.cells a.cells ≡ false) row rs unique))
      where
        head : All (λ (b : Row). agrees def b.cells row.cells ≡ false) rs
        head = pairs_head (λ (a b : Row). agrees def b.cells a.cells ≡ false) row rs unique

        by : (t : Bool) → cond t (Some row.cells) (row_at rs serial) ≡ Some cells → (row_at rs serial ≡ Some cells → All (IsFreeOf def cells) (others serial rs))
            → All (IsFreeOf def cells) (cond (not t) (row ∷ others serial rs) (others serial rs))
        by true here rest =
            let is : row.cells ≡ cells = cc in
            All-filter (λ (r : Row). not (is_numbered serial r)) (IsFreeOf def cells) rs
            (All-weaker (λ (b : Row). agrees def b.cells row.cells ≡ false) (IsFreeOf def cells) (λ b free. subst (λ cs. agrees def cs b.cells ≡ false) is (agrees_same def row.cells b.cells ∙ free)) rs head)
        by false here rest = All-cons (IsFreeOf def cells) row (others serial rs) (row_holds (λ (b : Row). agrees def b.cells row.cells ≡ false) rs serial cells head here) (rest here)

-- # Nothing has changed

module _ (next : ℕ) (def : TableDef) (before : List Row) (updating : Updating) (work : Work) (row : Row) (cells : List Value) (moving : IsMoving next def before updating work)
    (there : row_at updating.rows row.serial ≡ Some row.cells) (same : are_same row.cells cells ≡ true) where
  as_was : with_cells row.serial cells updating.rows ≡ updating.rows
  as_was =
      same_rows (with_cells row.serial cells updating.rows) updating.rows (cells_rise row.serial cells updating.rows moving.sound.rising) moving.sound.rising (λ serial. by serial (row.serial == serial) refl)
    where
      by : (serial : ℕ) (t : Bool) → (row.serial == serial) ≡ t → row_at (with_cells row.serial cells updating.rows) serial ≡ row_at updating.rows serial
      by serial true e =
          subst (λ n. row_at (with_cells row.serial cells updating.rows) n ≡ row_at updating.rows n) (eqb-true row.serial serial e)
          (cells_same row.serial cells updating.rows row.cells there ∙ ap (λ (cs : List Value). Some cs) (sym (cells_apart row.cells cells same)) ∙ sym there)
      by serial false e = cells_other row.serial cells updating.rows serial (λ is. true≢false (sym (eq-eqb row.serial serial is) ∙ e))

  abbrev updating_with : List Row → ℕ → Updating
  updating_with rows changed = record { rows = rows; matched = updating.matched + 1; changed = changed }

  counted_alone : IsMoving next def before (updating_with updating.rows updating.changed) work
  counted_alone = record {
    books = moving.books;
    sound = moving.sound;
    each = moving.each;
    counted = moving.counted;
    old = moving.old;
    in_place = moving.in_place;
    apart = moving.apart;
    once = moving.once;
    gone = moving.gone;
    other = moving.other;
  }

  -- nothing changes but the number of rows
  pub same_moving : IsMoving next def before (with_updated row cells updating) work
  same_moving =
      subst (λ (u : Updating). IsMoving next def before u work)
      (sym (ap₂ updating_with as_was (ap (λ t. cond t updating.changed (updating.changed + 1)) same))) counted_alone

  pub same_free : is_taken def cells (others row.serial updating.rows) ≡ false
  same_free = subst (λ cs. is_taken def cs (others row.serial updating.rows) ≡ false) (cells_apart row.cells cells same) (free_of_others def updating.rows row.serial row.cells moving.sound.unique there)

  pub same_place : place_of def cells ≡ place_of def row.cells
  same_place = ap (place_of def) (sym (cells_apart row.cells cells same))

-- # A row moves

some_placed : (o : Option Spot) (spot : Spot) → o ≡ Some spot → IsSome o
some_placed o spot at = subst (λ (q : Option Spot). IsSome q) (sym at) refl

module _ (next : ℕ) (def : TableDef) (before : List Row) (updating : Updating) (old new : Work) (row : Row) (cells : List Value) (from to : Spot) (moving : IsMoving next def before updating old)
    (there : row_at updating.rows row.serial ≡ Some row.cells) (fresh : IsFresh old row.serial) (stood : place_of def row.cells ≡ Some from) (at : IsPlacedIn def to cells)
    (differ : are_same row.cells cells ≡ false) (deletes : new.deletes ≡ old.deletes ++ (from, row.serial) ∷ []) (puts : new.puts ≡ old.puts ++ (to, record { serial = row.serial; cells = cells }) ∷ []) where
  abbrev serial : ℕ
  serial = row.serial

  abbrev own : Row
  own = record { serial = row.serial; cells = cells }

  was : row_at before serial ≡ Some row.cells
  was = sym (sym there ∙ moving.each serial ∙ left)
    where
      left : changed_at old.deletes old.puts before serial ≡ row_at before serial
      left = rw (fresh.unput, fresh.undeleted) refl

  sound_there : IsSoundRow next def row
  sound_there = row_holds (IsSoundRow next def) updating.rows serial row.cells moving.sound.each there

  sound_here : IsSoundRow next def own
  sound_here = record { fits = at.fits; nulls = at.nulls; placed = some_placed (place_of def cells) to at.placed; least = sound_there.least; below = sound_there.below }

  each_more : (k : ℕ) → row_at (with_cells serial cells updating.rows) k ≡ changed_at new.deletes new.puts before k
  each_more k =
      by (serial == k) refl
      ∙ sym (ap₂ (λ (ds : List (Spot × ℕ)) (ps : List (Spot × Row)). changed_at ds ps before k) deletes puts)
    where
      by : (t : Bool) → (serial == k) ≡ t → row_at (with_cells serial cells updating.rows) k ≡ changed_at (old.deletes ++ (from, serial) ∷ []) (old.puts ++ (to, own) ∷ []) before k
      by true e =
          subst (λ n. row_at (with_cells serial cells updating.rows) n ≡ changed_at (old.deletes ++ (from, serial) ∷ []) (old.puts ++ (to, own) ∷ []) before n) (eqb-true serial k e)
          (cells_same serial cells updating.rows row.cells there ∙ sym (changed_own old.deletes old.puts from to own before fresh.unput))
      by false e =
          let apart : serial ≢ k = λ is. true≢false (sym (eq-eqb serial k is) ∙ e) in
          cells_other serial cells updating.rows k apart ∙ moving.each k ∙ sym (changed_other old.deletes old.puts from to own before k (λ is. apart (sym is)))

  old_more : (k : ℕ) → IsSome (row_at (with_cells serial cells updating.rows) k) → IsSome (row_at before k)
  old_more k some = by (serial == k) refl
    where
      by : (t : Bool) → (serial == k) ≡ t → IsSome (row_at before k)
      by true e = subst (λ n. IsSome (row_at before n)) (eqb-true serial k e) (subst (λ o. IsSome o) (sym was) refl)
      by false e = moving.old k (subst (λ o. IsSome o) (cells_other serial cells updating.rows k (λ is. true≢false (sym (eq-eqb serial k is) ∙ e))) some)

  placed_before : IsSomeAnd (row_at before serial) (λ cs. place_of def cs ≡ Some from)
  placed_before = subst (λ (o : Option (List Value)). IsSomeAnd o (λ cs. place_of def cs ≡ Some from)) (sym was) stood

  other_cells : row_at before serial ≢ Some cells
  other_cells same = true≢false (sym ((cells_decide row.cells cells).1 is) ∙ differ)
    where
      is : row.cells ≡ cells
      is = let both : Some row.cells ≡ Some cells = sym was ∙ same in cc

  counted_more : (with_updated row cells updating).changed ≡ length new.puts
  counted_more =
      ap (λ t. cond t updating.changed (updating.changed + 1)) differ
      ∙ ap (λ n. n + 1) moving.counted
      ∙ sym (ap (λ (ps : List (Spot × Row)). length ps) puts ∙ length-append old.puts ((to, own) ∷ []))

  pub moving_more : is_taken def cells (others serial updating.rows) ≡ false → (is_keyed def ≡ true → AreBooks def before (with_cells serial cells updating.rows) new.books)
      → IsMoving next def before (with_updated row cells updating) new
  moving_more free books = record {
    books = books;
    sound = cells_changed def serial cells next updating.rows moving.sound sound_here free;
    each = each_more;
    counted = counted_more;
    old = old_more;
    in_place = subst (All (λ (d : Spot × ℕ). IsSomeAnd (row_at before d.1) (λ cs. place_of def cs ≡ Some d.0))) (sym deletes)
        (All-push (λ (d : Spot × ℕ). IsSomeAnd (row_at before d.1) (λ cs. place_of def cs ≡ Some d.0)) old.deletes (from, serial) moving.in_place placed_before);
    apart = subst (AllPairs (λ (a b : Spot × ℕ). a.1 ≢ b.1)) (sym deletes) (apart_more old.deletes old.puts from to own fresh.undeleted moving.apart);
    once = subst (AllPairs (λ (a b : Spot × Row). a.1.serial ≢ b.1.serial)) (sym puts) (once_more old.deletes old.puts from to own fresh.unput moving.once);
    gone = subst (λ (ds : List (Spot × ℕ)). All (λ (r : Row). is_deleted ds r.serial ≡ true) (rows_put new.puts)) (sym deletes)
        (subst (λ (ps : List (Spot × Row)). All (λ (r : Row). is_deleted (old.deletes ++ (from, serial) ∷ []) r.serial ≡ true) (rows_put ps)) (sym puts)
        (rows_more old.deletes old.puts from to own (λ (r : Row). is_deleted (old.deletes ++ (from, serial) ∷ []) r.serial ≡ true)
        (All-weaker (λ (r : Row). is_deleted old.deletes r.serial ≡ true) (λ (r : Row). is_deleted (old.deletes ++ (from, serial) ∷ []) r.serial ≡ true)
        (λ r had. still_deleted old.deletes old.puts from to own r.serial had) (rows_put old.puts) moving.gone)
        (deleted_own old.deletes old.puts from to own)));
    other = subst (λ (ps : List (Spot × Row)). All (λ (r : Row). row_at before r.serial ≢ Some r.cells) (rows_put ps)) (sym puts)
        (rows_more old.deletes old.puts from to own (λ (r : Row). row_at before r.serial ≢ Some r.cells) moving.other other_cells);
  }

-- # Over every host

module _ (def : TableDef) (old new : Work) (from to : Spot) (row : Row) (deletes : new.deletes ≡ old.deletes ++ (from, row.serial) ∷ []) (puts : new.puts ≡ old.puts ++ (to, row) ∷ []) where
  pub work_more : IsSpotOf def from → IsPut def (to, row) → IsWork def old → IsWork def new
  work_more of put had = record {
    deletes = subst (All (λ (d : Spot × ℕ). IsSpotOf def d.0)) (sym deletes) (All-push (λ (d : Spot × ℕ). IsSpotOf def d.0) old.deletes (from, row.serial) had.deletes of);
    puts = subst (All (IsPut def)) (sym puts) (All-push (IsPut def) old.puts (to, row) had.puts put);
    many =
        (let many = had.many in
        let more : length new.puts ≡ length old.puts + 1 = ap (λ (ps : List (Spot × Row)). length ps) puts ∙ length-append old.puts ((to, row) ∷ []) in
        let gone : length new.deletes ≡ length old.deletes + 1 = ap (λ (ds : List (Spot × ℕ)). length ds) deletes ∙ length-append old.deletes ((from, row.serial) ∷ []) in
        omega (arith, many, more, gone));
  }

  pub fresh_more : (serial : ℕ) → serial ≢ row.serial → IsFresh old serial → IsFresh new serial
  fresh_more serial apart had = record {
    undeleted = ap (λ (ds : List (Spot × ℕ)). is_deleted ds serial) deletes ∙ deleted_other old.deletes old.puts from to row serial apart ∙ had.undeleted;
    unput = ap (λ (ps : List (Spot × Row)). row_at (rows_put ps) serial) puts ∙ put_other old.deletes old.puts from to row serial apart ∙ had.unput;
  }

pub put_of : (next : ℕ) (def : TableDef) (row : Row) (to : Spot) (cells : List Value) → IsSoundRow next def row → next ≤ 2 ^ 62 → IsPlacedIn def to cells → IsPut def (to, record { serial = row.serial; cells = cells })
put_of next def row to cells sound most at = record {
  placed = at.placed;
  fits = record { cells = at.fits; nulls = at.nulls };
  serial = (let least = sound.least in let below = sound.below in ap₂ (λ (a b : Bool). a && b) (lt-ltb 0 row.serial least) (lt-ltb row.serial (2 ^ 62) (omega (arith, most, below))));
}
