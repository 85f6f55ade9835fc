-- Rows that are inserted one after the other keep what holds of a table's rows.
use Rattle.std.proofs.Common.{◌≡◌, ℕ, ◌+◌, ◌-◌, ◌^◌, ◌<◌, ◌≤◌, nat_le, Bool, true, false, cond, ◌||◌, ◌&&◌, not, List, [], ◌∷◌, ◌++◌, length, drop, get_or, Option, Some, None, Result, Ok, Err, refl, sym, ap, ap₂, ◌∙◌, subst, arith, Less}
use Rattle.std.specs.List.{All, AllByRecursion, filter}
use Rattle.std.specs.Result.{IfOk, OnOk}
use Rattle.std.specs.Option.{IsSome, is_none, option_or}
use Rattle.std.specs.Ordering.{nat_cmp}
use Rattle.std.proofs.lemmas.Bool.{le-leb, leb-false, lt-leb, ne_eqb}
use Rattle.std.proofs.lemmas.List.{at_drop_all, at_drop_more, length-append}
use Rattle.std.proofs.lemmas.List.Elements.{All-cons, All-head, All-nil, All-tail, All-weaker}
use Rattle.std.proofs.lemmas.List.Filters.{length-filter_both}
use Rattle.std.proofs.lemmas.Map.Entries.{option_filter}
use Rattle.std.proofs.lemmas.Map.Keys.{sorted_head, sorted_tail}
use Rattle.pt_value.specs.declared.value.Value.{Value}
use Rattle.pt_value.specs.declared.value.Value.TheVariants.{Null, Int, Day, Bytes}
use Rattle.pt_ast.specs.declared.database.Db.{Db}
use Rattle.pt_ast.specs.declared.database.Row.{Row}
use Rattle.pt_ast.specs.declared.database.Table.{Table}
use Rattle.pt_ast.specs.declared.table.Column.{Column}
use Rattle.pt_ast.specs.declared.table.TableDef.{TableDef}
use Rattle.pt_ast.specs.declared.refusal.Refusal.{Refusal}
use Rattle.pt_ast.specs.declared.refusal.Refusal.TheVariants as refusal
use Rattle.pt_ast.specs.declared.statement.NewRows.{NewRows}
use Rattle.pt_ast.specs.declared.statement.ValueSpec.{ValueSpec}
use Rattle.pt_ast.specs.Keys.{agrees, is_taken, is_null as is_empty}
use Rattle.pt_expr.specs.Columns.{AreFitting}
use Rattle.pt_place.specs.Checks.{is_null}
use Rattle.pt_place.specs.First.{refused_if}
use Rattle.pt_place.specs.Place.{place_of}
use Rattle.pt_place.proofs.Firsts.{none_first, none_next, passes}
use Rattle.pt_checks.specs.declared.faults.CellsFault.{CellsFault}
use Rattle.pt_checks.specs.declared.faults.CellsFault.TheVariants as fault
use Rattle.pt_checks.specs.Cells.{lacks_value}
use Rattle.pt_checks.specs.Given.{Gives}
use Rattle.pt_db.specs.Lookup.{filled, table_of}
use Rattle.pt_db.specs.Outcome.{passed, refused_where}
use Rattle.pt_db.specs.Rows.{AreRising, row_at}
use Rattle.pt_db.specs.Sound.{IsSound, IsSoundRow, has_wrong_null}
use Rattle.pt_db.proofs.RowSounds.{row_pushed, rows_kept}
use Rattle.pt_db.proofs.Serials.{row_appended, row_filtered}
use Rattle.pt_db.proofs.Sounds.{filled_sound, sound_table}
use Rattle.pt_flat.specs.declared.filling.Filling.{Filling}
use Rattle.pt_flat.specs.declared.filling.InsertMode.{InsertMode}
use Rattle.pt_flat.specs.declared.filling.InsertMode.TheVariants as mode
use Rattle.pt_flat.specs.Filled.{Fills}
use Rattle.pt_flat.specs.Growth.{IsCounted, IsGrown, IsSoundFilling}
use Rattle.pt_flat.specs.Insert.{add_cells, bad_cells, bad_place, cleared, fill, fill_cells, fill_row, skipped_or, unfilled, with_added, with_deleted, with_skipped}

pub grown_same : (filling : Filling) → IsGrown filling filling
grown_same filling = record { next = omega arith; old = λ serial below some. some }

pub grown_more : (a b c : Filling) → IsGrown a b → IsGrown b c → IsGrown a c
grown_more a b c first second =
    let n = first.next in
    let m = second.next in
    record { next = omega (arith, n, m); old = λ serial below some. first.old serial below (second.old serial (omega (arith, below, n)) some) }

-- ---- rows that go

some_of : {X : Type 0} (keep : X → Bool) (o : Option X) → IsSome (option_filter keep o) → IsSome o
some_of keep None some = some
some_of keep (Some x) some = refl

-- a row that a test keeps was there
pub kept_there : (keep : Row → Bool) (rows : List Row) (serial : ℕ) → AreRising rows → IsSome (row_at (filter keep rows) serial) → IsSome (row_at rows serial)
kept_there keep rows serial up some =
    some_of (λ cells. keep (record { serial = serial; cells = cells })) (row_at rows serial) (subst IsSome (row_filtered keep rows serial up) some)

-- the rows that agree with these cells, and the others
pub gone_all : (def : TableDef) (cells : List Value) (rows : List Row)
    → length (filter (λ (row : Row). agrees def cells row.cells) rows) + length (filter (λ (row : Row). not (agrees def cells row.cells)) rows) ≡ length rows
gone_all def cells rows = length-filter_both (λ (row : Row). agrees def cells row.cells) (λ (row : Row). not (agrees def cells row.cells)) (λ row. refl) rows

-- without the rows that agree, which are as many as are missing
pub deleted_is : (def : TableDef) (cells : List Value) (filling : Filling) (rows : List Row) (all left : ℕ) → rows ≡ filter (λ (row : Row). not (agrees def cells row.cells)) filling.rows
    → all ≡ length filling.rows → left ≡ length rows → record filling { rows = rows; deleted = filling.deleted + (all - left) } ≡ with_deleted def cells filling
deleted_is def cells filling rows all left is whole rest =
    let both = gone_all def cells filling.rows in
    let kept = ap length is in
    ap₂ (λ (own : List Row) (n : ℕ). record filling { rows = own; deleted = filling.deleted + n }) is (omega (arith, both, kept, whole, rest))

-- a list of serials that rise up to a number has no more than there are numbers between
rising_few : (low next : ℕ) (rows : List Row) → AreRising rows → All (λ (row : Row). low ≤ row.serial) rows → All (λ (row : Row). row.serial < next) rows → low ≤ next → low + length rows ≤ next
rising_few low next [] up from below le = omega (arith, le)
rising_few low next (row ∷ rows) up from below le =
    let here = All-head (λ (other : Row). low ≤ other.serial) row rows from in
    let under = All-head (λ (other : Row). other.serial < next) row rows below in
    let rest = rising_few (row.serial + 1) next rows (sorted_tail nat_cmp row.serial _ up) (above rows (sorted_head nat_cmp row.serial _ up)) (All-tail (λ (other : Row). other.serial < next) row rows below) (omega (arith, under)) in
    omega (arith, here, rest)
  where
    later : (n : ℕ) → nat_cmp row.serial n ≡ Less → row.serial + 1 ≤ n
    later n is = grind (arith, is)

    above : (others : List Row) → AllByRecursion (λ n. nat_cmp row.serial n ≡ Less) (Rattle.std.proofs.Common.map (λ (other : Row). other.serial) others) → All (λ (other : Row). row.serial + 1 ≤ other.serial) others
    above [] h = All-nil (λ (other : Row). row.serial + 1 ≤ other.serial)
    above (other ∷ others) h = All-cons (λ (own : Row). row.serial + 1 ≤ own.serial) other others (later other.serial h.0) (above others h.1)

pub rows_few : (def : TableDef) (filling : Filling) → IsSoundFilling def filling → length filling.rows < filling.next
rows_few def filling sound =
    let some = sound.counted in
    let few = rising_few 1 filling.next filling.rows sound.rows.rising
    (All-weaker (IsSoundRow filling.next def) (λ (row : Row). 1 ≤ row.serial) (λ row s. let h = s.least in omega (arith, h)) filling.rows sound.rows.each)
    (All-weaker (IsSoundRow filling.next def) (λ (row : Row). row.serial < filling.next) (λ row s. s.below) filling.rows sound.rows.each) (omega (arith, some)) in
    omega (arith, few)

-- ---- one row

is_there : {X : Type 0} (o : Option X) → is_none o ≡ false → IsSome o
is_there None none = let bad : true ≡ false = none in cc
is_there (Some x) none = refl

or_none : {X : Type 0} (o : Option X) → option_or o None ≡ o
or_none None = refl
or_none (Some x) = refl

-- where none of the three refuses, the cells have a place and no row agrees with them
pub placed_free : (def : TableDef) (parts : Option (List (List ℕ))) (number : ℕ) (rows : List Row) (cells : List Value) → bad_cells def parts number rows cells ≡ None → IsSome (place_of def cells) × (is_taken def cells rows ≡ false)
placed_free def parts number rows cells none =
    let place = none_first (bad_place def parts number cells) (option_or (refused_if (is_taken def cells rows) (refusal.DuplicateKey number)) None) none in
    let free = none_next (bad_place def parts number cells) (option_or (refused_if (is_taken def cells rows) (refusal.DuplicateKey number)) None) none in (
      is_there (place_of def cells) (passes _ _ (none_first (refused_if (is_none (place_of def cells)) (refusal.NoPartition number)) _ place)),
      passes _ _ (none_first (refused_if (is_taken def cells rows) (refusal.DuplicateKey number)) None free),
    )

module _ (def : TableDef) (new : NewRows) where
  module _ (filling : Filling) (cells : List Value) where
    -- ---- the rows that agree have gone

    pub cleared_sound : (m : InsertMode) → IsSoundFilling def filling → IsSoundFilling def (cleared m def cells filling)
    cleared_sound mode.Refuse sound = sound
    cleared_sound mode.Skip sound = sound
    cleared_sound mode.Replace sound = record { rows = rows_kept filling.next def (λ (row : Row). not (agrees def cells row.cells)) filling.rows sound.rows; counted = sound.counted; most = sound.most }

    cleared_grown : (m : InsertMode) → IsSoundFilling def filling → IsGrown filling (cleared m def cells filling)
    cleared_grown mode.Refuse sound = grown_same filling
    cleared_grown mode.Skip sound = grown_same filling
    cleared_grown mode.Replace sound = record { next = omega arith; old = λ serial below some. kept_there (λ (row : Row). not (agrees def cells row.cells)) filling.rows serial sound.rows.rising some }

    cleared_counted : (m : InsertMode) (number : ℕ) → IsCounted number filling → IsCounted number (cleared m def cells filling)
    cleared_counted mode.Refuse number counted = counted
    cleared_counted mode.Skip number counted = counted
    cleared_counted mode.Replace number counted = record { few = (let few = counted.few in let all = gone_all def cells filling.rows in omega (arith, few, all)); skipped = counted.skipped }

    -- ---- a row more

    added_grown : IsGrown filling (with_added cells filling)
    added_grown = record { next = omega arith; old = old }
      where
        old : (serial : ℕ) → serial < filling.next → IsSome (row_at (filling.rows ++ record { serial = filling.next; cells = cells } ∷ []) serial) → IsSome (row_at filling.rows serial)
        old serial below some =
            subst IsSome
            (row_appended filling.rows (record { serial = filling.next; cells = cells } ∷ []) serial
            ∙ ap (λ t. option_or (row_at filling.rows serial) (cond t (Some cells) None)) (ne_eqb filling.next serial (λ same. omega (arith, below, same)))
            ∙ or_none (row_at filling.rows serial))
            some

    added_sound : IsSoundFilling def filling → AreFitting def.columns cells → has_wrong_null def.columns cells ≡ false → IsSome (place_of def cells) → is_taken def cells filling.rows ≡ false → filling.next < 2 ^ 62
        → IsSoundFilling def (with_added cells filling)
    added_sound sound fits nulls placed free room = record {
      rows = row_pushed filling.next def filling.rows cells sound.rows
          (record { fits = fits; nulls = nulls; placed = placed; least = (let h = sound.counted in omega (arith, h)); below = omega arith }) free;
      counted = (let h = sound.counted in omega (arith, h));
      most = omega (arith, room);
    }

    added_counted : (number : ℕ) → IsCounted number filling → IsCounted (number + 1) (with_added cells filling)
    added_counted number counted = record {
      few = (let few = counted.few in let more = length-append filling.rows (record { serial = filling.next; cells = cells } ∷ []) in omega (arith, few, more));
      skipped = (let h = counted.skipped in omega (arith, h));
    }

    skipped_counted : (number : ℕ) → IsCounted number filling → IsCounted (number + 1) (with_skipped filling)
    skipped_counted number counted = record { few = counted.few; skipped = (let h = counted.skipped in omega (arith, h)) }

  -- what holds of the rows and counts behind a row
  pub record IsFilledSo (number : ℕ) (before later : Filling) : Type 0 where
    pub sound : IsSoundFilling def later
    pub grown : IsGrown before later
    pub counted : IsCounted (number + 1) later

  module _ (m : InsertMode) (number : ℕ) (filling : Filling) (cells : List Value) (sound : IsSoundFilling def filling) (counted : IsCounted number filling)
      (fits : AreFitting def.columns cells) (nulls : has_wrong_null def.columns cells ≡ false) where
    abbrev was : Filling
    was = cleared m def cells filling

    -- it is added
    row_added : (later : Filling) → IsSome (place_of def cells) → is_taken def cells was.rows ≡ false → add_cells number cells was ≡ Ok later → IsFilledSo number filling later
    row_added later placed free is = by (nat_le (2 ^ 62) was.next) refl is
      where
        by : (t : Bool) → nat_le (2 ^ 62) was.next ≡ t → refused_where t (refusal.SerialsUsed number) (Ok (with_added cells was)) ≡ Ok later → IsFilledSo number filling later
        by true e done = let bad : Err (refusal.SerialsUsed number) ≡ Ok later = done in cc
        by false e done =
            let same : with_added cells was ≡ later = cc in
            subst (IsFilledSo number filling) same (record {
              sound = added_sound was cells (cleared_sound filling cells m sound) fits nulls placed free (leb-false _ _ e);
              grown = grown_more filling was (with_added cells was) (cleared_grown filling cells m sound) (added_grown was cells);
              counted = added_counted was cells number (cleared_counted filling cells m number counted);
            })

    -- it is passed over
    row_skipped : (later : Filling) → with_skipped filling ≡ later → IsFilledSo number filling later
    row_skipped later same =
        subst (IsFilledSo number filling) same (record {
          sound = record { rows = sound.rows; counted = sound.counted; most = sound.most };
          grown = record { next = omega arith; old = λ serial below some. some };
          counted = skipped_counted filling cells number counted;
        })

    cells_kept : (later : Filling) → fill_cells m def new number filling cells ≡ Ok later → IsFilledSo number filling later
    cells_kept later is = by m (bad_cells def new.parts number was.rows cells) refl is
      where
        by : (own : InsertMode) (o : Option Refusal) → bad_cells def new.parts number was.rows cells ≡ o → skipped_or own o filling (add_cells number cells was) ≡ Ok later → IsFilledSo number filling later
        by mode.Refuse None e done = let has = placed_free def new.parts number was.rows cells e in row_added later has.0 has.1 done
        by mode.Skip None e done = let has = placed_free def new.parts number was.rows cells e in row_added later has.0 has.1 done
        by mode.Replace None e done = let has = placed_free def new.parts number was.rows cells e in row_added later has.0 has.1 done
        by mode.Skip (Some why) e done = let same : with_skipped filling ≡ later = cc in row_skipped later same
        by mode.Refuse (Some why) e done = let bad : Err why ≡ Ok later = done in cc
        by mode.Replace (Some why) e done = let bad : Err why ≡ Ok later = done in cc

    pub all_kept : (later : Filling) (r : Result (Unit {0}) CellsFault) → Fills (fill_cells m def new number filling cells) later r → OnOk r (IsFilledSo number filling later)
    all_kept later (Ok done) is = cells_kept later is
    all_kept later (Err cause) is = tt

  -- ---- how the code comes to it

  module _ (m : InsertMode) (number : ℕ) (filling : Filling) (cells : List Value) where
    -- a refusal is told of the rows as they were
    skipped_same : (why : Refusal) → bad_cells def new.parts number (cleared m def cells filling).rows cells ≡ Some why
        → skipped_or m (Some why) (cleared m def cells filling) (add_cells number cells (cleared m def cells filling)) ≡ fill_cells m def new number filling cells
    skipped_same why is =
        same m
        ∙ ap (λ o. skipped_or m o filling (add_cells number cells (cleared m def cells filling))) (sym is)
      where
        same : (own : InsertMode) → skipped_or own (Some why) (cleared own def cells filling) (add_cells number cells (cleared m def cells filling)) ≡ skipped_or own (Some why) filling (add_cells number cells (cleared m def cells filling))
        same mode.Refuse = refl
        same mode.Skip = refl
        same mode.Replace = refl

    pub skipped_fills : (before later : Filling) (why : Refusal) (r : Result (Unit {0}) CellsFault) → before ≡ cleared m def cells filling → bad_cells def new.parts number before.rows cells ≡ Some why
        → ((next : Result Filling Refusal) → Fills (skipped_or m (Some why) before next) later r) → Fills (fill_cells m def new number filling cells) later r
    skipped_fills before later why r is refused told =
        subst (λ model. Fills model later r)
        (ap (λ f. skipped_or m (Some why) f (add_cells number cells (cleared m def cells filling))) is
        ∙ skipped_same why (subst (λ (f : Filling). bad_cells def new.parts number f.rows cells ≡ Some why) is refused))
        (told (add_cells number cells (cleared m def cells filling)))

    passes_on : (own : InsertMode) (next : Result Filling Refusal) → skipped_or own None filling next ≡ next
    passes_on mode.Refuse next = refl
    passes_on mode.Skip next = refl
    passes_on mode.Replace next = refl

    unrefused : bad_cells def new.parts number (cleared m def cells filling).rows cells ≡ None → fill_cells m def new number filling cells ≡ add_cells number cells (cleared m def cells filling)
    unrefused none =
        ap (λ o. skipped_or m o filling (add_cells number cells (cleared m def cells filling))) none ∙ passes_on m (add_cells number cells (cleared m def cells filling))

    -- a row that passes is added
    pub filled_cells : (before later : Filling) → before ≡ cleared m def cells filling → bad_cells def new.parts number before.rows cells ≡ None → before.next < 2 ^ 62 → later ≡ with_added cells before
        → fill_cells m def new number filling cells ≡ Ok later
    filled_cells before later same free room is =
        unrefused (subst (λ (f : Filling). bad_cells def new.parts number f.rows cells ≡ None) same free)
        ∙ ap (add_cells number cells) (sym same)
        ∙ ap (λ t. refused_where t (refusal.SerialsUsed number) (Ok (with_added cells before))) (lt-leb (2 ^ 62) before.next room)
        ∙ ap (λ f. Ok f) (sym is)

    -- a row without a serial is refused
    pub filled_last : (before : Filling) → before ≡ cleared m def cells filling → bad_cells def new.parts number before.rows cells ≡ None → 2 ^ 62 ≤ before.next
        → fill_cells m def new number filling cells ≡ Err (refusal.SerialsUsed number)
    filled_last before same free past =
        unrefused (subst (λ (f : Filling). bad_cells def new.parts number f.rows cells ≡ None) same free)
        ∙ ap (add_cells number cells) (sym same)
        ∙ ap (λ t. refused_where t (refusal.SerialsUsed number) (Ok (with_added cells before))) (le-leb (2 ^ 62) before.next past)

-- ---- the table that is filled

pub start_sound : (db : Db) (name : List ℕ) (table : Table) → IsSound db → table_of db name ≡ Some table → IsSoundFilling table.def (unfilled table.rows db.next)
start_sound db name table sound at = record { rows = (sound_table db sound name table at).rows; counted = sound.some; most = sound.most }

pub start_counted : (db : Db) (name : List ℕ) (table : Table) → IsSound db → table_of db name ≡ Some table → IsCounted 1 (unfilled table.rows db.next)
start_counted db name table sound at = record { few = (let h = rows_few table.def (unfilled table.rows db.next) (start_sound db name table sound at) in omega (arith, h)); skipped = omega arith }

-- the database with the rows that are there then
pub end_sound : (db : Db) (name : List ℕ) (table : Table) (later : Filling) → IsSound db → table_of db name ≡ Some table → IsSoundFilling table.def later
    → IsGrown (unfilled table.rows db.next) later → IsSound (filled db name later.rows later.next)
end_sound db name table later sound at are grown = filled_sound db name table later.rows later.next sound at are.rows grown.next are.most grown.old

pub end_all : {E : Type 0} (db : Db) (name : List ℕ) (table : Table) (r : Result Filling E) → IsSound db → table_of db name ≡ Some table → IfOk r (IsSoundFilling table.def)
    → IfOk r (IsGrown (unfilled table.rows db.next)) → IfOk r (λ later. IsSound (filled db name later.rows later.next))
end_all db name table (Ok later) sound at are grown = end_sound db name table later sound at are grown
end_all db name table (Err cause) sound at are grown = tt

-- ---- NULL, as the checks of a row and the rules of a database say it

same_null : (v : Value) → is_null v ≡ is_empty v
same_null Null = refl
same_null (Int n) = refl
same_null (Day day) = refl
same_null (Bytes bytes) = refl

pub same_nulls : (columns : List Column) (cells : List Value) → lacks_value columns cells ≡ has_wrong_null columns cells
same_nulls [] cells = refl
same_nulls (column ∷ columns) [] = refl
same_nulls (column ∷ columns) (cell ∷ cells) = ap₂ (λ (a b : Bool). column.not_null && a || b) (same_null cell) (same_nulls columns cells)

-- ---- the loop over the rows of VALUES

-- what holds before the row at place i
pub record IsFilled (m : InsertMode) (def : TableDef) (new : NewRows) (rows : List (List ValueSpec)) (start filling : Filling) (i : ℕ) : Type 0 where
  pub rest : fill m def new (i + 1) filling (drop i rows) ≡ fill m def new 1 start rows
  pub sound : IsSoundFilling def filling
  pub grown : IsGrown start filling
  pub counted : IsCounted (i + 1) filling

module _ (m : InsertMode) (def : TableDef) (new : NewRows) (rows : List (List ValueSpec)) (start : Filling) where
  pub filled_none : IsSoundFilling def start → IsCounted 1 start → IsFilled m def new rows start start 0
  filled_none sound counted = record { rest = refl; sound = sound; grown = grown_same start; counted = counted }

  next_row : (filling : Filling) (i : ℕ) (values : List ValueSpec) → i < length rows → get_or rows i values ≡ values
      → fill m def new (i + 1) filling (drop i rows) ≡ passed (fill_row m def new (i + 1) filling values) (λ later. fill m def new (i + 1 + 1) later (drop (i + 1) rows))
  next_row filling i values below is =
      at_drop_more (fill m def new (i + 1) filling) rows i values below
      ∙ ap (λ own. passed (fill_row m def new (i + 1) filling own) (λ later. fill m def new (i + 1 + 1) later (drop (i + 1) rows))) is

  pub filled_more : (filling later : Filling) (i : ℕ) (values : List ValueSpec) → i < length rows → get_or rows i values ≡ values → IsFilled m def new rows start filling i
      → fill_row m def new (i + 1) filling values ≡ Ok later → IsSoundFilling def later → IsGrown filling later → IsCounted (i + 1 + 1) later → IsFilled m def new rows start later (i + 1)
  filled_more filling later i values below is had done sound grown counted = record {
    rest = sym (next_row filling i values below is ∙ ap (λ r. passed r (λ next. fill m def new (i + 1 + 1) next (drop (i + 1) rows))) done) ∙ had.rest;
    sound = sound;
    grown = grown_more start filling later had.grown grown;
    counted = counted;
  }

  pub filled_refused : (filling : Filling) (i : ℕ) (values : List ValueSpec) (why : Refusal) → i < length rows → get_or rows i values ≡ values → IsFilled m def new rows start filling i
      → fill_row m def new (i + 1) filling values ≡ Err why → fill m def new 1 start rows ≡ Err why
  filled_refused filling i values why below is had done =
      sym had.rest ∙ next_row filling i values below is ∙ ap (λ r. passed r (λ next. fill m def new (i + 1 + 1) next (drop (i + 1) rows))) done

  pub filled_all : (filling : Filling) (i : ℕ) → length rows ≤ i → IsFilled m def new rows start filling i → fill m def new 1 start rows ≡ Ok filling
  filled_all filling i past had = sym had.rest ∙ at_drop_all (fill m def new (i + 1) filling) rows i past

  pub filled_fails : (filling later : Filling) (i : ℕ) (values : List ValueSpec) (cause : CellsFault) → i < length rows → get_or rows i values ≡ values → IsFilled m def new rows start filling i
      → Fills (fill_row m def new (i + 1) filling values) later (Err cause) → Gives (fill m def new 1 start rows) (Err cause)
  filled_fails filling later i values (fault.Refused why) below is had failed = filled_refused filling i values why below is had failed
  filled_fails filling later i values fault.NoMemory below is had failed = tt
