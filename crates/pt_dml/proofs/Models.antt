-- The checks of the code come to what the model says, row by row.
use Rattle.std.proofs.Common.{◌≡◌, ℕ, ◌+◌, ◌<◌, ◌≤◌, Bool, true, false, cond, not, ◌||◌, List, [], ◌∷◌, length, drop, get_or, Option, Some, None, Result, Ok, Err, refl, sym, ap, ◌∙◌, subst}
use Rattle.std.specs.List.{filter}
use Rattle.std.specs.Option.{is_none, option_map_or}
use Rattle.std.specs.BTreeMap.{BTreeMap}
use Rattle.std.proofs.lemmas.List.{at_drop_all, at_drop_more}
use Rattle.pt_value.specs.declared.value.Value.{Value}
use Rattle.pt_ast.specs.declared.database.Db.{Db}
use Rattle.pt_ast.specs.declared.database.Row.{Row}
use Rattle.pt_ast.specs.declared.database.Spot.{Spot}
use Rattle.pt_ast.specs.declared.database.Table.{Table}
use Rattle.pt_ast.specs.declared.table.TableDef.{TableDef}
use Rattle.pt_ast.specs.declared.statement.NewRows.{NewRows}
use Rattle.pt_ast.specs.declared.statement.ValueSpec.{ValueSpec}
use Rattle.pt_ast.specs.declared.refusal.Refusal.{Refusal}
use Rattle.pt_ast.specs.declared.refusal.Refusal.TheVariants as refusal
use Rattle.pt_ast.specs.Keys.{AreUnique, agrees, is_taken}
use Rattle.pt_place.specs.First.{first_of, refused_if}
use Rattle.pt_place.specs.Place.{place_of}
use Rattle.pt_checks.specs.declared.faults.CellsFault.{CellsFault}
use Rattle.pt_checks.specs.declared.faults.CellsFault.TheVariants as fault
use Rattle.pt_checks.specs.Cells.{cells_of}
use Rattle.pt_checks.specs.Given.{Gives}
use Rattle.pt_checks.specs.Named.{bad_columns, bad_parts, targets}
use Rattle.pt_checks.specs.Wanted.{is_named_spot}
use Rattle.pt_db.specs.Outcome.{passed, refused_by, refused_where}
use Rattle.pt_db.specs.Rows.{AreRising}
use Rattle.pt_flat.specs.declared.filling.Filling.{Filling}
use Rattle.pt_flat.specs.declared.filling.InsertMode.{InsertMode}
use Rattle.pt_flat.specs.declared.filling.InsertMode.TheVariants as mode
use Rattle.pt_flat.specs.Insert.{add_cells, fill, fill_cells, fill_row, inserted_into, skipped_or, unfilled, with_deleted, with_skipped}
use Rattle.pt_unique.specs.Book.{Book}
use Rattle.pt_books.specs.declared.halt.Halt.{Halt}
use Rattle.pt_books.specs.declared.halt.Halt.TheVariants as halt
use Rattle.pt_books.specs.Books.{AreBooks}
use Rattle.pt_books.specs.Halts.{of_fault}
use Rattle.pt_dml.specs.declared.work.Work.{Work}
use Rattle.pt_dml.specs.Parts.{checked, placed_row, spot_of, with_placed, with_row}
use Rattle.pt_dml.specs.Work.{Adds, Fills, IsWorkOn, filling_of, rows_now, skipping}
use Rattle.pt_dml.proofs.Adding.{skipping_on}

-- # The parts of the model

-- no row is left that agrees
none_left : (def : TableDef) (cells : List Value) (rows : List Row) → is_taken def cells (filter (λ row. not (agrees def cells row.cells)) rows) ≡ false
none_left def cells [] = refl
none_left def cells (row ∷ rows) = by (agrees def cells row.cells) refl (none_left def cells rows)
  where
    by : (t : Bool) → agrees def cells row.cells ≡ t → is_taken def cells (filter (λ other. not (agrees def cells other.cells)) rows) ≡ false
        → is_taken def cells (cond (not t) (row ∷ filter (λ other. not (agrees def cells other.cells)) rows) (filter (λ other. not (agrees def cells other.cells)) rows)) ≡ false
    by true e rest = rest
    by false e rest = ap (λ b. b || is_taken def cells (filter (λ other. not (agrees def cells other.cells)) rows)) e ∙ rest

module _ (def : TableDef) (new : NewRows) (number : ℕ) (filling : Filling) (cells : List Value) where
  -- 40, 42 and 19 of a row with that place
  abbrev check : Option Spot → Bool → Option Refusal
  check o taken = first_of (
      first_of (refused_if (is_none o) (refusal.NoPartition number) ∷ refused_if (not (option_map_or (is_named_spot def new.parts) o false)) (refusal.NotInGivenSet number) ∷ [])
      ∷ refused_if taken (refusal.DuplicateKey number)
      ∷ [])

  -- the same of one with a place, by whether it is named
  abbrev placed_check : Bool → Bool → Option Refusal
  placed_check named taken = first_of (
      first_of (refused_if false (refusal.NoPartition number) ∷ refused_if (not named) (refusal.NotInGivenSet number) ∷ [])
      ∷ refused_if taken (refusal.DuplicateKey number)
      ∷ [])

  refuse_taken : (t : Bool) (next : Result Filling Refusal) → refused_by (placed_check true t) next ≡ refused_where t (refusal.DuplicateKey number) next
  refuse_taken true next = refl
  refuse_taken false next = refl

  skip_taken : (t : Bool) (next : Result Filling Refusal) → skipped_or mode.Skip (placed_check true t) filling next ≡ cond t (Ok (with_skipped filling)) next
  skip_taken true next = refl
  skip_taken false next = refl

  refuse_parts : (o : Option Spot) → refused_by (check o (is_taken def cells filling.rows)) (add_cells number cells filling)
      ≡ passed (spot_of mode.Refuse def new number cells o) (with_placed mode.Refuse def number filling)
  refuse_parts None = refl
  refuse_parts (Some spot) = by (is_named_spot def new.parts spot)
    where
      by : (t : Bool) → refused_by (placed_check t (is_taken def cells filling.rows)) (add_cells number cells filling)
          ≡ passed (cond t (Ok (Some (spot, cells))) (Err (refusal.NotInGivenSet number))) (with_placed mode.Refuse def number filling)
      by true = refuse_taken (is_taken def cells filling.rows) (add_cells number cells filling)
      by false = refl

  skip_parts : (o : Option Spot) → skipped_or mode.Skip (check o (is_taken def cells filling.rows)) filling (add_cells number cells filling)
      ≡ passed (spot_of mode.Skip def new number cells o) (with_placed mode.Skip def number filling)
  skip_parts None = refl
  skip_parts (Some spot) = by (is_named_spot def new.parts spot)
    where
      by : (t : Bool) → skipped_or mode.Skip (placed_check t (is_taken def cells filling.rows)) filling (add_cells number cells filling)
          ≡ passed (cond t (Ok (Some (spot, cells))) (Ok None)) (with_placed mode.Skip def number filling)
      by true = skip_taken (is_taken def cells filling.rows) (add_cells number cells filling)
      by false = refl

  replace_parts : (o : Option Spot) → refused_by (check o (is_taken def cells (with_deleted def cells filling).rows)) (add_cells number cells (with_deleted def cells filling))
      ≡ passed (spot_of mode.Replace def new number cells o) (with_placed mode.Replace def number filling)
  replace_parts None = refl
  replace_parts (Some spot) = by (is_named_spot def new.parts spot)
    where
      by : (t : Bool) → refused_by (placed_check t (is_taken def cells (with_deleted def cells filling).rows)) (add_cells number cells (with_deleted def cells filling))
          ≡ passed (cond t (Ok (Some (spot, cells))) (Err (refusal.NotInGivenSet number))) (with_placed mode.Replace def number filling)
      by true = ap (λ t. refused_by (placed_check true t) (add_cells number cells (with_deleted def cells filling))) (none_left def cells filling.rows)
      by false = refl

  pub cells_parts : (how : InsertMode) → fill_cells how def new number filling cells ≡ passed (spot_of how def new number cells (place_of def cells)) (with_placed how def number filling)
  cells_parts mode.Refuse = refuse_parts (place_of def cells)
  cells_parts mode.Skip = skip_parts (place_of def cells)
  cells_parts mode.Replace = replace_parts (place_of def cells)

pub row_parts : (how : InsertMode) (def : TableDef) (new : NewRows) (number : ℕ) (filling : Filling) (values : List ValueSpec)
    → fill_row how def new number filling values ≡ passed (placed_row how def new number values) (with_placed how def number filling)
row_parts how def new number filling values = by (cells_of def (targets def new.columns) number values)
  where
    by : (r : Result (List Value) Refusal) → passed r (fill_cells how def new number filling)
        ≡ passed (passed r (λ cells. spot_of how def new number cells (place_of def cells))) (with_placed how def number filling)
    by (Err why) = refl
    by (Ok cells) = cells_parts def new number filling cells how

pub table_parts : (how : InsertMode) (db : Db) (new : NewRows) (table : Table)
    → inserted_into how db new table ≡ passed (checked table.def new) (λ columns. fill how table.def new 1 (unfilled table.rows db.next) new.rows)
table_parts how db new table = by (bad_parts table.def new.table new.parts) (bad_columns table.def new.columns)
  where
    by : (a b : Option Refusal) → refused_by a (refused_by b (fill how table.def new 1 (unfilled table.rows db.next) new.rows))
        ≡ passed (refused_by a (refused_by b (Ok (targets table.def new.columns)))) (λ columns. fill how table.def new 1 (unfilled table.rows db.next) new.rows)
    by (Some why) b = refl
    by None (Some why) = refl
    by None None = refl

-- # One row

module _ (how : InsertMode) (def : TableDef) (new : NewRows) (number : ℕ) (values : List ValueSpec) (before : List Row) (work : Work) where
  from_placed : (r : Result (Option (Spot × List Value)) Refusal) → placed_row how def new number values ≡ r
      → fill_row how def new number (filling_of before work) values ≡ passed r (with_placed how def number (filling_of before work))
  from_placed r is = row_parts how def new number (filling_of before work) values ∙ ap (λ q. passed q (with_placed how def number (filling_of before work))) is

  pub unplaced_fills : (later : Work) (e : CellsFault) → Gives (placed_row how def new number values) (Err e) → Fills def before (fill_row how def new number (filling_of before work) values) later (Err (of_fault e))
  unplaced_fills later (fault.Refused why) gives = from_placed (Err why) gives
  unplaced_fills later fault.NoMemory gives = tt

  pub skipped_fills : placed_row how def new number values ≡ Ok None → IsWorkOn def before work
      → Fills def before (fill_row how def new number (filling_of before work) values) (skipping work) (Ok tt)
  skipped_fills is on = (from_placed (Ok None) is, skipping_on def before work on)

  pub placed_fills : (later : Work) (spot : Spot) (cells : List Value) (r : Result (Unit {0}) Halt) → placed_row how def new number values ≡ Ok (Some (spot, cells))
      → Fills def before (with_row how def number (filling_of before work) cells) later r → Fills def before (fill_row how def new number (filling_of before work) values) later r
  placed_fills later spot cells r is fills = subst (λ model. Fills def before model later r) (sym (from_placed (Ok (Some (spot, cells))) is)) fills

-- a call that takes no file
pub adds_fills : (def : TableDef) (before : List Row) (model : Result Filling Refusal) (later : Work) (e : CellsFault) → Adds def before model later (Err e) → Fills def before model later (Err (of_fault e))
adds_fills def before model later (fault.Refused why) adds = adds
adds_fills def before model later fault.NoMemory adds = tt

-- with the books of more spots
pub loaded : (def : TableDef) (before : List Row) (work : Work) (books : BTreeMap (ℕ × ℕ) Book) → IsWorkOn def before work
    → (AreUnique def (rows_now before work) → AreRising (rows_now before work) → AreBooks def before (rows_now before work) work.books → AreBooks def before (rows_now before work) books)
    → IsWorkOn def before (record work { books = books })
loaded def before work books on more = record {
  over = record {
    books = λ keyed. more on.over.sound.unique on.over.sound.rising (on.over.books keyed);
    sound = on.over.sound;
    rising = on.over.rising;
    below = on.over.below;
    gone = on.over.gone;
  };
  none = on.none;
}

-- # All rows

-- what holds before the row at place i
pub record IsFilledTo (how : InsertMode) (def : TableDef) (new : NewRows) (before : List Row) (rows : List (List ValueSpec)) (start now : Work) (i : ℕ) : Type 0 where
  pub rest : fill how def new (i + 1) (filling_of before now) (drop i rows) ≡ fill how def new 1 (filling_of before start) rows
  pub on : IsWorkOn def before now

module _ (how : InsertMode) (def : TableDef) (new : NewRows) (before : List Row) (rows : List (List ValueSpec)) (start : Work) where
  pub filled_none : IsWorkOn def before start → IsFilledTo how def new before rows start start 0
  filled_none on = record { rest = refl; on = on }

  module _ (now later : Work) (i : ℕ) (values : List ValueSpec) (below : i < length rows) (own : get_or rows i values ≡ values) (had : IsFilledTo how def new before rows start now i) where
    next_row : fill how def new (i + 1) (filling_of before now) (drop i rows)
        ≡ passed (fill_row how def new (i + 1) (filling_of before now) values) (λ then. fill how def new (i + 1 + 1) then (drop (i + 1) rows))
    next_row =
        at_drop_more (fill how def new (i + 1) (filling_of before now)) rows i values below
        ∙ ap (λ v. passed (fill_row how def new (i + 1) (filling_of before now) v) (λ then. fill how def new (i + 1 + 1) then (drop (i + 1) rows))) own

    pub filled_more : Fills def before (fill_row how def new (i + 1) (filling_of before now) values) later (Ok tt) → IsFilledTo how def new before rows start later (i + 1)
    filled_more fills = record {
      rest = sym (next_row ∙ ap (λ r. passed r (λ then. fill how def new (i + 1 + 1) then (drop (i + 1) rows))) fills.0) ∙ had.rest;
      on = fills.1;
    }

    pub filled_halts : (e : Halt) → Fills def before (fill_row how def new (i + 1) (filling_of before now) values) later (Err e)
        → Fills def before (fill how def new 1 (filling_of before start) rows) later (Err e)
    filled_halts (halt.Refused why) fills = sym had.rest ∙ next_row ∙ ap (λ r. passed r (λ then. fill how def new (i + 1 + 1) then (drop (i + 1) rows))) fills
    filled_halts (halt.Stopped stop) fills = tt

  pub filled_all : (now : Work) (i : ℕ) → length rows ≤ i → IsFilledTo how def new before rows start now i → Fills def before (fill how def new 1 (filling_of before start) rows) now (Ok tt)
  filled_all now i past had = (sym had.rest ∙ at_drop_all (fill how def new (i + 1) (filling_of before now)) rows i past, had.on)
