-- Rows that are updated one after the other, and rows that are deleted, keep what holds of a table's rows.
use Rattle.std.proofs.Common.{◌≡◌, ℕ, ◌+◌, ◌<◌, ◌≤◌, Bool, true, false, cond, not, List, [], ◌∷◌, length, drop, get_or, Option, Some, None, Result, Ok, Err, refl, sym, ap, ap₂, ◌∙◌, subst, arith}
use Rattle.std.specs.List.{All}
use Rattle.std.specs.Result.{IfOk}
use Rattle.std.specs.Option.{IsSome}
use Rattle.std.proofs.lemmas.List.{at_drop_all, at_drop_more}
use Rattle.std.proofs.lemmas.List.Elements.{All-weaker}
use Rattle.pt_value.specs.declared.value.Value.{Value}
use Rattle.pt_ast.specs.declared.database.Db.{Db}
use Rattle.pt_ast.specs.declared.database.Row.{Row}
use Rattle.pt_ast.specs.declared.database.Table.{Table}
use Rattle.pt_ast.specs.declared.table.TableDef.{TableDef}
use Rattle.pt_ast.specs.declared.refusal.Refusal.{Refusal}
use Rattle.pt_ast.specs.declared.refusal.Refusal.TheVariants as refusal
use Rattle.pt_ast.specs.declared.statement.Tail.{Tail}
use Rattle.pt_ast.specs.declared.statement.ValueSpec.{ValueSpec}
use Rattle.pt_expr.specs.Columns.{AreFitting}
use Rattle.pt_checks.specs.declared.faults.CellsFault.{CellsFault}
use Rattle.pt_checks.specs.declared.faults.CellsFault.TheVariants as fault
use Rattle.pt_checks.specs.Assigned.{are_same, bad_update, updated_cells}
use Rattle.pt_checks.specs.Cells.{lacks_value}
use Rattle.pt_checks.specs.Given.{Gives}
use Rattle.pt_checks.specs.Named.{bad_parts}
use Rattle.pt_checks.specs.Queries.{bad_tail}
use Rattle.pt_checks.specs.Wanted.{candidates}
use Rattle.pt_db.specs.Lookup.{filled, table_of}
use Rattle.pt_db.specs.Outcome.{db_behind, found, passed, refused_by}
use Rattle.pt_db.specs.Rows.{is_numbered, others, row_at, with_cells}
use Rattle.pt_db.specs.Sound.{AreSoundRows, IsSound, IsSoundRow}
use Rattle.std.specs.List.{list_any}
use Rattle.pt_db.proofs.RowSounds.{cells_changed, rows_kept}
use Rattle.pt_db.proofs.Sounds.{filled_sound, sound_table}
use Rattle.pt_flat.specs.declared.updating.Updating.{Updating}
use Rattle.pt_flat.specs.Delete.{delete, delete_from, with_deleted_rows, without_rows}
use Rattle.pt_flat.specs.Insert.{bad_cells}
use Rattle.pt_flat.specs.Renewal.{IsMatched, IsSoundUpdating}
use Rattle.pt_flat.specs.Update.{unchanged, update_row, update_rows, updated, updated_in, with_updated}
use Rattle.pt_flat.proofs.Growing.{kept_there, placed_free, same_nulls}
use Rattle.pt_flat.proofs.Taken.{candidates_all}

-- ---- one row

-- a row that is there with other cells was there
cells_there : (serial : ℕ) (cells : List Value) (rows : List Row) (query : ℕ) → IsSome (row_at (with_cells serial cells rows) query) → IsSome (row_at rows query)
cells_there serial cells [] query some = some
cells_there serial cells (row ∷ rows) query some = by (is_numbered serial row) some (cells_there serial cells rows query)
  where
    by_query : (own : List Value) (t : Bool) → IsSome (cond t (Some own) (row_at (with_cells serial cells rows) query)) → (IsSome (row_at (with_cells serial cells rows) query) → IsSome (row_at rows query))
        → IsSome (cond t (Some row.cells) (row_at rows query))
    by_query own true here more = refl
    by_query own false here more = more here

    by : (t : Bool) → IsSome (cond (is_numbered query (cond t (record row { cells = cells }) row)) (Some (cond t (record row { cells = cells }) row).cells) (row_at (with_cells serial cells rows) query))
        → (IsSome (row_at (with_cells serial cells rows) query) → IsSome (row_at rows query)) → IsSome (cond (is_numbered query row) (Some row.cells) (row_at rows query))
    by true here more = by_query cells (is_numbered query row) here more
    by false here more = by_query row.cells (is_numbered query row) here more

pub renewed : (next : ℕ) (def : TableDef) (before : List Row) (parts : Option (List (List ℕ))) (number : ℕ) (updating : Updating) (row : Row) (cells : List Value)
    → IsSoundRow next def row → IsSoundUpdating next def before updating → AreFitting def.columns cells → lacks_value def.columns cells ≡ false
    → bad_cells def parts number (others row.serial updating.rows) cells ≡ None → IsSoundUpdating next def before (with_updated row cells updating)
renewed next def before parts number updating row cells had sound fits whole none =
    let has = placed_free def parts number (others row.serial updating.rows) cells none in
    record {
      rows = cells_changed def row.serial cells next updating.rows sound.rows
          (record { fits = fits; nulls = sym (same_nulls def.columns cells) ∙ whole; placed = has.0; least = had.least; below = had.below }) has.1;
      old = λ serial some. sound.old serial (cells_there row.serial cells updating.rows serial some);
    }

pub matched_more : (number : ℕ) (updating : Updating) (row : Row) (cells : List Value) → IsMatched number updating → IsMatched (number + 1) (with_updated row cells updating)
matched_more number updating row cells counted = record {
  matched = (let h = counted.matched in omega (arith, h));
  changed = by (are_same row.cells cells);
}
  where
    by : (t : Bool) → cond t updating.changed (updating.changed + 1) < number + 1
    by true = let h = counted.changed in omega (arith, h)
    by false = let h = counted.changed in omega (arith, h)

module _ (def : TableDef) (parts : Option (List (List ℕ))) (assigns : List (List ℕ × ValueSpec)) (number : ℕ) (updating : Updating) (row : Row) where
  abbrev behind : List Value → Result Updating Refusal
  behind cells = refused_by (bad_cells def parts number (others row.serial updating.rows) cells) (Ok (with_updated row cells updating))

  -- its new cells are refused
  pub row_fails : (e : CellsFault) → Gives (updated_cells def assigns number row.cells) (Err e) → Gives (update_row def parts assigns number updating row) (Err e)
  row_fails (fault.Refused why) gives = ap (λ r. passed r behind) gives
  row_fails fault.NoMemory gives = tt

  -- they can't stand
  pub row_refused : (cells : List Value) (why : Refusal) → updated_cells def assigns number row.cells ≡ Ok cells → bad_cells def parts number (others row.serial updating.rows) cells ≡ Some why
      → update_row def parts assigns number updating row ≡ Err why
  row_refused cells why gives refused = ap (λ r. passed r behind) gives ∙ ap (λ o. refused_by o (Ok (with_updated row cells updating))) refused

  pub row_done : (cells : List Value) (later : Updating) → updated_cells def assigns number row.cells ≡ Ok cells → bad_cells def parts number (others row.serial updating.rows) cells ≡ None
      → later ≡ with_updated row cells updating → update_row def parts assigns number updating row ≡ Ok later
  row_done cells later gives free is =
      ap (λ r. passed r behind) gives ∙ ap (λ o. refused_by o (Ok (with_updated row cells updating))) free ∙ ap (λ own. Ok own) (sym is)

-- ---- the loop over the rows that are taken

module _ (def : TableDef) (parts : Option (List (List ℕ))) (assigns : List (List ℕ × ValueSpec)) (taken : List Row) (start : Updating) where
  -- what holds before the row at place i
  pub record IsUpdated (updating : Updating) (i : ℕ) : Type 0 where
    pub rest : update_rows def parts assigns (i + 1) updating (drop i taken) ≡ update_rows def parts assigns 1 start taken
    pub counted : IsMatched (i + 1) updating
    pub sound : (next : ℕ) (before : List Row) → All (IsSoundRow next def) taken → IsSoundUpdating next def before start → IsSoundUpdating next def before updating

  pub updated_none : IsMatched 1 start → IsUpdated start 0
  updated_none counted = record { rest = refl; counted = counted; sound = λ next before all sound. sound }

  next_row : (updating : Updating) (i : ℕ) (row : Row) → i < length taken → get_or taken i row ≡ row
      → update_rows def parts assigns (i + 1) updating (drop i taken) ≡ passed (update_row def parts assigns (i + 1) updating row) (λ later. update_rows def parts assigns (i + 1 + 1) later (drop (i + 1) taken))
  next_row updating i row below is =
      at_drop_more (update_rows def parts assigns (i + 1) updating) taken i row below
      ∙ ap (λ own. passed (update_row def parts assigns (i + 1) updating own) (λ later. update_rows def parts assigns (i + 1 + 1) later (drop (i + 1) taken))) is

  pub updated_more : (updating later : Updating) (i : ℕ) (row : Row) → i < length taken → get_or taken i row ≡ row → IsUpdated updating i
      → update_row def parts assigns (i + 1) updating row ≡ Ok later → IsMatched (i + 1 + 1) later
      → ((next : ℕ) (before : List Row) → IsSoundRow next def row → IsSoundUpdating next def before updating → IsSoundUpdating next def before later) → IsUpdated later (i + 1)
  updated_more updating later i row below is had done counted sound = record {
    rest = sym (next_row updating i row below is ∙ ap (λ r. passed r (λ next. update_rows def parts assigns (i + 1 + 1) next (drop (i + 1) taken))) done) ∙ had.rest;
    counted = counted;
    sound = λ next before all from. sound next before (subst (IsSoundRow next def) is (all i row below)) (had.sound next before all from);
  }

  pub updated_fails : (updating : Updating) (i : ℕ) (row : Row) (e : CellsFault) → i < length taken → get_or taken i row ≡ row → IsUpdated updating i
      → Gives (update_row def parts assigns (i + 1) updating row) (Err e) → Gives (update_rows def parts assigns 1 start taken) (Err e)
  updated_fails updating i row (fault.Refused why) below is had gives =
      sym had.rest ∙ next_row updating i row below is ∙ ap (λ r. passed r (λ next. update_rows def parts assigns (i + 1 + 1) next (drop (i + 1) taken))) gives
  updated_fails updating i row fault.NoMemory below is had gives = tt

  pub updated_all : (updating : Updating) (i : ℕ) → length taken ≤ i → IsUpdated updating i → update_rows def parts assigns 1 start taken ≡ Ok updating
  updated_all updating i past had = sym had.rest ∙ at_drop_all (update_rows def parts assigns (i + 1) updating) taken i past

-- ---- the table

module _ (db : Db) (name : List ℕ) (table : Table) (sound : IsSound db) (at : table_of db name ≡ Some table) where
  has : AreSoundRows db.next table.def table.rows
  has = (sound_table db sound name table at).rows

  pub start_updating : IsSoundUpdating db.next table.def table.rows (unchanged table.rows)
  start_updating = record { rows = has; old = λ serial some. some }

  pub taken_sound : (parts : Option (List (List ℕ))) (tail : Tail) → All (IsSoundRow db.next table.def) (candidates table.def parts tail table.rows)
  taken_sound parts tail = candidates_all (IsSoundRow db.next table.def) table.def parts tail table.rows has.each

  pub end_updating : {E : Type 0} (r : Result Updating E) → IfOk r (IsSoundUpdating db.next table.def table.rows) → IfOk r (λ updating. IsSound (filled db name updating.rows db.next))
  end_updating (Ok later) kept = filled_sound db name table later.rows db.next sound at kept.rows (omega arith) sound.most (λ serial below some. kept.old serial some)
  end_updating (Err cause) kept = tt

  pub updated_gives : (parts : Option (List (List ℕ))) (assigns : List (List ℕ × ValueSpec)) (tail : Tail) (taken rows : List Row) (r : Result Updating CellsFault)
      → bad_parts table.def name parts ≡ None → bad_update table.def name assigns tail ≡ None → taken ≡ candidates table.def parts tail table.rows → rows ≡ table.rows
      → Gives (update_rows table.def parts assigns 1 (unchanged rows) taken) r → Gives (updated db name parts assigns tail) r
  updated_gives parts assigns tail taken rows r named checked wanted copied =
      subst (λ model. Gives model r)
      (ap₂ (λ (own all : List Row). update_rows table.def parts assigns 1 (unchanged own) all) copied wanted
      ∙ sym (ap (λ o. found o (refusal.NoSuchTable name) (updated_in name parts assigns tail)) at
      ∙ ap₂ (λ (a b : Option Refusal). refused_by a (refused_by b (update_rows table.def parts assigns 1 (unchanged table.rows) (candidates table.def parts tail table.rows)))) named checked))

  -- without some rows
  pub deleted_after : (parts : Option (List (List ℕ))) (tail : Tail) (taken rows : List Row) → bad_parts table.def name parts ≡ None → bad_tail table.def name tail ≡ None
      → taken ≡ candidates table.def parts tail table.rows → rows ≡ without_rows taken table.rows → filled db name rows db.next ≡ db_behind db (delete db name parts tail)
  deleted_after parts tail taken rows named checked wanted left =
      ap (λ (own : List Row). filled db name own db.next) (left ∙ ap (λ (own : List Row). without_rows own table.rows) wanted)
      ∙ sym (ap (λ o. db_behind db (found o (refusal.NoSuchTable name) (delete_from db name parts tail))) at
      ∙ ap₂ (λ (a b : Option Refusal). db_behind db (refused_by a (refused_by b (with_deleted_rows db name table.rows (candidates table.def parts tail table.rows))))) named checked)

  pub deleted_sound : (taken : List Row) → IsSound (filled db name (without_rows taken table.rows) db.next)
  deleted_sound taken =
      filled_sound db name table (without_rows taken table.rows) db.next sound at (rows_kept db.next table.def (λ (row : Row). not (list_any (is_numbered row.serial) taken)) table.rows has) (omega arith) sound.most
      (λ serial below some. kept_there (λ (row : Row). not (list_any (is_numbered row.serial) taken)) table.rows serial has.rising some)

-- the cells of sound rows have no NULL where none may be
pub taken_whole : (next : ℕ) (def : TableDef) (taken : List Row) → All (IsSoundRow next def) taken → All (λ (row : Row). lacks_value def.columns row.cells ≡ false) taken
taken_whole next def taken all = All-weaker (IsSoundRow next def) (λ (row : Row). lacks_value def.columns row.cells ≡ false) (λ row s. same_nulls def.columns row.cells ∙ s.nulls) taken all

pub taken_fit : (next : ℕ) (def : TableDef) (taken : List Row) → All (IsSoundRow next def) taken → All (λ (row : Row). AreFitting def.columns row.cells) taken
taken_fit next def taken all = All-weaker (IsSoundRow next def) (λ (row : Row). AreFitting def.columns row.cells) (λ row s. s.fits) taken all
