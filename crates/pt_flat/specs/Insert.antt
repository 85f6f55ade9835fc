-- INSERT, INSERT IGNORE and REPLACE. MySQL 5.7 manual, section 13.2.5, "INSERT Syntax", section 13.2.8, "REPLACE Syntax", and section 22.5,
-- "Partition Selection". Rows are inserted one after the other, each beside the rows as they are then; a refusal leaves none of them.
use Rattle.std.specs.Prelude.{ℕ, ◌+◌, ◌^◌, Bool, true, false, not, nat_le, is_none, List, [], ◌∷◌, ◌++◌, filter, length, Option, Some, None, Result, Ok}
use Rattle.pt_value.specs.declared.value.Value.{Value}
use Rattle.pt_ast.specs.declared.database.Db.{Db}
use Rattle.pt_ast.specs.declared.database.Row.{Row}
use Rattle.pt_ast.specs.declared.database.Table.{Table}
use Rattle.pt_ast.specs.declared.table.TableDef.{TableDef}
use Rattle.pt_ast.specs.declared.statement.NewRows.{NewRows}
use Rattle.pt_ast.specs.declared.statement.ValueSpec.{ValueSpec}
use Rattle.pt_ast.specs.declared.refusal.Refusal.{Refusal}
use Rattle.pt_ast.specs.declared.refusal.Refusal.TheVariants as refusal
use Rattle.pt_ast.specs.Keys.{agrees, is_taken}
use Rattle.pt_place.specs.First.{first_of, refused_if}
use Rattle.pt_place.specs.Place.{place_of}
use Rattle.pt_checks.specs.Named.{bad_columns, bad_parts, targets}
use Rattle.pt_checks.specs.Cells.{cells_of}
use Rattle.pt_checks.specs.Wanted.{is_in_parts}
use Rattle.pt_db.specs.Texts.{count_text, counts_text}
use Rattle.pt_db.specs.Lookup.{filled, table_of}
use Rattle.pt_db.specs.Outcome.{Outcome, found, passed, refused_by, refused_where}
use Rattle.pt_flat.specs.declared.filling.Filling.{Filling}
use Rattle.pt_flat.specs.declared.filling.InsertMode.{InsertMode}
use Rattle.pt_flat.specs.declared.filling.InsertMode.TheVariants as mode

-- ---- one row, over the rows so far

-- a row of these cells more, which takes the next serial
abbrev pub with_added : List Value → Filling → Filling
with_added cells filling = record filling {
  rows = filling.rows ++ record { serial = filling.next; cells = cells } ∷ [];
  next = filling.next + 1;
  added = filling.added + 1;
}

-- without the rows that agree with these cells on a unique key; they are counted
abbrev pub with_deleted : TableDef → List Value → Filling → Filling
with_deleted def cells filling = record filling {
  rows = filter (λ row. not (agrees def cells row.cells)) filling.rows;
  deleted = filling.deleted + length (filter (λ row. agrees def cells row.cells) filling.rows);
}

-- a row that is passed over takes no serial; it is counted
abbrev pub with_skipped : Filling → Filling
with_skipped filling = record filling { skipped = filling.skipped + 1 }

-- REPLACE takes the rows away that agree with the new one, before that one is checked
abbrev pub cleared : InsertMode → TableDef → List Value → Filling → Filling
cleared mode.Replace def cells filling = with_deleted def cells filling
cleared mode.Refuse def cells filling = filling
cleared mode.Skip def cells filling = filling

-- 40, 42
abbrev pub bad_place : TableDef → Option (List (List ℕ)) → ℕ → List Value → Option Refusal
bad_place def parts number cells = first_of (
    refused_if (is_none (place_of def cells)) (refusal.NoPartition number)
    ∷ refused_if (not (is_in_parts def parts cells)) (refusal.NotInGivenSet number)
    ∷ [])

-- 40, 42, and 19 beside these rows
abbrev pub bad_cells : TableDef → Option (List (List ℕ)) → ℕ → List Row → List Value → Option Refusal
bad_cells def parts number rows cells = first_of (
    bad_place def parts number cells
    ∷ refused_if (is_taken def cells rows) (refusal.DuplicateKey number)
    ∷ [])

-- IGNORE passes over a row that this check refuses; else the statement is refused
abbrev pub skipped_or : InsertMode → Option Refusal → Filling → Result Filling Refusal → Result Filling Refusal
skipped_or mode.Skip (Some refusal) filling next = Ok (with_skipped filling)
skipped_or mode.Skip None filling next = next
skipped_or mode.Refuse check filling next = refused_by check next
skipped_or mode.Replace check filling next = refused_by check next

-- 55; then the row is there
abbrev pub add_cells : ℕ → List Value → Filling → Result Filling Refusal
add_cells number cells filling = refused_where (nat_le (2 ^ 62) filling.next) (refusal.SerialsUsed number) (Ok (with_added cells filling))

-- 40, 42, 19, which IGNORE skips and of which REPLACE never has the last; and 55
abbrev pub fill_cells : InsertMode → TableDef → NewRows → ℕ → Filling → List Value → Result Filling Refusal
fill_cells mode def new number filling cells =
    skipped_or mode (bad_cells def new.parts number (cleared mode def cells filling).rows cells) filling
    (add_cells number cells (cleared mode def cells filling))

-- first 18; each value with 12, 14, 15, 16; and 17
abbrev pub fill_row : InsertMode → TableDef → NewRows → ℕ → Filling → List ValueSpec → Result Filling Refusal
fill_row mode def new number filling values =
    passed (cells_of def (targets def new.columns) number values)
    (fill_cells mode def new number filling)

-- ---- the rows from this number on, each whole before the next one

abbrev pub fill : InsertMode → TableDef → NewRows → ℕ → Filling → List (List ValueSpec) → Result Filling Refusal
fill mode def new number filling [] = Ok filling
fill mode def new number filling (values ∷ rest) =
    passed (fill_row mode def new number filling values) (λ later.
    fill mode def new (number + 1) later rest)

-- ---- the statement

-- the rows of a table and the next serial, before the first new row
abbrev pub unfilled : List Row → ℕ → Filling
unfilled rows next = record { rows = rows; next = next; added = 0; skipped = 0; deleted = 0 }

-- 43, 41; 12, 13; then row by row, from 1, beginning with the table's rows and the next serial
abbrev pub inserted_into : InsertMode → Db → NewRows → Table → Result Filling Refusal
inserted_into mode db new table =
    refused_by (bad_parts table.def new.table new.parts)
    (refused_by (bad_columns table.def new.columns)
    (fill mode table.def new 1 (unfilled table.rows db.next) new.rows))

-- 11 first
abbrev pub inserted : InsertMode → Db → NewRows → Result Filling Refusal
inserted mode db new = found (table_of db new.table) (refusal.NoSuchTable new.table) (inserted_into mode db new)

-- how many rows were inserted; for IGNORE also how many were skipped, and for REPLACE how many were deleted
abbrev pub filled_text : InsertMode → Filling → List ℕ
filled_text mode.Refuse filling = count_text filling.added
filled_text mode.Skip filling = counts_text filling.added filling.skipped
filled_text mode.Replace filling = counts_text filling.added filling.deleted

-- the database with these rows in the table
abbrev pub with_filled : InsertMode → Db → List ℕ → Filling → Outcome
with_filled mode db name filling = Ok (record { db = filled db name filling.rows filling.next; text = filled_text mode filling })

-- rows that are inserted in one of the three ways
abbrev pub insert_rows : InsertMode → Db → NewRows → Outcome
insert_rows mode db new = passed (inserted mode db new) (with_filled mode db new.table)

-- what INSERT does with a row that is refused with 40, 42 or 19: with IGNORE it is skipped
abbrev pub insert_mode : Bool → InsertMode
insert_mode true = mode.Skip
insert_mode false = mode.Refuse

-- INSERT, with IGNORE or without
abbrev pub insert : Bool → Db → NewRows → Outcome
insert ignore db new = insert_rows (insert_mode ignore) db new
