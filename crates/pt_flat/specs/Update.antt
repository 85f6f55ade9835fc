-- UPDATE. MySQL 5.7 manual, section 13.2.11, "UPDATE Syntax", and section 22.5, "Partition Selection". The rows are those that the statement
-- finds, taken once, before the first change; each is then checked beside the other rows as they are by that time, and keeps its serial.
use Rattle.std.specs.Prelude.{ℕ, ◌+◌, List, [], ◌∷◌, Option, Result, Ok, if◌then◌else◌}
use Rattle.pt_value.specs.declared.value.Value.{Value}
use Rattle.pt_ast.specs.declared.database.Db.{Db}
use Rattle.pt_ast.specs.declared.database.Row.{Row}
use Rattle.pt_ast.specs.declared.database.Table.{Table}
use Rattle.pt_ast.specs.declared.table.TableDef.{TableDef}
use Rattle.pt_ast.specs.declared.statement.Tail.{Tail}
use Rattle.pt_ast.specs.declared.statement.ValueSpec.{ValueSpec}
use Rattle.pt_ast.specs.declared.refusal.Refusal.{Refusal}
use Rattle.pt_ast.specs.declared.refusal.Refusal.TheVariants as refusal
use Rattle.pt_checks.specs.Assigned.{are_same, bad_update, updated_cells}
use Rattle.pt_checks.specs.Named.{bad_parts}
use Rattle.pt_checks.specs.Wanted.{candidates}
use Rattle.pt_db.specs.Texts.{counts_text}
use Rattle.pt_db.specs.Lookup.{filled, table_of}
use Rattle.pt_db.specs.Outcome.{Outcome, found, passed, refused_by}
use Rattle.pt_db.specs.Rows.{others, with_cells}
use Rattle.pt_flat.specs.declared.updating.Updating.{Updating}
use Rattle.pt_flat.specs.Insert.{bad_cells}

-- ---- one row

-- with these cells in a row, which is counted; also as changed, where one of its values is another now
abbrev pub with_updated : Row → List Value → Updating → Updating
with_updated row cells updating = record {
  rows = with_cells row.serial cells updating.rows;
  matched = updating.matched + 1;
  changed = if are_same row.cells cells then updating.changed else updating.changed + 1;
}

-- 16, 17 of its new values; then 40, 42, 19 beside the other rows as they are then
abbrev pub update_row : TableDef → Option (List (List ℕ)) → List (List ℕ × ValueSpec) → ℕ → Updating → Row → Result Updating Refusal
update_row def parts assigns number updating row =
    passed (updated_cells def assigns number row.cells) (λ cells.
    refused_by (bad_cells def parts number (others row.serial updating.rows) cells)
    (Ok (with_updated row cells updating)))

-- ---- the rows from this number on, one after the other

abbrev pub update_rows : TableDef → Option (List (List ℕ)) → List (List ℕ × ValueSpec) → ℕ → Updating → List Row → Result Updating Refusal
update_rows def parts assigns number updating [] = Ok updating
update_rows def parts assigns number updating (row ∷ rest) =
    passed (update_row def parts assigns number updating row) (λ later.
    update_rows def parts assigns (number + 1) later rest)

-- ---- the statement

-- the rows of a table, before the first change
abbrev pub unchanged : List Row → Updating
unchanged rows = record { rows = rows; matched = 0; changed = 0 }

-- 43, 41; the columns that are set with 12; values, WHERE and ORDER BY with 12, 14, 15, 16; then row by row, from 1, those that the statement
-- finds
abbrev pub updated_in : List ℕ → Option (List (List ℕ)) → List (List ℕ × ValueSpec) → Tail → Table → Result Updating Refusal
updated_in name parts assigns tail table =
    refused_by (bad_parts table.def name parts)
    (refused_by (bad_update table.def name assigns tail)
    (update_rows table.def parts assigns 1 (unchanged table.rows) (candidates table.def parts tail table.rows)))

-- 11 first
abbrev pub updated : Db → List ℕ → Option (List (List ℕ)) → List (List ℕ × ValueSpec) → Tail → Result Updating Refusal
updated db name parts assigns tail = found (table_of db name) (refusal.NoSuchTable name) (updated_in name parts assigns tail)

-- the database with these rows in the table; how many were matched, and how many of them have changed
abbrev pub with_updating : Db → List ℕ → Updating → Outcome
with_updating db name updating = Ok (record { db = filled db name updating.rows db.next; text = counts_text updating.matched updating.changed })

abbrev pub update : Db → List ℕ → Option (List (List ℕ)) → List (List ℕ × ValueSpec) → Tail → Outcome
update db name parts assigns tail = passed (updated db name parts assigns tail) (with_updating db name)
