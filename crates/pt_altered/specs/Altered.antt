-- ALTER TABLE: a table gets another definition, and some or all of its rows stay. MySQL 5.7 manual, section 13.1.8.1, "ALTER TABLE Partition
-- Operations".
use Rattle.std.specs.Prelude.{ℕ, ◌+◌, not, is_none, List, [], ◌∷◌, filter, Option, Some, None, Result, Ok, if◌then◌else◌}
use Rattle.pt_ast.specs.declared.database.Db.{Db}
use Rattle.pt_ast.specs.declared.database.Row.{Row}
use Rattle.pt_ast.specs.declared.table.TableDef.{TableDef}
use Rattle.pt_ast.specs.declared.refusal.Refusal.{Refusal}
use Rattle.pt_ast.specs.declared.refusal.Refusal.TheVariants as refusal
use Rattle.pt_place.specs.Place.{place_of}
use Rattle.pt_checks.specs.Wanted.{is_in_parts}
use Rattle.pt_db.specs.Lookup.{table_of, with_both}
use Rattle.pt_db.specs.Outcome.{Outcome, found, passed, refused_by}
use Rattle.pt_db.specs.Texts.{ok_text}

-- ---- rows

-- the rows in these partitions, in all where none are named
abbrev pub rows_in : Option (List (List ℕ)) → TableDef → List Row → List Row
rows_in parts def rows = filter (λ row. is_in_parts def parts row.cells) rows

-- the other rows
abbrev pub rows_out : Option (List (List ℕ)) → TableDef → List Row → List Row
rows_out parts def rows = filter (λ row. not (is_in_parts def parts row.cells)) rows

-- 40 for the first of these rows, counted from a number on, that has no place
abbrev pub unplaced_from : ℕ → TableDef → List Row → Option Refusal
unplaced_from number def [] = None
unplaced_from number def (row ∷ rows) = if is_none (place_of def row.cells) then Some (refusal.NoPartition number) else unplaced_from (number + 1) def rows

abbrev pub unplaced : TableDef → List Row → Option Refusal
unplaced def rows = unplaced_from 1 def rows

-- ---- what stays, and what is refused of the rows, by the definition before and that after

-- all rows stay
abbrev pub all_rows : TableDef → List Row → List Row
all_rows def rows = rows

-- no row is looked at
abbrev pub none_unplaced : TableDef → TableDef → List Row → Option Refusal
none_unplaced before after rows = None

-- each row needs a place
abbrev pub any_unplaced : TableDef → TableDef → List Row → Option Refusal
any_unplaced before after rows = unplaced after rows

-- each row of these partitions needs a place, by serial
abbrev pub named_unplaced : List (List ℕ) → TableDef → TableDef → List Row → Option Refusal
named_unplaced names before after rows = unplaced after (rows_in (Some names) before rows)

-- ---- the statement

-- the table of this name with this definition and these rows; `ok`
abbrev pub with_altered : Db → List ℕ → TableDef → List Row → Outcome
with_altered db name def rows = Ok (record { db = record { tables = with_both name def rows db.tables; next = db.next }; text = ok_text })

-- 11 first; then what is refused of the definition; then what is refused of the rows
abbrev pub altered : Db → List ℕ → (TableDef → Result TableDef Refusal) → (TableDef → TableDef → List Row → Option Refusal) → (TableDef → List Row → List Row) → Outcome
altered db name change bad kept =
    found (table_of db name) (refusal.NoSuchTable name) (λ table.
    passed (change table.def) (λ def.
    refused_by (bad table.def def table.rows)
    (with_altered db name def (kept table.def table.rows))))
