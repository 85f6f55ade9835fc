-- ALTER TABLE .. EXCHANGE PARTITION: the rows of a partition and those of another table change sides. MySQL 5.7 manual, section 22.3.3,
-- "Exchanging Partitions and Subpartitions with Tables".
use Rattle.std.specs.Prelude.{ℕ, ◌+◌, Bool, false, not, List, [], ◌∷◌, filter, find, Option, Some, None, Result, Ok, if◌then◌else◌}
use Rattle.std.specs.Option.{option_map_or}
use Rattle.std.specs.Str.{str_eq_ignore_ascii_case}
use Rattle.pt_ast.specs.declared.database.Db.{Db}
use Rattle.pt_ast.specs.declared.database.Row.{Row}
use Rattle.pt_ast.specs.declared.database.Spot.{Spot}
use Rattle.pt_ast.specs.declared.database.Table.{Table}
use Rattle.pt_ast.specs.declared.table.TableDef.{TableDef}
use Rattle.pt_ast.specs.declared.refusal.Refusal.{Refusal}
use Rattle.pt_ast.specs.declared.refusal.Refusal.TheVariants as refusal
use Rattle.pt_place.specs.Checks.{is_whole}
use Rattle.pt_place.specs.Place.{leaf_of}
use Rattle.pt_checks.specs.Named.{no_part}
use Rattle.pt_show.specs.Structure.{same_structure}
use Rattle.pt_db.specs.Lookup.{filled, table_of}
use Rattle.pt_db.specs.Outcome.{Outcome, found, passed, refused_by, refused_where}
use Rattle.pt_db.specs.Rows.{is_at, spot_rows, with_row}
use Rattle.pt_db.specs.Spots.{spots_of}
use Rattle.pt_db.specs.Texts.{ok_text}

-- ---- the spot

-- the spot's own name is this, but for case: its subpartition's, or its partition's where that is whole
abbrev pub is_called : TableDef → List ℕ → Spot → Bool
is_called def name spot = option_map_or (str_eq_ignore_ascii_case name) (leaf_of def spot) false

-- the spot of this name
abbrev pub spot_called : TableDef → List ℕ → Option Spot
spot_called def name = find (is_called def name) (spots_of def)

-- ---- rows

-- 53 for the first of these rows, counted from a number on, whose place is another
abbrev pub misplaced_from : ℕ → TableDef → Spot → List Row → Option Refusal
misplaced_from number def spot [] = None
misplaced_from number def spot (row ∷ rows) = if is_at def spot row then misplaced_from (number + 1) def spot rows else Some (refusal.RowNotInPartition number)

abbrev pub misplaced : TableDef → Spot → List Row → Option Refusal
misplaced def spot rows = misplaced_from 1 def spot rows

-- the rows that are placed elsewhere
abbrev pub rows_elsewhere : TableDef → Spot → List Row → List Row
rows_elsewhere def spot rows = filter (λ row. not (is_at def spot row)) rows

-- with these rows, each in its place by rising serial
abbrev pub with_all : List Row → List Row → List Row
with_all [] rows = rows
with_all (row ∷ more) rows = with_all more (with_row row rows)

-- the table's rows behind the exchange: those of other places, and those that come
abbrev pub exchanged_rows : TableDef → Spot → List Row → List Row → List Row
exchanged_rows def spot rows comes = with_all comes (rows_elsewhere def spot rows)

-- ---- the statement

-- What is refused before a row is moved, and else the spot: 43, 51, 41, 54, 52, 53. A partition of a subpartitioned table has no rows of its
-- own, its subpartitions have.
abbrev pub spot_for : List ℕ → List ℕ → List ℕ → Table → Table → Result Spot Refusal
spot_for name part other table beside =
    refused_where (is_whole table.def.by) (refusal.NotPartitioned name)
    (refused_where (not (is_whole beside.def.by)) (refusal.OtherIsPartitioned other)
    (refused_by (no_part table.def part)
    (found (spot_called table.def part) (refusal.UseSubpartition part) (λ spot.
    refused_where (not (same_structure table.def beside.def)) (refusal.TablesDiffer other)
    (refused_by (misplaced table.def spot beside.rows)
    (Ok spot))))))

-- The rows of the spot and those of the other table change sides, each with its serial; `ok`.
abbrev pub swapped : Db → List ℕ → List ℕ → Table → Table → Spot → Outcome
swapped db name other table beside spot = Ok (record {
  db = filled (filled db name (exchanged_rows table.def spot table.rows beside.rows) db.next) other (spot_rows table.def spot table.rows) db.next;
  text = ok_text;
})

-- 11 for the first, 11 for the second, and then the others. A table isn't exchanged with itself, as it is partitioned or not.
abbrev pub exchange : Db → List ℕ → List ℕ → List ℕ → Outcome
exchange db name part other =
    found (table_of db name) (refusal.NoSuchTable name) (λ table.
    found (table_of db other) (refusal.NoSuchTable other) (λ beside.
    passed (spot_for name part other table beside)
    (swapped db name other table beside)))

-- ---- for the code

-- what is still to come of a row's insertion in front of these rows
abbrev pub left : Bool → Row → List Row → List Row
left waits row rows = if waits then with_row row rows else rows
