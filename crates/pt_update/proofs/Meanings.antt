-- What DELETE and UPDATE come to of the database that a session stands for.
use Rattle.std.proofs.Common.{◌≡◌, ℕ, ◌+◌, ◌<◌, ◌≤◌, ◌^◌, List, [], map, length, Option, Some, None, Result, Ok, Err, refl, sym, ap, ap₂, ◌∙◌, subst, arith, append-nil}
use Rattle.std.specs.List.{All}
use Rattle.std.specs.Option.{IsSomeAnd, option_or}
use Rattle.std.specs.BTreeMap.{BTreeMap, IsEmpty}
use Rattle.std.proofs.lemmas.List.Elements.{All-nil}
use Rattle.pt_host.specs.Listed.{FileList, by_name}
use Rattle.pt_ast.specs.declared.database.Db.{Db}
use Rattle.pt_ast.specs.declared.database.Row.{Row}
use Rattle.pt_ast.specs.declared.database.Spot.{Spot}
use Rattle.pt_ast.specs.declared.database.Table.{Table}
use Rattle.pt_ast.specs.declared.refusal.Refusal.{Refusal}
use Rattle.pt_ast.specs.declared.refusal.Refusal.TheVariants as refusal
use Rattle.pt_ast.specs.declared.statement.Tail.{Tail}
use Rattle.pt_ast.specs.declared.statement.ValueSpec.{ValueSpec}
use Rattle.pt_ast.specs.declared.table.TableDef.{TableDef}
use Rattle.pt_place.specs.Valid.{IsValid}
use Rattle.pt_checks.specs.Assigned.{bad_update}
use Rattle.pt_checks.specs.Named.{bad_parts}
use Rattle.pt_checks.specs.Queries.{bad_tail}
use Rattle.pt_checks.specs.Wanted.{candidates}
use Rattle.pt_db.specs.Lookup.{table_of}
use Rattle.pt_db.specs.Outcome.{found, passed, refused_by}
use Rattle.pt_db.specs.Rows.{AreRising}
use Rattle.pt_db.specs.Sound.{AreSoundRows, IsSoundRow}
use Rattle.pt_db.proofs.Sounds.{sound_table}
use Rattle.pt_flat.specs.declared.updating.Updating.{Updating}
use Rattle.pt_flat.specs.Delete.{delete, delete_from, with_deleted_rows}
use Rattle.pt_flat.specs.Update.{unchanged, update, update_rows, updated_in, with_updating}
use Rattle.pt_holds.specs.RowChanges.{IsRowChange}
use Rattle.pt_holds.specs.declared.change.RowChange.{RowChange}
use Rattle.pt_session.specs.declared.session.Session.{Session}
use Rattle.pt_session.specs.HeldSpots.{HoldsSpots}
use Rattle.pt_session.specs.Session.{IsOpen, StandsIn, def_of}
use Rattle.pt_session.proofs.TablesHeld.{absent, held, spots_hold}
use Rattle.pt_unique.specs.Book.{Book}
use Rattle.pt_books.specs.Books.{AreBooks}
use Rattle.pt_books.proofs.Spots.{books_none}
use Rattle.pt_books.specs.declared.halt.Halt.{Halt}
use Rattle.pt_books.specs.declared.halt.Halt.TheVariants as halt
use Rattle.pt_update.specs.declared.updating.Moved.{Moved}
use Rattle.pt_update.specs.declared.work.Work.{Work}
use Rattle.pt_update.specs.Changes.{delete_of}
use Rattle.pt_update.specs.Deletes.{Deletes}
use Rattle.pt_update.specs.Updates.{Updates}
use Rattle.pt_update.specs.Work.{AreTaken, IsFresh, IsMoving, IsWork, Moves, change_of}
use Rattle.pt_update.proofs.ModelRows.{rows_matched}
use Rattle.pt_update.proofs.RowEnds.{deleted_means, deletes_change, taken_are, updated_means}

refused_both : {X : Type 0} (a b : Option Refusal) (next : Result X Refusal) → refused_by a (refused_by b next) ≡ refused_by (option_or a b) next
refused_both (Some r) b next = refl
refused_both None b next = refl

-- # The rows that were read

-- those that the statement takes of the table's rows
abbrev pub AreRead : FileList → List ℕ → TableDef → Option (List (List ℕ)) → Tail → List Row → Type 0
AreRead map name def parts tail taken = (rows : List Row) → AreRising rows → HoldsSpots (by_name map) name def rows → taken ≡ candidates def parts tail rows

-- # DELETE

-- the change takes these rows away and puts none
pub record IsDeleting (name : List ℕ) (next : ℕ) (def : TableDef) (taken : List Row) (made : RowChange) : Type 0 where
  pub table : made.table ≡ name
  pub deletes : made.deletes ≡ map (delete_of def) taken
  pub puts : made.puts ≡ []
  pub next_is : made.next ≡ next

abbrev change_from : List ℕ → ℕ → List (Spot × ℕ) → List (Spot × Row) → RowChange
change_from name next deletes puts = record { table = name; deletes = deletes; puts = puts; next = next }

pub deleting_is : (name : List ℕ) (next : ℕ) (def : TableDef) (taken : List Row) (made : RowChange) → IsDeleting name next def taken made
    → made ≡ record { table = name; deletes = map (delete_of def) taken; puts = []; next = next }
deleting_is name next def taken made of =
    ap₂ (λ t n. change_from t n made.deletes made.puts) of.table of.next_is ∙ ap₂ (change_from name next) of.deletes of.puts

pub deleting_change : (name : List ℕ) (next : ℕ) (def : TableDef) (taken : List Row) (made : RowChange) → IsDeleting name next def taken made → IsValid def → All (IsSoundRow next def) taken → 0 < next → next ≤ 2 ^ 62
    → IsRowChange def made
deleting_change name next def taken made of valid sound some most = subst (IsRowChange def) (sym (deleting_is name next def taken made of)) (deletes_change name next def taken valid sound some most)

module _ (session : Session) (map_of : FileList) (db : Db) (is_open : IsOpen session) (stands : StandsIn session map_of db) (name : List ℕ) (parts : Option (List (List ℕ))) (tail : Tail) where
  pub absent_deletes : def_of session name ≡ None → Deletes db name parts tail (Err (halt.Refused (refusal.NoSuchTable name)))
  absent_deletes none = ap (λ o. found o (refusal.NoSuchTable name) (delete_from db name parts tail)) (absent session map_of db is_open stands name none)

  module _ (def : TableDef) (some : def_of session name ≡ Some def) where
    the_table : (table : Table) × (table_of db name ≡ Some table) × (table.def ≡ def)
    the_table = held session map_of db is_open stands name def some

    delete_is : delete db name parts tail ≡ refused_by (option_or (bad_parts def name parts) (bad_tail def name tail)) (with_deleted_rows db name the_table.0.rows (candidates def parts tail the_table.0.rows))
    delete_is =
        ap (λ o. found o (refusal.NoSuchTable name) (delete_from db name parts tail)) the_table.1
        ∙ ap (λ d. refused_by (bad_parts d name parts) (refused_by (bad_tail d name tail) (with_deleted_rows db name the_table.0.rows (candidates d parts tail the_table.0.rows)))) the_table.2
        ∙ refused_both (bad_parts def name parts) (bad_tail def name tail) (with_deleted_rows db name the_table.0.rows (candidates def parts tail the_table.0.rows))

    pub refused_deletes : (why : Refusal) → option_or (bad_parts def name parts) (bad_tail def name tail) ≡ Some why → Deletes db name parts tail (Err (halt.Refused why))
    refused_deletes why is = delete_is ∙ ap (λ o. refused_by o (with_deleted_rows db name the_table.0.rows (candidates def parts tail the_table.0.rows))) is

    pub made_deletes : option_or (bad_parts def name parts) (bad_tail def name tail) ≡ None → (taken : List Row) → AreRead map_of name def parts tail taken
        → (made : RowChange) → IsDeleting name session.next def taken made → Deletes db name parts tail (Ok made)
    made_deletes none taken read made of =
        subst (λ (m : RowChange). Deletes db name parts tail (Ok m)) (sym (deleting_is name session.next def taken made of))
        (subst (λ (n : ℕ). Deletes db name parts tail (Ok (record { table = name; deletes = map (delete_of def) taken; puts = []; next = n }))) (sym stands.defs.next)
        (subst (λ (d : TableDef). Deletes db name parts tail (Ok (record { table = name; deletes = map (delete_of d) taken; puts = []; next = db.next }))) the_table.2
        (deleted_means db name the_table.0 stands.holds.sound the_table.1 parts taken are (delete db name parts tail)
        (delete_is
        ∙ ap (λ o. refused_by o (with_deleted_rows db name the_table.0.rows (candidates def parts tail the_table.0.rows))) none
        ∙ ap (with_deleted_rows db name the_table.0.rows) (sym is)))))
      where
        up : AreRising the_table.0.rows
        up = (sound_table db stands.holds.sound name the_table.0 the_table.1).rows.rising

        is : taken ≡ candidates def parts tail the_table.0.rows
        is = read the_table.0.rows up (subst (λ (d : TableDef). HoldsSpots (by_name map_of) name d the_table.0.rows) the_table.2 (spots_hold session map_of db is_open stands name the_table.0 the_table.1))

        are : AreTaken the_table.0.def parts the_table.0.rows taken
        are = subst (AreTaken the_table.0.def parts the_table.0.rows) (sym (is ∙ ap (λ (d : TableDef). candidates d parts tail the_table.0.rows) (sym the_table.2))) (taken_are the_table.0.def parts tail the_table.0.rows up)

-- # Nothing has changed yet

abbrev plain : BTreeMap (ℕ × ℕ) Book → Work
plain books = record { books = books; deletes = []; puts = [] }

plain_moving : (next : ℕ) (def : TableDef) (rows : List Row) (books : BTreeMap (ℕ × ℕ) Book) → IsEmpty books → AreSoundRows next def rows → IsMoving next def rows (unchanged rows) (plain books)
plain_moving next def rows books empty sound = record {
  books = λ keyed. subst (λ (now : List Row). AreBooks def rows now books) (append-nil rows) (books_none def rows books empty);
  sound = sound;
  each = λ serial. refl;
  counted = refl;
  old = λ serial some. some;
  in_place = All-nil _;
  apart = λ i j d before below. absurd (omega (arith, below));
  once = λ i j d before below. absurd (omega (arith, below));
  gone = All-nil _;
  other = All-nil _;
}

plain_works : (def : TableDef) (books : BTreeMap (ℕ × ℕ) Book) → IsWork def (plain books)
plain_works def books = record { deletes = All-nil _; puts = All-nil _; many = refl }

module _ (start : Work) (no_deletes : start.deletes ≡ []) (no_puts : start.puts ≡ []) where
  start_is : start ≡ plain start.books
  start_is = ap₂ (λ (ds : List (Spot × ℕ)) (ps : List (Spot × Row)). let w : Work = record { books = start.books; deletes = ds; puts = ps } in w) no_deletes no_puts

  pub start_works : (def : TableDef) → IsWork def start
  start_works def = subst (IsWork def) (sym start_is) (plain_works def start.books)

  start_fresh : (serial : ℕ) → IsFresh start serial
  start_fresh serial = subst (λ (w : Work). IsFresh w serial) (sym start_is) (record { undeleted = refl; unput = refl })

  start_moving : (next : ℕ) (def : TableDef) (rows : List Row) → IsEmpty start.books → AreSoundRows next def rows → IsMoving next def rows (unchanged rows) start
  start_moving next def rows empty sound = subst (IsMoving next def rows (unchanged rows)) (sym start_is) (plain_moving next def rows start.books empty sound)

-- # UPDATE

-- what is told of the rows that are updated, whatever the table's rows were
abbrev pub Told : FileList → List ℕ → ℕ → TableDef → Option (List (List ℕ)) → List (List ℕ × ValueSpec) → List Row → Work → Work → Result (Unit {0}) Halt → Type 0
Told map_of name next def parts assigns taken start work r =
    (before : List Row) → HoldsSpots (by_name map_of) name def before → AreTaken def parts before taken → ((serial : ℕ) → IsFresh start serial) → IsMoving next def before (unchanged before) start
    → Moves next def before (update_rows def parts assigns 1 (unchanged before) taken) work r

module _ (session : Session) (map_of : FileList) (db : Db) (is_open : IsOpen session) (stands : StandsIn session map_of db) (name : List ℕ) (parts : Option (List (List ℕ))) (assigns : List (List ℕ × ValueSpec)) (tail : Tail) where
  pub absent_updates : def_of session name ≡ None → Updates db name parts assigns tail (Err (halt.Refused (refusal.NoSuchTable name)))
  absent_updates none = ap (λ o. passed (found o (refusal.NoSuchTable name) (updated_in name parts assigns tail)) (with_updating db name)) (absent session map_of db is_open stands name none)

  module _ (def : TableDef) (some : def_of session name ≡ Some def) where
    own_table : (table : Table) × (table_of db name ≡ Some table) × (table.def ≡ def)
    own_table = held session map_of db is_open stands name def some

    -- what comes of the rows that are taken
    abbrev rows_of : List Row → Result Updating Refusal
    rows_of taken = update_rows def parts assigns 1 (unchanged own_table.0.rows) taken

    update_is : update db name parts assigns tail ≡ passed (refused_by (option_or (bad_parts def name parts) (bad_update def name assigns tail)) (rows_of (candidates def parts tail own_table.0.rows))) (with_updating db name)
    update_is =
        ap (λ r. passed r (with_updating db name))
        (ap (λ o. found o (refusal.NoSuchTable name) (updated_in name parts assigns tail)) own_table.1
        ∙ ap (λ d. refused_by (bad_parts d name parts) (refused_by (bad_update d name assigns tail) (update_rows d parts assigns 1 (unchanged own_table.0.rows) (candidates d parts tail own_table.0.rows)))) own_table.2
        ∙ refused_both (bad_parts def name parts) (bad_update def name assigns tail) (rows_of (candidates def parts tail own_table.0.rows)))

    pub refused_updates : (why : Refusal) → option_or (bad_parts def name parts) (bad_update def name assigns tail) ≡ Some why → Updates db name parts assigns tail (Err (halt.Refused why))
    refused_updates why is = update_is ∙ ap (λ o. passed (refused_by o (rows_of (candidates def parts tail own_table.0.rows))) (with_updating db name)) is

    module _ (none : option_or (bad_parts def name parts) (bad_update def name assigns tail) ≡ None) (taken : List Row) (read : AreRead map_of name def parts tail taken)
        (start : Work) (no_books : IsEmpty start.books) (no_deletes : start.deletes ≡ []) (no_puts : start.puts ≡ []) where
      holds : HoldsSpots (by_name map_of) name def own_table.0.rows
      holds = subst (λ (d : TableDef). HoldsSpots (by_name map_of) name d own_table.0.rows) own_table.2 (spots_hold session map_of db is_open stands name own_table.0 own_table.1)

      sound_rows : AreSoundRows db.next own_table.0.def own_table.0.rows
      sound_rows = (sound_table db stands.holds.sound name own_table.0 own_table.1).rows

      sound : AreSoundRows session.next def own_table.0.rows
      sound = subst (λ n. AreSoundRows n def own_table.0.rows) (sym stands.defs.next) (subst (λ d. AreSoundRows db.next d own_table.0.rows) own_table.2 sound_rows)

      taken_is : taken ≡ candidates def parts tail own_table.0.rows
      taken_is = read own_table.0.rows sound.rising holds

      are : AreTaken def parts own_table.0.rows taken
      are = subst (AreTaken def parts own_table.0.rows) (sym taken_is) (taken_are def parts tail own_table.0.rows sound.rising)

      model : update db name parts assigns tail ≡ passed (rows_of taken) (with_updating db name)
      model =
          update_is
          ∙ ap (λ o. passed (refused_by o (rows_of (candidates def parts tail own_table.0.rows))) (with_updating db name)) none
          ∙ ap (λ rows. passed (rows_of rows) (with_updating db name)) (sym taken_is)

      of_table : (work : Work) (r : Result (Unit {0}) Halt) → Told map_of name session.next def parts assigns taken start work r → Moves session.next def own_table.0.rows (update_rows def parts assigns 1 (unchanged own_table.0.rows) taken) work r
      of_table work r told = told own_table.0.rows holds are (start_fresh start no_deletes no_puts) (start_moving start no_deletes no_puts session.next def own_table.0.rows no_books sound)

      pub moved_updates : (work : Work) → Told map_of name session.next def parts assigns taken start work (Ok tt) → IsWork def work → Updates db name parts assigns tail (Ok (record { change = change_of name session.next work; matched = length taken }))
      moved_updates work told w =
          let moves = of_table work (Ok tt) told in
          let updating : Updating = moves.0 in
          let all : updating.matched ≡ 0 + length taken = rows_matched def parts assigns 1 (unchanged own_table.0.rows) updating taken moves.1 in
          let matched : updating.matched ≡ length taken = omega (arith, all) in
          let moving = subst (λ d. IsMoving db.next d own_table.0.rows updating work) (sym own_table.2) (subst (λ n. IsMoving n def own_table.0.rows updating work) stands.defs.next moves.2) in
          subst (λ n. Updates db name parts assigns tail (Ok (record { change = change_of name n work; matched = length taken }))) (sym stands.defs.next)
          (updated_means db name own_table.0 stands.holds.sound own_table.1 updating work moving (subst (λ d. IsWork d work) (sym own_table.2) w) (length taken) (update db name parts assigns tail)
          matched
          (model ∙ ap (λ r. passed r (with_updating db name)) moves.1))

      pub halted_updates : (work : Work) (e : Halt) → Told map_of name session.next def parts assigns taken start work (Err e) → Updates db name parts assigns tail (Err e)
      halted_updates work (halt.Refused why) told = model ∙ ap (λ r. passed r (with_updating db name)) (of_table work (Err (halt.Refused why)) told)
      halted_updates work (halt.Stopped stop) told = tt

-- # The definition that a session has

pub some_is : (session : Session) (name : List ℕ) (def : TableDef) → def_of session name ≡ Some def → (P : TableDef → Type 0) → P def → IsSomeAnd (def_of session name) P
some_is session name def some P here = subst (λ (o : Option TableDef). IsSomeAnd o P) (sym some) here

-- the same change and number
pub updated_as : (db : Db) (name : List ℕ) (parts : Option (List (List ℕ))) (assigns : List (List ℕ × ValueSpec)) (tail : Tail) (done : Moved) (made : RowChange) (matched : ℕ) → done.change ≡ made → done.matched ≡ matched
    → Updates db name parts assigns tail (Ok (record { change = made; matched = matched })) → Updates db name parts assigns tail (Ok done)
updated_as db name parts assigns tail done made matched change_is matched_is updates =
    subst (λ (d : Moved). Updates db name parts assigns tail (Ok d))
    (sym (ap₂ (λ (c : RowChange) (n : ℕ). let d : Moved = record { change = c; matched = n } in d) change_is matched_is)) updates
