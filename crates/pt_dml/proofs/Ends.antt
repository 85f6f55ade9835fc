-- The ends of an INSERT or a REPLACE, as all that its execution tells.
use Rattle.std.proofs.Common.{◌≡◌, ℕ, ◌+◌, ◌<◌, ◌≤◌, ◌^◌, List, [], ◌++◌, length, arith, Option, Some, None, Result, Ok, Err, refl, sym, ap, ap₂, ◌∙◌, subst, append-nil}
use Rattle.std.specs.Prelude.{IsSomeAnd}
use Rattle.std.specs.List.{All}
use Rattle.std.specs.Option.{option_map}
use Rattle.std.specs.BTreeMap.{IsEmpty}
use Rattle.std.proofs.lemmas.List.Elements.{All-nil, All-weaker}
use Rattle.pt_host.specs.Listed.{FileList, by_name}
use Rattle.pt_ast.specs.declared.database.Db.{Db}
use Rattle.pt_ast.specs.declared.database.Row.{Row}
use Rattle.pt_ast.specs.declared.database.Spot.{Spot}
use Rattle.pt_ast.specs.declared.database.Table.{Table}
use Rattle.pt_ast.specs.declared.refusal.Refusal.{Refusal}
use Rattle.pt_ast.specs.declared.refusal.Refusal.TheVariants as refusal
use Rattle.pt_ast.specs.declared.statement.NewRows.{NewRows}
use Rattle.pt_ast.specs.declared.table.TableDef.{TableDef}
use Rattle.pt_checks.specs.declared.faults.CellsFault.{CellsFault}
use Rattle.pt_checks.specs.declared.faults.CellsFault.TheVariants as fault
use Rattle.pt_checks.specs.Given.{Gives}
use Rattle.pt_db.specs.Lookup.{filled, table_of}
use Rattle.pt_db.specs.Outcome.{found, passed}
use Rattle.pt_db.specs.Sound.{AreSoundRows, IsSoundRow}
use Rattle.pt_db.specs.Spots.{IsSpotOf}
use Rattle.pt_db.proofs.Sounds.{sound_table}
use Rattle.pt_flat.specs.declared.filling.Filling.{Filling}
use Rattle.pt_flat.specs.declared.filling.InsertMode.{InsertMode}
use Rattle.pt_flat.specs.declared.filling.InsertMode.TheVariants as mode
use Rattle.pt_flat.specs.Insert.{fill, filled_text, insert_rows, inserted, inserted_into, unfilled, with_filled}
use Rattle.pt_holds.specs.RowChanges.{AreOnce, IsChangeOf, rows_put}
use Rattle.pt_session.specs.declared.session.Session.{Session}
use Rattle.pt_session.specs.HeldSpots.{HoldsSpots}
use Rattle.pt_session.specs.Session.{IsOpen, StandsIn, def_of}
use Rattle.pt_session.proofs.Names.{some_and}
use Rattle.pt_session.proofs.TablesHeld.{absent, held, same_def, spots_hold}
use Rattle.pt_session.proofs.Telling.{MeansChange}
use Rattle.pt_books.specs.declared.halt.Halt.{Halt}
use Rattle.pt_books.specs.declared.halt.Halt.TheVariants as halt
use Rattle.pt_books.specs.Books.{AreBooks}
use Rattle.pt_books.specs.Halts.{of_fault}
use Rattle.pt_books.proofs.Spots.{books_none}
use Rattle.pt_dml.specs.declared.work.Work.{Work}
use Rattle.pt_dml.specs.Inserts.{Inserts, IsInserted}
use Rattle.pt_dml.specs.Parts.{checked}
use Rattle.pt_dml.specs.Work.{AreGone, Fills, IsMade, IsPut, IsWork, IsWorkOn, added_of, change_of, deleted_of, filling_of, reply_text, rows_now, stay}
use Rattle.pt_dml.proofs.Changes.{changes, differs, means, means_same}
use Rattle.pt_dml.proofs.Models.{table_parts}
use Rattle.pt_dml.proofs.Now.{stay_all}

-- # Nothing yet

-- what a new work is
pub record IsStart (from : ℕ) (work : Work) : Type 0 where
  pub books : IsEmpty work.books
  pub deletes : work.deletes ≡ []
  pub puts : work.puts ≡ []
  pub first : work.first ≡ from
  pub next : work.next ≡ from
  pub skipped : work.skipped ≡ 0

module _ (def : TableDef) (session : Session) (start : Work) (is_open : IsOpen session) (starts : IsStart session.next start) where
  no_puts : length start.puts ≡ 0
  no_puts = ap (λ (puts : List (Spot × Row)). length puts) starts.puts

  pub start_works : IsWork def 1 start
  start_works = record {
    some = subst (λ n. 0 < n) (sym starts.first) is_open.some;
    deletes = subst (All (λ (delete : Spot × ℕ). IsSpotOf def delete.0)) (sym starts.deletes) (All-nil (λ (delete : Spot × ℕ). IsSpotOf def delete.0));
    puts = subst (All (IsPut start.first start.next def)) (sym starts.puts) (All-nil (IsPut start.first start.next def));
    once = subst AreOnce (sym starts.puts) (λ i j d before below. absurd (omega (arith, below)));
    counted = (let none = no_puts in let first = starts.first in let next = starts.next in omega (arith, none, first, next));
    most = subst (λ n. n ≤ 2 ^ 62) (sym starts.next) is_open.most;
    skipped = (let skipped = starts.skipped in omega (arith, skipped));
  }

-- after all rows
pub made : (def : TableDef) (first : ℕ) (start work : Work) → start.first ≡ first → IsMade start.first def work → IsMade first def work
made def first start work is had = record { number = had.number; done = had.done; begun = had.begun ∙ is }

module _ (session : Session) (new : NewRows) (work : Work) (w : IsSomeAnd (def_of session new.table) (λ def. IsMade session.next def work)) where
  pub made_counted : work.first + length work.puts ≤ work.next
  made_counted = by (def_of session new.table) w
    where
      by : (o : Option TableDef) → IsSomeAnd o (λ def. IsMade session.next def work) → work.first + length work.puts ≤ work.next
      by None had = absurd had
      by (Some def) had = had.done.counted

  pub made_most : work.next ≤ 2 ^ 62
  made_most = by (def_of session new.table) w
    where
      by : (o : Option TableDef) → IsSomeAnd o (λ def. IsMade session.next def work) → work.next ≤ 2 ^ 62
      by None had = absurd had
      by (Some def) had = had.done.most

-- # What the rows come to

module _ (how : InsertMode) (session : Session) (map : FileList) (db : Db) (is_open : IsOpen session) (stands : StandsIn session map db) (new : NewRows) where
  pub absent_inserts : def_of session new.table ≡ None → Inserts how db new (Err (halt.Refused (refusal.NoSuchTable new.table)))
  absent_inserts none = ap (λ o. found o (refusal.NoSuchTable new.table) (inserted_into how db new)) (absent session map db is_open stands new.table none)

  module _ (def : TableDef) (some : def_of session new.table ≡ Some def) where
    the_table : (table : Table) × (table_of db new.table ≡ Some table) × (table.def ≡ def)
    the_table = held session map db is_open stands new.table def some

    into : inserted how db new ≡ passed (checked def new) (λ columns. fill how def new 1 (unfilled the_table.0.rows db.next) new.rows)
    into =
        ap (λ o. found o (refusal.NoSuchTable new.table) (inserted_into how db new)) the_table.1
        ∙ table_parts how db new the_table.0
        ∙ ap (λ d. passed (checked d new) (λ columns. fill how d new 1 (unfilled the_table.0.rows db.next) new.rows)) the_table.2

    pub unchecked_inserts : (e : CellsFault) → Gives (checked def new) (Err e) → Inserts how db new (Err (of_fault e))
    unchecked_inserts (fault.Refused why) gives = into ∙ ap (λ r. passed r (λ columns. fill how def new 1 (unfilled the_table.0.rows db.next) new.rows)) gives
    unchecked_inserts fault.NoMemory gives = tt

    module _ (start : Work) (starts : IsStart session.next start) where
      start_rows : rows_now the_table.0.rows start ≡ the_table.0.rows
      start_rows =
          ap₂ (λ (deletes : List (Spot × ℕ)) (puts : List (Spot × Row)). stay deletes the_table.0.rows ++ rows_put puts) starts.deletes starts.puts
          ∙ append-nil (stay [] the_table.0.rows)
          ∙ stay_all the_table.0.rows

      start_next : start.next ≡ db.next
      start_next = starts.next ∙ stands.defs.next

      start_added : added_of start ≡ 0
      start_added = let first = starts.first in let next = starts.next in omega (arith, first, next)

      start_deleted : deleted_of start ≡ 0
      start_deleted =
          let first = starts.first in
          let next = starts.next in
          let gone : length start.deletes ≡ 0 = ap (λ (deletes : List (Spot × ℕ)). length deletes) starts.deletes in
          omega (arith, first, next, gone)

      start_is : filling_of the_table.0.rows start ≡ unfilled the_table.0.rows db.next
      start_is =
          ap (λ rows. let f : Filling = record { rows = rows; next = start.next; added = added_of start; skipped = start.skipped; deleted = deleted_of start } in f) start_rows
          ∙ ap (λ n. let f : Filling = record { rows = the_table.0.rows; next = n; added = added_of start; skipped = start.skipped; deleted = deleted_of start } in f) start_next
          ∙ ap (λ n. let f : Filling = record { rows = the_table.0.rows; next = db.next; added = n; skipped = start.skipped; deleted = deleted_of start } in f) start_added
          ∙ ap (λ n. let f : Filling = record { rows = the_table.0.rows; next = db.next; added = 0; skipped = n; deleted = deleted_of start } in f) starts.skipped
          ∙ ap (λ n. let f : Filling = record { rows = the_table.0.rows; next = db.next; added = 0; skipped = 0; deleted = n } in f) start_deleted

      start_sound : AreSoundRows db.next def the_table.0.rows
      start_sound = subst (λ d. AreSoundRows db.next d the_table.0.rows) the_table.2 (sound_table db stands.holds.sound new.table the_table.0 the_table.1).rows

      start_on : IsWorkOn def the_table.0.rows start
      start_on = record {
        over = record {
          books = λ keyed. subst (λ rows. AreBooks def the_table.0.rows rows start.books) (append-nil the_table.0.rows ∙ sym start_rows) (books_none def the_table.0.rows start.books starts.books);
          sound = subst (AreSoundRows start.next def) (sym start_rows) (subst (λ n. AreSoundRows n def the_table.0.rows) (sym start_next) start_sound);
          rising = start_sound.rising;
          below = subst (λ n. All (λ (row : Row). row.serial < n) the_table.0.rows) (sym (starts.first ∙ stands.defs.next))
              (All-weaker (IsSoundRow db.next def) (λ (row : Row). row.serial < db.next) (λ row s. s.below) the_table.0.rows start_sound.each);
          gone = subst (AreGone def the_table.0.rows) (sym starts.deletes) (record { there = All-nil _; apart = λ i j d before below. absurd (omega (arith, below)) });
        };
        none = λ same. starts.deletes;
      }

      model : (columns : List ℕ) → Gives (checked def new) (Ok columns) → inserted how db new ≡ fill how def new 1 (filling_of the_table.0.rows start) new.rows
      model columns gives =
          into
          ∙ ap (λ r. passed r (λ cs. fill how def new 1 (unfilled the_table.0.rows db.next) new.rows)) gives
          ∙ ap (λ f. fill how def new 1 f new.rows) (sym start_is)

      -- what `fill` tells of the table's rows
      abbrev pub Filled : List ℕ → Work → Result (Unit {0}) Halt → Type 0
      Filled name work r = (before : List Row) → HoldsSpots (by_name map) name def before → IsWorkOn def before start → Fills def before (fill how def new 1 (filling_of before start) new.rows) work r

      of_table : (work : Work) (r : Result (Unit {0}) Halt) → Filled new.table work r → Fills def the_table.0.rows (fill how def new 1 (filling_of the_table.0.rows start) new.rows) work r
      of_table work r told =
          told the_table.0.rows (subst (λ d. HoldsSpots (by_name map) new.table d the_table.0.rows) the_table.2 (spots_hold session map db is_open stands new.table the_table.0 the_table.1)) start_on

      pub filled_inserts : (columns : List ℕ) → Gives (checked def new) (Ok columns) → (work : Work) → Filled new.table work (Ok tt) → Inserts how db new (Ok work)
      filled_inserts columns gives work told =
          let fills = of_table work (Ok tt) told in
          record { table = the_table.0; held = the_table.1; is = model columns gives ∙ fills.0; on = subst (λ d. IsWorkOn d the_table.0.rows work) (sym the_table.2) fills.1 }

      pub halted_inserts : (columns : List ℕ) → Gives (checked def new) (Ok columns) → (work : Work) (e : Halt) → Filled new.table work (Err e) → Inserts how db new (Err e)
      halted_inserts columns gives work (halt.Refused why) told = model columns gives ∙ of_table work (Err (halt.Refused why)) told
      halted_inserts columns gives work (halt.Stopped stop) told = tt

-- # What is told

module _ (how : InsertMode) (session : Session) (map : FileList) (is_open : IsOpen session) (new : NewRows) (work : Work) (w : IsSomeAnd (def_of session new.table) (λ def. IsMade session.next def work))
    (inserted_is : (db : Db) → StandsIn session map db → IsInserted how db new work) where
  works : (db : Db) (stands : StandsIn session map db) → IsMade db.next (inserted_is db stands).table.def work
  works db stands =
      let i = inserted_is db stands in
      let def : def_of session new.table ≡ Some i.table.def = same_def session map db is_open stands new.table ∙ ap (option_map (λ (t : Table). t.def)) i.held in
      subst (λ n. IsMade n i.table.def work) stands.defs.next (some_and (def_of session new.table) i.table.def (λ d. IsMade session.next d work) def w)

  -- the counts don't depend on the rows of before
  same_text : (h : InsertMode) (before : List Row) → filled_text h (filling_of before work) ≡ reply_text h work
  same_text mode.Refuse before = refl
  same_text mode.Skip before = refl
  same_text mode.Replace before = refl

  pub means_same_db : work.next ≡ work.first → (db : Db) → StandsIn session map db → insert_rows how db new ≡ Ok (record { db = db; text = reply_text how work })
  means_same_db none db stands =
      let i = inserted_is db stands in
      means_same how db new work i stands.holds.sound (works db stands) none ∙ ap (λ t. Ok (record { db = db; text = t })) (same_text how i.table.rows)

  pub means_change : (work.next ≡ work.first → ⊥) → (db : Db) → StandsIn session map db → MeansChange (IsChangeOf (change_of new.table work)) db (reply_text how work) (insert_rows how db new)
  means_change some db stands =
      let i = inserted_is db stands in
      let made = works db stands in
      record {
        later = filled db new.table (rows_now i.table.rows work) work.next;
        is = means how db new work i stands.holds.sound made
            ∙ ap (λ t. Ok (record { db = filled db new.table (rows_now i.table.rows work) work.next; text = t })) (same_text how i.table.rows);
        change = changes how db new work i stands.holds.sound made;
        differs = differs how db new work i stands.holds.sound made some;
      }

-- a refusal
pub refused_means : (how : InsertMode) (db : Db) (new : NewRows) (why : Refusal) → Inserts how db new (Err (halt.Refused why)) → insert_rows how db new ≡ Err why
refused_means how db new why is = ap (λ r. passed r (with_filled how db new.table)) is
