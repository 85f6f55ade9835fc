-- The change that an INSERT or a REPLACE makes of a database.
use Rattle.std.proofs.Common.{◌≡◌, ◌⊎◌, inl, inr, ℕ, ◌<◌, ◌≤◌, ◌^◌, Bool, true, false, ◌&&◌, List, [], ◌∷◌, ◌++◌, length, Option, Some, None, Ok, refl, sym, ap, ap₂, ◌∙◌, subst, arith, true≢false, append-nil}
use Rattle.std.specs.Prelude.{IfSome, IsSome, IsSomeAnd}
use Rattle.std.specs.Option.{option_or}
use Rattle.std.specs.Str.{bytes_eq}
use Rattle.std.proofs.lemmas.Bool.{lt-ltb}
use Rattle.std.proofs.lemmas.List.Elements.{All-weaker}
use Rattle.std.proofs.lemmas.Slice.Eq.{bytes_eq-Decides}
use Rattle.pt_value.specs.declared.value.Value.{Value}
use Rattle.pt_ast.specs.declared.database.Db.{Db}
use Rattle.pt_ast.specs.declared.database.Row.{Row}
use Rattle.pt_ast.specs.declared.database.Spot.{Spot}
use Rattle.pt_ast.specs.declared.database.Table.{Table}
use Rattle.pt_ast.specs.declared.statement.NewRows.{NewRows}
use Rattle.pt_ast.specs.declared.table.TableDef.{TableDef}
use Rattle.pt_place.specs.Place.{place_of}
use Rattle.pt_place.specs.Valid.{IsValid}
use Rattle.pt_rowfile.specs.Rows.{is_serial}
use Rattle.pt_db.specs.Lookup.{filled, table_in, table_of, with_rows}
use Rattle.pt_db.specs.Outcome.{passed}
use Rattle.pt_db.specs.Rows.{row_at}
use Rattle.pt_db.specs.Sound.{IsSound}
use Rattle.pt_db.specs.Spots.{IsSpotOf}
use Rattle.pt_db.proofs.Lookups.{rows_rise, same_tables, table_other, table_same}
use Rattle.pt_db.proofs.Serials.{row_appended}
use Rattle.pt_db.proofs.Sounds.{filled_sound}
use Rattle.pt_db.proofs.Spots.{placed_spot}
use Rattle.pt_flat.specs.declared.filling.InsertMode.{InsertMode}
use Rattle.pt_flat.specs.Insert.{filled_text, insert_rows, with_filled}
use Rattle.pt_holds.specs.Fit.{FitsColumns}
use Rattle.pt_holds.specs.RowChanges.{IsChangeOf, IsRowChange, changed_at, is_deleted, kept, rows_put}
use Rattle.pt_session.specs.declared.session.Session.{Session}
use Rattle.pt_session.specs.Session.{IsKept, IsOpen, def_of}
use Rattle.pt_dml.specs.declared.work.Work.{Work}
use Rattle.pt_dml.specs.Inserts.{IsInserted}
use Rattle.pt_dml.specs.Work.{IsMade, IsPut, IsWork, change_of, filling_of, rows_now, stay}
use Rattle.pt_dml.proofs.Now.{either_none, put_none, stay_all, stay_at}

-- # Over every host

serial_is : (first next serial : ℕ) → 0 < first → next ≤ 2 ^ 62 → first ≤ serial → serial < next → is_serial serial ≡ true
serial_is first next serial some most from below =
    ap₂ (λ (a b : Bool). a && b) (lt-ltb 0 serial (omega (arith, some, from))) (lt-ltb serial (2 ^ 62) (omega (arith, most, below)))

pub row_change : (name : List ℕ) (def : TableDef) (number : ℕ) (work : Work) → IsValid def → IsWork def number work → IsRowChange def (change_of name work)
row_change name def number work valid w = record {
  deletes = w.deletes;
  puts = All-weaker (IsPut work.first work.next def) (λ (p : Spot × Row). IsSpotOf def p.0) (λ p is. placed_spot def valid p.1.cells p.0 is.placed) work.puts w.puts;
  fit = All-weaker (IsPut work.first work.next def) (λ (p : Spot × Row). FitsColumns def p.1) (λ p is. is.fits) work.puts w.puts;
  serials = All-weaker (IsPut work.first work.next def) (λ (p : Spot × Row). is_serial p.1.serial ≡ true) (λ p is. serial_is work.first work.next p.1.serial w.some w.most is.from is.below) work.puts w.puts;
  least = (let some = w.some in let counted = w.counted in omega (arith, some, counted));
  most = w.most;
}

pub may_write : (session : Session) (name : List ℕ) (work : Work) → IsOpen session → IsSomeAnd (def_of session name) (λ def. IsMade session.next def work) → IsSomeAnd (def_of session name) (λ def. IsRowChange def (change_of name work))
may_write session name work is_open = by (def_of session name) (is_open.defs name)
  where
    by : (o : Option TableDef) → IfSome o (IsKept name) → IsSomeAnd o (λ def. IsMade session.next def work) → IsSomeAnd o (λ def. IsRowChange def (change_of name work))
    by None kept had = had
    by (Some def) kept had = row_change name def had.number work kept.valid had.done

-- # Nothing is changed

same_filled : (db : Db) (name : List ℕ) (table : Table) → IsSound db → table_of db name ≡ Some table → filled db name table.rows db.next ≡ db
same_filled db name table sound held =
    ap (λ tables. let d : Db = record { tables = tables; next = db.next } in d)
    (same_tables (with_rows name table.rows db.tables) db.tables (rows_rise name table.rows db.tables sound.rising) sound.rising (λ query. by query (bytes_eq name query) refl))
  where
    by : (query : List ℕ) (t : Bool) → bytes_eq name query ≡ t → table_in (with_rows name table.rows db.tables) query ≡ table_in db.tables query
    by query true e = subst (λ q. table_in (with_rows name table.rows db.tables) q ≡ table_in db.tables q) ((bytes_eq-Decides name query).0 e) (table_same name table.rows db.tables table held ∙ sym held)
    by query false e = table_other name table.rows db.tables query (λ same. true≢false (sym ((bytes_eq-Decides name query).1 same) ∙ e))

no_rows : {X : Type 0} (xs : List X) → length xs ≡ 0 → xs ≡ []
no_rows [] e = refl
no_rows (x ∷ xs) e = absurd (omega (arith, e))

module _ (how : InsertMode) (db : Db) (new : NewRows) (work : Work) (i : IsInserted how db new work) (sound : IsSound db) (w : IsMade db.next i.table.def work) where
  abbrev rows : List Row
  rows = rows_now i.table.rows work

  abbrev later : Db
  later = filled db new.table rows work.next

  abbrev text : List ℕ
  text = filled_text how (filling_of i.table.rows work)

  pub means : insert_rows how db new ≡ Ok (record { db = later; text = text })
  means = ap (λ r. passed r (with_filled how db new.table)) i.is

  -- the same database is left
  pub means_same : work.next ≡ work.first → insert_rows how db new ≡ Ok (record { db = db; text = text })
  means_same none =
      means
      ∙ ap (λ d. Ok (record { db = d; text = text }))
      (ap (λ rs. filled db new.table rs work.next) same_rows
      ∙ ap (λ n. filled db new.table i.table.rows n) (none ∙ w.begun)
      ∙ same_filled db new.table i.table sound i.held)
    where
      no_puts : work.puts ≡ []
      no_puts = no_rows work.puts (let counted = w.done.counted in omega (arith, counted, none))

      same_rows : rows ≡ i.table.rows
      same_rows =
          ap₂ (λ (deletes : List (Spot × ℕ)) (puts : List (Spot × Row)). stay deletes i.table.rows ++ rows_put puts) (i.on.none none) no_puts
          ∙ append-nil (stay [] i.table.rows)
          ∙ stay_all i.table.rows

  -- # Something is

  either : (serial : ℕ) → (row_at (rows_put work.puts) serial ≡ None) ⊎ (kept (is_deleted work.deletes serial) (row_at i.table.rows serial) ≡ None)
  either serial = either_none work.first work.next i.table.def work.puts w.done.puts i.table.rows i.on.over.below work.deletes i.on.over.rising serial

  or_turned : {X : Type 0} (a b : Option X) → (b ≡ None) ⊎ (a ≡ None) → option_or a b ≡ option_or b a
  or_turned None None none = refl
  or_turned None (Some y) none = refl
  or_turned (Some x) None none = refl
  or_turned (Some x) (Some y) (inl none) = cc
  or_turned (Some x) (Some y) (inr none) = cc

  each_serial : (serial : ℕ) → row_at rows serial ≡ changed_at work.deletes work.puts i.table.rows serial
  each_serial serial =
      row_appended (stay work.deletes i.table.rows) (rows_put work.puts) serial
      ∙ ap (λ o. option_or o (row_at (rows_put work.puts) serial)) (stay_at work.deletes i.table.rows serial i.on.over.rising)
      ∙ or_turned (kept (is_deleted work.deletes serial) (row_at i.table.rows serial)) (row_at (rows_put work.puts) serial) (either serial)

  -- below the first new serial stand old rows
  old_row : (serial : ℕ) → serial < db.next → IsSome (row_at rows serial) → IsSome (row_at i.table.rows serial)
  old_row serial below some = by (is_deleted work.deletes serial) (row_at i.table.rows serial) refl (subst IsSome (each_serial serial ∙ ap (λ o. option_or o (kept (is_deleted work.deletes serial) (row_at i.table.rows serial))) none) some)
    where
      none : row_at (rows_put work.puts) serial ≡ None
      none = put_none work.first work.next i.table.def work.puts w.done.puts serial (subst (λ n. serial < n) (sym w.begun) below)

      by : (t : Bool) (o : Option (List Value)) → row_at i.table.rows serial ≡ o → IsSome (kept t o) → IsSome (row_at i.table.rows serial)
      by true o at is = let bad : false ≡ true = is in absurd (true≢false (sym bad))
      by false o at is = subst IsSome (sym at) is

  pub changes : IsChangeOf (change_of new.table work) db later
  changes = record {
    table = i.table;
    held = i.held;
    rows = rows;
    is = refl;
    in_place = record {
      deletes = i.on.over.gone.there;
      puts = All-weaker (IsPut work.first work.next i.table.def) (λ (p : Spot × Row). place_of i.table.def p.1.cells ≡ Some p.0) (λ p is. is.placed) work.puts w.done.puts;
    };
    each = each_serial;
    apart = i.on.over.gone.apart;
    once = w.done.once;
    new = either;
    sound = filled_sound db new.table i.table rows work.next sound i.held i.on.over.sound (let counted = w.done.counted in let first = w.begun in omega (arith, counted, first)) w.done.most old_row;
  }

  pub differs : (work.next ≡ work.first → ⊥) → later ≡ db → ⊥
  differs apart same = let next : work.next ≡ db.next = ap (λ (d : Db). d.next) same in apart (next ∙ sym w.begun)
