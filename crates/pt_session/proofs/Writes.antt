-- What a change of rows leaves of a session.
use Rattle.std.proofs.Common.{◌≡◌, ◌⊎◌, inl, inr, ℕ, ◌<◌, ◌≤◌, ◌^◌, Bool, true, false, true≢false, List, map, refl, sym, ap, ◌∙◌, subst, ◌++◌, [], append-nil}
use Rattle.std.specs.Prelude.{Some, None, Option, IsSome, IsSomeAnd, IfOk, IsTrue, Result, Ok, Err}
use Rattle.std.specs.Option.{option_map, unwrap_or}
use Rattle.std.specs.Str.{bytes_eq}
use Rattle.std.proofs.lemmas.List.Elements.{All-weaker}
use Rattle.std.proofs.lemmas.Slice.Eq.{bytes_eq-Decides}
use Rattle.pt_rowfile.proofs.Parts.{one_some}
use Rattle.pt_rowfile.specs.Counter.{counter_of}
use Rattle.pt_bytes.specs.Numbers.{le_bytes}
use Rattle.pt_place.specs.Place.{leaf_of}
use Rattle.pt_defs.specs.Reading.{def_at}
use Rattle.pt_value.specs.Ident.{IsIdent}
use Rattle.pt_host.specs.Listed.{FileList, by_name}
use Rattle.pt_host.specs.World.{World}
use Rattle.pt_names.specs.Names.{def_name, serials_name}
use Rattle.pt_ast.specs.declared.database.Db.{Db}
use Rattle.pt_ast.specs.declared.database.Row.{Row}
use Rattle.pt_ast.specs.declared.database.Table.{Table}
use Rattle.pt_ast.specs.declared.table.TableDef.{TableDef}
use Rattle.pt_store.specs.declared.store.Store.{Store}
use Rattle.pt_store.specs.declared.stop.Stop.{Stop}
use Rattle.pt_store.specs.declared.stop.Stop.TheVariants.{NoMemory, Fault, Bad}
use Rattle.pt_store.specs.Batch.{IsBatch, added_to, appended}
use Rattle.pt_store.specs.Entries.{length_in}
use Rattle.pt_store.specs.Stops.{ByStop}
use Rattle.pt_store.specs.Store as store
use Rattle.pt_store.specs.Store.{IsStore, sizes}
use Rattle.pt_store.proofs.Listing.{appended_read}
use Rattle.pt_db.specs.Lookup.{filled, table_of}
use Rattle.pt_db.proofs.Lookups.{table_other, table_same}
use Rattle.pt_holds.specs.declared.change.RowChange.{RowChange}
use Rattle.pt_holds.specs.Batch.{IsBatchOf, IsRowFileOf}
use Rattle.pt_holds.specs.Holds.{Holds}
use Rattle.pt_holds.specs.RowChanges.{IsChangeOf, IsRowChange}
use Rattle.pt_holds.proofs.Changed.{appended_holds, counter_next}
use Rattle.pt_holds.proofs.FileNames.{def_not_rows, def_not_serials}
use Rattle.pt_session.specs.declared.session.Session.{Session}
use Rattle.pt_session.specs.Session.{HasDefs, HasFilesAt, IsKept, IsOpen, IsOver, IsOverAfter, StandsIn, def_of}
use Rattle.pt_session.specs.Writing.{IsBatchFor}
use Rattle.pt_session.proofs.Names.{files_kept, if_some, map_there, names_there, some_and, some_same}

-- # The definitions of a filled database

abbrev pub def_in_table : Table → TableDef
def_in_table table = table.def

pub filled_defs : (db : Db) (name : List ℕ) (table : Table) (rows : List Row) (next : ℕ) (query : List ℕ) → table_of db name ≡ Some table
    → option_map def_in_table (table_of (filled db name rows next) query) ≡ option_map def_in_table (table_of db query)
filled_defs db name table rows next query held = by (bytes_eq name query) refl
  where
    by : (t : Bool) → bytes_eq name query ≡ t → option_map def_in_table (table_of (filled db name rows next) query) ≡ option_map def_in_table (table_of db query)
    by true e = subst (λ q. option_map def_in_table (table_of (filled db name rows next) q) ≡ option_map def_in_table (table_of db q)) ((bytes_eq-Decides name query).0 e)
        (ap (λ o. option_map def_in_table o) (table_same name rows db.tables table held) ∙ sym (ap (λ o. option_map def_in_table o) held))
    by false e = ap (λ o. option_map def_in_table o) (table_other name rows db.tables query (λ same. true≢false (sym ((bytes_eq-Decides name query).1 same) ∙ e)))

-- # Files with more at their ends

nothing_added : (file : Option (List ℕ)) (more : List ℕ) → more ≡ [] → option_map (λ (bytes : List ℕ). bytes ++ more) file ≡ file
nothing_added None more e = refl
nothing_added (Some bytes) more e = ap (λ (xs : List ℕ). Some (bytes ++ xs)) e ∙ ap (λ (xs : List ℕ). Some xs) (append-nil bytes)

-- the counter's file has the change's next serial behind it
counter_behind : (file : Option (List ℕ)) (more : List ℕ) (next later : ℕ) → IsSome file → counter_of (unwrap_or file []) ≡ Ok next → more ≡ le_bytes 8 later → 0 < later → later ≤ 2 ^ 62
    → counter_of (unwrap_or (option_map (λ (bytes : List ℕ). bytes ++ more) file) []) ≡ Ok later
counter_behind None more next later there e is some most = absurd (true≢false (sym there))
counter_behind (Some bytes) more next later there e is some most = ap (λ (xs : List ℕ). counter_of (bytes ++ xs)) is ∙ counter_next bytes next later e some most

-- # Over every host

module _ (session : Session) (change : RowChange) (batch : FileList) (is_open : IsOpen session) (for : IsBatchFor session change batch) where
  named : IsIdent change.table
  named = (if_some (def_of session change.table) for.def (λ def. IsKept change.table def) for.held (is_open.defs change.table)).name_is

  -- each file of the batch is there
  pub batch_fits : IsBatch (sizes session.store) batch
  batch_fits = record {
    distinct = for.of.once;
    held = All-weaker (λ part. (part.0 ≡ serials_name) ⊎ IsRowFileOf change.table for.def part.0) (λ part. IsSome (length_in (sizes session.store) part.0)) there batch for.of.each;
    few = for.of.few;
  }
    where
      has : HasFilesAt session.store change.table (Some for.def)
      has = subst (λ o. HasFilesAt session.store change.table o) for.held (is_open.files change.table named)

      there : (part : List ℕ × List ℕ) → (part.0 ≡ serials_name) ⊎ IsRowFileOf change.table for.def part.0 → IsSome (length_in (sizes session.store) part.0)
      there part (inl e) = subst (λ q. IsSome (length_in (sizes session.store) q)) (sym e) is_open.counter
      there part (inr file) = subst (λ q. IsSome (length_in (sizes session.store) q)) (sym file.2) (has.rows file.0 file.1)

  module _ (may : IsSomeAnd (def_of session change.table) (λ def. IsRowChange def change)) where
    is_change : IsRowChange for.def change
    is_change = some_and (def_of session change.table) for.def (λ def. IsRowChange def change) for.held may

    -- with a store of the same names, and the next serial of the change
    pub still_open : (after : Store) → IsTrue (store.is_live after) × (map (λ (size : List ℕ × ℕ). size.0) (sizes after) ≡ map (λ (size : List ℕ × ℕ). size.0) (sizes session.store))
        → IsOpen (record session { store = after; next = change.next })
    still_open after had = record {
      live = had.0;
      defs = is_open.defs;
      files = λ name is. files_kept session.store after name (def_of session name) (λ query. names_there (sizes session.store) (sizes after) query had.1) (is_open.files name is);
      counter = some_same _ _ (names_there (sizes session.store) (sizes after) serials_name had.1) is_open.counter;
      some = is_change.least;
      most = is_change.most;
    }

    -- the map with the batch holds the changed database
    pub written_holds : (files : FileList) (w : World) (db later : Db) → IsStore session.store files w → StandsIn session files db → IsChangeOf change db later → Holds (by_name (appended batch files)) later
    written_holds files w db later kept stands c =
        appended_holds files batch change db later stands.holds c (subst (λ def. IsBatchOf batch def change) same for.of) is_change.serials (some_same _ _ (map_there session.store files w serials_name kept) is_open.counter)
      where
        same : for.def ≡ c.table.def
        same = one_some for.def c.table.def (sym for.held ∙ stands.defs.defs change.table named ∙ ap (λ o. option_map def_in_table o) c.held)

    -- over the map with the batch the session has its definitions still, and the change's next serial
    pub written_over : (after : Store) (files : FileList) (w : World) → IsStore session.store files w → IsOver session (by_name files)
        → IsOver (record session { store = after; next = change.next }) (by_name (appended batch files))
    written_over after files w kept over = record {
      defs = λ name is. ap (λ o. option_map def_at o) (appended_read batch files (def_name name) ∙ nothing_added (by_name files (def_name name)) (added_to batch (def_name name)) (none_at name)) ∙ over.defs name is;
      next = ap (λ o. counter_of (unwrap_or o [])) (appended_read batch files serials_name)
          ∙ counter_behind (by_name files serials_name) (added_to batch serials_name) session.next change.next (some_same _ _ (map_there session.store files w serials_name kept) is_open.counter)
          over.next for.of.counter is_change.least is_change.most;
    }
      where
        none_at : (name : List ℕ) → added_to batch (def_name name) ≡ []
        none_at name = for.of.others (def_name name) (def_not_serials name) (λ of. def_not_rows name change.table (leaf_of for.def of.0) of.2)

-- where the batch was made
pub batch_ok : {E : Type 0} (session : Session) (change : RowChange) (def : TableDef) (r : Result FileList E) → IsOpen session → def_of session change.table ≡ Some def
    → IfOk r (λ batch. IsBatchOf batch def change) → IfOk r (λ batch. IsBatch (sizes session.store) batch)
batch_ok session change def (Ok batch) is_open held of = batch_fits session change batch is_open (record { def = def; held = held; of = of })
batch_ok session change def (Err e) is_open held of = tt

-- # The definitions afterwards

pub written_defs : (session : Session) (after : Store) (change : RowChange) (db later : Db) → HasDefs session db → IsChangeOf change db later → HasDefs (record session { store = after; next = change.next }) later
written_defs session after change db later had c = record {
  defs = λ name is. had.defs name is ∙ sym (ap (λ (d : Db). option_map def_in_table (table_of d name)) c.is ∙ filled_defs db change.table c.table c.rows change.next name c.held);
  next = sym (ap (λ (d : Db). d.next) c.is);
}

pub stopped_defs : (session : Session) (after : Store) (e : Stop) (db later : Db) → HasDefs session db
    → ByStop {T = Unit {0}} (Err e) (HasDefs (record session { store = after }) later) (HasDefs (record session { store = after }) db) (Unit {0})
stopped_defs session after NoMemory db later had = record { defs = had.defs; next = had.next }
stopped_defs session after (Bad name place) db later had = record { defs = had.defs; next = had.next }
stopped_defs session after Fault db later had = tt

-- # Over a map

-- where the call stopped, the session is over the old map still
pub err_over : (T : Type 0) (session : Session) (files next : FileList) (e : Stop) → IsOver session (by_name files) → IsOverAfter {T = T} session files next (Err e)
err_over T session files next NoMemory over = over
err_over T session files next (Bad name place) over = over
err_over T session files next Fault over = tt

pub stopped_over : {T : Type 0} (session : Session) (files next : FileList) (e : Stop) (result : Result T Stop) → result ≡ Err e → IsOver session (by_name files) → IsOverAfter session files next result
stopped_over {T} session files next e result stops over = subst (λ (r : Result T Stop). IsOverAfter session files next r) (sym stops) (err_over T session files next e over)

-- with another store it has the same definitions and next serial
pub over_with : (session : Session) (after : Store) (files : FileList) → IsOver session (by_name files) → IsOver (record session { store = after }) (by_name files)
over_with session after files over = record { defs = over.defs; next = over.next }
