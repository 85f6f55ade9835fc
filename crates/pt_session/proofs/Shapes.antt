-- What a table that comes or goes leaves of a session.
use Rattle.std.proofs.Common.{◌≡◌, ◌≢◌, ℕ, ◌<◌, ◌≤◌, ◌^◌, Bool, true, false, true≢false, cond, is_some, List, [], Option, Some, None, refl, sym, ap, ◌∙◌, subst}
use Rattle.std.specs.Prelude.{IfSome, IsTrue, Ok}
use Rattle.std.specs.Option.{option_map, option_or, unwrap_or}
use Rattle.std.specs.Str.{bytes_eq}
use Rattle.std.proofs.lemmas.Slice.Eq.{bytes_eq-Decides}
use Rattle.pt_value.specs.Ident.{IsIdent}
use Rattle.pt_host.specs.Disk.{Files}
use Rattle.pt_host.specs.Name.{is_extra}
use Rattle.pt_names.specs.Names.{def_name, row_name, serials_name}
use Rattle.pt_names.proofs.Owners.{defs}
use Rattle.pt_ast.specs.declared.database.Db.{Db}
use Rattle.pt_ast.specs.declared.database.Spot.{Spot}
use Rattle.pt_ast.specs.declared.database.Table.{Table}
use Rattle.pt_ast.specs.declared.table.TableDef.{TableDef}
use Rattle.pt_place.specs.Place.{leaf_of}
use Rattle.pt_defs.specs.Reading.{def_at}
use Rattle.pt_rowfile.specs.Counter.{counter_of}
use Rattle.pt_store.specs.declared.store.Store.{Store}
use Rattle.pt_store.specs.Entries.{length_in}
use Rattle.pt_store.specs.Reshape.{held}
use Rattle.pt_store.specs.Store.{sizes}
use Rattle.pt_db.specs.Lookup.{table_of}
use Rattle.pt_db.specs.Spots.{IsSpotOf}
use Rattle.pt_db.proofs.Lookups.{table_added, table_beside, table_left, table_removed}
use Rattle.pt_holds.specs.Acts.{IsCreated, IsDropped}
use Rattle.pt_holds.specs.Batch.{IsRowFileOf}
use Rattle.pt_holds.specs.Holds.{HasLeaf, Holds, spot_file}
use Rattle.pt_holds.specs.ShapeChanges.{IsCreateOf, IsDropOf}
use Rattle.pt_holds.proofs.FileNames.{def_not_rows, def_not_serials, rows_not_serials}
use Rattle.pt_holds.proofs.Held.{at_same, by_name, created_holds, dropped_holds, has_leaf, leaf_file, not_others}
use Rattle.pt_session.specs.declared.session.Session.{Session}
use Rattle.pt_session.specs.Session.{HasDefs, HasFiles, HasFilesAt, HasNoFiles, IsKept, IsOpen, IsOver, def_of, is_live, length_of}
use Rattle.pt_session.proofs.FileEnds.{def_plain, row_plain, serials_plain}
use Rattle.pt_session.proofs.Names.{is_absent, none_same, some_same}
use Rattle.pt_session.proofs.Reshaping.{Reshapes, other_test}
use Rattle.pt_session.proofs.Writes.{def_in_table}

-- # Definitions

-- The session has this definition at a name, or none, and those of before at others, and the next serial of before.
pub record Redefines (before after : Session) (name : List ℕ) (to : Option TableDef) : Type 0 where
  pub here : def_of after name ≡ to
  pub others : (query : List ℕ) → name ≢ query → def_of after query ≡ def_of before query
  pub next : after.next ≡ before.next

or_none : {X : Type 0} (o : Option X) → option_or o None ≡ o
or_none (Some x) = refl
or_none None = refl

same_test : (name : List ℕ) → bytes_eq name name ≡ true
same_test name = (bytes_eq-Decides name name).1 refl

pub added_last : (before after : Session) (name : List ℕ) (def : TableDef) → def_of before name ≡ None → ((query : List ℕ) → def_of after query ≡ option_or (def_of before query) (cond (bytes_eq query name) (Some def) None))
    → after.next ≡ before.next → Redefines before after name (Some def)
added_last before after name def free each next = record {
  here = each name ∙ ap (λ o. option_or o (cond (bytes_eq name name) (Some def) None)) free ∙ ap (λ t. cond t (Some def) None) (same_test name);
  others = λ query apart. each query ∙ ap (λ t. option_or (def_of before query) (cond t (Some def) None)) (other_test query name (λ e. apart (sym e))) ∙ or_none (def_of before query);
  next = next;
}

pub taken_out : (before after : Session) (name : List ℕ) → ((query : List ℕ) → def_of after query ≡ cond (bytes_eq name query) None (def_of before query)) → after.next ≡ before.next → Redefines before after name None
taken_out before after name each next = record {
  here = each name ∙ ap (λ t. cond t None (def_of before name)) (same_test name);
  others = λ query apart. each query ∙ ap (λ t. cond t None (def_of before query)) (other_test name query apart);
  next = next;
}

-- # Over every host

abbrev nothing : List ℕ
nothing = []

sized : (o : Option ℕ) → is_some (option_map (λ (size : ℕ). nothing) o) ≡ is_some o
sized (Some n) = refl
sized None = refl

-- the files of a table are there as they were
pub files_kept_at : (a b : Store) (name : List ℕ) (def : Option TableDef) → is_some (length_of b (def_name name)) ≡ is_some (length_of a (def_name name))
    → ((leaf : Option (List ℕ)) → is_some (length_of b (row_name name leaf)) ≡ is_some (length_of a (row_name name leaf))) → HasFilesAt a name def → HasFilesAt b name def
files_kept_at a b name None defs rows has = record {
  defined = none_same _ _ defs has.defined;
  rows = λ leaf is. none_same _ _ (rows leaf) (has.rows leaf is);
}
files_kept_at a b name (Some def) defs rows has = record {
  defined = some_same _ _ defs has.defined;
  rows = λ spot is. some_same _ _ (rows (leaf_of def spot)) (has.rows spot is);
  no_more = λ leaf is apart. none_same _ _ (rows leaf) (has.no_more leaf is apart);
}

module _ (session after : Session) (name : List ℕ) (def : TableDef) (to : Option TableDef) (made : Files) (defined rows : Option (List ℕ)) (is_open : IsOpen session) (name_is : IsIdent name)
    (re : Redefines session after name to) (names : (query : List ℕ) → is_some (length_of after.store query) ≡ is_some (made query))
    (r : Reshapes (held (sizes session.store)) made name def defined rows) where
  -- another file is there as it was
  pub same_there : (file : List ℕ) → is_extra file ≡ false → file ≢ def_name name → (IsRowFileOf name def file → ⊥) → is_some (length_of after.store file) ≡ is_some (length_of session.store file)
  same_there file plain not_def not_row = names file ∙ ap is_some (r.others file plain not_def not_row) ∙ sized (length_in (sizes session.store) file)

  -- what a table's file comes to
  pub def_there : is_some (length_of after.store (def_name name)) ≡ is_some defined
  def_there = names (def_name name) ∙ ap is_some r.at_def

  pub row_there : (spot : Spot) → IsSpotOf def spot → is_some (length_of after.store (spot_file name def spot)) ≡ is_some rows
  row_there spot is = names (spot_file name def spot) ∙ ap is_some (r.at_row spot is)

  beside : (query : List ℕ) → IsIdent query → name ≢ query → HasFilesAt after.store query (def_of after query)
  beside query is apart =
      subst (λ o. HasFilesAt after.store query o) (sym (re.others query apart))
      (files_kept_at session.store after.store query (def_of session query)
      (same_there (def_name query) (def_plain query) (λ e. apart (sym (defs query name e))) (λ of. def_not_rows query name (leaf_of def of.0) of.2))
      (λ leaf. same_there (row_name query leaf) (row_plain query leaf) (λ e. def_not_rows name query leaf (sym e)) (λ of. not_others name query def leaf name_is is apart of))
      (is_open.files query is))

  kept : IfSome to (IsKept name) → (query : List ℕ) → IfSome (def_of after query) (IsKept query)
  kept new query = by_test (bytes_eq name query) refl
    where
      by_test : (t : Bool) → bytes_eq name query ≡ t → IfSome (def_of after query) (IsKept query)
      by_test true e = subst (λ n. IfSome (def_of after n) (IsKept n)) ((bytes_eq-Decides name query).0 e) (subst (λ o. IfSome o (IsKept name)) (sym re.here) new)
      by_test false e = subst (λ o. IfSome o (IsKept query)) (sym (re.others query (λ same. true≢false (sym ((bytes_eq-Decides name query).1 same) ∙ e)))) (is_open.defs query)

  pub reshaped_open : IsTrue (is_live after) → IfSome to (IsKept name) → HasFilesAt after.store name to → IsOpen after
  reshaped_open live new here = record {
    live = live;
    defs = kept new;
    files = by_name (λ query. HasFilesAt after.store query (def_of after query)) name (subst (λ o. HasFilesAt after.store name o) (sym re.here) here) beside;
    counter = some_same (length_of session.store serials_name) (length_of after.store serials_name)
        (same_there serials_name serials_plain (λ e. def_not_serials name (sym e)) (λ of. rows_not_serials name (leaf_of def of.0) (sym of.2))) is_open.counter;
    some = subst (λ n. 0 < n) (sym re.next) is_open.some;
    most = subst (λ n. n ≤ 2 ^ 62) (sym re.next) is_open.most;
  }

  -- a table that has come has its files
  pub files_come : def_of session name ≡ None → is_some defined ≡ true → is_some rows ≡ true → HasFiles after.store name def
  files_come free def_is row_is =
      let none : HasNoFiles session.store name = subst (λ o. HasFilesAt session.store name o) free (is_open.files name name_is) in
      record {
        defined = def_there ∙ def_is;
        rows = λ spot is. row_there spot is ∙ row_is;
        no_more = λ leaf is apart.
            is_absent (length_of after.store (row_name name leaf))
            (same_there (row_name name leaf) (row_plain name leaf) (λ e. def_not_rows name name leaf (sym e)) (λ of. apart (has_leaf name def leaf name_is of)) ∙ ap is_some (none.rows leaf is));
      }

  -- one that has gone has none
  pub files_gone : def_of session name ≡ Some def → is_some defined ≡ false → is_some rows ≡ false → HasNoFiles after.store name
  files_gone had def_is row_is = record {
    defined = is_absent (length_of after.store (def_name name)) (def_there ∙ def_is);
    rows = λ leaf is. is_absent (length_of after.store (row_name name leaf)) (gone leaf is (is_some (length_of after.store (row_name name leaf))) refl);
  }
    where
      old : HasFiles session.store name def
      old = subst (λ o. HasFilesAt session.store name o) had (is_open.files name name_is)

      gone : (leaf : Option (List ℕ)) → IfSome leaf IsIdent → (t : Bool) → is_some (length_of after.store (row_name name leaf)) ≡ t → t ≡ false
      gone leaf is false there = refl
      gone leaf is true there =
          let none : HasLeaf def leaf → ⊥ = λ has. true≢false (sym there ∙ ap (λ file. is_some (length_of after.store file)) (leaf_file name def leaf has) ∙ row_there has.0 has.1 ∙ row_is) in
          sym there ∙ same_there (row_name name leaf) (row_plain name leaf) (λ e. def_not_rows name name leaf (sym e)) (λ of. none (has_leaf name def leaf name_is of)) ∙ ap is_some (old.no_more leaf is none)

-- # Over a map

module _ (session after : Session) (name : List ℕ) (def : TableDef) (to : Option TableDef) (before made : Files) (defined rows : Option (List ℕ)) (re : Redefines session after name to)
    (r : Reshapes before made name def defined rows) where
  -- over the files that were made the session has the definitions that they spell
  pub reshaped_over : option_map def_at defined ≡ option_map (λ d. Ok d) to → IsOver session before → IsOver after made
  reshaped_over here over = record {
    defs = by_name (λ query. option_map def_at (made (def_name query)) ≡ option_map (λ d. Ok d) (def_of after query)) name
        (ap (option_map def_at) r.at_def ∙ here ∙ ap (option_map (λ d. Ok d)) (sym re.here))
        (λ query is apart.
        ap (option_map def_at) (r.others (def_name query) (def_plain query) (λ e. apart (sym (defs query name e))) (λ of. def_not_rows query name (leaf_of def of.0) of.2))
        ∙ over.defs query is ∙ ap (option_map (λ d. Ok d)) (sym (re.others query apart)));
    next =
        ap (λ (file : Option (List ℕ)). counter_of (unwrap_or file [])) (r.others serials_name serials_plain (λ e. def_not_serials name (sym e)) (λ of. rows_not_serials name (leaf_of def of.0) (sym of.2)))
        ∙ over.next ∙ ap (λ (n : ℕ). Ok n) (sym re.next);
  }

-- # A database

-- extra files play no part
pub plain_holds : (f g : Files) (db : Db) → ((file : List ℕ) → is_extra file ≡ false → g file ≡ f file) → Holds f db → Holds g db
plain_holds f g db same h = record {
  sound = h.sound;
  tables = λ name is. at_same f g name (table_of db name) (same (def_name name) (def_plain name)) (λ leaf. same (row_name name leaf) (row_plain name leaf)) (h.tables name is);
  counter = ap (λ (file : Option (List ℕ)). counter_of (unwrap_or file [])) (same serials_name serials_plain) ∙ h.counter;
}

module _ (before made : Files) (name : List ℕ) (def : TableDef) (defined rows : Option (List ℕ)) (r : Reshapes before made name def defined rows) where
  -- what was made, with the extra files that were there
  abbrev all : Files
  all file = cond (is_extra file) (before file) (made file)

  all_plain : (file : List ℕ) → is_extra file ≡ false → all file ≡ made file
  all_plain file plain = ap (λ t. cond t (before file) (made file)) plain

  all_others : (file : List ℕ) → file ≢ def_name name → (IsRowFileOf name def file → ⊥) → all file ≡ before file
  all_others file not_def not_row = by_test (is_extra file) refl
    where
      by_test : (t : Bool) → is_extra file ≡ t → cond t (before file) (made file) ≡ before file
      by_test true e = refl
      by_test false e = r.others file e not_def not_row

  pub come_holds : (db later : Db) → Holds before db → IsCreateOf name def db later → option_map def_at defined ≡ Some (Ok def) → rows ≡ Some [] → Holds made later
  come_holds db later holds c def_is rows_are =
      let created : IsCreated before all name def = record {
        defined = ap (option_map def_at) (all_plain (def_name name) (def_plain name) ∙ r.at_def) ∙ def_is;
        rows = λ spot is. all_plain (spot_file name def spot) (row_plain name (leaf_of def spot)) ∙ r.at_row spot is ∙ rows_are;
        others = all_others;
      } in
      plain_holds all made later (λ file plain. sym (all_plain file plain)) (created_holds before all name def db later holds c created)

  pub go_holds : (db later : Db) → Holds before db → (c : IsDropOf name db later) → c.table.def ≡ def → defined ≡ None → rows ≡ None → Holds made later
  go_holds db later holds c same def_is rows_are =
      let dropped : IsDropped before all name def = record {
        defined = all_plain (def_name name) (def_plain name) ∙ r.at_def ∙ def_is;
        rows = λ spot is. all_plain (spot_file name def spot) (row_plain name (leaf_of def spot)) ∙ r.at_row spot is ∙ rows_are;
        others = all_others;
      } in
      plain_holds all made later (λ file plain. sym (all_plain file plain)) (dropped_holds before all name def db later holds c (subst (λ d. IsDropped before all name d) (sym same) dropped))

-- the definitions of the later database
pub come_defs : (session after : Session) (name : List ℕ) (def : TableDef) (db later : Db) → Redefines session after name (Some def) → HasDefs session db → IsCreateOf name def db later → HasDefs after later
come_defs session after name def db later re had c = record {
  defs = by_name (λ query. def_of after query ≡ option_map def_in_table (table_of later query)) name
      (re.here ∙ sym (ap (option_map def_in_table) (ap (λ (d : Db). table_of d name) c.is ∙ table_added table db.tables)))
      (λ query is apart. re.others query apart ∙ had.defs query is ∙ sym (ap (option_map def_in_table) (ap (λ (d : Db). table_of d query) c.is ∙ table_beside table db.tables query apart)));
  next = re.next ∙ had.next ∙ sym (ap (λ (d : Db). d.next) c.is);
}
  where
    table : Table
    table = record { name = name; def = def; rows = [] }

pub go_defs : (session after : Session) (name : List ℕ) (db later : Db) → Redefines session after name None → HasDefs session db → IsDropOf name db later → HasDefs after later
go_defs session after name db later re had c = record {
  defs = by_name (λ query. def_of after query ≡ option_map def_in_table (table_of later query)) name
      (re.here ∙ sym (ap (option_map def_in_table) (ap (λ (d : Db). table_of d name) c.is ∙ table_removed name db.tables)))
      (λ query is apart. re.others query apart ∙ had.defs query is ∙ sym (ap (option_map def_in_table) (ap (λ (d : Db). table_of d query) c.is ∙ table_left name db.tables query apart)));
  next = re.next ∙ had.next ∙ sym (ap (λ (d : Db). d.next) c.is);
}
