-- A directory that was opened.
use Rattle.std.proofs.Common.{◌≡◌, ℕ, ◌<◌, ◌≤◌, ◌^◌, true, false, List, [], is_some, refl, sym, ap, ◌∙◌, subst}
use Rattle.std.specs.Prelude.{Option, Some, None, Result, Ok, Err, IfSome, IsSome, IsTrue}
use Rattle.std.specs.Option.{option_map, unwrap_or}
use Rattle.pt_value.specs.Ident.{IsIdent}
use Rattle.pt_host.specs.Disk.{EachImage, Files, IsSound, shown}
use Rattle.pt_host.specs.Listed.{FileList, by_name}
use Rattle.pt_host.specs.World.{OnlyLooks, World}
use Rattle.pt_host.proofs.Shown.{shown_has}
use Rattle.pt_left.specs.Left.{IsLeft, IsWhole, NoneLeft, whole_name}
use Rattle.pt_left.proofs.Directories.{left_same}
use Rattle.pt_names.specs.Names.{def_name, lowered, row_name, serials_name}
use Rattle.pt_names.proofs.Spots.{lowered_leaf, lowered-lowered}
use Rattle.pt_ast.specs.declared.database.Db.{Db}
use Rattle.pt_ast.specs.declared.database.Table.{Table}
use Rattle.pt_ast.specs.declared.table.TableDef.{TableDef}
use Rattle.pt_place.specs.Place.{leaf_of}
use Rattle.pt_defs.specs.Reading.{def_at}
use Rattle.pt_rowfile.specs.Counter.{counter_of}
use Rattle.pt_store.specs.declared.store.Store.{Store}
use Rattle.pt_store.specs.declared.stop.Stop.{Stop}
use Rattle.pt_store.specs.declared.stop.Stop.TheVariants as stop
use Rattle.pt_store.specs.Stops.{IfBad}
use Rattle.pt_store.specs.Store as store
use Rattle.pt_store.specs.Store.{IsStore, sizes}
use Rattle.pt_store.proofs.Moments.{looks_kept}
use Rattle.pt_db.specs.Lookup.{table_of}
use Rattle.pt_holds.specs.Bad.{Bad, Defines, HasNext, IsStray, Missing as file_missing, Stray as file_stray}
use Rattle.pt_holds.specs.Holds.{HasLeaf, Holds, HoldsAt, spot_file}
use Rattle.pt_holds.proofs.FileNames.{one_row_file, same_file}
use Rattle.pt_session.specs.declared.session.Session.{Session}
use Rattle.pt_session.specs.Directory.{File, IsDamaged, IsOpened, Whole}
use Rattle.pt_session.specs.Opening.{AreDefined, AreRead, HasRowFiles, IsRowFile, IsWrongFile, Missing, Stray, table_in}
use Rattle.pt_session.specs.Session.{HasFilesAt, IsKept, IsOpen, IsOver, StandsIn, def_of, length_of}
use Rattle.pt_session.proofs.Names.{if_some, is_absent, map_there}

-- # A row file's name

-- the name of a row file is told as its table's
rows_of : (name : List ℕ) (leaf : Option (List ℕ)) → IsIdent name → IfSome leaf IsIdent → IsRowFile (row_name name leaf)
rows_of name None is low = (name, None, record { table = is; leaf = tt; name = refl })
rows_of name (Some leaf) is low =
    (name, Some (lowered leaf), record { table = is; leaf = lowered_leaf leaf low; name = same_file name (Some leaf) (Some (lowered leaf)) (ap (λ (l : List ℕ). Some l) (sym (lowered-lowered leaf))) })

-- # The files of the tables

module _ (kept : Store) (tables : List ℕ → Option TableDef) (defined : AreDefined (sizes kept) tables) (files : HasRowFiles kept tables) where
  table_ident : (name : List ℕ) (def : TableDef) → tables name ≡ Some def → IsKept name def
  table_ident name def held = if_some (tables name) def (IsKept name) held (defined.kept name)

  -- a row file that is there is a table's of this name and leaf
  row_needed : (name : List ℕ) (leaf : Option (List ℕ)) → IsIdent name → IfSome leaf IsIdent → IsSome (length_of kept (row_name name leaf))
      → (def : TableDef) × (tables name ≡ Some def) × HasLeaf def leaf
  row_needed name leaf is low there =
      let need = files.no_more (row_name name leaf) there (rows_of name leaf is low) in
      let same = one_row_file name need.table leaf (leaf_of need.def need.of.0) is (table_ident need.table need.def need.held).name_is need.of.2 in
      (need.def, ap tables same.0 ∙ need.held, (need.of.0, need.of.1, sym same.1))

  by_there : (o : Option ℕ) → (IsSome o → ⊥) → o ≡ None
  by_there None none = refl
  by_there (Some n) none = absurd (none refl)

  files_at : (name : List ℕ) → IsIdent name → (o : Option TableDef) → tables name ≡ o → HasFilesAt kept name o
  files_at name is None held = record {
    defined = is_absent (length_of kept (def_name name)) (sym (defined.named name is) ∙ ap is_some held);
    rows = λ leaf low. by_there (length_of kept (row_name name leaf)) (λ there. let need = row_needed name leaf is low there in let bad : None ≡ Some need.0 = sym held ∙ need.1 in cc);
  }
  files_at name is (Some def) held = record {
    defined = sym (defined.named name is) ∙ ap is_some held;
    rows = λ spot of. files.held (spot_file name def spot) (record { table = name; def = def; held = held; of = (spot, of, refl) });
    no_more = λ leaf low none. by_there (length_of kept (row_name name leaf))
        (λ there. let need = row_needed name leaf is low there in let same : need.0 ≡ def = let e : Some need.0 ≡ Some def = sym need.1 ∙ held in cc in none (subst (λ d. HasLeaf d leaf) same need.2));
  }

pub opened_open : (session : Session) → IsTrue (store.is_live session.store) → IsSome (length_of session.store serials_name) → AreDefined (sizes session.store) (table_in session.tables) → HasRowFiles session.store (table_in session.tables)
    → 0 < session.next → session.next ≤ 2 ^ 62 → IsOpen session
opened_open session live counter defined files some most = record {
  live = live;
  defs = defined.kept;
  files = λ name is. files_at session.store (table_in session.tables) defined files name is (def_of session name) refl;
  counter = counter;
  some = some;
  most = most;
}

-- # Over its map

-- what a definition's file spells
abbrev spelled : Option TableDef → Option (Result TableDef ℕ)
spelled o = option_map Ok o

one_spelled : (read : Option (Result TableDef ℕ)) (o p : Option TableDef) → read ≡ spelled o → read ≡ spelled p → o ≡ p
one_spelled read None None x y = refl
one_spelled read None (Some def) x y = let bad : spelled None ≡ spelled (Some def) = sym x ∙ y in cc
one_spelled read (Some def) None x y = let bad : spelled (Some def) ≡ spelled None = sym x ∙ y in cc
one_spelled read (Some def) (Some other) x y = let same : spelled (Some def) ≡ spelled (Some other) = sym x ∙ y in ap (λ d. Some d) (let alike : def ≡ other = cc in alike)

module _ (kept : Store) (tables : List ℕ → Option TableDef) (defined : AreDefined (sizes kept) tables) (map : FileList) (w : World) (is : IsStore kept map w) (read : AreRead (by_name map) tables) where
  pub over_defs : (name : List ℕ) → IsIdent name → option_map def_at (by_name map (def_name name)) ≡ option_map Ok (tables name)
  over_defs name ident = by (tables name) refl
    where
      by : (o : Option TableDef) → tables name ≡ o → option_map def_at (by_name map (def_name name)) ≡ spelled (tables name)
      by None held =
          ap (λ (file : Option (List ℕ)). option_map def_at file) (is_absent (by_name map (def_name name)) (map_there kept map w (def_name name) is ∙ sym (defined.named name ident) ∙ ap is_some held))
          ∙ sym (ap spelled held)
      by (Some def) held = (if_some (tables name) def (Defines (by_name map) name) held (read name)).1 ∙ sym (ap spelled held)

  table_read : (name : List ℕ) (def : TableDef) → Defines (by_name map) name def → tables name ≡ Some def
  table_read name def defines = one_spelled (option_map def_at (by_name map (def_name name))) (tables name) (Some def) (over_defs name defines.0) defines.1

  pub wrong_bad : (file : List ℕ) (place : ℕ) → IsWrongFile kept tables file → place ≡ 0 → Bad (by_name map) file place
  wrong_bad file place (Missing need none) at =
      file_missing need.table need.def need.of.0 (if_some (tables need.table) need.def (Defines (by_name map) need.table) need.held (read need.table)) need.of.1 need.of.2
      (is_absent (by_name map file) (map_there kept map w file is ∙ ap is_some none)) at
  wrong_bad file place (Stray there rows none) at =
      let found = some_of (by_name map file) (map_there kept map w file is ∙ there) in
      file_stray rows.0 found.0 rows.1 rows.2 stray found.1 at
    where
      some_of : (o : Option (List ℕ)) → is_some o ≡ true → (bytes : List ℕ) × (o ≡ Some bytes)
      some_of (Some bytes) e = (bytes, refl)
      some_of None e = let bad : false ≡ true = e in cc

      stray : IsStray (by_name map) rows.0 rows.1
      stray def defines leaf =
          none (record { table = rows.0; def = def; held = table_read rows.0 def defines; of = (leaf.0, leaf.1, rows.2.name ∙ same_file rows.0 rows.1 (leaf_of def leaf.0) (sym leaf.2)) })

-- it stands for each database that the map holds
pub over_stands : (session : Session) (map : FileList) (db : Db) → IsOver session (by_name map) → Holds (by_name map) db → StandsIn session map db
over_stands session map db over holds = record {
  defs = record {
    defs = λ name is. by name (def_of session name) (table_of db name) (over.defs name is) (holds.tables name is);
    next = one_ok (counter_of (unwrap_or (by_name map serials_name) [])) session.next db.next over.next holds.counter;
  };
  holds = holds;
}
  where
    one_ok : (r : Result ℕ ℕ) (a b : ℕ) → r ≡ Ok a → r ≡ Ok b → a ≡ b
    one_ok r a b x y = let same : Ok a ≡ Ok b = sym x ∙ y in cc

    by : (name : List ℕ) (o : Option TableDef) (table : Option Table) → option_map def_at (by_name map (def_name name)) ≡ option_map Ok o → HoldsAt (by_name map) name table → o ≡ option_map (λ (t : Table). t.def) table
    by name o None read none = one_spelled (option_map def_at (by_name map (def_name name))) o None read (ap (λ (file : Option (List ℕ)). option_map def_at file) none.defined)
    by name o (Some table) read held = one_spelled (option_map def_at (by_name map (def_name name))) o (Some table.def) read held.defined

-- the session that was opened
pub opened_is : (session : Session) (old cleared mid new : World) → (map : FileList) × EachImage old.now.fs (IsLeft map) × IsStore session.store map cleared → OnlyLooks cleared mid → OnlyLooks mid new
    → ((map : FileList) → IsStore session.store map cleared → HasNext (by_name map) session.next) → AreDefined (sizes session.store) (table_in session.tables)
    → ((map : FileList) → IsStore session.store map mid → AreRead (by_name map) (table_in session.tables)) → IsOpened session old new
opened_is session old cleared mid new s looks then next defined read = record {
  map = s.0;
  left = s.1;
  store = looks_kept mid new session.store s.0 then there;
  over = over;
  stands = λ db holds. over_stands session s.0 db over holds;
}
  where
    there : IsStore session.store s.0 mid
    there = looks_kept cleared mid session.store s.0 looks s.2

    over : IsOver session (by_name s.0)
    over = record { defs = over_defs session.store (table_in session.tables) defined s.0 mid there (read s.0 there); next = next s.0 s.2 }

-- # Stops

-- `whole.map` spells no map, before and then
pub whole_damaged : (T : Type 0) (e : Stop) (tells : Type 0) (old new : Files) → IfBad {T = T} (Err e) (λ name place. IsWhole name place × (tells → NoneLeft old)) → (tells → new whole_name ≡ old whole_name)
    → IfBad {T = Session} (Err e) (λ name place. tells → IsDamaged old name place × IsDamaged new name place)
whole_damaged T stop.NoMemory tells old new bad same = tt
whole_damaged T stop.Fault tells old new bad same = tt
whole_damaged T (stop.Bad name place) tells old new bad same =
    λ told. (Whole bad.0 (bad.1 told), Whole bad.0 (λ map left. bad.1 told map (left_same map new old (sym (same told)) left)))

-- a file of the map is bad
pub file_damaged : (T : Type 0) (e : Stop) (tells : Type 0) (kept : Store) (w : World) (old new : Files) → IfBad {T = T} (Err e) (λ name place. tells → (map : FileList) → IsStore kept map w → Bad (by_name map) name place)
    → (tells → (map : FileList) × IsStore kept map w × IsLeft map old × IsLeft map new) → IfBad {T = Session} (Err e) (λ name place. tells → IsDamaged old name place × IsDamaged new name place)
file_damaged T stop.NoMemory tells kept w old new bad left = tt
file_damaged T stop.Fault tells kept w old new bad left = tt
file_damaged T (stop.Bad name place) tells kept w old new bad left = λ told. let l = left told in (File l.0 l.2 (bad told l.0 l.1), File l.0 l.3 (bad told l.0 l.1))

-- the map of the store that was attached, before and after calls that only looked
pub left_there : (kept : Store) (old cleared mid new : World) → IsSound old.now.fs → IsSound new.now.fs → (map : FileList) × EachImage old.now.fs (IsLeft map) × IsStore kept map cleared → OnlyLooks cleared mid → OnlyLooks mid new
    → (map : FileList) × IsStore kept map mid × IsLeft map (shown old.now.fs) × IsLeft map (shown new.now.fs)
left_there kept old cleared mid new sound after s looks then =
    let there = looks_kept cleared mid kept s.0 looks s.2 in
    (s.0, there, shown_has old.now.fs (IsLeft s.0) sound s.1, shown_has new.now.fs (IsLeft s.0) after (looks_kept mid new kept s.0 then there).left)
