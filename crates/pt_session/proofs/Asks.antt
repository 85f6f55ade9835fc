-- The files of a table that comes are none that the store has, and those of one that goes are there: so the store may be asked.
use Rattle.std.proofs.Common.{◌≡◌, ◌≢◌, ℕ, ◌<◌, ◌≤◌, ◌^◌, List, [], ◌∷◌, length, map, get_or, Some, None, sym, subst, arith}
use Rattle.std.specs.Prelude.{IsSome}
use Rattle.std.specs.List.{All, AllPairs}
use Rattle.std.proofs.lemmas.List.{length-map}
use Rattle.std.proofs.lemmas.List.Elements.{All-cons, All-head, All-map, All-tail, All-weaker}
use Rattle.std.proofs.lemmas.List.Kept.{AllPairs-cons}
use Rattle.pt_plain.proofs.Pairs.{pairs_head, pairs_tail}
use Rattle.pt_value.specs.Ident.{IsIdent}
use Rattle.pt_host.specs.Listed.{FileList}
use Rattle.pt_names.specs.Names.{def_name}
use Rattle.pt_ddl_log.specs.declared.chain.Act.{Act}
use Rattle.pt_ast.specs.declared.table.TableDef.{TableDef}
use Rattle.pt_place.specs.Place.{leaf_of}
use Rattle.pt_defs.specs.Fitting.{FitsDef, FitsPart}
use Rattle.pt_store.specs.Entries.{length_in}
use Rattle.pt_store.specs.Reshape.{IsReshape}
use Rattle.pt_store.specs.Store.{sizes}
use Rattle.pt_db.specs.Spots.{spots_of}
use Rattle.pt_db.proofs.SpotLists.{spots_each}
use Rattle.pt_holds.specs.Holds.{spot_file}
use Rattle.pt_holds.specs.ShapeChanges.{IsCreate}
use Rattle.pt_session.specs.declared.session.Session.{Session}
use Rattle.pt_session.specs.Session.{HasFiles, HasFilesAt, HasNoFiles, IsKept, IsOpen, def_of}
use Rattle.pt_session.specs.Shaping.{AreFresh, comes, empty_files, goes, row_files, table_files}
use Rattle.pt_session.proofs.FileEnds.{IsOwn}
use Rattle.pt_session.proofs.Names.{if_some}
use Rattle.pt_session.proofs.Reshaping.{come, come_asks, go_asks, of_acts}
use Rattle.pt_session.proofs.ShapeFiles.{files_apart, files_few, files_own, leaf_ident, pairs_map}

-- what holds of each name of a table's files holds of each of its fresh files
module _ (name : List ℕ) (def : TableDef) (bytes : List ℕ) where
  abbrev fresh_list : FileList
  fresh_list = (def_name name, bytes) ∷ empty_files (row_files name def)

  fresh_all : (Q : List ℕ → Type 0) → All Q (table_files name def) → All (λ (file : List ℕ × List ℕ). Q file.0) fresh_list
  fresh_all Q each =
      All-cons (λ (file : List ℕ × List ℕ). Q file.0) (def_name name, bytes) (empty_files (row_files name def)) (All-head Q (def_name name) (row_files name def) each)
      (All-map (λ (file : List ℕ × List ℕ). Q file.0) (λ (row : List ℕ). (row, [])) (row_files name def) (All-tail Q (def_name name) (row_files name def) each))

  fresh_once : All IsOwn (table_files name def) → AllPairs (λ (a b : List ℕ). a ≢ b) (table_files name def) → AllPairs (λ (a b : List ℕ × List ℕ). a.0 ≢ b.0) fresh_list
  fresh_once own apart =
      AllPairs-cons (λ (a b : List ℕ × List ℕ). a.0 ≢ b.0) (def_name name, bytes) (empty_files (row_files name def))
      (All-map (λ (file : List ℕ × List ℕ). def_name name ≢ file.0) (λ (row : List ℕ). (row, [])) (row_files name def) (pairs_head (λ (a b : List ℕ). a ≢ b) (def_name name) (row_files name def) apart))
      (pairs_map (λ (a b : List ℕ). a ≢ b) (λ (a b : List ℕ × List ℕ). a.0 ≢ b.0) IsOwn (λ (row : List ℕ). (row, [])) (row_files name def) (λ a b own_a own_b other. other)
      (All-tail IsOwn (def_name name) (row_files name def) own) (pairs_tail (λ (a b : List ℕ). a ≢ b) (def_name name) (row_files name def) apart))

  fresh_few : length (table_files name def) < 2 ^ 32 → length fresh_list < 2 ^ 32
  fresh_few few = omega (arith, few, length-map {B = List ℕ × List ℕ} (row_files name def) (λ row. (row, [])))

module _ (name : List ℕ) (def : TableDef) (fresh : FileList) (name_is : IsIdent name) (fits : FitsDef def) (are : AreFresh name def fresh) where
  -- each leaves room for the end of a shadow's name
  pub fresh_short : All (λ (file : List ℕ × List ℕ). length file.0 ≤ 154) fresh
  fresh_short =
      subst (All (λ (file : List ℕ × List ℕ). length file.0 ≤ 154)) (sym are.are)
      (fresh_all name def are.bytes (λ file. length file ≤ 154) (All-weaker IsOwn (λ file. length file ≤ 154) (λ file own. own.short) (table_files name def) (files_own name def name_is fits.parts)))

  pub creating_asks : (session : Session) (acts : List Act) → IsOpen session → IsCreate (def_of session) name def → acts ≡ map (λ (file : List ℕ × List ℕ). comes file.0) fresh → IsReshape (sizes session.store) fresh (of_acts acts)
  creating_asks session acts is_open may is =
      subst (λ (more : List Act). IsReshape (sizes session.store) fresh (of_acts more)) (sym is)
      (subst (λ (files : FileList). IsReshape (sizes session.store) files (of_acts (map come files))) (sym are.are)
      (come_asks (sizes session.store) (fresh_list name def are.bytes) (fresh_all name def are.bytes IsOwn own) (fresh_once name def are.bytes own (files_apart name def name_is may.valid))
      (fresh_all name def are.bytes (λ file. length_in (sizes session.store) file ≡ None) absent) (fresh_few name def are.bytes (files_few def may.valid name))))
    where
      own : All IsOwn (table_files name def)
      own = files_own name def name_is fits.parts

      none : HasNoFiles session.store name
      none = subst (λ o. HasFilesAt session.store name o) may.free (is_open.files name name_is)

      absent : All (λ file. length_in (sizes session.store) file ≡ None) (table_files name def)
      absent =
          All-cons (λ file. length_in (sizes session.store) file ≡ None) (def_name name) (row_files name def) none.defined
          (All-map (λ file. length_in (sizes session.store) file ≡ None) (spot_file name def) (spots_of def)
          (λ k d below. none.rows (leaf_of def (get_or (spots_of def) k d)) (leaf_ident def (get_or (spots_of def) k d) fits.parts)))

pub dropping_asks : (session : Session) (name : List ℕ) (def : TableDef) (acts : List Act) → IsOpen session → def_of session name ≡ Some def → All FitsPart def.parts → acts ≡ map goes (table_files name def)
    → IsReshape (sizes session.store) [] (of_acts acts)
dropping_asks session name def acts is_open held fits is =
    subst (λ (more : List Act). IsReshape (sizes session.store) [] (of_acts more)) (sym is)
    (go_asks (sizes session.store) (table_files name def) (files_own name def kept.name_is fits) (files_apart name def kept.name_is kept.valid) there (files_few def kept.valid name))
  where
    kept : IsKept name def
    kept = if_some (def_of session name) def (IsKept name) held (is_open.defs name)

    has : HasFiles session.store name def
    has = subst (λ o. HasFilesAt session.store name o) held (is_open.files name kept.name_is)

    there : All (λ file. IsSome (length_in (sizes session.store) file)) (table_files name def)
    there =
        All-cons (λ file. IsSome (length_in (sizes session.store) file)) (def_name name) (row_files name def) has.defined
        (All-map (λ file. IsSome (length_in (sizes session.store) file)) (spot_file name def) (spots_of def) (λ k d below. has.rows (get_or (spots_of def) k d) (spots_each def k d below)))
