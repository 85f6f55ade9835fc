-- What a session is after a table has got another definition.
use Rattle.std.proofs.Common.{◌≡◌, ◌≢◌, inr, ℕ, ◌<◌, ◌≤◌, ◌^◌, Bool, true, false, true≢false, cond, is_some, List, [], length, map, get_or, Option, Some, None, refl, sym, ap, ◌∙◌, subst}
use Rattle.std.specs.Prelude.{IfSome, IsSome, IsTrue, Ok}
use Rattle.std.specs.List.{All}
use Rattle.std.specs.Option.{option_map, option_or, unwrap_or}
use Rattle.std.specs.Str.{bytes_eq}
use Rattle.std.proofs.lemmas.List.Elements.{All-cons, All-map}
use Rattle.std.proofs.lemmas.Slice.Eq.{bytes_eq-Decides}
use Rattle.pt_value.specs.Ident.{IsIdent}
use Rattle.pt_host.specs.Disk.{Files, shown}
use Rattle.pt_host.specs.Listed.{FileList}
use Rattle.pt_host.specs.Listed as listed
use Rattle.pt_host.specs.Name.{is_extra}
use Rattle.pt_host.specs.World.{World}
use Rattle.pt_left.specs.Left.{whole_name}
use Rattle.pt_names.specs.Names.{def_name, row_name, serials_name}
use Rattle.pt_names.proofs.Owners.{defs}
use Rattle.pt_ast.specs.declared.database.Db.{Db}
use Rattle.pt_ast.specs.declared.database.Row.{Row}
use Rattle.pt_ast.specs.declared.database.Spot.{Spot}
use Rattle.pt_ast.specs.declared.table.TableDef.{TableDef}
use Rattle.pt_place.specs.Place.{leaf_of}
use Rattle.pt_defs.specs.Fitting.{FitsPart}
use Rattle.pt_defs.specs.Reading.{def_at}
use Rattle.pt_rowfile.proofs.Parts.{one_some}
use Rattle.pt_rowfile.specs.Counter.{counter_of}
use Rattle.pt_rowfile.specs.Written.{IsShortRow}
use Rattle.pt_store.specs.declared.store.Store.{Store}
use Rattle.pt_store.specs.Entries.{bytes_of}
use Rattle.pt_store.specs.Reshape.{IsReshape, IsReshaped, held, reshaped}
use Rattle.pt_store.specs.Store.{IsStore, sizes}
use Rattle.pt_store.proofs.Fetched.{are_files}
use Rattle.pt_db.specs.Lookup.{table_of}
use Rattle.pt_db.specs.Spots.{IsSpotOf}
use Rattle.pt_db.proofs.Lookups.{both_other, both_same}
use Rattle.pt_holds.specs.Acts.{HasGiven, IsRefiled, rows_text}
use Rattle.pt_holds.specs.Batch.{IsRowFileOf}
use Rattle.pt_holds.specs.Holds.{HasLeaf, Holds, spot_file}
use Rattle.pt_holds.specs.ShapeChanges.{IsAlter, IsAlterOf, fresh_at}
use Rattle.pt_holds.proofs.Alters.{altered_holds}
use Rattle.pt_holds.proofs.FileNames.{def_not_rows, def_not_serials, rows_not_serials, same_file}
use Rattle.pt_holds.proofs.Held.{by_name, has_leaf, leaf_file, not_others}
use Rattle.pt_holds.proofs.Short.{fit_short}
use Rattle.pt_session.specs.declared.session.Session.{Session}
use Rattle.pt_session.specs.declared.altering.Alteration.{Alteration}
use Rattle.pt_session.specs.Leaves.{Leaves}
use Rattle.pt_session.specs.Session.{HasDefs, HasFiles, HasFilesAt, IsKept, IsOpen, IsOver, StandsIn, def_of, is_live, length_of}
use Rattle.pt_session.specs.Shaping.{AreAltered, IsAltering, given_file, gone_files}
use Rattle.pt_session.proofs.FileEnds.{def_own, def_plain, row_own, row_plain, serials_plain}
use Rattle.pt_session.proofs.Names.{if_some, is_absent, some_same}
use Rattle.pt_session.proofs.Refiled.{Refiles, refiled, refiles_same, refiling_asks}
use Rattle.pt_session.proofs.Renews.{alter_acts}
use Rattle.pt_session.proofs.Reshaping.{of_acts, other_test}
use Rattle.pt_session.proofs.ShapeFiles.{leaf_ident}
use Rattle.pt_session.proofs.Shapes.{Redefines, files_kept_at, plain_holds}
use Rattle.pt_session.proofs.Writes.{def_in_table}

-- # What is made before

-- rows that are given can be written
pub given_short : (def : TableDef) (defs : List ℕ → Option TableDef) (name : List ℕ) (fresh : List (Spot × List Row)) → IsAlter defs name def fresh → All (λ (given : Spot × List Row). All IsShortRow given.1) fresh
given_short def defs name fresh may k d below j r under =
    let given = may.given k d below in
    fit_short def (get_or (get_or fresh k d).1 j r) may.storable may.valid (given.fit j r under) (given.serials j r under)

-- each of the new files leaves room for the end of a shadow's name
pub altered_short : (name : List ℕ) (def : TableDef) (fresh : List (Spot × List Row)) (files : FileList) → IsIdent name → All FitsPart def.parts → AreAltered name def fresh files → All (λ (file : List ℕ × List ℕ). length file.0 ≤ 154) files
altered_short name def fresh files name_is fits are =
    subst (All (λ (file : List ℕ × List ℕ). length file.0 ≤ 154)) (sym are.are)
    (All-cons (λ (file : List ℕ × List ℕ). length file.0 ≤ 154) (def_name name, are.bytes) (map (given_file name def) fresh) (def_own name name_is).short
    (All-map (λ (file : List ℕ × List ℕ). length file.0 ≤ 154) (given_file name def) fresh (λ k d below. (row_own name (leaf_of def (get_or fresh k d).0) name_is (leaf_ident def (get_or fresh k d).0 fits)).short)))

-- the definitions after one was put in the place of another
pub each_is : (session : Session) (name : List ℕ) (def own : TableDef) (after : List ℕ → Option TableDef) → own ≡ def → ((query : List ℕ) → after query ≡ cond (bytes_eq name query) (Some own) (def_of session query))
    → (query : List ℕ) → after query ≡ cond (bytes_eq name query) (Some def) (def_of session query)
each_is session name def own after same each query = each query ∙ ap (λ d. cond (bytes_eq name query) (Some d) (def_of session query)) same

module _ (session : Session) (name : List ℕ) (def : TableDef) (fresh : List (Spot × List Row)) (altering : Alteration) (is_open : IsOpen session) (may : IsAlter (def_of session) name def fresh)
    (of : IsAltering session name def fresh altering) where
  abbrev old : TableDef
  old = of.acts.old

  kept : IsKept name old
  kept = if_some (def_of session name) old (IsKept name) of.acts.held (is_open.defs name)

  has : HasFiles session.store name old
  has = subst (λ o. HasFilesAt session.store name o) of.acts.held (is_open.files name of.name_is)

  -- the store may be asked
  pub altering_asks : IsReshape (sizes session.store) altering.fresh altering.chain
  altering_asks =
      subst (λ acts. IsReshape (sizes session.store) altering.fresh (of_acts acts)) (sym of.acts.are)
      (subst (λ files. IsReshape (sizes session.store) files (of_acts (alter_acts (sizes session.store) files (gone_files name old def)))) (sym of.files.are)
      (refiling_asks name def of.name_is may.valid old fresh of.files.bytes may.given (sizes session.store) of.fits.parts of.acts.fits kept.valid may.once has.rows
      (subst (λ acts. length acts < 2 ^ 32) (of.acts.are ∙ ap (λ files. alter_acts (sizes session.store) files (gone_files name old def)) of.files.are) of.acts.few)))

  -- # Name by name

  module _ (asks : IsReshape (sizes session.store) altering.fresh altering.chain) where
    refiles : (files : Files) → Refiles files (reshaped altering.fresh altering.chain files) name old def fresh of.files.bytes
    refiles files =
        subst (λ (new : FileList). Refiles files (reshaped new altering.chain files) name old def fresh of.files.bytes) (sym of.files.are)
        (refiled name def of.name_is may.valid old fresh of.files.bytes may.given (sizes session.store) altering.chain files (subst (λ new. IsReshape (sizes session.store) new altering.chain) of.files.are asks)
        (of.acts.are ∙ ap (λ new. alter_acts (sizes session.store) new (gone_files name old def)) of.files.are))

    changed : (map next : FileList) → IsReshaped altering.fresh altering.chain map next → Refiles (listed.by_name map) (listed.by_name next) name old def fresh of.files.bytes
    changed map next is =
        refiles_same (listed.by_name map) (reshaped altering.fresh altering.chain (listed.by_name map)) (listed.by_name next) name old def fresh of.files.bytes is.files (refiles (listed.by_name map))

    -- another table's files, and the counter, stay
    other_def : (before after : Files) → Refiles before after name old def fresh of.files.bytes → (query : List ℕ) → name ≢ query → after (def_name query) ≡ before (def_name query)
    other_def before after r query apart =
        r.others (def_name query) (def_plain query) (λ e. apart (sym (defs query name e))) (λ row. def_not_rows query name (leaf_of old row.0) row.2) (λ row. def_not_rows query name (leaf_of def row.0) row.2)

    other_row : (before after : Files) → Refiles before after name old def fresh of.files.bytes → (query : List ℕ) → IsIdent query → name ≢ query → (leaf : Option (List ℕ))
        → after (row_name query leaf) ≡ before (row_name query leaf)
    other_row before after r query is apart leaf =
        r.others (row_name query leaf) (row_plain query leaf) (λ e. def_not_rows name query leaf (sym e)) (λ row. not_others name query old leaf of.name_is is apart row)
        (λ row. not_others name query def leaf of.name_is is apart row)

    same_counter : (before after : Files) → Refiles before after name old def fresh of.files.bytes → after serials_name ≡ before serials_name
    same_counter before after r =
        r.others serials_name serials_plain (λ e. def_not_serials name (sym e)) (λ row. rows_not_serials name (leaf_of old row.0) (sym row.2)) (λ row. rows_not_serials name (leaf_of def row.0) (sym row.2))

    -- # A database

    pub changed_holds : (map next : FileList) (db later : Db) → IsReshaped altering.fresh altering.chain map next → StandsIn session map db → IsAlterOf name def fresh db later → Holds (listed.by_name next) later
    changed_holds map next db later is stands c =
        plain_holds all (listed.by_name next) later (λ file plain. sym (all_plain file plain))
        (altered_holds (listed.by_name map) all name def fresh db later stands.holds c may.given of.files.records (subst (λ d. IsRefiled (listed.by_name map) all name d def fresh) (sym same) made))
      where
        r : Refiles (listed.by_name map) (listed.by_name next) name old def fresh of.files.bytes
        r = changed map next is

        same : c.table.def ≡ old
        same = one_some c.table.def old (sym (ap (option_map def_in_table) c.held) ∙ sym (stands.defs.defs name of.name_is) ∙ of.acts.held)

        -- what was made, with the extra files that were there
        all : Files
        all file = cond (is_extra file) (listed.by_name map file) (listed.by_name next file)

        all_plain : (file : List ℕ) → is_extra file ≡ false → all file ≡ listed.by_name next file
        all_plain file plain = ap (λ t. cond t (listed.by_name map file) (listed.by_name next file)) plain

        row_is : (d : TableDef) (file : List ℕ) → IsRowFileOf name d file → is_extra file ≡ false
        row_is d file row = ap is_extra row.2 ∙ row_plain name (leaf_of d row.0)

        made : IsRefiled (listed.by_name map) all name old def fresh
        made = record {
          defined = ap (option_map def_at) (all_plain (def_name name) (def_plain name) ∙ r.at_def) ∙ ap (λ d. Some d) of.files.reads;
          rows = λ spot row. all_plain (spot_file name def spot) (row_plain name (leaf_of def spot)) ∙ r.rows spot row;
          gone = λ file row none. all_plain file (row_is old file row) ∙ r.gone file row none;
          others = λ file not_def not_old not_new. by_test file not_def not_old not_new (is_extra file) refl;
        }
          where
            by_test : (file : List ℕ) → file ≢ def_name name → (IsRowFileOf name old file → ⊥) → (IsRowFileOf name def file → ⊥) → (t : Bool) → is_extra file ≡ t
                → cond t (listed.by_name map file) (listed.by_name next file) ≡ listed.by_name map file
            by_test file not_def not_old not_new true e = refl
            by_test file not_def not_old not_new false e = r.others file e not_def not_old not_new

    -- the store stands for one map, in which the files of the rows that are given have these
    pub changed_given : (map next other : FileList) (kept : Store) (w : World) → IsReshaped altering.fresh altering.chain map next → IsStore kept next w → IsStore kept other w
        → HasGiven (listed.by_name other) name def fresh
    changed_given map next other kept w is made stands spot rows row at =
        let whole = bytes_of (shown w.now.fs whole_name) in
        let one : next ≡ other = sym (are_files whole kept.entries next made.here) ∙ are_files whole kept.entries other stands.here in
        subst (λ (files : FileList). listed.by_name files (spot_file name def spot) ≡ Some (rows_text rows)) one
        ((changed map next is).rows spot row ∙ ap (λ o. option_or (option_map rows_text o) (listed.by_name map (spot_file name def spot))) at)

    -- # The session afterwards

    module _ (after : Session) (each : (query : List ℕ) → def_of after query ≡ cond (bytes_eq name query) (Some def) (def_of session query)) (same : after.next ≡ session.next) where
      redefined : Redefines session after name (Some def)
      redefined = record {
        here = each name ∙ ap (λ t. cond t (Some def) (def_of session name)) ((bytes_eq-Decides name name).1 refl);
        others = λ query apart. each query ∙ ap (λ t. cond t (Some def) (def_of session query)) (other_test name query apart);
        next = same;
      }

      pub changed_over : (map next : FileList) → IsReshaped altering.fresh altering.chain map next → IsOver session (listed.by_name map) → IsOver after (listed.by_name next)
      changed_over map next is over =
          let r = changed map next is in
          record {
            defs = by_name (λ query. option_map def_at (listed.by_name next (def_name query)) ≡ option_map (λ d. Ok d) (def_of after query)) name
                (ap (option_map def_at) r.at_def ∙ ap (λ d. Some d) of.files.reads ∙ ap (option_map (λ d. Ok d)) (sym redefined.here))
                (λ query named apart.
                ap (option_map def_at) (other_def (listed.by_name map) (listed.by_name next) r query apart) ∙ over.defs query named ∙ ap (option_map (λ d. Ok d)) (sym (redefined.others query apart)));
            next = ap (λ (file : Option (List ℕ)). counter_of (unwrap_or file [])) (same_counter (listed.by_name map) (listed.by_name next) r) ∙ over.next ∙ ap (λ (n : ℕ). Ok n) (sym same);
          }

      changed_defs : (db later : Db) → HasDefs session db → IsAlterOf name def fresh db later → HasDefs after later
      changed_defs db later had c = record {
        defs = by_name (λ query. def_of after query ≡ option_map def_in_table (table_of later query)) name
            (redefined.here ∙ sym (ap (option_map def_in_table) (ap (λ (d : Db). table_of d name) c.is ∙ both_same name def c.rows db.tables c.table c.held)))
            (λ query is apart.
            redefined.others query apart ∙ had.defs query is
            ∙ sym (ap (option_map def_in_table) (ap (λ (d : Db). table_of d query) c.is ∙ both_other name def c.rows db.tables query apart)));
        next = same ∙ had.next ∙ sym (ap (λ (d : Db). d.next) c.is);
      }

      pub changed_leaves : (map next : FileList) (db later : Db) → IsReshaped altering.fresh altering.chain map next → StandsIn session map db → IsAlterOf name def fresh db later
          → Leaves {T = Unit {0}} after map next db later (Ok tt)
      changed_leaves map next db later is stands c =
          let holds = changed_holds map next db later is stands c in
          record { between = inr holds; holds = holds; defs = changed_defs db later stands.defs c }

      -- # Over every host

      pub changed_open : IsTrue (is_live after) × ((query : List ℕ) → is_some (length_of after.store query) ≡ is_some (reshaped altering.fresh altering.chain (held (sizes session.store)) query)) → IsOpen after
      changed_open had = record {
        live = had.0;
        defs = by_kept;
        files = by_name (λ query. HasFilesAt after.store query (def_of after query)) name (subst (λ o. HasFilesAt after.store name o) (sym redefined.here) own) beside;
        counter = some_same (length_of session.store serials_name) (length_of after.store serials_name) (there serials_name (same_counter before made r)) is_open.counter;
        some = subst (λ n. 0 < n) (sym same) is_open.some;
        most = subst (λ n. n ≤ 2 ^ 62) (sym same) is_open.most;
      }
        where
          before : Files
          before = held (sizes session.store)

          made : Files
          made = reshaped altering.fresh altering.chain before

          r : Refiles before made name old def fresh of.files.bytes
          r = refiles before

          sized : (o : Option ℕ) → is_some (option_map (λ (size : ℕ). let none : List ℕ = [] in none) o) ≡ is_some o
          sized (Some n) = refl
          sized None = refl

          was : (file : List ℕ) → is_some (before file) ≡ is_some (length_of session.store file)
          was file = sized (length_of session.store file)

          -- a file that stays is there as it was
          there : (file : List ℕ) → made file ≡ before file → is_some (length_of after.store file) ≡ is_some (length_of session.store file)
          there file stays = had.1 file ∙ ap is_some stays ∙ was file

          by_kept : (query : List ℕ) → IfSome (def_of after query) (IsKept query)
          by_kept query = go (bytes_eq name query) refl
            where
              go : (t : Bool) → bytes_eq name query ≡ t → IfSome (def_of after query) (IsKept query)
              go true e =
                  subst (λ n. IfSome (def_of after n) (IsKept n)) ((bytes_eq-Decides name query).0 e)
                  (subst (λ o. IfSome o (IsKept name)) (sym redefined.here) (record { name_is = of.name_is; storable = may.storable; valid = may.valid }))
              go false e = subst (λ o. IfSome o (IsKept query)) (sym (redefined.others query (λ one. true≢false (sym ((bytes_eq-Decides name query).1 one) ∙ e)))) (is_open.defs query)

          -- a spot has its given file, or the one of its leaf
          row : (spot : Spot) → IsSpotOf def spot → (o : Option (List Row)) → fresh_at fresh spot ≡ o → IsSome (option_or (option_map rows_text o) (before (spot_file name def spot)))
          row spot is (Some rows) at = refl
          row spot is None at =
              let leaf = may.others spot is at in
              let one : may.old ≡ old = one_some may.old old (sym may.held ∙ of.acts.held) in
              let file : spot_file name may.old leaf.0 ≡ spot_file name def spot = same_file name (leaf_of may.old leaf.0) (leaf_of def spot) leaf.2 in
              was (spot_file name def spot)
              ∙ subst (λ x. IsSome (length_of session.store x)) file (subst (λ d. IsSome (length_of session.store (spot_file name d leaf.0))) (sym one) (has.rows leaf.0 (subst (λ d. IsSpotOf d leaf.0) one leaf.1)))

          no_leaf : (leaf : Option (List ℕ)) → IfSome leaf IsIdent → (HasLeaf def leaf → ⊥) → (t : Bool) → is_some (length_of after.store (row_name name leaf)) ≡ t → t ≡ false
          no_leaf leaf is none false e = refl
          no_leaf leaf is none true e =
              let file = row_name name leaf in
              let not_new : IsRowFileOf name def file → ⊥ = λ row. none (has_leaf name def leaf of.name_is row) in
              let not_old : IsRowFileOf name old file → ⊥ = λ row. true≢false (sym e ∙ had.1 file ∙ ap is_some (r.gone file row not_new)) in
              sym e ∙ there file (r.others file (row_plain name leaf) (λ same_name. def_not_rows name name leaf (sym same_name)) not_old not_new)
              ∙ ap is_some (has.no_more leaf is (λ leaf_has. not_old (leaf_has.0, leaf_has.1, leaf_file name old leaf leaf_has)))

          own : HasFiles after.store name def
          own = record {
            defined = had.1 (def_name name) ∙ ap is_some r.at_def;
            rows = λ spot is. had.1 (spot_file name def spot) ∙ ap is_some (r.rows spot is) ∙ row spot is (fresh_at fresh spot) refl;
            no_more = λ leaf is none. is_absent (length_of after.store (row_name name leaf)) (no_leaf leaf is none (is_some (length_of after.store (row_name name leaf))) refl);
          }

          beside : (query : List ℕ) → IsIdent query → name ≢ query → HasFilesAt after.store query (def_of after query)
          beside query is apart =
              subst (λ o. HasFilesAt after.store query o) (sym (redefined.others query apart))
              (files_kept_at session.store after.store query (def_of session query) (there (def_name query) (other_def before made r query apart))
              (λ leaf. there (row_name query leaf) (other_row before made r query is apart leaf)) (is_open.files query is))
