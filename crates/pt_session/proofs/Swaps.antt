-- What two tables that exchange rows ask of the store, and what that leaves of a session.
use Rattle.std.proofs.Common.{◌≡◌, ◌≢◌, ◌⊎◌, inl, inr, ℕ, zero, suc, ◌≤◌, Bool, true, false, cond, is_some, List, [], ◌∷◌, length, Option, Some, None, refl, sym, ap, ◌∙◌, subst, arith}
use Rattle.std.specs.Prelude.{Contains, IsSome, IsTrue}
use Rattle.std.specs.List.{All}
use Rattle.std.specs.Option.{option_map, unwrap_or}
use Rattle.std.specs.Str.{bytes_eq}
use Rattle.std.proofs.lemmas.List.Elements.{All-cons, All-nil}
use Rattle.std.proofs.lemmas.Slice.Eq.{bytes_eq-Decides}
use Rattle.pt_host.specs.Disk.{Files}
use Rattle.pt_host.specs.Images.{AreSame}
use Rattle.pt_host.specs.Listed.{FileList}
use Rattle.pt_host.specs.Listed as listed
use Rattle.pt_host.specs.Name.{is_extra}
use Rattle.pt_names.specs.Names.{def_name, row_name, serials_name}
use Rattle.pt_ddl_log.specs.declared.chain.Act.{Act}
use Rattle.pt_ddl_log.specs.declared.chain.Act.TheVariants.{Exchange}
use Rattle.pt_ddl_log.specs.declared.chain.Chain.{Chain}
use Rattle.pt_ddl_log.specs.Chain.{names_of}
use Rattle.pt_ddl_log.specs.Clean.{HasTwo, IsLasting, names_but_from}
use Rattle.pt_ast.specs.declared.database.Db.{Db}
use Rattle.pt_ast.specs.declared.database.Spot.{Spot}
use Rattle.pt_ast.specs.declared.table.PartBy.TheVariants as by
use Rattle.pt_ast.specs.declared.table.TableDef.{TableDef}
use Rattle.pt_place.specs.Place.{leaf_of}
use Rattle.pt_defs.specs.Reading.{def_at}
use Rattle.pt_rowfile.proofs.Parts.{one_some}
use Rattle.pt_rowfile.specs.Counter.{counter_of}
use Rattle.pt_store.specs.declared.store.Store.{Store}
use Rattle.pt_store.specs.Entries.{length_in}
use Rattle.pt_store.specs.Reshape.{Fits, Gives, IsReshape, IsReshaped, ReshapesByName, fixed_names, held, reshaped}
use Rattle.pt_store.specs.Store as store
use Rattle.pt_store.specs.Store.{sizes}
use Rattle.pt_store.proofs.EachName.{each_name}
use Rattle.pt_db.specs.Lookup.{filled, table_of}
use Rattle.pt_db.specs.Rows.{spot_rows}
use Rattle.pt_db.specs.Spots.{IsSpotOf}
use Rattle.pt_db.proofs.Lookups.{table_other}
use Rattle.pt_holds.specs.Acts.{IsExchanged}
use Rattle.pt_holds.specs.Holds.{Holds, spot_file}
use Rattle.pt_holds.specs.ShapeChanges.{IsExchange, IsExchangeOf}
use Rattle.pt_holds.proofs.Exchanges.{exchanged_holds}
use Rattle.pt_holds.proofs.FileNames.{def_not_rows, one_row_file, rows_not_serials}
use Rattle.pt_holds.proofs.Wholes.{first, whole_first}
use Rattle.pt_session.specs.declared.session.Session.{Session}
use Rattle.pt_session.specs.Session.{HasDefs, HasFiles, HasFilesAt, IsKept, IsOpen, IsOver, StandsIn, def_of, length_of}
use Rattle.pt_session.specs.Shaping.{IsExchanging}
use Rattle.pt_session.proofs.FileEnds.{IsOwn, def_plain, own_not_fixed, own_plain, row_own, row_plain, serials_plain, two_names}
use Rattle.pt_session.proofs.Names.{if_some, some_same}
use Rattle.pt_session.proofs.Reshaping.{of_acts, one_all}
use Rattle.pt_session.proofs.ShapeFiles.{leaf_ident}
use Rattle.pt_session.proofs.Shapes.{files_kept_at, plain_holds}
use Rattle.pt_session.proofs.Writes.{def_in_table, filled_defs}

-- # The chain

two_all : {X : Type 0} (P : X → Type 0) (x y : X) → P x → P y → All P (x ∷ y ∷ [])
two_all P x y h k = All-cons P x (y ∷ []) h (one_all P y k)

module _ (lengths : List (List ℕ × ℕ)) (a b : List ℕ) (own_a : IsOwn a) (own_b : IsOwn b) (two : a ≢ b) (there_a : IsSome (length_in lengths a)) (there_b : IsSome (length_in lengths b)) where
  abbrev swap : Act
  swap = Exchange a b

  swap_asks : IsReshape lengths [] (of_acts (swap ∷ []))
  swap_asks = record {
    clean = record {
      apart = λ i j d before below. absurd (omega (arith, before, below));
      lasting = one_all IsLasting swap (two_all (λ name. is_extra name ≡ false) a b (own_plain a own_a) (own_plain b own_b));
      two = one_all HasTwo swap two;
      alone = λ some. refl;
    };
    few = omega arith;
    fit = one_all (Fits lengths []) swap (there_a, there_b);
    distinct = λ i j d before below. absurd (omega (arith, below));
    given = All-nil (λ (file : List ℕ × List ℕ). (act : Act) × Contains (swap ∷ []) act × Gives file.0 act);
    free = one_all (λ act. All (λ name. Contains fixed_names name → ⊥) (names_of act)) swap (two_all (λ name. Contains fixed_names name → ⊥) a b (own_not_fixed a own_a) (own_not_fixed b own_b));
    short = one_all (λ act. All (λ name. length name ≤ 154) (names_but_from act)) swap (two_all (λ name. length name ≤ 154) a b own_a.short own_b.short);
  }

-- # Name by name

-- Two files have each other's bytes, and all others that aren't extra stay.
pub record Swaps (before after : Files) (a b : List ℕ) : Type 0 where
  pub there : after a ≡ before b
  pub back : after b ≡ before a
  pub others : (file : List ℕ) → is_extra file ≡ false → file ≢ a → file ≢ b → after file ≡ before file

swaps_same : (before after other : Files) (a b : List ℕ) → AreSame after other → Swaps before after a b → Swaps before other a b
swaps_same before after other a b same is = record {
  there = same a ∙ is.there;
  back = same b ∙ is.back;
  others = λ file plain not_a not_b. same file ∙ is.others file plain not_a not_b;
}

swap_reshapes : (lengths : List (List ℕ × ℕ)) (fresh : FileList) (chain : Chain) (files : Files) (a b : List ℕ) → IsReshape lengths fresh chain → chain.acts ≡ Exchange a b ∷ []
    → Swaps files (reshaped fresh chain files) a b
swap_reshapes lengths fresh chain files a b asks are = record {
  there = both.0;
  back = both.1;
  others = λ file plain not_a not_b. by_names.others file plain (λ act there stands. none file not_a not_b act (subst (λ acts. Contains acts act) are there) stands);
}
  where
    by_names : ReshapesByName fresh chain files
    by_names = each_name lengths fresh chain files asks

    both : (reshaped fresh chain files a ≡ files b) × (reshaped fresh chain files b ≡ files a)
    both = by_names.exchanged a b (subst (λ acts. Contains acts (Exchange a b)) (sym are) (0, omega arith, refl))

    none : (file : List ℕ) → file ≢ a → file ≢ b → (act : Act) → Contains (Exchange a b ∷ []) act → Contains (names_of act) file → ⊥
    none file not_a not_b act (suc k, within, is) stands = absurd (omega (arith, within))
    none file not_a not_b act (zero, within, is) stands = go (two_names a b file (subst (λ x. Contains (names_of x) file) (sym is) stands))
      where
        go : (a ≡ file) ⊎ (b ≡ file) → ⊥
        go (inl e) = not_a (sym e)
        go (inr e) = not_b (sym e)

-- # The session

module _ (session : Session) (name : List ℕ) (spot : Spot) (other : List ℕ) (chain : Chain) (is_open : IsOpen session) (of : IsExchanging session name spot other chain)
    (may : IsExchange (def_of session) name spot other) where
  abbrev def : TableDef
  def = of.here.def

  abbrev beside : TableDef
  beside = of.beside.def

  kept : IsKept name def
  kept = if_some (def_of session name) def (IsKept name) of.here.held (is_open.defs name)

  kept_other : IsKept other beside
  kept_other = if_some (def_of session other) beside (IsKept other) of.beside.held (is_open.defs other)

  is_of : IsSpotOf def spot
  is_of = subst (λ d. IsSpotOf d spot) (one_some may.def def (sym may.held ∙ of.here.held)) may.of

  whole : beside.by ≡ by.Whole
  whole = subst (λ (d : TableDef). d.by ≡ by.Whole) (one_some may.beside beside (sym may.other_held ∙ of.beside.held)) may.whole

  own_a : IsOwn of.a
  own_a = subst IsOwn (sym of.here.is) (row_own name (leaf_of def spot) of.name_is (leaf_ident def spot of.here.fits))

  own_b : IsOwn of.b
  own_b = subst IsOwn (sym of.beside.is) (row_own other (leaf_of beside first) of.other_is (leaf_ident beside first of.beside.fits))

  two : of.a ≢ of.b
  two same = may.apart (one_row_file name other (leaf_of def spot) (leaf_of beside first) of.name_is of.other_is (sym of.here.is ∙ same ∙ of.beside.is)).0

  there_a : IsSome (length_of session.store of.a)
  there_a =
      let has : HasFiles session.store name def = subst (λ o. HasFilesAt session.store name o) of.here.held (is_open.files name of.name_is) in
      subst (λ file. IsSome (length_of session.store file)) (sym of.here.is) (has.rows spot is_of)

  there_b : IsSome (length_of session.store of.b)
  there_b =
      let has : HasFiles session.store other beside = subst (λ o. HasFilesAt session.store other o) of.beside.held (is_open.files other of.other_is) in
      subst (λ file. IsSome (length_of session.store file)) (sym of.beside.is) (has.rows first (whole_first beside kept_other.storable whole))

  pub exchanging_asks : IsReshape (sizes session.store) [] chain
  exchanging_asks =
      subst (λ (more : List Act). IsReshape (sizes session.store) [] (of_acts more)) (sym of.acts) (swap_asks (sizes session.store) of.a of.b own_a own_b two there_a there_b)

  -- the definition's file of any table, and the counter, are none of the two
  def_apart : (query : List ℕ) → (def_name query ≢ of.a) × (def_name query ≢ of.b)
  def_apart query = (λ e. def_not_rows query name (leaf_of def spot) (e ∙ of.here.is), λ e. def_not_rows query other (leaf_of beside first) (e ∙ of.beside.is))

  serials_apart : (serials_name ≢ of.a) × (serials_name ≢ of.b)
  serials_apart = (λ e. rows_not_serials name (leaf_of def spot) (sym (e ∙ of.here.is)), λ e. rows_not_serials other (leaf_of beside first) (sym (e ∙ of.beside.is)))

  module _ (fresh : FileList) (asks : IsReshape (sizes session.store) fresh chain) where
    swapped : (map next : FileList) → IsReshaped fresh chain map next → Swaps (listed.by_name map) (listed.by_name next) of.a of.b
    swapped map next is =
        swaps_same (listed.by_name map) (reshaped fresh chain (listed.by_name map)) (listed.by_name next) of.a of.b is.files
        (swap_reshapes (sizes session.store) fresh chain (listed.by_name map) of.a of.b asks of.acts)

    -- ---- a database

    pub swapped_holds : (map next : FileList) (db later : Db) → IsReshaped fresh chain map next → StandsIn session map db → IsExchangeOf name spot other db later → Holds (listed.by_name next) later
    swapped_holds map next db later is stands c =
        plain_holds all (listed.by_name next) later (λ file plain. sym (all_plain file plain))
        (exchanged_holds (listed.by_name map) all name other spot db later stands.holds c (subst (λ d. IsSpotOf d spot) (sym same) is_of) (subst (λ (d : TableDef). d.by ≡ by.Whole) (sym same_beside) whole)
        (subst (λ d. IsExchanged (listed.by_name map) all (spot_file name d spot) (spot_file other c.beside.def first)) (sym same)
        (subst (λ d. IsExchanged (listed.by_name map) all (spot_file name def spot) (spot_file other d first)) (sym same_beside) made)))
      where
        s : Swaps (listed.by_name map) (listed.by_name next) of.a of.b
        s = swapped map next is

        same : c.table.def ≡ def
        same = one_some c.table.def def (sym (ap (option_map def_in_table) c.held) ∙ sym (stands.defs.defs name of.name_is) ∙ of.here.held)

        same_beside : c.beside.def ≡ beside
        same_beside = one_some c.beside.def beside (sym (ap (option_map def_in_table) c.other_held) ∙ sym (stands.defs.defs other of.other_is) ∙ of.beside.held)

        -- what was made, with the extra files that were there
        all : Files
        all file = cond (is_extra file) (listed.by_name map file) (listed.by_name next file)

        all_plain : (file : List ℕ) → is_extra file ≡ false → all file ≡ listed.by_name next file
        all_plain file plain = ap (λ t. cond t (listed.by_name map file) (listed.by_name next file)) plain

        made : IsExchanged (listed.by_name map) all (spot_file name def spot) (spot_file other beside first)
        made = record {
          there = subst (λ x. all x ≡ listed.by_name map (spot_file other beside first)) of.here.is (all_plain of.a (own_plain of.a own_a) ∙ s.there ∙ ap (listed.by_name map) of.beside.is);
          back = subst (λ x. all x ≡ listed.by_name map (spot_file name def spot)) of.beside.is (all_plain of.b (own_plain of.b own_b) ∙ s.back ∙ ap (listed.by_name map) of.here.is);
          others = λ file not_a not_b. by_test file not_a not_b (is_extra file) refl;
        }
          where
            by_test : (file : List ℕ) → file ≢ spot_file name def spot → file ≢ spot_file other beside first → (t : Bool) → is_extra file ≡ t
                → cond t (listed.by_name map file) (listed.by_name next file) ≡ listed.by_name map file
            by_test file not_a not_b true e = refl
            by_test file not_a not_b false e = s.others file e (λ same. not_a (same ∙ of.here.is)) (λ same. not_b (same ∙ of.beside.is))

    -- ---- the session afterwards

    module _ (after : Store) where
      pub swapped_over : (map next : FileList) → IsReshaped fresh chain map next → IsOver session (listed.by_name map) → IsOver (record session { store = after }) (listed.by_name next)
      swapped_over map next is over =
          let s = swapped map next is in
          record {
            defs = λ query named. ap (option_map def_at) (s.others (def_name query) (def_plain query) (def_apart query).0 (def_apart query).1) ∙ over.defs query named;
            next = ap (λ (file : Option (List ℕ)). counter_of (unwrap_or file [])) (s.others serials_name serials_plain serials_apart.0 serials_apart.1) ∙ over.next;
          }

      pub swapped_defs : (db later : Db) → HasDefs session db → IsExchangeOf name spot other db later → HasDefs (record session { store = after }) later
      swapped_defs db later had c = record {
        defs = λ query is.
            had.defs query is
            ∙ sym (ap (λ (d : Db). option_map def_in_table (table_of d query)) c.is
            ∙ filled_defs (filled db name c.rows db.next) other c.beside (spot_rows c.table.def spot c.table.rows) db.next query (table_other name c.rows db.tables other c.apart ∙ c.other_held)
            ∙ filled_defs db name c.table c.rows db.next query c.held);
        next = had.next ∙ sym (ap (λ (d : Db). d.next) c.is);
      }

      pub swapped_open : IsTrue (store.is_live after) × ((query : List ℕ) → is_some (length_of after query) ≡ is_some (reshaped fresh chain (held (sizes session.store)) query)) → IsOpen (record session { store = after })
      swapped_open had = record {
        live = had.0;
        defs = is_open.defs;
        files = λ query is. files_kept_at session.store after query (def_of session query) (there (def_name query) (def_plain query)) (λ leaf. there (row_name query leaf) (row_plain query leaf)) (is_open.files query is);
        counter = some_same (length_of session.store serials_name) (length_of after serials_name) (there serials_name serials_plain) is_open.counter;
        some = is_open.some;
        most = is_open.most;
      }
        where
          made : Files
          made = reshaped fresh chain (held (sizes session.store))

          s : Swaps (held (sizes session.store)) made of.a of.b
          s = swap_reshapes (sizes session.store) fresh chain (held (sizes session.store)) of.a of.b asks of.acts

          sized : (o : Option ℕ) → is_some (option_map (λ (size : ℕ). let none : List ℕ = [] in none) o) ≡ is_some o
          sized (Some n) = refl
          sized None = refl

          was : (file : List ℕ) → is_some (held (sizes session.store) file) ≡ is_some (length_of session.store file)
          was file = sized (length_of session.store file)

          at_a : is_some (made of.a) ≡ is_some (length_of session.store of.a)
          at_a = ap is_some s.there ∙ was of.b ∙ there_b ∙ sym there_a

          at_b : is_some (made of.b) ≡ is_some (length_of session.store of.b)
          at_b = ap is_some s.back ∙ was of.a ∙ there_a ∙ sym there_b

          stays : (file : List ℕ) → is_extra file ≡ false → (t u : Bool) → bytes_eq of.a file ≡ t → bytes_eq of.b file ≡ u → is_some (made file) ≡ is_some (length_of session.store file)
          stays file plain true u is_a is_b = subst (λ x. is_some (made x) ≡ is_some (length_of session.store x)) ((bytes_eq-Decides of.a file).0 is_a) at_a
          stays file plain false true is_a is_b = subst (λ x. is_some (made x) ≡ is_some (length_of session.store x)) ((bytes_eq-Decides of.b file).0 is_b) at_b
          stays file plain false false is_a is_b = ap is_some (s.others file plain (away of.a is_a) (away of.b is_b)) ∙ was file
            where
              away : (x : List ℕ) → bytes_eq x file ≡ false → file ≢ x
              away x e same = let bad : true ≡ false = sym ((bytes_eq-Decides x file).1 (sym same)) ∙ e in cc

          there : (file : List ℕ) → is_extra file ≡ false → is_some (length_of after file) ≡ is_some (length_of session.store file)
          there file plain = had.1 file ∙ stays file plain (bytes_eq of.a file) (bytes_eq of.b file) refl refl
