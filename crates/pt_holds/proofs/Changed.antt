-- Files with a batch hold the changed database.
use Rattle.std.proofs.Common.{◌≡◌, ◌≢◌, ◌⊎◌, inl, inr, ℕ, ◌+◌, ◌-◌, ◌*◌, ◌/◌, ◌%◌, ◌<◌, ◌≤◌, ◌^◌, Bool, true, false, cond, ◌&&◌, List, [], ◌++◌, length, Option, Some, None, Ok, Err, refl, sym, ap, ap₂, ◌∙◌, subst, arith, length-append, append-nil}
use Rattle.std.specs.Prelude.{nat_eq}
use Rattle.std.specs.List.{All, AllByRecursion, flat_map}
use Rattle.std.specs.Option.{IsSomeAnd, IsSome, is_some, option_map, option_or, unwrap_or}
use Rattle.std.proofs.lemmas.Bool.{eq-eqb, ne_eqb, lt-ltb, le-leb, eqb-true, true≢false}
use Rattle.std.proofs.lemmas.List.{drop_at}
use Rattle.std.proofs.lemmas.List.Elements.{All-filter, filter_passes}
use Rattle.std.proofs.lemmas.List.Kept.{AllPairs-filter}
use Rattle.pt_value.specs.Ident.{IsIdent}
use Rattle.pt_value.specs.declared.value.Value.{Value}
use Rattle.pt_host.specs.Disk.{Files}
use Rattle.pt_host.specs.Listed.{FileList}
use Rattle.pt_host.specs.Listed as listed
use Rattle.pt_bytes.specs.Numbers.{le_bytes, number_of}
use Rattle.pt_bytes.proofs.Numbers.{again, length-le_bytes}
use Rattle.pt_names.specs.Names.{def_name, row_name, serials_name}
use Rattle.pt_ast.specs.declared.database.Db.{Db}
use Rattle.pt_ast.specs.declared.database.Row.{Row}
use Rattle.pt_ast.specs.declared.database.Spot.{Spot}
use Rattle.pt_ast.specs.declared.database.Table.{Table}
use Rattle.pt_ast.specs.declared.table.TableDef.{TableDef}
use Rattle.pt_place.specs.Place.{leaf_of, place_of}
use Rattle.pt_defs.specs.Reading.{def_at}
use Rattle.pt_rowfile.specs.declared.record.Record.{Record}
use Rattle.pt_rowfile.specs.Counter.{counter_of, is_next, last_number, last_serial}
use Rattle.pt_rowfile.specs.Records.{IsRecord, record_bytes}
use Rattle.pt_rowfile.specs.Rows.{SpellsRows, is_serial, left}
use Rattle.pt_store.specs.Batch.{added, added_to, appended}
use Rattle.pt_store.proofs.Listing.{appended_read}
use Rattle.pt_db.specs.Lookup.{table_of}
use Rattle.pt_db.specs.Rows.{AreRising, is_at, is_spot, row_at, spot_rows}
use Rattle.pt_db.specs.Sound.{IsSoundTable}
use Rattle.pt_db.proofs.Lookups.{table_other, table_same}
use Rattle.pt_db.proofs.Serials.{filtered_rise, same_rows}
use Rattle.pt_db.proofs.Sounds.{sound_table}
use Rattle.pt_db.proofs.Spots.{in_spot, spot_same}
use Rattle.pt_holds.specs.Batch.{IsBatchOf, IsRowFileOf, deletes_in, puts_in, records_in}
use Rattle.pt_holds.specs.Holds.{Holds, HoldsAt, HoldsTable, spot_file}
use Rattle.pt_holds.specs.RowChanges.{AreApart, AreOnce, IsChangeOf, changed_at, is_deleted, kept, rows_put}
use Rattle.pt_holds.specs.declared.change.RowChange.{RowChange}
use Rattle.pt_holds.proofs.FileNames.{def_not_rows, def_not_serials}
use Rattle.pt_holds.proofs.Held.{by_name, elsewhere, holds_same, ident}
use Rattle.pt_holds.proofs.InSpots.{spot_changed, spot_new}
use Rattle.pt_holds.proofs.Left.{deletes_of, left_both, left_deletes, left_puts, puts_of, spells_more}

-- ---- one file

added_none : (batch : FileList) (map : Files) (file : List ℕ) → added_to batch file ≡ [] → added batch map file ≡ map file
added_none batch map file none = go (map file) (added_to batch file) none
  where
    go : (o : Option (List ℕ)) (more : List ℕ) → more ≡ [] → option_map (λ (bytes : List ℕ). bytes ++ more) o ≡ o
    go None more e = refl
    go (Some bytes) more e = ap (λ (xs : List ℕ). Some (bytes ++ xs)) e ∙ ap (λ (xs : List ℕ). Some xs) (append-nil bytes)

rows_more : (file : Option (List ℕ)) (more : List ℕ) (entries : List Record) (rows later : List Row) → IsSomeAnd file (λ bytes. SpellsRows bytes rows) → more ≡ flat_map record_bytes entries
    → AllByRecursion IsRecord entries → left entries rows ≡ Some later → IsSomeAnd (option_map (λ (bytes : List ℕ). bytes ++ more) file) (λ bytes. SpellsRows bytes later)
rows_more None more entries rows later h e each leaves = h
rows_more (Some bytes) more entries rows later h e each leaves = subst (λ (xs : List ℕ). SpellsRows (bytes ++ xs) later) (sym e) (spells_more bytes rows later entries h each leaves)

-- ---- the counter

whole_before : (bytes : List ℕ) (next : ℕ) → counter_of bytes ≡ Ok next → length bytes % 8 ≡ 0
unfolding counter_of
whole_before bytes next e = go (nat_eq (length bytes % 8) 0) refl e
  where
    go : (t : Bool) → nat_eq (length bytes % 8) 0 ≡ t → cond t (last_serial bytes) (Err (8 * (length bytes / 8))) ≡ Ok next → length bytes % 8 ≡ 0
    go true is h = eqb-true (length bytes % 8) 0 is
    go false is h = cc

one_more_multiple : (n m : ℕ) → n % 8 ≡ 0 → m ≡ n + 8 → m % 8 ≡ 0
one_more_multiple n m e is = omega (arith, e, is)

below_word : (n : ℕ) → n ≤ 2 ^ 62 → n < 256 ^ 8
below_word n most = omega arith

next_passes : (n : ℕ) → 0 < n → n ≤ 2 ^ 62 → is_next n ≡ true
next_passes n some most = ap₂ (λ (a b : Bool). a && b) (lt-ltb 0 n some) (le-leb n (2 ^ 62) most)

pub counter_next : (bytes : List ℕ) (next later : ℕ) → counter_of bytes ≡ Ok next → 0 < later → later ≤ 2 ^ 62 → counter_of (bytes ++ le_bytes 8 later) ≡ Ok later
unfolding counter_of
counter_next bytes next later e some most =
    let all = bytes ++ le_bytes 8 later in
    let long : length all ≡ length bytes + 8 = omega (arith, length-append bytes (le_bytes 8 later), length-le_bytes 8 later) in
    let multiple : length all % 8 ≡ 0 = one_more_multiple (length bytes) (length all) (whole_before bytes next e) long in
    let last : last_number all ≡ later = ap number_of (drop_at bytes (le_bytes 8 later) (length all - 8) (omega (arith, long))) ∙ again 8 later (below_word later most) in
    ap (λ t. cond t (last_serial all) (Err (8 * (length all / 8)))) (eq-eqb (length all % 8) 0 multiple)
    ∙ ap (λ t. cond t (Ok 1) (cond (is_next (last_number all)) (Ok (last_number all)) (Err (length all - 8)))) (ne_eqb (length all) 0 (λ none. omega (arith, none, long)))
    ∙ ap (λ n. cond (is_next n) (Ok n) (Err (length all - 8))) last
    ∙ ap (λ t. cond t (Ok later) (Err (length all - 8))) (next_passes later some most)

counter_more : (file : Option (List ℕ)) (more : List ℕ) (next later : ℕ) → IsSome file → counter_of (unwrap_or file []) ≡ Ok next → more ≡ le_bytes 8 later → 0 < later → later ≤ 2 ^ 62
    → counter_of (unwrap_or (option_map (λ (bytes : List ℕ). bytes ++ more) file) []) ≡ Ok later
counter_more None more next later there e is some most = absurd (true≢false (sym there))
counter_more (Some bytes) more next later there e is some most = ap (λ (xs : List ℕ). counter_of (bytes ++ xs)) is ∙ counter_next bytes next later e some most

-- ---- a spot

module _ (def : TableDef) (spot : Spot) (deletes : List (Spot × ℕ)) (puts : List (Spot × Row)) (before later : List Row) (up_before : AreRising before) (up_later : AreRising later)
    (apart : AreApart deletes) (once : AreOnce puts) (placed : All (λ (p : Spot × Row). place_of def p.1.cells ≡ Some p.0) puts)
    (named : All (λ (d : Spot × ℕ). IsSomeAnd (row_at before d.1) (λ cells. place_of def cells ≡ Some d.0)) deletes)
    (new : (serial : ℕ) → (row_at (rows_put puts) serial ≡ None) ⊎ (kept (is_deleted deletes serial) (row_at before serial) ≡ None))
    (serials : All (λ (p : Spot × Row). is_serial p.1.serial ≡ true) puts)
    (is : (serial : ℕ) → row_at later serial ≡ changed_at deletes puts before serial) where
  own : List Row
  own = spot_rows def spot before

  there : (d : Spot × ℕ) → IsSomeAnd (row_at before d.1) (λ cells. place_of def cells ≡ Some d.0) → is_spot spot d.0 ≡ true → IsSome (row_at (spot_rows def spot before) d.1)
  there d of here = go (row_at before d.1) refl of
    where
      go : (o : Option (List Value)) → row_at before d.1 ≡ o → IsSomeAnd o (λ cells. place_of def cells ≡ Some d.0) → IsSome (row_at (spot_rows def spot before) d.1)
      go None at h = absurd h
      go (Some cells) at h =
          ap (λ (o : Option (List Value)). is_some o) (in_spot def spot before d.1 cells up_before at (h ∙ ap (λ (s : Spot). Some s) (sym (spot_same spot d.0 here))))

  all_there : All (λ (d : Spot × ℕ). IsSome (row_at (spot_rows def spot before) d.1)) (deletes_in spot deletes)
  all_there k d within =
      there _ (All-filter (λ (e : Spot × ℕ). is_spot spot e.0) (λ (e : Spot × ℕ). IsSomeAnd (row_at before e.1) (λ cells. place_of def cells ≡ Some e.0)) deletes named k d within)
      (filter_passes (λ (e : Spot × ℕ). is_spot spot e.0) deletes k d within)

  pub spot_left : left (deletes_of (deletes_in spot deletes) ++ puts_of (puts_in spot puts)) (spot_rows def spot before) ≡ Some (spot_rows def spot later)
  spot_left =
      let gone = left_deletes (deletes_in spot deletes) (spot_rows def spot before) (filtered_rise (is_at def spot) before up_before) all_there
      (AllPairs-filter (λ (a b : Spot × ℕ). a.1 ≢ b.1) (λ (e : Spot × ℕ). is_spot spot e.0) deletes apart) in
      let free = λ (serial : ℕ). by_way serial gone.later (gone.each serial) (spot_new def spot before deletes puts up_before once placed named new serial) in
      let come = left_puts (puts_in spot puts) gone.later gone.rising
      (All-filter (λ (p : Spot × Row). is_spot spot p.0) (λ (p : Spot × Row). is_serial p.1.serial ≡ true) puts serials)
      (AllPairs-filter (λ (a b : Spot × Row). a.1.serial ≢ b.1.serial) (λ (p : Spot × Row). is_spot spot p.0) puts once) free in
      let same : come.later ≡ spot_rows def spot later = same_rows come.later (spot_rows def spot later) come.rising (filtered_rise (is_at def spot) later up_later)
      (λ serial.
      come.each serial
      ∙ ap (option_or (row_at (rows_put (puts_in spot puts)) serial)) (gone.each serial)
      ∙ sym (spot_changed def spot before later deletes puts serial up_before up_later once placed named new (is serial))) in
      left_both (deletes_of (deletes_in spot deletes)) (puts_of (puts_in spot puts)) (spot_rows def spot before) gone.later gone.leaves
      ∙ come.leaves ∙ ap (λ (rows : List Row). Some rows) same
    where
      by_way : (serial : ℕ) (rows : List Row) → row_at rows serial ≡ kept (is_deleted (deletes_in spot deletes) serial) (row_at (spot_rows def spot before) serial)
          → (row_at (rows_put (puts_in spot puts)) serial ≡ None) ⊎ (kept (is_deleted (deletes_in spot deletes) serial) (row_at (spot_rows def spot before) serial) ≡ None)
          → (row_at (rows_put (puts_in spot puts)) serial ≡ None) ⊎ (row_at rows serial ≡ None)
      by_way serial rows e (inl none) = inl none
      by_way serial rows e (inr none) = inr (e ∙ none)

-- ---- the whole

module _ (map : Files) (batch : FileList) (change : RowChange) (db later : Db) (h : Holds map db) (c : IsChangeOf change db later) (b : IsBatchOf batch c.table.def change)
    (serials : All (λ (p : Spot × Row). is_serial p.1.serial ≡ true) change.puts) (there : IsSome (map serials_name)) where
  abbrev changed : Table
  changed = record c.table { rows = c.rows }

  at_later : table_of later change.table ≡ Some changed
  at_later = ap (λ (d : Db). table_of d change.table) c.is ∙ table_same change.table c.rows db.tables c.table c.held

  sound_before : IsSoundTable db.next c.table
  sound_before = sound_table db h.sound change.table c.table c.held

  sound_later : IsSoundTable later.next changed
  sound_later = sound_table later c.sound change.table changed at_later

  is_name : IsIdent change.table
  is_name = ident db h.sound change.table c.table c.held

  old : HoldsTable map change.table c.table
  old = subst (λ o. HoldsAt map change.table o) c.held (h.tables change.table is_name)

  other_file : (file : List ℕ) → file ≢ serials_name → (IsRowFileOf change.table c.table.def file → ⊥) → added batch map file ≡ map file
  other_file file not_counter not_rows = added_none batch map file (b.others file not_counter not_rows)

  here : HoldsTable (added batch map) change.table changed
  here = record {
    defined =
        ap (option_map def_at) (other_file (def_name change.table) (def_not_serials change.table) (λ of. def_not_rows change.table change.table (leaf_of c.table.def of.0) of.2)) ∙ old.defined;
    rows = λ spot is.
        rows_more (map (spot_file change.table c.table.def spot)) (added_to batch (spot_file change.table c.table.def spot)) (records_in spot change) (spot_rows c.table.def spot c.table.rows)
        (spot_rows c.table.def spot c.rows) (old.rows spot is) (b.rows spot is) (b.proper spot is)
        (spot_left c.table.def spot change.deletes change.puts c.table.rows c.rows sound_before.rows.rising sound_later.rows.rising c.apart c.once c.in_place.puts c.in_place.deletes c.new serials c.each);
    no_more = λ leaf low none. ap (option_map (λ (bytes : List ℕ). bytes ++ added_to batch (row_name change.table leaf))) (old.no_more leaf low none);
  }

  pub written_holds : Holds (added batch map) later
  written_holds = record {
    sound = c.sound;
    tables = by_name (λ query. HoldsAt (added batch map) query (table_of later query)) change.table (subst (λ o. HoldsAt (added batch map) change.table o) (sym at_later) here)
        (λ query is apart. subst (λ o. HoldsAt (added batch map) query o) (sym (ap (λ (d : Db). table_of d query) c.is ∙ table_other change.table c.rows db.tables query apart))
        (elsewhere map (added batch map) change.table query c.table.def (table_of db query) is_name is apart (λ file not_def not_counter not_rows. other_file file not_counter not_rows) (h.tables query is)));
    counter = counter_more (map serials_name) (added_to batch serials_name) db.next later.next there h.counter (b.counter ∙ ap (λ (n : ℕ). le_bytes 8 n) (sym (ap (λ (d : Db). d.next) c.is))) c.sound.some c.sound.most;
  }

-- the same of a list of files
pub appended_holds : (files batch : FileList) (change : RowChange) (db later : Db) → Holds (listed.by_name files) db → (c : IsChangeOf change db later) → IsBatchOf batch c.table.def change
    → All (λ (p : Spot × Row). is_serial p.1.serial ≡ true) change.puts → IsSome (listed.by_name files serials_name) → Holds (listed.by_name (appended batch files)) later
appended_holds files batch change db later h c b serials there =
    holds_same (added batch (listed.by_name files)) (listed.by_name (appended batch files)) later (appended_read batch files) (written_holds (listed.by_name files) batch change db later h c b serials there)
