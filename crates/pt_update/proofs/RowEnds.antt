-- The change of a table's rows that a statement makes of a database.
use Rattle.std.proofs.Common.{◌≡◌, ◌≢◌, ◌⊎◌, inl, inr, ℕ, ◌+◌, ◌<◌, ◌≤◌, ◌^◌, ◌==◌, Bool, true, false, cond, not, ◌||◌, List, [], ◌∷◌, ◌++◌, map, length, take, get_or, Option, Some, None, Result, Ok, Err, refl, sym, ap, ap₂, ◌∙◌, subst, true≢false, arith}
use Rattle.std.specs.List.{All, AllPairs, filter, list_any}
use Rattle.std.specs.Option.{IfSome, IsSome, IsSomeAnd, option_or, unwrap_or}
use Rattle.std.specs.Result.{IfOk}
use Rattle.std.specs.Str.{bytes_eq}
use Rattle.std.proofs.lemmas.Bool.{and_parts, eq-eqb}
use Rattle.std.proofs.lemmas.List.{get_or-map, length-map, map-append, take_more}
use Rattle.std.proofs.lemmas.List.Elements.{All-filter, All-head, All-map, All-nil, All-weaker, filter_passes}
use Rattle.std.proofs.lemmas.List.Kept.{AllPairs-cons, AllPairs-filter}
use Rattle.std.proofs.lemmas.Map.Entries.{option_filter}
use Rattle.std.proofs.lemmas.Map.Keys.{below_from_sorted}
use Rattle.std.proofs.lemmas.Slice.Eq.{bytes_eq-Decides}
use Rattle.pt_plain.proofs.Pairs.{pairs_head, pairs_tail}
use Rattle.pt_value.specs.declared.value.Value.{Value}
use Rattle.pt_ast.specs.declared.database.Db.{Db}
use Rattle.pt_ast.specs.declared.database.Row.{Row}
use Rattle.pt_ast.specs.declared.database.Spot.{Spot}
use Rattle.pt_ast.specs.declared.database.Table.{Table}
use Rattle.pt_ast.specs.declared.statement.Tail.{Tail}
use Rattle.pt_ast.specs.declared.table.TableDef.{TableDef}
use Rattle.pt_expr.specs.Columns.{AreFitting}
use Rattle.pt_place.specs.Place.{place_of}
use Rattle.pt_place.specs.Valid.{IsValid}
use Rattle.pt_checks.specs.declared.faults.CellsFault.{CellsFault}
use Rattle.pt_checks.specs.Wanted.{candidates, is_in_parts, is_wanted, passes}
use Rattle.pt_db.specs.Lookup.{filled, table_in, table_of, with_rows}
use Rattle.pt_db.specs.Outcome.{Outcome}
use Rattle.pt_db.specs.Rows.{AreRising, is_numbered, row_at}
use Rattle.pt_db.specs.Sound.{AreSoundRows, IsSound, IsSoundRow, has_wrong_null}
use Rattle.pt_db.specs.Spots.{IsSpotOf}
use Rattle.pt_db.specs.Texts.{count_text, counts_text}
use Rattle.pt_db.proofs.Lookups.{rows_rise, same_tables, table_other, table_same}
use Rattle.pt_db.proofs.RowSounds.{rows_kept}
use Rattle.pt_db.proofs.Serials.{row_filtered, row_holds, rows_hold, same_rows}
use Rattle.pt_db.proofs.Sounds.{filled_sound, sound_table}
use Rattle.pt_db.proofs.Spots.{placed_spot}
use Rattle.pt_flat.specs.declared.updating.Updating.{Updating}
use Rattle.pt_flat.specs.Delete.{with_deleted_rows, without_rows}
use Rattle.pt_holds.specs.RowChanges.{AreNew, IsChangeOf, IsRowChange, is_deleted, kept, rows_put}
use Rattle.pt_holds.specs.declared.change.RowChange.{RowChange}
use Rattle.pt_session.proofs.Telling.{MeansChange}
use Rattle.pt_candidates.proofs.Kept.{arranged_all, arranged_pairs}
use Rattle.pt_update.specs.declared.work.Work.{Work}
use Rattle.pt_update.specs.Changes.{MeansRows, delete_of, spot_of}
use Rattle.pt_update.specs.Parts.{IsPlacedIn}
use Rattle.pt_update.specs.Work.{AreTaken, IsMoving, IsPut, IsWork, change_of}

-- # Rows that are taken

place_is : (def : TableDef) (cells : List Value) → IsSome (place_of def cells) → place_of def cells ≡ Some (spot_of def cells)
place_is def cells some = by (place_of def cells) refl some
  where
    by : (o : Option Spot) → place_of def cells ≡ o → IsSome o → place_of def cells ≡ Some (spot_of def cells)
    by None at is = let bad : false ≡ true = is in cc
    by (Some spot) at is = at ∙ sym (ap (λ (o : Option Spot). Some (unwrap_or o (record { part = 0; sub = 0 }))) at)

serials_apart : (rows : List Row) → AreRising rows → AllPairs (λ (a b : Row). a.serial ≢ b.serial) rows
serials_apart rows up = λ i j d before below same.
    let serials = map (λ (r : Row). r.serial) rows in
    let lower : get_or serials i d.serial < get_or serials j d.serial = below_from_sorted serials i j d.serial up before (omega (arith, below, length-map rows (λ (r : Row). r.serial))) in
    let here : get_or serials i d.serial ≡ (get_or rows i d).serial = get_or-map (λ (r : Row). r.serial) rows i d d.serial (omega (arith, before, below)) in
    let there : get_or serials j d.serial ≡ (get_or rows j d).serial = get_or-map (λ (r : Row). r.serial) rows j d d.serial below in
    omega (arith, lower, here, there, same)

pub taken_are : (def : TableDef) (parts : Option (List (List ℕ))) (tail : Tail) (rows : List Row) → AreRising rows → AreTaken def parts rows (candidates def parts tail rows)
taken_are def parts tail rows up = record {
  stand = arranged_all Stands def.columns tail wanted (All-filter (is_wanted def parts tail.cond) Stands rows (rows_hold Stands rows up (λ serial cells at. at)));
  named = arranged_all (λ (row : Row). is_in_parts def parts row.cells ≡ true) def.columns tail wanted
      (All-weaker (λ (row : Row). is_wanted def parts tail.cond row ≡ true) (λ (row : Row). is_in_parts def parts row.cells ≡ true)
      (λ row is. (and_parts (is_in_parts def parts row.cells) (passes def.columns tail.cond row.cells) is).0) wanted (filter_passes (is_wanted def parts tail.cond) rows));
  apart = arranged_pairs Apart (λ a b differ same. differ (sym same)) def.columns tail wanted (AllPairs-filter Apart (is_wanted def parts tail.cond) rows (serials_apart rows up));
}
  where
    Stands : Row → Type 0
    Stands row = row_at rows row.serial ≡ Some row.cells

    Apart : Row → Row → Type 0
    Apart a b = a.serial ≢ b.serial

    wanted : List Row
    wanted = filter (is_wanted def parts tail.cond) rows

-- # The same database, or another

same_filled : (db : Db) (name : List ℕ) (table : Table) → IsSound db → table_of db name ≡ Some table → filled db name table.rows db.next ≡ db
same_filled db name table sound held =
    ap (λ tables. let d : Db = record { tables = tables; next = db.next } in d)
    (same_tables (with_rows name table.rows db.tables) db.tables (rows_rise name table.rows db.tables sound.rising) sound.rising (λ query. by query (bytes_eq name query) refl))
  where
    by : (query : List ℕ) (t : Bool) → bytes_eq name query ≡ t → table_in (with_rows name table.rows db.tables) query ≡ table_in db.tables query
    by query true e = subst (λ q. table_in (with_rows name table.rows db.tables) q ≡ table_in db.tables q) ((bytes_eq-Decides name query).0 e) (table_same name table.rows db.tables table held ∙ sym held)
    by query false e = table_other name table.rows db.tables query (λ same. true≢false (sym ((bytes_eq-Decides name query).1 same) ∙ e))

abbrev rows_in : Option Table → List Row
rows_in None = []
rows_in (Some table) = table.rows

module _ (db : Db) (name : List ℕ) (table : Table) (held : table_of db name ≡ Some table) (rows : List Row) (next : ℕ) where
  -- where other cells stand at a serial, it is another
  differs_at : (serial : ℕ) → (row_at rows serial ≡ row_at table.rows serial → ⊥) → filled db name rows next ≡ db → ⊥
  differs_at serial apart same =
      apart (ap (λ rs. row_at rs serial) (ap rows_in (sym (table_same name rows db.tables table held) ∙ ap (λ (d : Db). table_of d name) same ∙ held)))

-- # DELETE

module _ (db : Db) (name : List ℕ) (table : Table) (sound : IsSound db) (held : table_of db name ≡ Some table) (parts : Option (List (List ℕ))) (taken : List Row) (are : AreTaken table.def parts table.rows taken) where
  abbrev def : TableDef
  def = table.def

  abbrev deletes : List (Spot × ℕ)
  deletes = map (delete_of def) taken

  abbrev pub deleting : RowChange
  deleting = record { table = name; deletes = deletes; puts = []; next = db.next }

  abbrev left : List Row
  left = without_rows taken table.rows

  rows_sound : AreSoundRows db.next def table.rows
  rows_sound = (sound_table db sound name table held).rows

  deleted_is : (rows : List Row) (serial : ℕ) → is_deleted (map (delete_of def) rows) serial ≡ list_any (is_numbered serial) rows
  deleted_is [] serial = refl
  deleted_is (row ∷ rows) serial = ap (λ t. (row.serial == serial) || t) (deleted_is rows serial)

  left_at : (serial : ℕ) → row_at left serial ≡ kept (is_deleted deletes serial) (row_at table.rows serial)
  left_at serial =
      row_filtered (λ (row : Row). not (list_any (is_numbered row.serial) taken)) table.rows serial rows_sound.rising
      ∙ by (list_any (is_numbered serial) taken) (row_at table.rows serial)
      ∙ sym (ap (λ t. kept t (row_at table.rows serial)) (deleted_is taken serial))
    where
      by : (t : Bool) (o : Option (List Value)) → option_filter (λ cells. not t) o ≡ kept t o
      by true None = refl
      by true (Some cells) = refl
      by false None = refl
      by false (Some cells) = refl

  some_kept : (t : Bool) (o : Option (List Value)) → IsSome (kept t o) → IsSome o
  some_kept true o some = let bad : false ≡ true = some in cc
  some_kept false o some = some

  apart_of : (rows : List Row) → AllPairs (λ (a b : Row). a.serial ≢ b.serial) rows → AllPairs (λ (a b : Spot × ℕ). a.1 ≢ b.1) (map (delete_of def) rows)
  apart_of [] pairs = λ i j d before below. absurd (omega (arith, below))
  apart_of (row ∷ rows) pairs =
      AllPairs-cons (λ (a b : Spot × ℕ). a.1 ≢ b.1) (delete_of def row) (map (delete_of def) rows)
      (All-map (λ (b : Spot × ℕ). row.serial ≢ b.1) (delete_of def) rows (pairs_head (λ (a b : Row). a.serial ≢ b.serial) row rows pairs))
      (apart_of rows (pairs_tail (λ (a b : Row). a.serial ≢ b.serial) row rows pairs))

  in_place_of : (row : Row) → row_at table.rows row.serial ≡ Some row.cells → IsSomeAnd (row_at table.rows row.serial) (λ cells. place_of def cells ≡ Some (spot_of def row.cells))
  in_place_of row at =
      subst (λ (o : Option (List Value)). IsSomeAnd o (λ cells. place_of def cells ≡ Some (spot_of def row.cells))) (sym at)
      (place_is def row.cells (row_holds (IsSoundRow db.next def) table.rows row.serial row.cells rows_sound.each at).placed)

  deleted_change : IsChangeOf deleting db (filled db name left db.next)
  deleted_change = record {
    table = table;
    held = held;
    rows = left;
    is = refl;
    in_place = record {
      deletes = All-map (λ (d : Spot × ℕ). IsSomeAnd (row_at table.rows d.1) (λ cells. place_of def cells ≡ Some d.0)) (delete_of def) taken
          (All-weaker (λ (row : Row). row_at table.rows row.serial ≡ Some row.cells) (λ (row : Row). IsSomeAnd (row_at table.rows row.serial) (λ cells. place_of def cells ≡ Some (spot_of def row.cells))) in_place_of taken are.stand);
      puts = All-nil (λ (put : Spot × Row). place_of def put.1.cells ≡ Some put.0);
    };
    each = left_at;
    apart = apart_of taken are.apart;
    once = λ i j d before below. absurd (omega (arith, below));
    new = λ serial. inl refl;
    sound = filled_sound db name table left db.next sound held (rows_kept db.next def (λ (row : Row). not (list_any (is_numbered row.serial) taken)) table.rows rows_sound) (omega arith) sound.most
        (λ serial below some. some_kept (is_deleted deletes serial) (row_at table.rows serial) (subst (λ o. IsSome o) (left_at serial) some));
  }

  none_deleted : deletes ≡ [] → left ≡ table.rows
  none_deleted none =
      same_rows left table.rows (rows_kept db.next def (λ (row : Row). not (list_any (is_numbered row.serial) taken)) table.rows rows_sound).rising rows_sound.rising
      (λ serial. left_at serial ∙ ap (λ (ds : List (Spot × ℕ)). kept (is_deleted ds serial) (row_at table.rows serial)) none)

  first_gone : 0 < length deletes → filled db name left db.next ≡ db → ⊥
  first_gone some = by taken refl some
    where
      by : (rows : List Row) → taken ≡ rows → 0 < length (map (delete_of def) rows) → filled db name left db.next ≡ db → ⊥
      by [] is less = absurd (omega (arith, less))
      by (row ∷ rows) is less =
          differs_at db name table held left db.next row.serial (λ same.
          let there : row_at table.rows row.serial ≡ Some row.cells = All-head (λ (r : Row). row_at table.rows r.serial ≡ Some r.cells) row rows (subst (All (λ (r : Row). row_at table.rows r.serial ≡ Some r.cells)) is are.stand) in
          let gone : is_deleted deletes row.serial ≡ true = ap (λ (rs : List Row). is_deleted (map (delete_of def) rs) row.serial) is ∙ ap (λ t. t || is_deleted (map (delete_of def) rows) row.serial) (eq-eqb row.serial row.serial refl) in
          let bad : None ≡ Some row.cells = sym (left_at row.serial ∙ ap (λ t. kept t (row_at table.rows row.serial)) gone) ∙ same ∙ there in cc)

  pub deleted_means : (outcome : Outcome) → outcome ≡ with_deleted_rows db name table.rows taken → MeansRows deleting db (count_text (length deletes)) outcome
  deleted_means outcome is = record {
    later = filled db name left db.next;
    is = is ∙ ap (λ n. Ok (record { db = filled db name left db.next; text = count_text n })) (sym (length-map taken (delete_of def)));
    change = deleted_change;
    same = λ none. ap (λ rows. filled db name rows db.next) (none_deleted none) ∙ same_filled db name table sound held;
    differs = first_gone;
  }

-- # UPDATE

module _ (db : Db) (name : List ℕ) (table : Table) (sound : IsSound db) (held : table_of db name ≡ Some table) (updating : Updating) (work : Work) (moving : IsMoving db.next table.def table.rows updating work)
    (w : IsWork table.def work) where
  abbrev pub updating_change : RowChange
  updating_change = change_of name db.next work

  rows_new : AreNew work.deletes work.puts table.rows
  rows_new serial = by (row_at (rows_put work.puts) serial) refl
    where
      by : (o : Option (List Value)) → row_at (rows_put work.puts) serial ≡ o → (row_at (rows_put work.puts) serial ≡ None) ⊎ (kept (is_deleted work.deletes serial) (row_at table.rows serial) ≡ None)
      by None at = inl at
      by (Some cells) at = inr (ap (λ t. kept t (row_at table.rows serial)) (row_holds (λ (row : Row). is_deleted work.deletes row.serial ≡ true) (rows_put work.puts) serial cells moving.gone at))

  updated_change : IsChangeOf updating_change db (filled db name updating.rows db.next)
  updated_change = record {
    table = table;
    held = held;
    rows = updating.rows;
    is = refl;
    in_place = record {
      deletes = moving.in_place;
      puts = All-weaker (IsPut table.def) (λ (put : Spot × Row). place_of table.def put.1.cells ≡ Some put.0) (λ put is. is.placed) work.puts w.puts;
    };
    each = moving.each;
    apart = moving.apart;
    once = moving.once;
    new = rows_new;
    sound = filled_sound db name table updating.rows db.next sound held moving.sound (omega arith) sound.most (λ serial below some. moving.old serial some);
  }

  none_put : {X Y : Type 0} (xs : List X) (ys : List Y) → length xs ≡ length ys → ys ≡ [] → xs ≡ []
  none_put [] ys long none = refl
  none_put (x ∷ xs) ys long none = absurd (let none_long = ap length none in omega (arith, long, none_long))

  none_updated : work.deletes ≡ [] → updating.rows ≡ table.rows
  none_updated none =
      let unput = none_put work.puts work.deletes w.many none in
      same_rows updating.rows table.rows moving.sound.rising (sound_table db sound name table held).rows.rising
      (λ serial. moving.each serial ∙ ap₂ (λ (ds : List (Spot × ℕ)) (ps : List (Spot × Row)). option_or (row_at (rows_put ps) serial) (kept (is_deleted ds serial) (row_at table.rows serial))) none unput)

  first_other : 0 < length work.deletes → filled db name updating.rows db.next ≡ db → ⊥
  first_other some = by work.puts refl
    where
      by : (puts : List (Spot × Row)) → work.puts ≡ puts → filled db name updating.rows db.next ≡ db → ⊥
      by [] is = absurd (let many = w.many in let none_long : length work.puts ≡ 0 = ap (λ (ps : List (Spot × Row)). length ps) is in omega (arith, some, many, none_long))
      by (put ∷ puts) is =
          differs_at db name table held updating.rows db.next put.1.serial (λ same.
          let other : row_at table.rows put.1.serial ≢ Some put.1.cells =
          All-head (λ (r : Row). row_at table.rows r.serial ≢ Some r.cells) put.1 (rows_put puts) (subst (λ (ps : List (Spot × Row)). All (λ (r : Row). row_at table.rows r.serial ≢ Some r.cells) (rows_put ps)) is moving.other) in
          let first : row_at (rows_put work.puts) put.1.serial ≡ Some put.1.cells =
          ap (λ (ps : List (Spot × Row)). row_at (rows_put ps) put.1.serial) is ∙ ap (λ t. cond t (Some put.1.cells) (row_at (rows_put puts) put.1.serial)) (eq-eqb put.1.serial put.1.serial refl) in
          let now : row_at updating.rows put.1.serial ≡ Some put.1.cells = moving.each put.1.serial ∙ ap (λ o. option_or o (kept (is_deleted work.deletes put.1.serial) (row_at table.rows put.1.serial))) first in
          other (sym same ∙ now))

  pub updated_means : (matched : ℕ) (outcome : Outcome) → updating.matched ≡ matched → outcome ≡ Ok (record { db = filled db name updating.rows db.next; text = counts_text updating.matched updating.changed })
      → MeansRows updating_change db (counts_text matched (length work.puts)) outcome
  updated_means matched outcome all is = record {
    later = filled db name updating.rows db.next;
    is = is ∙ ap₂ (λ n m. Ok (record { db = filled db name updating.rows db.next; text = counts_text n m })) all moving.counted;
    change = updated_change;
    same = λ none. ap (λ rows. filled db name rows db.next) (none_updated none) ∙ same_filled db name table sound held;
    differs = first_other;
  }

-- # Over every host

pub deletes_change : (name : List ℕ) (next : ℕ) (def : TableDef) (rows : List Row) → IsValid def → All (IsSoundRow next def) rows → 0 < next → next ≤ 2 ^ 62
    → IsRowChange def (record { table = name; deletes = map (delete_of def) rows; puts = []; next = next })
deletes_change name next def rows valid sound some most = record {
  deletes = All-map (λ (d : Spot × ℕ). IsSpotOf def d.0) (delete_of def) rows
      (All-weaker (IsSoundRow next def) (λ (row : Row). IsSpotOf def (spot_of def row.cells)) (λ row is. placed_spot def valid row.cells (spot_of def row.cells) (place_is def row.cells is.placed)) rows sound);
  puts = All-nil _;
  fit = All-nil _;
  serials = All-nil _;
  least = some;
  most = most;
}

pub updates_change : (name : List ℕ) (next : ℕ) (def : TableDef) (work : Work) → IsValid def → IsWork def work → 0 < next → next ≤ 2 ^ 62 → IsRowChange def (change_of name next work)
updates_change name next def work valid w some most = record {
  deletes = w.deletes;
  puts = All-weaker (IsPut def) (λ (put : Spot × Row). IsSpotOf def put.0) (λ put is. placed_spot def valid put.1.cells put.0 is.placed) work.puts w.puts;
  fit = All-weaker (IsPut def) _ (λ put is. is.fits) work.puts w.puts;
  serials = All-weaker (IsPut def) _ (λ put is. is.serial) work.puts w.puts;
  least = some;
  most = most;
}

pub spot_in : (next : ℕ) (def : TableDef) (row : Row) → IsValid def → IsSoundRow next def row → IsSpotOf def (spot_of def row.cells)
spot_in next def row valid is = placed_spot def valid row.cells (spot_of def row.cells) (place_is def row.cells is.placed)

pub stands_at : (next : ℕ) (def : TableDef) (row : Row) → IsSoundRow next def row → place_of def row.cells ≡ Some (spot_of def row.cells)
stands_at next def row is = place_is def row.cells is.placed

-- # The two ends of a statement

pub means_unchanged : (made : RowChange) (db : Db) (text : List ℕ) (outcome : Outcome) → made.deletes ≡ [] → MeansRows made db text outcome → outcome ≡ Ok (record { db = db; text = text })
means_unchanged made db text outcome none means = means.is ∙ ap (λ d. Ok (record { db = d; text = text })) (means.same none)

pub means_kept : (made : RowChange) (db : Db) (text : List ℕ) (outcome : Outcome) → 0 < length made.deletes → MeansRows made db text outcome → MeansChange (IsChangeOf made) db text outcome
means_kept made db text outcome some means = record { later = means.later; is = means.is; change = means.change; differs = means.differs some }

-- # Code

-- one more row that goes
pub deletes_more : (def : TableDef) (rows : List Row) (i : ℕ) (row : Row) → i < length rows → row ≡ get_or rows i row → (before : List (Spot × ℕ)) (spot : Spot) → spot ≡ spot_of def row.cells → before ≡ map (delete_of def) (take i rows)
    → (after : List (Spot × ℕ)) → after ≡ before ++ (spot, row.serial) ∷ [] → after ≡ map (delete_of def) (take (i + 1) rows)
deletes_more def rows i row below own before spot spot_is was after now =
    now
    ∙ ap₂ (λ (ds : List (Spot × ℕ)) (s : Spot). ds ++ (s, row.serial) ∷ []) was spot_is
    ∙ sym (ap (map (delete_of def)) (take_more rows i row below ∙ ap (λ (r : Row). take i rows ++ r ∷ []) (sym own)) ∙ map-append (delete_of def) (take i rows) (row ∷ []))

-- cells that have a place, and fit
pub placed_whole : (def : TableDef) (cells : List Value) → AreFitting def.columns cells → has_wrong_null def.columns cells ≡ false → (r : Result (Option (Spot × List Value)) CellsFault)
    → IfOk r (λ moved. IfSome moved (λ new. (new.1 ≡ cells) × (place_of def cells ≡ Some new.0))) → IfOk r (λ moved. IfSome moved (λ new. IsPlacedIn def new.0 new.1))
placed_whole own cells fits nulls (Ok None) had = tt
placed_whole own cells fits nulls (Ok (Some new)) had =
    subst (λ (given : List Value). IsPlacedIn own new.0 given) (sym had.0) (record { placed = had.1; fits = fits; nulls = nulls })
placed_whole own cells fits nulls (Err e) had = tt
