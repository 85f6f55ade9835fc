-- Files that hold a database have nothing bad.
use Rattle.std.proofs.Common.{◌≡◌, ℕ, true, List, [], ◌∷◌, ◌++◌, length, take, drop, Option, Some, None, Ok, Err, refl, sym, ap, ◌∙◌, subst, arith, append_assoc, length-append, length-drop, take-append-drop}
use Rattle.std.specs.Prelude.{IfSome}
use Rattle.std.specs.List.{All, AllByRecursion, flat_map}
use Rattle.std.specs.Option.{IsSomeAnd, option_and_then, option_map, unwrap_or}
use Rattle.std.proofs.lemmas.List.Elements.{All-contains, All-filter, filter_passes}
use Rattle.pt_value.specs.Ident.{IsIdent}
use Rattle.pt_host.specs.Disk.{Files}
use Rattle.pt_names.specs.Names.{IsLeaf, def_name, row_name, serials_name}
use Rattle.pt_ast.specs.declared.database.Db.{Db}
use Rattle.pt_ast.specs.declared.database.Row.{Row}
use Rattle.pt_ast.specs.declared.database.Spot.{Spot}
use Rattle.pt_ast.specs.declared.database.Table.{Table}
use Rattle.pt_ast.specs.declared.table.TableDef.{TableDef}
use Rattle.pt_place.specs.Valid.{IsValid}
use Rattle.pt_defs.specs.Reading.{def_at}
use Rattle.pt_rowfile.specs.declared.record.Record.{Record}
use Rattle.pt_rowfile.specs.Counter.{counter_of}
use Rattle.pt_rowfile.specs.Records.{IsRecord, record_bytes}
use Rattle.pt_rowfile.specs.Rows.{IsBadAt, SpellsRows, left}
use Rattle.pt_rowfile.proofs.Records.{one_record, record_takes}
use Rattle.pt_db.specs.Lookup.{table_of}
use Rattle.pt_db.specs.Rows.{is_at, spot_rows}
use Rattle.pt_db.specs.Sound.{IsSoundRow}
use Rattle.pt_db.specs.Spots.{IsSpotOf}
use Rattle.pt_db.proofs.Sounds.{sound_table}
use Rattle.pt_db.proofs.Spots.{placed_there}
use Rattle.pt_holds.specs.Bad.{AreBadRows, Improper, Unfit, Bad, Unread, Invalid, Counter, Missing, Stray, Rows, Defines, HasNext, IsStray}
use Rattle.pt_holds.specs.Fit.{FitsSpot}
use Rattle.pt_holds.specs.Holds.{Holds, HoldsAt, HoldsTable, spot_file}
use Rattle.pt_holds.proofs.Held.{one_def, one_ok, one_spelled}
use Rattle.pt_holds.proofs.Left.{left_both}

-- ---- a proper file has no record that isn't

-- records that begin with others, and what is left of them
record AreMore (front all : List Record) (rest : List ℕ) : Type 0 where
  more : List Record
  each : AllByRecursion IsRecord more
  parts : all ≡ front ++ more
  text : rest ≡ flat_map record_bytes more

more_records : (front all : List Record) (rest : List ℕ) → AllByRecursion IsRecord front → AllByRecursion IsRecord all → flat_map record_bytes all ≡ flat_map record_bytes front ++ rest → AreMore front all rest
more_records [] all rest each_front each e = record { more = all; each = each; parts = refl; text = sym e }
more_records (entry ∷ front) [] rest each_front each e =
    absurd (omega (arith, ap (λ (xs : List ℕ). length xs) e, length-append (record_bytes entry ++ flat_map record_bytes front) rest, length-append (record_bytes entry) (flat_map record_bytes front), record_takes entry))
more_records (entry ∷ front) (other ∷ all) rest each_front each e =
    let both = one_record other entry (flat_map record_bytes all) (flat_map record_bytes front ++ rest) each.0 each_front.0 (e ∙ append_assoc (record_bytes entry) (flat_map record_bytes front) rest) in
    let behind = more_records front all rest each_front.1 each.1 both.1 in
    record {
      more = behind.more;
      each = behind.each;
      parts = ap (λ (r : Record). r ∷ all) both.0 ∙ ap (λ (rs : List Record). entry ∷ rs) behind.parts;
      text = behind.text;
    }

no_bad_record : (bytes : List ℕ) (rows : List Row) (place : ℕ) → SpellsRows bytes rows → IsBadAt bytes place → ⊥
no_bad_record bytes rows place spells bad =
    let parts : bytes ≡ take place bytes ++ drop place bytes = sym (take-append-drop place bytes) in
    let m = more_records bad.before.records spells.records (drop place bytes) bad.before.each spells.each
    (sym spells.text ∙ parts ∙ ap (λ (xs : List ℕ). xs ++ drop place bytes) bad.before.text) in
    let leaves : left m.more bad.rows ≡ Some rows =
    sym (left_both bad.before.records m.more [] bad.rows bad.before.leaves) ∙ ap (λ (rs : List Record). left rs []) (sym m.parts) ∙ spells.leaves in
    go m.more m.each m.text leaves
  where
    go : (more : List Record) → AllByRecursion IsRecord more → drop place bytes ≡ flat_map record_bytes more → left more bad.rows ≡ Some rows → ⊥
    go [] each text leaves = let there = bad.there in omega (arith, there, ap (λ (xs : List ℕ). length xs) text, length-drop place bytes)
    go (entry ∷ more) each text leaves =
        let none = bad.none entry (flat_map record_bytes more) each.0 text in
        let gone : None ≡ Some rows = sym (ap (option_and_then (left more)) none) ∙ leaves in cc

-- ---- the rows of a sound table fit

fits_sound : (next : ℕ) (def : TableDef) (spot : Spot) (row : Row) → IsSoundRow next def row → is_at def spot row ≡ true → FitsSpot next def spot row
fits_sound next def spot row sound at = record { columns = record { cells = sound.fits; nulls = sound.nulls }; placed = placed_there def spot row.cells at; below = sound.below }

spot_fits : (next : ℕ) (def : TableDef) (spot : Spot) (rows : List Row) → All (IsSoundRow next def) rows → All (FitsSpot next def spot) (spot_rows def spot rows)
spot_fits next def spot rows sound k d within =
    fits_sound next def spot _ (All-filter (is_at def spot) (IsSoundRow next def) rows sound k d within) (filter_passes (is_at def spot) rows k d within)

-- the table of a definition that is read
record IsDefined (map : Files) (db : Db) (name : List ℕ) (def : TableDef) : Type 0 where
  table : Table
  held : table_of db name ≡ Some table
  is : table.def ≡ def
  files : HoldsTable map name table

module _ (map : Files) (db : Db) (h : Holds map db) where
  defined : (name : List ℕ) (def : TableDef) → Defines map name def → IsDefined map db name def
  defined name def is = go (table_of db name) refl (h.tables name is.0)
    where
      go : (o : Option Table) → table_of db name ≡ o → HoldsAt map name o → IsDefined map db name def
      go None at files = let bad : None ≡ Some (Ok def) = sym (ap (option_map def_at) files.defined) ∙ is.1 in cc
      go (Some table) at files = record {
        table = table;
        held = at;
        is = one_def (option_map def_at (map (def_name name))) table.def def files.defined is.1;
        files = files;
      }

  one_next : (next : ℕ) → HasNext map next → next ≡ db.next
  one_next next is = one_ok (counter_of (unwrap_or (map serials_name) [])) next db.next is h.counter

  no_unread : (name : List ℕ) (place : ℕ) → IsIdent name → option_map def_at (map (def_name name)) ≡ Some (Err place) → ⊥
  no_unread name place is unread = go (table_of db name) (h.tables name is)
    where
      go : (o : Option Table) → HoldsAt map name o → ⊥
      go None files = let bad : None ≡ Some (Err place) = sym (ap (option_map def_at) files.defined) ∙ unread in cc
      go (Some table) files = let bad : Some (Ok table.def) ≡ Some (Err place) = sym files.defined ∙ unread in cc

  no_stray : (name bytes : List ℕ) (leaf : Option (List ℕ)) → IsIdent name → IfSome leaf IsIdent → IsStray map name leaf → map (row_name name leaf) ≡ Some bytes → ⊥
  no_stray name bytes leaf is low stray there = go (table_of db name) (h.tables name is)
    where
      go : (o : Option Table) → HoldsAt map name o → ⊥
      go None files = let bad : Some bytes ≡ None = sym there ∙ files.rows leaf low in cc
      go (Some table) files = let bad : Some bytes ≡ None = sym there ∙ files.no_more leaf low (λ has. stray table.def (is, files.defined) has) in cc

  -- a spot's row file is there, and its rows are the spot's
  spot_there : (name : List ℕ) (def : TableDef) (spot : Spot) → Defines map name def → IsSpotOf def spot
      → (rows : List Row) × All (FitsSpot db.next def spot) rows × IsSomeAnd (map (spot_file name def spot)) (λ bytes. SpellsRows bytes rows)
  spot_there name def spot is spot_is =
      let d = defined name def is in
      subst (λ (e : TableDef). IsSpotOf e spot → (rows : List Row) × All (FitsSpot db.next e spot) rows × IsSomeAnd (map (spot_file name e spot)) (λ bytes. SpellsRows bytes rows)) d.is
      (λ spot_in. (spot_rows d.table.def spot d.table.rows, spot_fits db.next d.table.def spot d.table.rows (sound_table db h.sound name d.table d.held).rows.each, d.files.rows spot spot_in)) spot_is

  no_bad_rows : (next : ℕ) (def : TableDef) (spot : Spot) (bytes : List ℕ) (rows : List Row) (place : ℕ) → SpellsRows bytes rows → All (FitsSpot next def spot) rows → AreBadRows next def spot bytes place → ⊥
  no_bad_rows next def spot bytes rows place spells fit (Improper bad) = no_bad_record bytes rows place spells bad
  no_bad_rows next def spot bytes rows place spells fit (Unfit bad) =
      bad.here.unfit (All-contains (FitsSpot next def spot) bad.rows bad.here.row (subst (λ (rs : List Row). All (FitsSpot next def spot) rs) (one_spelled bytes rows bad.rows spells bad.spells) fit) bad.here.left)

leaf_ident : (leaf : Option (List ℕ)) → IfSome leaf IsLeaf → IfSome leaf IsIdent
leaf_ident None h = tt
leaf_ident (Some leaf) h = h.ident

pub bad_excludes : (map : Files) (db : Db) (name : List ℕ) (place : ℕ) → Holds map db → Bad map name place → ⊥
bad_excludes map db name place h (Unread table is named unread) = no_unread map db h table place is (subst (λ (file : List ℕ). option_map def_at (map file) ≡ Some (Err place)) named unread)
bad_excludes map db name place h (Invalid table def is named invalid at) =
    let d = defined map db h table def is in invalid (subst IsValid d.is (sound_table db h.sound table d.table d.held).valid)
bad_excludes map db name place h (Counter named bad) =
    let both : Err place ≡ Ok db.next = sym (subst (λ (file : List ℕ). counter_of (unwrap_or (map file) []) ≡ Err place) named bad) ∙ h.counter in cc
bad_excludes map db name place h (Missing table def spot is spot_is named none at) =
    let rows = spot_there map db h table def spot is spot_is in
    subst (λ (file : Option (List ℕ)). IsSomeAnd file (λ bytes. SpellsRows bytes rows.0)) (sym (ap map named) ∙ none) rows.2
bad_excludes map db name place h (Stray table bytes leaf is stray there at) =
    no_stray map db h table bytes leaf is.table (leaf_ident leaf is.leaf) stray (subst (λ (file : List ℕ). map file ≡ Some bytes) is.name there)
bad_excludes map db name place h (Rows table bytes def spot next is spot_is named counter there bad) =
    let rows = spot_there map db h table def spot is spot_is in
    let spells : SpellsRows bytes rows.0 = subst (λ (file : Option (List ℕ)). IsSomeAnd file (λ b. SpellsRows b rows.0)) (sym (ap map named) ∙ there) rows.2 in
    no_bad_rows map db h next def spot bytes rows.0 place spells (subst (λ n. All (FitsSpot n def spot) rows.0) (sym (one_next map db h next counter)) rows.1) bad
