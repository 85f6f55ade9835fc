-- Which database files hold: that of each name by itself, and one at most.
use Rattle.std.proofs.Common.{◌≡◌, ◌≢◌, ℕ, Bool, true, false, List, [], ◌∷◌, length, map, Option, Some, None, Result, Ok, refl, sym, ap, ap₂, ◌∙◌, subst, arith, length-append}
use Rattle.std.specs.Prelude.{IfSome}
use Rattle.std.specs.List.{AllByRecursion, flat_map}
use Rattle.std.specs.Option.{IsSomeAnd, option_map, unwrap_or}
use Rattle.std.specs.Str.{bytes_eq}
use Rattle.std.proofs.lemmas.Bool.{true≢false}
use Rattle.std.proofs.lemmas.Slice.Eq.{bytes_eq-Decides}
use Rattle.pt_value.specs.Ident.{IsIdent}
use Rattle.pt_host.specs.Disk.{Files}
use Rattle.pt_host.specs.Images.{AreSame}
use Rattle.pt_names.specs.Names.{def_name, row_name, serials_name}
use Rattle.pt_names.proofs.Owners.{defs}
use Rattle.pt_ast.specs.declared.database.Db.{Db}
use Rattle.pt_ast.specs.declared.database.Row.{Row}
use Rattle.pt_ast.specs.declared.database.Table.{Table}
use Rattle.pt_ast.specs.declared.table.TableDef.{TableDef}
use Rattle.pt_place.specs.Place.{leaf_of}
use Rattle.pt_defs.specs.Reading.{def_at}
use Rattle.pt_rowfile.specs.declared.record.Record.{Record}
use Rattle.pt_rowfile.specs.Counter.{counter_of}
use Rattle.pt_rowfile.specs.Records.{IsRecord, record_bytes}
use Rattle.pt_rowfile.specs.Rows.{SpellsRows, left}
use Rattle.pt_rowfile.proofs.Parts.{one_some}
use Rattle.pt_rowfile.proofs.Records.{one_record, record_takes}
use Rattle.pt_db.specs.Lookup.{table_of}
use Rattle.pt_db.specs.Rows.{spot_rows}
use Rattle.pt_db.specs.Sound.{AreSoundRows, IsSound, IsSoundTable}
use Rattle.pt_db.specs.Spots.{IsSpotOf}
use Rattle.pt_db.proofs.Lookups.{same_tables, table_added, table_beside, table_left, table_named, table_removed}
use Rattle.pt_db.proofs.Sounds.{empty_sound, sound_table}
use Rattle.pt_db.proofs.Spots.{sound_from_spots}
use Rattle.pt_holds.specs.Acts.{AreOthersSame, IsCreated, IsDropped}
use Rattle.pt_holds.specs.Batch.{IsRowFileOf}
use Rattle.pt_holds.specs.Holds.{HasLeaf, Holds, HoldsAt, HoldsNone, HoldsRows, HoldsTable, spot_file}
use Rattle.pt_holds.specs.Laws.{EmptyHolds, HoldsAtMostOne}
use Rattle.pt_holds.specs.ShapeChanges.{IsCreateOf, IsDropOf}
use Rattle.pt_holds.proofs.FileNames.{def_not_rows, def_not_serials, one_row_file, rows_not_serials, same_file}
use Rattle.pt_holds.proofs.Left.{spells_none}

-- ---- one list of rows

pub one_text : (a b : List Record) → AllByRecursion IsRecord a → AllByRecursion IsRecord b → flat_map record_bytes a ≡ flat_map record_bytes b → a ≡ b
one_text [] [] each_a each_b e = refl
one_text [] (r ∷ b) each_a each_b e =
    absurd (omega (arith, ap (λ (xs : List ℕ). length xs) e, length-append (record_bytes r) (flat_map record_bytes b), record_takes r))
one_text (r ∷ a) [] each_a each_b e =
    absurd (omega (arith, ap (λ (xs : List ℕ). length xs) e, length-append (record_bytes r) (flat_map record_bytes a), record_takes r))
one_text (r ∷ a) (s ∷ b) each_a each_b e =
    let both = one_record r s (flat_map record_bytes a) (flat_map record_bytes b) each_a.0 each_b.0 e in
    ap₂ (λ (x : Record) (xs : List Record). x ∷ xs) both.0 (one_text a b each_a.1 each_b.1 both.1)

-- bytes leave one list of rows at most
pub one_spelled : (bytes : List ℕ) (a b : List Row) → SpellsRows bytes a → SpellsRows bytes b → a ≡ b
one_spelled bytes a b x y =
    let same = one_text x.records y.records x.each y.each (sym x.text ∙ y.text) in
    one_some a b (sym x.leaves ∙ ap (λ (rs : List Record). left rs []) same ∙ y.leaves)

pub one_held : (file : Option (List ℕ)) (a b : List Row) → IsSomeAnd file (λ bytes. SpellsRows bytes a) → IsSomeAnd file (λ bytes. SpellsRows bytes b) → a ≡ b
one_held None a b x y = absurd x
one_held (Some bytes) a b x y = one_spelled bytes a b x y

-- ---- files that are the same

pub at_same : (f g : Files) (name : List ℕ) (o : Option Table) → g (def_name name) ≡ f (def_name name) → ((leaf : Option (List ℕ)) → g (row_name name leaf) ≡ f (row_name name leaf)) → HoldsAt f name o → HoldsAt g name o
at_same f g name None def rows h = record { defined = def ∙ h.defined; rows = λ leaf is. rows leaf ∙ h.rows leaf is }
at_same f g name (Some table) def rows h = record {
  defined = ap (option_map def_at) def ∙ h.defined;
  rows = λ spot is. subst (λ (file : Option (List ℕ)). IsSomeAnd file (λ bytes. SpellsRows bytes (spot_rows table.def spot table.rows))) (sym (rows (leaf_of table.def spot))) (h.rows spot is);
  no_more = λ leaf is none. rows leaf ∙ h.no_more leaf is none;
}

pub holds_same : (f g : Files) (db : Db) → AreSame f g → Holds f db → Holds g db
holds_same f g db same h = record {
  sound = h.sound;
  tables = λ name is. at_same f g name (table_of db name) (same (def_name name)) (λ leaf. same (row_name name leaf)) (h.tables name is);
  counter = ap (λ (file : Option (List ℕ)). counter_of (unwrap_or file [])) (same serials_name) ∙ h.counter;
}

-- ---- whose a row file is

pub has_leaf : (name : List ℕ) (def : TableDef) (leaf : Option (List ℕ)) → IsIdent name → IsRowFileOf name def (row_name name leaf) → HasLeaf def leaf
has_leaf name def leaf is of = (of.0, of.1, sym (one_row_file name name leaf (leaf_of def of.0) is is of.2).1)

pub leaf_file : (name : List ℕ) (def : TableDef) (leaf : Option (List ℕ)) (h : HasLeaf def leaf) → row_name name leaf ≡ spot_file name def h.0
leaf_file name def leaf h = same_file name leaf (leaf_of def h.0) (sym h.2)

pub not_others : (name query : List ℕ) (def : TableDef) (leaf : Option (List ℕ)) → IsIdent name → IsIdent query → name ≢ query → IsRowFileOf name def (row_name query leaf) → ⊥
not_others name query def leaf is_n is_q apart of = apart (sym (one_row_file query name leaf (leaf_of def of.0) is_q is_n of.2).0)

-- What is the same but for the files of a table and the counter holds the same at each other name.
pub elsewhere : (f g : Files) (name query : List ℕ) (def : TableDef) (o : Option Table) → IsIdent name → IsIdent query → name ≢ query
    → ((file : List ℕ) → file ≢ def_name name → file ≢ serials_name → (IsRowFileOf name def file → ⊥) → g file ≡ f file) → HoldsAt f query o → HoldsAt g query o
elsewhere f g name query def o is_n is_q apart others h =
    at_same f g query o
    (others (def_name query) (λ e. apart (sym (defs query name e))) (def_not_serials query) (λ of. def_not_rows query name (leaf_of def of.0) of.2))
    (λ leaf. others (row_name query leaf) (λ e. def_not_rows name query leaf (sym e)) (rows_not_serials query leaf) (λ of. not_others name query def leaf is_n is_q apart of)) h

-- by name: at the one and at the others
pub by_name : (P : List ℕ → Type 0) (name : List ℕ) → P name → ((query : List ℕ) → IsIdent query → name ≢ query → P query) → (query : List ℕ) → IsIdent query → P query
by_name P name here others query is = by_test (bytes_eq name query) refl
  where
    by_test : (t : Bool) → bytes_eq name query ≡ t → P query
    by_test true e = subst P ((bytes_eq-Decides name query).0 e) here
    by_test false e = others query is (λ same. true≢false (sym ((bytes_eq-Decides name query).1 same) ∙ e))

-- ---- one database at most

table_parts : (a b : List ℕ) (d e : TableDef) (xs ys : List Row) → a ≡ b → d ≡ e → xs ≡ ys → (let s : Table = record { name = a; def = d; rows = xs } in s) ≡ (let t : Table = record { name = b; def = e; rows = ys } in t)
table_parts a b d e xs ys names defs rows =
    ap (λ (n : List ℕ). let t : Table = record { name = n; def = d; rows = xs } in t) names
    ∙ ap (λ (x : TableDef). let t : Table = record { name = b; def = x; rows = xs } in t) defs
    ∙ ap (λ (rs : List Row). let t : Table = record { name = b; def = e; rows = rs } in t) rows

pub one_ok : {X : Type 0} (r : Result X ℕ) (a b : X) → r ≡ Ok a → r ≡ Ok b → a ≡ b
one_ok r a b x y = let e = sym x ∙ y in cc

pub one_def : (o : Option (Result TableDef ℕ)) (a b : TableDef) → o ≡ Some (Ok a) → o ≡ Some (Ok b) → a ≡ b
one_def None a b x y = cc
one_def (Some r) a b x y = one_ok r a b (one_some r (Ok a) x) (one_some r (Ok b) y)

same_table : (map : Files) (name : List ℕ) (s t : Table) (next later : ℕ) → IsSoundTable next s → IsSoundTable later t → s.name ≡ name → t.name ≡ name → HoldsTable map name s → HoldsTable map name t → s ≡ t
same_table map name s t next later sound_s sound_t named_s named_t held_s held_t =
    let def : s.def ≡ t.def = one_def (option_map def_at (map (def_name name))) s.def t.def held_s.defined held_t.defined in
    let rows = sound_from_spots s.def next later s.rows t.rows sound_s.valid sound_s.rows (subst (λ d. AreSoundRows later d t.rows) (sym def) sound_t.rows)
    (λ spot is. one_held (map (spot_file name s.def spot)) (spot_rows s.def spot s.rows) (spot_rows s.def spot t.rows) (held_s.rows spot is)
    (subst (λ d. IsSpotOf d spot → HoldsRows map (spot_file name d spot) (spot_rows d spot t.rows)) (sym def) (held_t.rows spot) is)) in
    table_parts s.name t.name s.def t.def s.rows t.rows (named_s ∙ sym named_t) def rows

one_at : (map : Files) (name : List ℕ) (next later : ℕ) (a b : Option Table) → ((t : Table) → a ≡ Some t → IsSoundTable next t × (t.name ≡ name)) → ((t : Table) → b ≡ Some t → IsSoundTable later t × (t.name ≡ name))
    → HoldsAt map name a → HoldsAt map name b → a ≡ b
one_at map name next later None None sound_a sound_b x y = refl
one_at map name next later None (Some t) sound_a sound_b x y = let bad : None ≡ Some (Ok t.def) = sym (ap (option_map def_at) x.defined) ∙ y.defined in cc
one_at map name next later (Some s) None sound_a sound_b x y = let bad : None ≡ Some (Ok s.def) = sym (ap (option_map def_at) y.defined) ∙ x.defined in cc
one_at map name next later (Some s) (Some t) sound_a sound_b x y =
    let s_is = sound_a s refl in
    let t_is = sound_b t refl in
    ap (λ (table : Table). Some table) (same_table map name s t next later s_is.0 t_is.0 s_is.1 t_is.1 x y)

named : (db : Db) → IsSound db → (name : List ℕ) (t : Table) → table_of db name ≡ Some t → IsSoundTable db.next t × (t.name ≡ name)
named db sound name t at = (sound_table db sound name t at, table_named db.tables name t at)

pub ident : (db : Db) → IsSound db → (name : List ℕ) (t : Table) → table_of db name ≡ Some t → IsIdent name
ident db sound name t at = let both = named db sound name t at in subst IsIdent both.1 both.0.name

module _ (map : Files) (a b : Db) (x : Holds map a) (y : Holds map b) where
  at_ident : (name : List ℕ) → IsIdent name → table_of a name ≡ table_of b name
  at_ident name is = one_at map name a.next b.next (table_of a name) (table_of b name) (named a x.sound name) (named b y.sound name) (x.tables name is) (y.tables name is)

  at_name : (name : List ℕ) → table_of a name ≡ table_of b name
  at_name name = go (table_of a name) (table_of b name) refl refl
    where
      go : (o p : Option Table) → table_of a name ≡ o → table_of b name ≡ p → table_of a name ≡ table_of b name
      go None None none_a none_b = none_a ∙ sym none_b
      go (Some s) p at other = at_ident name (ident a x.sound name s at)
      go None (Some t) none at = at_ident name (ident b y.sound name t at)

  one_next : a.next ≡ b.next
  one_next = one_ok (counter_of (unwrap_or (map serials_name) [])) a.next b.next x.counter y.counter

  one_db : a ≡ b
  one_db =
      ap₂ (λ (tables : List Table) (next : ℕ). let db : Db = record { tables = tables; next = next } in db)
      (same_tables a.tables b.tables x.sound.rising y.sound.rising at_name) one_next

pub holds_at_most_one : HoldsAtMostOne
holds_at_most_one map a b x y = one_db map a b x y

-- ---- the empty database

counter_none : counter_of [] ≡ Ok 1
unfolding counter_of
counter_none = refl

pub empty_holds : EmptyHolds
empty_holds map none counter = record {
  sound = empty_sound;
  tables = λ name is. record { defined = none (def_name name) (def_not_serials name); rows = λ leaf low. none (row_name name leaf) (rows_not_serials name leaf) };
  counter = ap counter_of counter ∙ counter_none;
}

-- ---- a table comes

module _ (map next : Files) (name : List ℕ) (def : TableDef) (db later : Db) (h : Holds map db) where
  same_counter : AreOthersSame map next name def → later.next ≡ db.next → counter_of (unwrap_or (next serials_name) []) ≡ Ok later.next
  same_counter others is =
      ap (λ (file : Option (List ℕ)). counter_of (unwrap_or file [])) (others serials_name (λ e. def_not_serials name (sym e)) (λ of. rows_not_serials name (leaf_of def of.0) (sym of.2)))
      ∙ h.counter ∙ ap (λ (n : ℕ). Ok n) (sym is)

  pub created_holds : IsCreateOf name def db later → IsCreated map next name def → Holds next later
  created_holds c made = record {
    sound = c.sound;
    tables = by_name (λ query. HoldsAt next query (table_of later query)) name (subst (λ o. HoldsAt next name o) (sym at) here)
        (λ query is apart. subst (λ o. HoldsAt next query o) (sym (ap (λ (d : Db). table_of d query) c.is ∙ table_beside table db.tables query apart))
        (elsewhere map next name query def (table_of db query) is_name is apart (λ file not_def not_counter not_rows. made.others file not_def not_rows) (h.tables query is)));
    counter = same_counter made.others (ap (λ (d : Db). d.next) c.is);
  }
    where
      table : Table
      table = record { name = name; def = def; rows = [] }

      at : table_of later name ≡ Some table
      at = ap (λ (d : Db). table_of d name) c.is ∙ table_added table db.tables

      is_name : IsIdent name
      is_name = (sound_table later c.sound name table at).name

      free : HoldsNone map name
      free = subst (λ o. HoldsAt map name o) c.free (h.tables name is_name)

      here : HoldsTable next name table
      here = record {
        defined = made.defined;
        rows = λ spot is. subst (λ (file : Option (List ℕ)). IsSomeAnd file (λ bytes. SpellsRows bytes [])) (sym (made.rows spot is)) spells_none;
        no_more = λ leaf is none. made.others (row_name name leaf) (λ e. def_not_rows name name leaf (sym e)) (λ of. none (has_leaf name def leaf is_name of)) ∙ free.rows leaf is;
      }

  -- ---- a table goes

  pub dropped_holds : (c : IsDropOf name db later) → IsDropped map next name c.table.def → Holds next later
  dropped_holds c gone = record {
    sound = c.sound;
    tables = by_name (λ query. HoldsAt next query (table_of later query)) name (subst (λ o. HoldsAt next name o) (sym none) here)
        (λ query is apart. subst (λ o. HoldsAt next query o) (sym (ap (λ (d : Db). table_of d query) c.is ∙ table_left name db.tables query apart))
        (elsewhere map next name query c.table.def (table_of db query) is_name is apart (λ file not_def not_counter not_rows. gone.others file not_def not_rows) (h.tables query is)));
    counter = dropped_counter;
  }
    where
      none : table_of later name ≡ None
      none = ap (λ (d : Db). table_of d name) c.is ∙ table_removed name db.tables

      is_name : IsIdent name
      is_name = ident db h.sound name c.table c.held

      old : HoldsTable map name c.table
      old = subst (λ o. HoldsAt map name o) c.held (h.tables name is_name)

      no_leaf : (leaf : Option (List ℕ)) (bytes : List ℕ) → next (row_name name leaf) ≡ Some bytes → HasLeaf c.table.def leaf → ⊥
      no_leaf leaf bytes there has =
          let bad : Some bytes ≡ None = sym there ∙ ap next (leaf_file name c.table.def leaf has) ∙ gone.rows has.0 has.1 in cc

      gone_file : (leaf : Option (List ℕ)) → IfSome leaf IsIdent → (file : Option (List ℕ)) → next (row_name name leaf) ≡ file → file ≡ None
      gone_file leaf low None there = refl
      gone_file leaf low (Some bytes) there =
          let has = no_leaf leaf bytes there in
          let same : next (row_name name leaf) ≡ map (row_name name leaf) = gone.others (row_name name leaf) (λ e. def_not_rows name name leaf (sym e)) (λ of. has (has_leaf name c.table.def leaf is_name of)) in
          let bad : Some bytes ≡ None = sym there ∙ same ∙ old.no_more leaf low has in cc

      here : HoldsNone next name
      here = record { defined = gone.defined; rows = λ leaf low. gone_file leaf low (next (row_name name leaf)) refl }

      dropped_counter : counter_of (unwrap_or (next serials_name) []) ≡ Ok later.next
      dropped_counter =
          ap (λ (file : Option (List ℕ)). counter_of (unwrap_or file [])) (gone.others serials_name (λ e. def_not_serials name (sym e)) (λ of. rows_not_serials name (leaf_of c.table.def of.0) (sym of.2)))
          ∙ h.counter ∙ ap (λ (n : ℕ). Ok n) (sym (ap (λ (d : Db). d.next) c.is))
