-- Files of which two changed sides hold the database whose rows did.
use Rattle.std.proofs.Common.{◌≡◌, ◌≢◌, ℕ, Bool, true, false, true≢false, List, [], Option, Some, Ok, refl, sym, ap, ◌∙◌, subst}
use Rattle.std.specs.Option.{IsSomeAnd, option_map, unwrap_or}
use Rattle.pt_value.specs.Ident.{IsIdent}
use Rattle.pt_host.specs.Disk.{Files}
use Rattle.pt_names.specs.Names.{def_name, row_name, serials_name}
use Rattle.pt_ast.specs.declared.database.Db.{Db}
use Rattle.pt_ast.specs.declared.database.Row.{Row}
use Rattle.pt_ast.specs.declared.database.Spot.{Spot}
use Rattle.pt_ast.specs.declared.table.PartBy.TheVariants as by
use Rattle.pt_place.specs.Place.{leaf_of}
use Rattle.pt_defs.specs.Reading.{def_at}
use Rattle.pt_rowfile.specs.Counter.{counter_of}
use Rattle.pt_rowfile.specs.Rows.{SpellsRows}
use Rattle.pt_db.specs.Lookup.{table_of, with_rows}
use Rattle.pt_db.specs.Rows.{is_spot, spot_rows}
use Rattle.pt_db.specs.Sound.{IsSoundTable}
use Rattle.pt_db.specs.Spots.{IsSpotOf}
use Rattle.pt_db.proofs.Lookups.{table_other, table_same}
use Rattle.pt_db.proofs.Sounds.{sound_table}
use Rattle.pt_db.proofs.Spots.{spot_itself, spot_same}
use Rattle.pt_holds.specs.Acts.{IsExchanged}
use Rattle.pt_holds.specs.Holds.{Holds, HoldsAt, HoldsRows, HoldsTable, spot_file}
use Rattle.pt_holds.specs.ShapeChanges.{IsExchangeOf}
use Rattle.pt_holds.proofs.FileNames.{def_not_rows, one_row_file, rows_not_serials}
use Rattle.pt_holds.proofs.Held.{at_same, by_name, ident}
use Rattle.pt_holds.proofs.Leaves.{one_leaf}
use Rattle.pt_holds.proofs.Wholes.{first, whole_first, whole_rows, whole_spot}

-- the bytes of one file stand in another one, and so do its rows
pub rows_moved : (f g : Files) (x y : List ℕ) (rows later : List Row) → g y ≡ f x → later ≡ rows → HoldsRows f x rows → HoldsRows g y later
rows_moved f g x y rows later file same h =
    subst (λ (o : Option (List ℕ)). IsSomeAnd o (λ bytes. SpellsRows bytes later)) (sym file) (subst (λ (rs : List Row). HoldsRows f x rs) (sym same) h)

module _ (map next : Files) (name other : List ℕ) (spot : Spot) (db later : Db) (h : Holds map db) (c : IsExchangeOf name spot other db later) (of : IsSpotOf c.table.def spot)
    (whole : c.beside.def.by ≡ by.Whole) (made : IsExchanged map next (spot_file name c.table.def spot) (spot_file other c.beside.def first)) where
  abbrev gone : List Row
  gone = spot_rows c.table.def spot c.table.rows

  -- ---- the tables of the later database

  at_name : table_of later name ≡ Some (record c.table { rows = c.rows })
  at_name =
      ap (λ (d : Db). table_of d name) c.is ∙ table_other other gone (with_rows name c.rows db.tables) name (λ e. c.apart (sym e))
      ∙ table_same name c.rows db.tables c.table c.held

  at_other : table_of later other ≡ Some (record c.beside { rows = gone })
  at_other =
      ap (λ (d : Db). table_of d other) c.is
      ∙ table_same other gone (with_rows name c.rows db.tables) c.beside (table_other name c.rows db.tables other c.apart ∙ c.other_held)

  at_query : (query : List ℕ) → name ≢ query → other ≢ query → table_of later query ≡ table_of db query
  at_query query apart beside =
      ap (λ (d : Db). table_of d query) c.is ∙ table_other other gone (with_rows name c.rows db.tables) query beside ∙ table_other name c.rows db.tables query apart

  -- ---- what was held

  sound_name : IsSoundTable db.next c.table
  sound_name = sound_table db h.sound name c.table c.held

  sound_other : IsSoundTable db.next c.beside
  sound_other = sound_table db h.sound other c.beside c.other_held

  is_name : IsIdent name
  is_name = ident db h.sound name c.table c.held

  is_other : IsIdent other
  is_other = ident db h.sound other c.beside c.other_held

  old_name : HoldsTable map name c.table
  old_name = subst (λ o. HoldsAt map name o) c.held (h.tables name is_name)

  old_other : HoldsTable map other c.beside
  old_other = subst (λ o. HoldsAt map other o) c.other_held (h.tables other is_other)

  -- ---- other files

  same_def : (query : List ℕ) → next (def_name query) ≡ map (def_name query)
  same_def query = made.others (def_name query) (def_not_rows query name (leaf_of c.table.def spot)) (def_not_rows query other (leaf_of c.beside.def first))

  -- a row file of another table, or of another leaf
  not_names : (query : List ℕ) (leaf : Option (List ℕ)) → IsIdent query → name ≢ query → row_name query leaf ≢ spot_file name c.table.def spot
  not_names query leaf is apart same = apart (sym (one_row_file query name leaf (leaf_of c.table.def spot) is is_name same).0)

  not_others : (query : List ℕ) (leaf : Option (List ℕ)) → IsIdent query → other ≢ query → row_name query leaf ≢ spot_file other c.beside.def first
  not_others query leaf is apart same = apart (sym (one_row_file query other leaf (leaf_of c.beside.def first) is is_other same).0)

  -- ---- the table

  at_spot : (query : Spot) → IsSpotOf c.table.def query → (t : Bool) → is_spot spot query ≡ t → HoldsRows next (spot_file name c.table.def query) (spot_rows c.table.def query c.rows)
  at_spot query is true here =
      subst (λ s. HoldsRows next (spot_file name c.table.def s) (spot_rows c.table.def s c.rows)) (spot_same spot query here)
      (rows_moved map next (spot_file other c.beside.def first) (spot_file name c.table.def spot) (spot_rows c.beside.def first c.beside.rows) (spot_rows c.table.def spot c.rows) made.there
      (c.come ∙ sym (whole_rows c.beside.def sound_other.storable whole c.beside.rows)) (old_other.rows first (whole_first c.beside.def sound_other.storable whole)))
  at_spot query is false away =
      let file = spot_file name c.table.def query in
      rows_moved map next file file (spot_rows c.table.def query c.table.rows) (spot_rows c.table.def query c.rows)
      (made.others file not_spot (not_others name (leaf_of c.table.def query) is_name (λ e. c.apart (sym e)))) (c.stay query is away) (old_name.rows query is)
    where
      not_spot : spot_file name c.table.def query ≢ spot_file name c.table.def spot
      not_spot same =
          let one : query ≡ spot = one_leaf c.table.def sound_name.valid query spot is of (one_row_file name name (leaf_of c.table.def query) (leaf_of c.table.def spot) is_name is_name same).1 in
          true≢false (sym (subst (λ s. is_spot spot s ≡ true) (sym one) (spot_itself spot)) ∙ away)

  here_name : HoldsTable next name (record c.table { rows = c.rows })
  here_name = record {
    defined = ap (option_map def_at) (same_def name) ∙ old_name.defined;
    rows = λ query is. at_spot query is (is_spot spot query) refl;
    no_more = λ leaf is none.
        made.others (row_name name leaf) (λ same. none (spot, of, sym (one_row_file name name leaf (leaf_of c.table.def spot) is_name is_name same).1)) (not_others name leaf is_name (λ e. c.apart (sym e)))
        ∙ old_name.no_more leaf is none;
  }

  -- ---- the other table

  here_other : HoldsTable next other (record c.beside { rows = gone })
  here_other = record {
    defined = ap (option_map def_at) (same_def other) ∙ old_other.defined;
    rows = λ query is.
        subst (λ s. HoldsRows next (spot_file other c.beside.def s) (spot_rows c.beside.def s gone)) (sym (whole_spot c.beside.def sound_other.storable whole query is))
        (rows_moved map next (spot_file name c.table.def spot) (spot_file other c.beside.def first) gone (spot_rows c.beside.def first gone) made.back
        (whole_rows c.beside.def sound_other.storable whole gone) (old_name.rows spot of));
    no_more = λ leaf is none.
        made.others (row_name other leaf) (not_names other leaf is_other c.apart)
        (λ same. none (first, whole_first c.beside.def sound_other.storable whole, sym (one_row_file other other leaf (leaf_of c.beside.def first) is_other is_other same).1))
        ∙ old_other.no_more leaf is none;
  }

  -- ---- the whole

  elsewhere : (query : List ℕ) → IsIdent query → other ≢ query → name ≢ query → HoldsAt next query (table_of later query)
  elsewhere query is beside apart =
      subst (λ o. HoldsAt next query o) (sym (at_query query apart beside))
      (at_same map next query (table_of db query) (same_def query) (λ leaf. made.others (row_name query leaf) (not_names query leaf is apart) (not_others query leaf is beside)) (h.tables query is))

  pub exchanged_holds : Holds next later
  exchanged_holds = record {
    sound = c.sound;
    tables = by_name (λ query. HoldsAt next query (table_of later query)) name (subst (λ o. HoldsAt next name o) (sym at_name) here_name)
        (λ query is apart.
        by_name (λ q. name ≢ q → HoldsAt next q (table_of later q)) other (λ away. subst (λ o. HoldsAt next other o) (sym at_other) here_other) (λ q is_q beside away. elsewhere q is_q beside away) query is apart);
    counter =
        ap (λ (file : Option (List ℕ)). counter_of (unwrap_or file []))
        (made.others serials_name (λ e. rows_not_serials name (leaf_of c.table.def spot) (sym e)) (λ e. rows_not_serials other (leaf_of c.beside.def first) (sym e)))
        ∙ h.counter ∙ ap (λ (n : ℕ). Ok n) (sym (ap (λ (d : Db). d.next) c.is));
  }
