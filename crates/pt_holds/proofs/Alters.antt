-- Files in which a table has another definition hold the database in which it has.
use Rattle.std.proofs.Common.{◌≡◌, ◌≢◌, ℕ, List, [], Option, Some, None, Ok, refl, sym, ap, ◌∙◌, subst}
use Rattle.std.specs.Prelude.{IfSome}
use Rattle.std.specs.List.{All}
use Rattle.std.specs.Option.{IsSomeAnd, option_map, option_or, unwrap_or}
use Rattle.pt_value.specs.Ident.{IsIdent}
use Rattle.pt_host.specs.Disk.{Files}
use Rattle.pt_names.specs.Names.{def_name, row_name, serials_name}
use Rattle.pt_names.proofs.Owners.{defs}
use Rattle.pt_ast.specs.declared.database.Db.{Db}
use Rattle.pt_ast.specs.declared.database.Row.{Row}
use Rattle.pt_ast.specs.declared.database.Spot.{Spot}
use Rattle.pt_ast.specs.declared.database.Table.{Table}
use Rattle.pt_ast.specs.declared.table.TableDef.{TableDef}
use Rattle.pt_place.specs.Place.{leaf_of}
use Rattle.pt_rowfile.specs.Counter.{counter_of}
use Rattle.pt_rowfile.specs.Rows.{SpellsRows}
use Rattle.pt_db.specs.Lookup.{table_of}
use Rattle.pt_db.specs.Rows.{AreRising, is_at, spot_rows}
use Rattle.pt_db.specs.Sound.{IsSoundTable}
use Rattle.pt_db.specs.Spots.{IsSpotOf}
use Rattle.pt_db.proofs.Lookups.{both_other, both_same}
use Rattle.pt_db.proofs.Serials.{filtered_rise}
use Rattle.pt_db.proofs.Sounds.{sound_table}
use Rattle.pt_db.proofs.Spots.{sound_from_spots}
use Rattle.pt_holds.specs.Acts.{AreRecords, IsRefiled, rows_text}
use Rattle.pt_holds.specs.Batch.{IsRowFileOf}
use Rattle.pt_holds.specs.Holds.{HasLeaf, Holds, HoldsAt, HoldsRows, HoldsTable, spot_file}
use Rattle.pt_holds.specs.Laws.{OneAlteration}
use Rattle.pt_holds.specs.ShapeChanges.{AreFresh, AreRowsAfter, IsAlterOf, fresh_at}
use Rattle.pt_holds.proofs.Exchanges.{rows_moved}
use Rattle.pt_holds.proofs.FileNames.{def_not_rows, def_not_serials, rows_not_serials, same_file}
use Rattle.pt_holds.proofs.Given.{found_given, given_spelled}
use Rattle.pt_holds.proofs.Leaves.{one_leaf}
use Rattle.pt_holds.proofs.Held.{at_same, by_name, has_leaf, ident, leaf_file, not_others}

module _ (map next : Files) (name : List ℕ) (def : TableDef) (fresh : List (Spot × List Row)) (db later : Db) (h : Holds map db) (c : IsAlterOf name def fresh db later)
    (given : All (AreFresh def) fresh) (records : All AreRecords fresh) (made : IsRefiled map next name c.table.def def fresh) where
  abbrev altered : Table
  altered = record c.table { def = def; rows = c.rows }

  at_name : table_of later name ≡ Some altered
  at_name = ap (λ (d : Db). table_of d name) c.is ∙ both_same name def c.rows db.tables c.table c.held

  sound_later : IsSoundTable later.next altered
  sound_later = sound_table later c.sound name altered at_name

  is_name : IsIdent name
  is_name = ident db h.sound name c.table c.held

  old : HoldsTable map name c.table
  old = subst (λ o. HoldsAt map name o) c.held (h.tables name is_name)

  -- ---- a spot

  spot_rise : (spot : Spot) → AreRising (spot_rows def spot c.rows)
  spot_rise spot = filtered_rise (is_at def spot) c.rows sound_later.rows.rising

  at_spot : (spot : Spot) → IsSpotOf def spot → (o : Option (List Row)) → fresh_at fresh spot ≡ o → AreRowsAfter c.table def spot o (spot_rows def spot c.rows)
      → HoldsRows next (spot_file name def spot) (spot_rows def spot c.rows)
  at_spot spot is (Some rows) at same =
      let own = found_given (AreFresh def) fresh spot rows given at in
      let text = found_given AreRecords fresh spot rows records at in
      let file : next (spot_file name def spot) ≡ Some (rows_text rows) = made.rows spot is ∙ ap (λ o. option_or (option_map rows_text o) (map (spot_file name def spot))) at in
      subst (λ (o : Option (List ℕ)). IsSomeAnd o (λ bytes. SpellsRows bytes (spot_rows def spot c.rows))) (sym file)
      (subst (λ (rs : List Row). SpellsRows (rows_text rows) rs) (sym same) (given_spelled rows (subst AreRising same (spot_rise spot)) own.1.serials text.1))
  at_spot spot is None at keeps =
      let file : spot_file name c.table.def keeps.before ≡ spot_file name def spot = same_file name (leaf_of c.table.def keeps.before) (leaf_of def spot) keeps.leaf in
      rows_moved map next (spot_file name c.table.def keeps.before) (spot_file name def spot) (spot_rows c.table.def keeps.before c.table.rows) (spot_rows def spot c.rows)
      (made.rows spot is ∙ ap (λ o. option_or (option_map rows_text o) (map (spot_file name def spot))) at ∙ ap map (sym file)) keeps.same (old.rows keeps.before keeps.of)

  -- ---- no other row file

  no_leaf : (leaf : Option (List ℕ)) → IfSome leaf IsIdent → (HasLeaf def leaf → ⊥) → (file : Option (List ℕ)) → next (row_name name leaf) ≡ file → file ≡ None
  no_leaf leaf low none None there = refl
  no_leaf leaf low none (Some bytes) there =
      let not_def : IsRowFileOf name def (row_name name leaf) → ⊥ = λ of. none (has_leaf name def leaf is_name of) in
      let not_old : IsRowFileOf name c.table.def (row_name name leaf) → ⊥ = λ of. stays (sym there ∙ made.gone (row_name name leaf) of not_def) in
      sym there ∙ made.others (row_name name leaf) (λ e. def_not_rows name name leaf (sym e)) not_old not_def
      ∙ old.no_more leaf low (λ has. not_old (has.0, has.1, leaf_file name c.table.def leaf has))
    where
      stays : Some bytes ≡ None → ⊥
      stays e = cc

  here : HoldsTable next name altered
  here = record {
    defined = made.defined;
    rows = λ spot is. at_spot spot is (fresh_at fresh spot) refl (c.altered spot is);
    no_more = λ leaf low none. no_leaf leaf low none (next (row_name name leaf)) refl;
  }

  -- ---- the whole

  elsewhere : (query : List ℕ) → IsIdent query → name ≢ query → HoldsAt next query (table_of later query)
  elsewhere query is apart =
      subst (λ o. HoldsAt next query o) (sym (ap (λ (d : Db). table_of d query) c.is ∙ both_other name def c.rows db.tables query apart))
      (at_same map next query (table_of db query)
      (made.others (def_name query) (λ e. apart (sym (defs query name e))) (λ of. def_not_rows query name (leaf_of c.table.def of.0) of.2) (λ of. def_not_rows query name (leaf_of def of.0) of.2))
      (λ leaf.
      made.others (row_name query leaf) (λ e. def_not_rows name query leaf (sym e)) (λ of. not_others name query c.table.def leaf is_name is apart of) (λ of. not_others name query def leaf is_name is apart of))
      (h.tables query is))

  pub altered_holds : Holds next later
  altered_holds = record {
    sound = c.sound;
    tables = by_name (λ query. HoldsAt next query (table_of later query)) name (subst (λ o. HoldsAt next name o) (sym at_name) here) elsewhere;
    counter =
        ap (λ (file : Option (List ℕ)). counter_of (unwrap_or file []))
        (made.others serials_name (λ e. def_not_serials name (sym e)) (λ of. rows_not_serials name (leaf_of c.table.def of.0) (sym of.2)) (λ of. rows_not_serials name (leaf_of def of.0) (sym of.2)))
        ∙ h.counter ∙ ap (λ (n : ℕ). Ok n) (sym (ap (λ (d : Db). d.next) c.is));
  }

-- ---- one at most

pub one_alteration : OneAlteration
one_alteration old def fresh next later a b valid_old valid sound_a sound_b is_a is_b =
    sound_from_spots def next later a b valid sound_a sound_b (λ spot is. go spot (fresh_at fresh spot) (is_a spot is) (is_b spot is))
  where
    go : (spot : Spot) (o : Option (List Row)) → AreRowsAfter old def spot o (spot_rows def spot a) → AreRowsAfter old def spot o (spot_rows def spot b) → spot_rows def spot a ≡ spot_rows def spot b
    go spot (Some given) x y = x ∙ sym y
    go spot None x y = x.same ∙ ap (λ s. spot_rows old.def s old.rows) (one_leaf old.def valid_old x.before y.before x.of y.of (x.leaf ∙ sym y.leaf)) ∙ sym y.same
