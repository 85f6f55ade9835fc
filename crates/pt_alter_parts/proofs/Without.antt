-- Rows that go from some partitions, spot by spot.
use Rattle.std.proofs.Common.{◌≡◌, ℕ, Bool, true, false, not, cond, List, [], ◌∷◌, Option, Some, None, IsSome, refl, sym, ap, ◌∙◌, subst}
use Rattle.std.specs.List.{filter, find}
use Rattle.std.specs.Option.{option_map, option_map_or}
use Rattle.std.proofs.lemmas.Map.Entries.{option_filter}
use Rattle.pt_value.specs.declared.value.Value.{Value}
use Rattle.pt_ast.specs.declared.database.Db.{Db}
use Rattle.pt_ast.specs.declared.database.Row.{Row}
use Rattle.pt_ast.specs.declared.database.Spot.{Spot}
use Rattle.pt_ast.specs.declared.database.Table.{Table}
use Rattle.pt_ast.specs.declared.table.TableDef.{TableDef}
use Rattle.pt_checks.specs.Wanted.{is_in_parts, is_named_spot}
use Rattle.pt_db.specs.Lookup.{table_of, with_both}
use Rattle.pt_db.specs.Outcome.{Outcome}
use Rattle.pt_db.specs.Rows.{AreRising, is_at, is_spot, row_at, spot_rows}
use Rattle.pt_db.specs.Sound.{IsSound}
use Rattle.pt_db.specs.Spots.{IsSpotOf}
use Rattle.pt_db.proofs.RowSounds.{rows_kept}
use Rattle.pt_db.proofs.Serials.{row_filtered}
use Rattle.pt_db.proofs.Sounds.{altered_sound, sound_table}
use Rattle.pt_db.proofs.Spots.{placed_there}
use Rattle.pt_holds.specs.ShapeChanges.{AreRowsAfter, IsAlterOf, fresh_at}
use Rattle.pt_spread.specs.Spread.{rows_by_spot}
use Rattle.pt_spread.proofs.Given.{given_there}
use Rattle.pt_altered.specs.Altered.{rows_out, with_altered}
use Rattle.pt_alter_parts.specs.Emptied.{emptied}
use Rattle.pt_alter_parts.specs.Redefined.{Redefines}

-- ---- the first of those that a test keeps

find_kept : {X : Type 0} (q p : X → Bool) (t : Bool) → ((x : X) → q x ≡ true → p x ≡ t) → (xs : List X) → find q (filter p xs) ≡ cond t (find q xs) None
find_kept q p true same [] = refl
find_kept q p false same [] = refl
find_kept q p t same (x ∷ xs) = by t (q x) (p x) refl refl (same x) (find_kept q p t same xs)
  where
    by : (t a b : Bool) → q x ≡ a → p x ≡ b → (q x ≡ true → p x ≡ t) → find q (filter p xs) ≡ cond t (find q xs) None
        → find q (cond b (x ∷ filter p xs) (filter p xs)) ≡ cond t (cond a (Some x) (find q xs)) None
    by true true true e f same rest = ap (λ b. cond b (Some x) (find q (filter p xs))) e
    by true true false e f same rest = let bad : false ≡ true = sym f ∙ same e in cc
    by false true true e f same rest = let bad : true ≡ false = sym f ∙ same e in cc
    by false true false e f same rest = rest
    by true false true e f same rest = ap (λ b. cond b (Some x) (find q (filter p xs))) e ∙ rest
    by true false false e f same rest = rest
    by false false true e f same rest = ap (λ b. cond b (Some x) (find q (filter p xs))) e ∙ rest
    by false false false e f same rest = rest

-- ---- the rows of a spot

module _ (def : TableDef) (parts : Option (List (List ℕ))) (spot : Spot) (t : Bool) (named : is_named_spot def parts spot ≡ t) where
  in_parts : (row : Row) → is_at def spot row ≡ true → is_in_parts def parts row.cells ≡ t
  in_parts row at = ap (λ (o : Option Spot). option_map_or (is_named_spot def parts) o false) (placed_there def spot row.cells at) ∙ named

  -- those of a named spot go, those of another stay
  spot_left : (rows : List Row) → spot_rows def spot (rows_out parts def rows) ≡ cond t [] (spot_rows def spot rows)
  spot_left [] = none t
    where
      none : (s : Bool) → spot_rows def spot [] ≡ cond s [] (spot_rows def spot [])
      none true = refl
      none false = refl
  spot_left (row ∷ rows) = by t (is_at def spot row) (is_in_parts def parts row.cells) refl refl (in_parts row) (spot_left rows)
    where
      by : (s b a : Bool) → is_at def spot row ≡ b → is_in_parts def parts row.cells ≡ a → (is_at def spot row ≡ true → is_in_parts def parts row.cells ≡ s)
          → spot_rows def spot (rows_out parts def rows) ≡ cond s [] (spot_rows def spot rows)
          → spot_rows def spot (cond (not a) (row ∷ rows_out parts def rows) (rows_out parts def rows)) ≡ cond s [] (cond b (row ∷ spot_rows def spot rows) (spot_rows def spot rows))
      by true true true e f same rest = rest
      by true true false e f same rest = let bad : false ≡ true = sym f ∙ same e in cc
      by false true true e f same rest = let bad : true ≡ false = sym f ∙ same e in cc
      by false true false e f same rest = ap (λ b. cond b (row ∷ spot_rows def spot (rows_out parts def rows)) (spot_rows def spot (rows_out parts def rows))) e ∙ ap (λ rs. row ∷ rs) rest
      by true false true e f same rest = rest
      by true false false e f same rest = ap (λ b. cond b (row ∷ spot_rows def spot (rows_out parts def rows)) (spot_rows def spot (rows_out parts def rows))) e ∙ rest
      by false false true e f same rest = rest
      by false false false e f same rest = ap (λ b. cond b (row ∷ spot_rows def spot (rows_out parts def rows)) (spot_rows def spot (rows_out parts def rows))) e ∙ rest

  abbrev there : Spot × List Row → Bool
  there given = is_spot given.0 spot

  abbrev wanted : Spot × List Row → Bool
  wanted given = is_named_spot def parts given.0

  same_spot : (given : Spot × List Row) → there given ≡ true → wanted given ≡ t
  same_spot given e = ap (is_named_spot def parts) (Rattle.pt_db.proofs.Spots.spot_same given.0 spot e) ∙ named

  -- a named spot is given no rows, another isn't given any
  fresh_there : IsSpotOf def spot → fresh_at (emptied def parts) spot ≡ cond t (Some []) None
  fresh_there is =
      ap (λ (o : Option (Spot × List Row)). option_map (λ (given : Spot × List Row). given.1) o) (find_kept there wanted t same_spot (rows_by_spot def []))
      ∙ by t
    where
      by : (s : Bool) → option_map (λ (given : Spot × List Row). given.1) (cond s (find there (rows_by_spot def [])) None) ≡ cond s (Some []) None
      by true = given_there def [] spot is
      by false = refl

-- ---- a table that loses the rows of some partitions

module _ (db : Db) (name : List ℕ) (table : Table) (sound : IsSound db) (at : table_of db name ≡ Some table) (parts : Option (List (List ℕ))) where
  was_there : (keep : Row → Bool) (rows : List Row) (serial : ℕ) → AreRising rows → IsSome (row_at (filter keep rows) serial) → IsSome (row_at rows serial)
  was_there keep rows serial up some = by (row_at rows serial) (subst (λ (o : Option (List Value)). IsSome o) (row_filtered keep rows serial up) some)
    where
      by : (o : Option (List Value)) → IsSome (option_filter (λ cells. keep (record { serial = serial; cells = cells })) o) → IsSome o
      by (Some cells) some = refl
      by None some = some

  after : (spot : Spot) → IsSpotOf table.def spot → AreRowsAfter table table.def spot (fresh_at (emptied table.def parts) spot) (spot_rows table.def spot (rows_out parts table.def table.rows))
  after spot is = by (is_named_spot table.def parts spot) refl
    where
      by : (t : Bool) → is_named_spot table.def parts spot ≡ t → AreRowsAfter table table.def spot (fresh_at (emptied table.def parts) spot) (spot_rows table.def spot (rows_out parts table.def table.rows))
      by true e =
          subst (λ (o : Option (List Row)). AreRowsAfter table table.def spot o (spot_rows table.def spot (rows_out parts table.def table.rows))) (sym (fresh_there table.def parts spot true e is))
          (spot_left table.def parts spot true e table.rows)
      by false e =
          subst (λ (o : Option (List Row)). AreRowsAfter table table.def spot o (spot_rows table.def spot (rows_out parts table.def table.rows))) (sym (fresh_there table.def parts spot false e is))
          (record { before = spot; of = is; leaf = refl; same = spot_left table.def parts spot false e table.rows })

  truncated : IsAlterOf name table.def (emptied table.def parts) db (record { tables = with_both name table.def (rows_out parts table.def table.rows) db.tables; next = db.next })
  truncated =
      let own = sound_table db sound name table at in
      record {
        table = table;
        held = at;
        rows = rows_out parts table.def table.rows;
        altered = after;
        is = refl;
        sound = altered_sound db name table table.def (rows_out parts table.def table.rows) sound at own.storable own.valid
            (rows_kept db.next table.def (λ row. not (is_in_parts table.def parts row.cells)) table.rows own.rows)
            (λ serial some. was_there (λ row. not (is_in_parts table.def parts row.cells)) table.rows serial own.rows.rising some);
      }

  -- the statement means that
  pub empties_rows : (def : TableDef) (fresh : List (Spot × List Row)) (outcome : Outcome) → table.def ≡ def → fresh ≡ emptied def parts
      → outcome ≡ with_altered db name table.def (rows_out parts table.def table.rows) → Redefines name def fresh db outcome
  empties_rows def fresh outcome same given is =
      subst (λ (f : List (Spot × List Row)). Redefines name def f db outcome) (sym given)
      (subst (λ (d : TableDef). Redefines name d (emptied d parts) db outcome) same
      (record { later = record { tables = with_both name table.def (rows_out parts table.def table.rows) db.tables; next = db.next }; is = is; change = truncated }))
