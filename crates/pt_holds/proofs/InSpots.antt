-- What stands at each serial in a spot after a change.
use Rattle.std.proofs.Common.{◌≡◌, ◌≢◌, ◌⊎◌, inl, inr, ℕ, ◌==◌, Bool, true, false, cond, ◌||◌, List, [], ◌∷◌, Option, Some, None, refl, sym, ap, ap₂, ◌∙◌, subst}
use Rattle.std.specs.List.{All}
use Rattle.std.specs.Option.{IsSomeAnd, option_map_or, option_or}
use Rattle.std.proofs.lemmas.Bool.{eqb-true, true≢false}
use Rattle.std.proofs.lemmas.List.Elements.{All-head, All-tail}
use Rattle.std.proofs.lemmas.Map.Entries.{option_filter}
use Rattle.pt_plain.proofs.Pairs.{pairs_head, pairs_tail}
use Rattle.pt_value.specs.declared.value.Value.{Value}
use Rattle.pt_ast.specs.declared.database.Row.{Row}
use Rattle.pt_ast.specs.declared.database.Spot.{Spot}
use Rattle.pt_ast.specs.declared.table.TableDef.{TableDef}
use Rattle.pt_place.specs.Place.{place_of}
use Rattle.pt_db.specs.Rows.{AreRising, is_spot, row_at, spot_rows}
use Rattle.pt_db.proofs.Spots.{spot_row_at, stands_in}
use Rattle.pt_holds.specs.Batch.{deletes_in, puts_in}
use Rattle.pt_holds.specs.RowChanges.{AreNew, AreOnce, changed_at, is_deleted, kept, rows_put}
use Rattle.pt_holds.proofs.Left.{kept_none, put_absent}

module _ (def : TableDef) (spot : Spot) where
  -- a row that is placed in a spot stands there where the spot is that one
  placed_test : (other : Spot) (cells : List Value) → place_of def cells ≡ Some other → stands_in def spot cells ≡ is_spot spot other
  placed_test other cells at = ap (λ (o : Option Spot). option_map_or (is_spot spot) o false) at

  -- ---- puts

  puts_here : (puts : List (Spot × Row)) (serial : ℕ) → AreOnce puts → All (λ (p : Spot × Row). place_of def p.1.cells ≡ Some p.0) puts
      → row_at (rows_put (puts_in spot puts)) serial ≡ option_filter (stands_in def spot) (row_at (rows_put puts) serial)
  puts_here [] serial once placed = refl
  puts_here (p ∷ puts) serial once placed =
      let rest = puts_here puts serial (pairs_tail (λ (a b : Spot × Row). a.1.serial ≢ b.1.serial) p puts once) (All-tail (λ (q : Spot × Row). place_of def q.1.cells ≡ Some q.0) p puts placed) in
      let none = λ (e : (p.1.serial == serial) ≡ true). subst (λ n. row_at (rows_put puts) n ≡ None) (eqb-true p.1.serial serial e)
      (put_absent puts p.1.serial (pairs_head (λ (a b : Spot × Row). a.1.serial ≢ b.1.serial) p puts once)) in
      by_tests (is_spot spot p.0) (p.1.serial == serial) refl (placed_test p.0 p.1.cells (All-head (λ (q : Spot × Row). place_of def q.1.cells ≡ Some q.0) p puts placed)) rest none
    where
      by_tests : (s t : Bool) → (p.1.serial == serial) ≡ t → stands_in def spot p.1.cells ≡ s
          → row_at (rows_put (puts_in spot puts)) serial ≡ option_filter (stands_in def spot) (row_at (rows_put puts) serial)
          → ((p.1.serial == serial) ≡ true → row_at (rows_put puts) serial ≡ None)
          → row_at (rows_put (cond s (p ∷ puts_in spot puts) (puts_in spot puts))) serial ≡ option_filter (stands_in def spot) (cond t (Some p.1.cells) (row_at (rows_put puts) serial))
      by_tests true true e stands rest none =
          ap (λ b. cond b (Some p.1.cells) (row_at (rows_put (puts_in spot puts)) serial)) e ∙ sym (ap (λ b. cond b (Some p.1.cells) None) stands)
      by_tests true false e stands rest none = ap (λ b. cond b (Some p.1.cells) (row_at (rows_put (puts_in spot puts)) serial)) e ∙ rest
      by_tests false true e stands rest none = rest ∙ ap (option_filter (stands_in def spot)) (none e) ∙ sym (ap (λ b. cond b (Some p.1.cells) None) stands)
      by_tests false false e stands rest none = rest

  -- ---- deletes

  -- a delete names a row that is there, and is placed in its spot
  abbrev IsOfRow : List Row → Spot × ℕ → Type 0
  IsOfRow rows delete = IsSomeAnd (row_at rows delete.1) (λ cells. place_of def cells ≡ Some delete.0)

  deletes_here : (deletes : List (Spot × ℕ)) (rows : List Row) (serial : ℕ) (cells : List Value) → All (IsOfRow rows) deletes → row_at rows serial ≡ Some cells → stands_in def spot cells ≡ true
      → is_deleted (deletes_in spot deletes) serial ≡ is_deleted deletes serial
  deletes_here [] rows serial cells each at stands = refl
  deletes_here (d ∷ deletes) rows serial cells each at stands =
      by_tests (is_spot spot d.0) (d.1 == serial) refl refl (deletes_here deletes rows serial cells (All-tail (IsOfRow rows) d deletes each) at stands) (All-head (IsOfRow rows) d deletes each)
    where
      other : (d.1 == serial) ≡ true → is_spot spot d.0 ≡ false → IsOfRow rows d → ⊥
      other e apart of =
          let there : row_at rows d.1 ≡ Some cells = subst (λ n. row_at rows n ≡ Some cells) (sym (eqb-true d.1 serial e)) at in
          let placed : place_of def cells ≡ Some d.0 = subst (λ (o : Option (List Value)). IsSomeAnd o (λ c. place_of def c ≡ Some d.0)) there of in
          true≢false (sym stands ∙ placed_test d.0 cells placed ∙ apart)

      by_tests : (s t : Bool) → is_spot spot d.0 ≡ s → (d.1 == serial) ≡ t → is_deleted (deletes_in spot deletes) serial ≡ is_deleted deletes serial → IsOfRow rows d
          → is_deleted (cond s (d ∷ deletes_in spot deletes) (deletes_in spot deletes)) serial ≡ (t || is_deleted deletes serial)
      by_tests true t is e rest of = ap₂ (λ (x y : Bool). x || y) e rest
      by_tests false true is e rest of = absurd (other e is of)
      by_tests false false is e rest of = rest

  kept_here : (deletes : List (Spot × ℕ)) (rows : List Row) (serial : ℕ) → All (IsOfRow rows) deletes
      → kept (is_deleted (deletes_in spot deletes) serial) (option_filter (stands_in def spot) (row_at rows serial)) ≡ option_filter (stands_in def spot) (kept (is_deleted deletes serial) (row_at rows serial))
  kept_here deletes rows serial each = by_case (row_at rows serial) refl
    where
      by_deleted : (b : Bool) (cells : List Value) → stands_in def spot cells ≡ true → kept b (Some cells) ≡ option_filter (stands_in def spot) (kept b (Some cells))
      by_deleted true cells stands = refl
      by_deleted false cells stands = sym (ap (λ b. cond b (Some cells) None) stands)

      by_gone : (b : Bool) (cells : List Value) → stands_in def spot cells ≡ false → None ≡ option_filter (stands_in def spot) (kept b (Some cells))
      by_gone true cells apart = refl
      by_gone false cells apart = sym (ap (λ b. cond b (Some cells) None) apart)

      by_stands : (t : Bool) (cells : List Value) → stands_in def spot cells ≡ t → row_at rows serial ≡ Some cells
          → kept (is_deleted (deletes_in spot deletes) serial) (cond t (Some cells) None) ≡ option_filter (stands_in def spot) (kept (is_deleted deletes serial) (Some cells))
      by_stands true cells stands at = ap (λ b. kept b (Some cells)) (deletes_here deletes rows serial cells each at stands) ∙ by_deleted (is_deleted deletes serial) cells stands
      by_stands false cells apart at = kept_none (is_deleted (deletes_in spot deletes) serial) ∙ by_gone (is_deleted deletes serial) cells apart

      by_case : (o : Option (List Value)) → row_at rows serial ≡ o
          → kept (is_deleted (deletes_in spot deletes) serial) (option_filter (stands_in def spot) o) ≡ option_filter (stands_in def spot) (kept (is_deleted deletes serial) o)
      by_case None at = kept_none (is_deleted (deletes_in spot deletes) serial) ∙ ap (option_filter (stands_in def spot)) (sym (kept_none (is_deleted deletes serial)))
      by_case (Some cells) at = by_stands (stands_in def spot cells) cells refl at

  -- ---- both

  first_of_two : (keep : List Value → Bool) (a b : Option (List Value)) → (a ≡ None) ⊎ (b ≡ None) → option_filter keep (option_or a b) ≡ option_or (option_filter keep a) (option_filter keep b)
  first_of_two keep None b free = refl
  first_of_two keep (Some cells) b (inl none) = let bad : Some cells ≡ None = none in cc
  first_of_two keep (Some cells) b (inr none) = by_test (keep cells) ∙ ap (λ o. option_or (cond (keep cells) (Some cells) None) (option_filter keep o)) (sym none)
    where
      by_test : (t : Bool) → cond t (Some cells) None ≡ option_or (cond t (Some cells) None) None
      by_test true = refl
      by_test false = refl

  -- at each serial stands the put of this spot, else what the deletes of this spot left of its rows
  pub spot_changed : (before later : List Row) (deletes : List (Spot × ℕ)) (puts : List (Spot × Row)) (serial : ℕ) → AreRising before → AreRising later → AreOnce puts
      → All (λ (p : Spot × Row). place_of def p.1.cells ≡ Some p.0) puts → All (λ (d : Spot × ℕ). IsSomeAnd (row_at before d.1) (λ cells. place_of def cells ≡ Some d.0)) deletes
      → AreNew deletes puts before → row_at later serial ≡ changed_at deletes puts before serial
      → row_at (spot_rows def spot later) serial ≡ changed_at (deletes_in spot deletes) (puts_in spot puts) (spot_rows def spot before) serial
  spot_changed before later deletes puts serial up_before up_later once placed each new is =
      let put = row_at (rows_put puts) serial in
      let stays = kept (is_deleted deletes serial) (row_at before serial) in
      spot_row_at def spot later serial up_later
      ∙ ap (option_filter (stands_in def spot)) is
      ∙ first_of_two (stands_in def spot) put stays (new serial)
      ∙ ap₂ (λ (a b : Option (List Value)). option_or a b) (sym (puts_here puts serial once placed))
      (sym (kept_here deletes before serial each) ∙ ap (kept (is_deleted (deletes_in spot deletes) serial)) (sym (spot_row_at def spot before serial up_before)))

  -- nothing is put where a row of the spot stays
  pub spot_new : (before : List Row) (deletes : List (Spot × ℕ)) (puts : List (Spot × Row)) → AreRising before → AreOnce puts
      → All (λ (p : Spot × Row). place_of def p.1.cells ≡ Some p.0) puts → All (λ (d : Spot × ℕ). IsSomeAnd (row_at before d.1) (λ cells. place_of def cells ≡ Some d.0)) deletes
      → AreNew deletes puts before → AreNew (deletes_in spot deletes) (puts_in spot puts) (spot_rows def spot before)
  spot_new before deletes puts up once placed each new serial = go (new serial)
    where
      go : (row_at (rows_put puts) serial ≡ None) ⊎ (kept (is_deleted deletes serial) (row_at before serial) ≡ None)
          → (row_at (rows_put (puts_in spot puts)) serial ≡ None) ⊎ (kept (is_deleted (deletes_in spot deletes) serial) (row_at (spot_rows def spot before) serial) ≡ None)
      go (inl none) = inl (puts_here puts serial once placed ∙ ap (option_filter (stands_in def spot)) none)
      go (inr none) =
          inr (ap (kept (is_deleted (deletes_in spot deletes) serial)) (spot_row_at def spot before serial up) ∙ kept_here deletes before serial each ∙ ap (option_filter (stands_in def spot)) none)
