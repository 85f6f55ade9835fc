-- The checks of the code come to what the model says, row by row.
use Rattle.std.proofs.Common.{◌≡◌, ◌≢◌, ℕ, ◌+◌, ◌<◌, ◌≤◌, Bool, true, false, cond, not, List, [], ◌∷◌, ◌++◌, length, drop, get_or, Option, Some, None, Result, Ok, Err, refl, sym, ap, ◌∙◌, subst, arith}
use Rattle.std.specs.Option.{IsSome, is_none, option_map_or}
use Rattle.std.proofs.lemmas.List.Kept.{AllPairs-filter}
use Rattle.std.proofs.lemmas.List.{at_drop_all, at_drop_more, get_or_default}
use Rattle.pt_value.specs.declared.value.Value.{Value}
use Rattle.pt_ast.specs.declared.database.Row.{Row}
use Rattle.pt_ast.specs.declared.database.Spot.{Spot}
use Rattle.pt_ast.specs.declared.table.TableDef.{TableDef}
use Rattle.pt_ast.specs.declared.statement.ValueSpec.{ValueSpec}
use Rattle.pt_ast.specs.declared.refusal.Refusal.{Refusal}
use Rattle.pt_ast.specs.declared.refusal.Refusal.TheVariants as refusal
use Rattle.pt_ast.specs.Keys.{AreUnique, agrees, is_taken}
use Rattle.pt_place.specs.First.{first_of, refused_if}
use Rattle.pt_place.specs.Place.{place_of}
use Rattle.pt_place.specs.Valid.{IsValid}
use Rattle.pt_checks.specs.declared.faults.CellsFault.{CellsFault}
use Rattle.pt_checks.specs.declared.faults.CellsFault.TheVariants as fault
use Rattle.pt_checks.specs.Assigned.{are_same, updated_cells}
use Rattle.pt_checks.specs.Given.{Gives}
use Rattle.pt_checks.specs.Wanted.{is_in_parts, is_named_spot}
use Rattle.pt_db.specs.Outcome.{found, passed, refused_by, refused_where}
use Rattle.pt_db.specs.Rows.{is_numbered, others, row_at}
use Rattle.pt_db.specs.Sound.{IsSoundRow}
use Rattle.pt_db.proofs.Serials.{others_rise, row_holds}
use Rattle.pt_flat.specs.declared.updating.Updating.{Updating}
use Rattle.pt_flat.specs.Insert.{bad_cells}
use Rattle.pt_flat.specs.Update.{unchanged, update_row, update_rows, with_updated}
use Rattle.pt_holds.specs.RowChanges.{changed_at}
use Rattle.pt_books.specs.Books.{AreBooks, is_keyed}
use Rattle.pt_books.specs.Halts.{of_fault}
use Rattle.pt_books.specs.declared.halt.Halt.{Halt}
use Rattle.pt_books.specs.declared.halt.Halt.TheVariants as halt
use Rattle.pt_books.proofs.Spots.{agreeing_taken, entered_free, keyless_free}
use Rattle.pt_update.specs.declared.work.Work.{Work}
use Rattle.pt_update.specs.Parts.{IsPlacedIn, changed_cells, moved_row, placed_cells, with_moved}
use Rattle.pt_update.specs.Work.{Adds, AreTaken, IsAdded, IsFresh, IsMoving, IsNext, Moves}
use Rattle.pt_update.proofs.BookMoves.{books_moved}
use Rattle.pt_update.proofs.Stepped.{moving_more, same_free, same_moving, same_place}

-- # The other rows

pub others_unique : (def : TableDef) (serial : ℕ) (rows : List Row) → AreUnique def rows → AreUnique def (others serial rows)
others_unique def serial rows unique = AllPairs-filter (λ (a b : Row). agrees def b.cells a.cells ≡ false) (λ (row : Row). not (is_numbered serial row)) rows unique

-- # The parts of the model

abbrev given_spot : Spot → Result (Option (Spot × List Value)) Refusal → Spot
given_spot other (Ok (Some given)) = given.0
given_spot other (Ok None) = other
given_spot other (Err why) = other

abbrev given_cells : List Value → Result (Option (Spot × List Value)) Refusal → List Value
given_cells other (Ok (Some given)) = given.1
given_cells other (Ok None) = other
given_cells other (Err why) = other

module _ (def : TableDef) (parts : Option (List (List ℕ))) (number : ℕ) (updating : Updating) (row : Row) where
  -- what comes behind the new cells
  abbrev behind : List Value → Result Updating Refusal
  behind cells = refused_by (bad_cells def parts number (others row.serial updating.rows) cells) (Ok (with_updated row cells updating))

  -- 19
  abbrev twin : List Value → Option Refusal
  twin cells = refused_if (is_taken def cells (others row.serial updating.rows)) (refusal.DuplicateKey number)

  -- 42, by whether the spot is named
  abbrev spot_given : List Value → Spot → Bool → Result (Option (Spot × List Value)) Refusal
  spot_given cells spot t = refused_where (not t) (refusal.NotInGivenSet number) (Ok (Some (spot, cells)))

  -- 40 and 42, by the place
  abbrev place_given : List Value → Option Spot → Result (Option (Spot × List Value)) Refusal
  place_given cells o = found o (refusal.NoPartition number) (λ spot. spot_given cells spot (is_named_spot def parts spot))

  -- 40 and 42 refuse the row
  placed_refused : (cells : List Value) (why : Refusal) → placed_cells def parts number cells ≡ Err why → behind cells ≡ Err why
  placed_refused cells why = by_place (place_of def cells)
    where
      by_named : (spot : Spot) (t : Bool) → spot_given cells spot t ≡ Err why
          → refused_by (first_of (first_of (refused_if false (refusal.NoPartition number) ∷ refused_if (not t) (refusal.NotInGivenSet number) ∷ []) ∷ twin cells ∷ [])) (Ok (with_updated row cells updating)) ≡ Err why
      by_named spot true e = cc
      by_named spot false e = cc

      by_place : (o : Option Spot) → place_given cells o ≡ Err why
          → refused_by (first_of (first_of (refused_if (is_none o) (refusal.NoPartition number) ∷ refused_if (not (option_map_or (is_named_spot def parts) o false)) (refusal.NotInGivenSet number) ∷ []) ∷ twin cells ∷ [])) (Ok (with_updated row cells updating)) ≡ Err why
      by_place None e = cc
      by_place (Some spot) e = by_named spot (is_named_spot def parts spot) e

  -- where they don't, 19 is asked alone
  placed_passes : (cells : List Value) (spot : Spot) → place_of def cells ≡ Some spot → is_named_spot def parts spot ≡ true → behind cells ≡ with_moved def number updating row cells
  placed_passes cells spot placed named =
      ap (λ o. refused_by (first_of (first_of (refused_if (is_none o) (refusal.NoPartition number) ∷ refused_if (not (option_map_or (is_named_spot def parts) o false)) (refusal.NotInGivenSet number) ∷ []) ∷ twin cells ∷ [])) (Ok (with_updated row cells updating))) placed
      ∙ ap (λ t. refused_by (first_of (first_of (refused_if false (refusal.NoPartition number) ∷ refused_if (not t) (refusal.NotInGivenSet number) ∷ []) ∷ twin cells ∷ [])) (Ok (with_updated row cells updating))) named
      ∙ by (is_taken def cells (others row.serial updating.rows))
    where
      by : (t : Bool) → refused_by (first_of (first_of (refused_if false (refusal.NoPartition number) ∷ refused_if false (refusal.NotInGivenSet number) ∷ []) ∷ refused_if t (refusal.DuplicateKey number) ∷ [])) (Ok (with_updated row cells updating))
          ≡ refused_where t (refusal.DuplicateKey number) (Ok (with_updated row cells updating))
      by true = refl
      by false = refl

  -- what is given of the cells that are placed
  given_placed : (cells own : List Value) (spot : Spot) → placed_cells def parts number cells ≡ Ok (Some (spot, own)) → (own ≡ cells) × (place_of def cells ≡ Some spot) × (is_named_spot def parts spot ≡ true)
  given_placed cells own spot = by_place (place_of def cells) refl
    where
      by_named : (at : Spot) (t : Bool) → place_of def cells ≡ Some at → is_named_spot def parts at ≡ t → spot_given cells at t ≡ Ok (Some (spot, own))
          → (own ≡ cells) × (place_of def cells ≡ Some spot) × (is_named_spot def parts spot ≡ true)
      by_named at true placed named e =
          let same : at ≡ spot = ap (given_spot at) e in
          let cells_same : own ≡ cells = sym (ap (given_cells cells) e) in
          (cells_same, placed ∙ ap (λ s. Some s) same, subst (λ s. is_named_spot def parts s ≡ true) same named)
      by_named at false placed named e = cc

      by_place : (o : Option Spot) → place_of def cells ≡ o → place_given cells o ≡ Ok (Some (spot, own))
          → (own ≡ cells) × (place_of def cells ≡ Some spot) × (is_named_spot def parts spot ≡ true)
      by_place None at e = cc
      by_place (Some s) at e = by_named s (is_named_spot def parts s) at refl e

  module _ (assigns : List (List ℕ × ValueSpec)) where
    -- a refusal of the row by itself
    row_refused : (why : Refusal) → moved_row def parts assigns number row.cells ≡ Err why → update_row def parts assigns number updating row ≡ Err why
    row_refused why = by (updated_cells def assigns number row.cells)
      where
        by_same : (cells : List Value) (t : Bool) → cond t (Ok None) (placed_cells def parts number cells) ≡ Err why → behind cells ≡ Err why
        by_same cells true e = cc
        by_same cells false e = placed_refused cells why e

        by : (r : Result (List Value) Refusal) → passed r (changed_cells def parts number row.cells) ≡ Err why → passed r behind ≡ Err why
        by (Err other) e = let same : other ≡ why = cc in ap (λ w. Err w) same
        by (Ok cells) e = by_same cells (are_same row.cells cells) e

    -- the new values are those that it has
    row_same : moved_row def parts assigns number row.cells ≡ Ok None → (cells : List Value) × (update_row def parts assigns number updating row ≡ behind cells) × (are_same row.cells cells ≡ true)
    row_same = by (updated_cells def assigns number row.cells)
      where
        placed_some : (cells : List Value) → placed_cells def parts number cells ≡ Ok None → ⊥
        placed_some cells = by_place (place_of def cells)
          where
            by_named : (spot : Spot) (t : Bool) → spot_given cells spot t ≡ Ok None → ⊥
            by_named spot true e = cc
            by_named spot false e = cc

            by_place : (o : Option Spot) → place_given cells o ≡ Ok None → ⊥
            by_place None e = cc
            by_place (Some s) e = by_named s (is_named_spot def parts s) e

        by_same : (cells : List Value) (t : Bool) → are_same row.cells cells ≡ t → cond t (Ok None) (placed_cells def parts number cells) ≡ Ok None → are_same row.cells cells ≡ true
        by_same cells true is e = is
        by_same cells false is e = absurd (placed_some cells e)

        by : (r : Result (List Value) Refusal) → passed r (changed_cells def parts number row.cells) ≡ Ok None
            → (cells : List Value) × (passed r behind ≡ behind cells) × (are_same row.cells cells ≡ true)
        by (Err other) e = cc
        by (Ok cells) e = (cells, refl, by_same cells (are_same row.cells cells) refl e)

    -- the new cells have a spot that is named
    row_moves : (spot : Spot) (cells : List Value) → moved_row def parts assigns number row.cells ≡ Ok (Some (spot, cells))
        → (update_row def parts assigns number updating row ≡ with_moved def number updating row cells) × (are_same row.cells cells ≡ false)
    row_moves spot cells = by (updated_cells def assigns number row.cells)
      where
        by_same : (own : List Value) (t : Bool) → are_same row.cells own ≡ t → cond t (Ok None) (placed_cells def parts number own) ≡ Ok (Some (spot, cells))
            → (behind own ≡ with_moved def number updating row cells) × (are_same row.cells cells ≡ false)
        by_same own true is e = cc
        by_same own false is e =
            let g = given_placed own cells spot e in (
              placed_passes own spot g.1 g.2 ∙ ap (with_moved def number updating row) (sym g.0),
              ap (are_same row.cells) g.0 ∙ is,
            )

        by : (r : Result (List Value) Refusal) → passed r (changed_cells def parts number row.cells) ≡ Ok (Some (spot, cells))
            → (passed r behind ≡ with_moved def number updating row cells) × (are_same row.cells cells ≡ false)
        by (Err other) e = cc
        by (Ok own) e = by_same own (are_same row.cells own) refl e

-- # One row

some_placed : (o : Option Spot) → IsSome o → (spot : Spot) × (o ≡ Some spot)
some_placed None some = let bad : false ≡ true = some in cc
some_placed (Some spot) some = (spot, refl)

module _ (next : ℕ) (def : TableDef) (parts : Option (List (List ℕ))) (before : List Row) (updating : Updating) (work : Work) (row : Row) (is_next : IsNext next def parts before updating work row) (number : ℕ) where
  named_there : (spot : Spot) → place_of def row.cells ≡ Some spot → is_named_spot def parts spot ≡ true
  named_there spot at = sym (ap (λ o. option_map_or (is_named_spot def parts) o false) at) ∙ is_next.named

  module _ (assigns : List (List ℕ × ValueSpec)) where
    pub unmoved_moves : (e : CellsFault) → Gives (moved_row def parts assigns number row.cells) (Err e) → Moves next def before (update_row def parts assigns number updating row) work (Err (of_fault e))
    unmoved_moves (fault.Refused why) gives = row_refused def parts number updating row assigns why gives
    unmoved_moves fault.NoMemory gives = tt

    pub same_moves : moved_row def parts assigns number row.cells ≡ Ok None → Moves next def before (update_row def parts assigns number updating row) work (Ok tt)
    same_moves gives =
        let s = row_same def parts number updating row assigns gives in
        let cells = s.0 in
        let stood = some_placed (place_of def row.cells) (row_holds (IsSoundRow next def) updating.rows row.serial row.cells is_next.moving.sound.each is_next.there).placed in
        let placed : place_of def cells ≡ Some stood.0 = same_place next def before updating work row cells is_next.moving is_next.there s.2 ∙ stood.1 in
        let free = same_free next def before updating work row cells is_next.moving is_next.there s.2 in (
          with_updated row cells updating,
          s.1
              ∙ placed_passes def parts number updating row cells stood.0 placed (named_there stood.0 stood.1)
              ∙ ap (λ t. refused_where t (refusal.DuplicateKey number) (Ok (with_updated row cells updating))) free,
          same_moving next def before updating work row cells is_next.moving is_next.there s.2,
        )

    pub moved_moves : (spot : Spot) (cells : List Value) → moved_row def parts assigns number row.cells ≡ Ok (Some (spot, cells)) → (later : Work) (r : Result (Unit {0}) Halt)
        → (are_same row.cells cells ≡ false → Moves next def before (with_moved def number updating row cells) later r) → Moves next def before (update_row def parts assigns number updating row) later r
    moved_moves spot cells gives later r told =
        let m = row_moves def parts number updating row assigns spot cells gives in
        subst (λ model. Moves next def before model later r) (sym m.0) (told m.1)

  -- # It moves

  module _ (valid : IsValid def) (cells : List Value) (from to : Spot) (stood : place_of def row.cells ≡ Some from) (at : IsPlacedIn def to cells) (differ : are_same row.cells cells ≡ false) (mid : Work)
      (same_deletes : mid.deletes ≡ work.deletes) (same_puts : mid.puts ≡ work.puts) (books : is_keyed def ≡ true → AreBooks def before (others row.serial updating.rows) mid.books) where
    abbrev own : Row
    own = record { serial = row.serial; cells = cells }

    free_now : (new : Work) → IsAdded def mid new from to own → is_taken def cells (others row.serial updating.rows) ≡ false
    free_now new added = by (is_keyed def) refl
      where
        by : (t : Bool) → is_keyed def ≡ t → is_taken def cells (others row.serial updating.rows) ≡ false
        by true e = entered_free def valid before (others row.serial updating.rows) (others_rise row.serial updating.rows is_next.moving.sound.rising) mid.books new.books (books e) to own at.placed (added.keyed e)
        by false e = keyless_free def cells (others row.serial updating.rows) e

    pub added_moves : (new : Work) → IsAdded def mid new from to own → Moves next def before (with_moved def number updating row cells) new (Ok tt)
    added_moves new added =
        let free = free_now new added in (
          with_updated row cells updating,
          ap (λ t. refused_where t (refusal.DuplicateKey number) (Ok (with_updated row cells updating))) free,
          moving_more next def before updating work new row cells from to is_next.moving is_next.there is_next.fresh stood at differ (added.deletes ∙ ap (λ (ds : List (Spot × ℕ)). ds ++ (from, row.serial) ∷ []) same_deletes)
              (added.puts ∙ ap (λ (ps : List (Spot × Row)). ps ++ (to, own) ∷ []) same_puts) free
              (λ keyed. books_moved def before updating.rows is_next.moving.sound.rising row.serial row.cells is_next.there cells to at.placed valid mid.books new.books (books keyed) (added.keyed keyed)),
        )

    pub refused_moves : (new : Work) (e : CellsFault) → Adds def mid new from to number own (Err e) → Moves next def before (with_moved def number updating row cells) new (Err (of_fault e))
    refused_moves new (fault.Refused why) refused =
        ap (λ t. refused_where t (refusal.DuplicateKey number) (Ok (with_updated row cells updating)))
        (agreeing_taken def valid before (others row.serial updating.rows) (others_rise row.serial updating.rows is_next.moving.sound.rising) mid.books new.books (books refused.keyed) to own at.placed refused.serial refused.agreeing)
        ∙ ap (λ w. Err w) (sym refused.is)
    refused_moves new fault.NoMemory refused = tt

-- # All rows

-- what holds before the row at place i
pub record IsUpdatedTo (next : ℕ) (def : TableDef) (parts : Option (List (List ℕ))) (assigns : List (List ℕ × ValueSpec)) (before taken : List Row) (now : Work) (i : ℕ) : Type 0 where
  pub updating : Updating
  pub rest : update_rows def parts assigns (i + 1) updating (drop i taken) ≡ update_rows def parts assigns 1 (unchanged before) taken
  pub moving : IsMoving next def before updating now
  pub fresh : (k : ℕ) (d : Row) → i ≤ k → k < length taken → IsFresh now (get_or taken k d).serial

module _ (next : ℕ) (def : TableDef) (parts : Option (List (List ℕ))) (assigns : List (List ℕ × ValueSpec)) (before taken : List Row) (are : AreTaken def parts before taken) where
  pub updated_none : (start : Work) → ((serial : ℕ) → IsFresh start serial) → IsMoving next def before (unchanged before) start → IsUpdatedTo next def parts assigns before taken start 0
  updated_none start fresh moving = record { updating = unchanged before; rest = refl; moving = moving; fresh = λ k d past below. fresh (get_or taken k d).serial }

  module _ (now later : Work) (i : ℕ) (row : Row) (below : i < length taken) (own : get_or taken i row ≡ row) (had : IsUpdatedTo next def parts assigns before taken now i) where
    pub next_is : IsNext next def parts before had.updating now row
    next_is =
        let fresh : IsFresh now row.serial = subst (λ (r : Row). IsFresh now r.serial) own (had.fresh i row (omega arith) below) in
        record {
          moving = had.moving;
          there = had.moving.each row.serial ∙ left fresh ∙ subst (λ (r : Row). row_at before r.serial ≡ Some r.cells) own (are.stand i row below);
          named = subst (λ (r : Row). is_in_parts def parts r.cells ≡ true) own (are.named i row below);
          fresh = fresh;
        }
      where
        left : IsFresh now row.serial → changed_at now.deletes now.puts before row.serial ≡ row_at before row.serial
        left fresh = rw (fresh.unput, fresh.undeleted) refl

    next_row : update_rows def parts assigns (i + 1) had.updating (drop i taken) ≡ passed (update_row def parts assigns (i + 1) had.updating row) (λ then. update_rows def parts assigns (i + 1 + 1) then (drop (i + 1) taken))
    next_row =
        at_drop_more (update_rows def parts assigns (i + 1) had.updating) taken i row below
        ∙ ap (λ r. passed (update_row def parts assigns (i + 1) had.updating r) (λ then. update_rows def parts assigns (i + 1 + 1) then (drop (i + 1) taken))) own

    pub updated_more : Moves next def before (update_row def parts assigns (i + 1) had.updating row) later (Ok tt) → ((serial : ℕ) → serial ≢ row.serial → IsFresh now serial → IsFresh later serial)
        → IsUpdatedTo next def parts assigns before taken later (i + 1)
    updated_more moves stays = record {
      updating = moves.0;
      rest = sym (next_row ∙ ap (λ r. passed r (λ then. update_rows def parts assigns (i + 1 + 1) then (drop (i + 1) taken))) moves.1) ∙ had.rest;
      moving = moves.2;
      fresh = λ k d past within. stays (get_or taken k d).serial (λ same. apart_from k d past within same) (had.fresh k d (omega (arith, past)) within);
    }
      where
        apart_from : (k : ℕ) (d : Row) → i + 1 ≤ k → k < length taken → (get_or taken k d).serial ≡ row.serial → ⊥
        apart_from k d past within same = are.apart i k d (omega (arith, past)) within (ap (λ (r : Row). r.serial) (sym (get_or_default taken i row d below) ∙ own) ∙ sym same)

    pub updated_halts : (e : Halt) → Moves next def before (update_row def parts assigns (i + 1) had.updating row) later (Err e)
        → Moves next def before (update_rows def parts assigns 1 (unchanged before) taken) later (Err e)
    updated_halts (halt.Refused why) moves = sym had.rest ∙ next_row ∙ ap (λ r. passed r (λ then. update_rows def parts assigns (i + 1 + 1) then (drop (i + 1) taken))) moves
    updated_halts (halt.Stopped stop) moves = tt

  pub updated_all : (now : Work) (i : ℕ) → length taken ≤ i → IsUpdatedTo next def parts assigns before taken now i → Moves next def before (update_rows def parts assigns 1 (unchanged before) taken) now (Ok tt)
  updated_all now i past had = (had.updating, sym had.rest ∙ at_drop_all (update_rows def parts assigns (i + 1) had.updating) taken i past, had.moving)

-- # How many

row_matched : (def : TableDef) (parts : Option (List (List ℕ))) (assigns : List (List ℕ × ValueSpec)) (number : ℕ) (updating later : Updating) (row : Row) → update_row def parts assigns number updating row ≡ Ok later
    → later.matched ≡ updating.matched + 1
row_matched def parts assigns number updating later row = by (updated_cells def assigns number row.cells)
  where
    by_bad : (cells : List Value) (o : Option Refusal) → refused_by o (Ok (with_updated row cells updating)) ≡ Ok later → later.matched ≡ updating.matched + 1
    by_bad cells (Some why) e = let bad : Err why ≡ Ok later = e in cc
    by_bad cells None e = let is : with_updated row cells updating ≡ later = cc in sym (ap (λ (u : Updating). u.matched) is)

    by : (r : Result (List Value) Refusal) → passed r (λ cells. refused_by (bad_cells def parts number (others row.serial updating.rows) cells) (Ok (with_updated row cells updating))) ≡ Ok later → later.matched ≡ updating.matched + 1
    by (Err why) e = let bad : Err why ≡ Ok later = e in cc
    by (Ok cells) e = by_bad cells (bad_cells def parts number (others row.serial updating.rows) cells) e

-- each row is counted
pub rows_matched : (def : TableDef) (parts : Option (List (List ℕ))) (assigns : List (List ℕ × ValueSpec)) (number : ℕ) (updating later : Updating) (rows : List Row)
    → update_rows def parts assigns number updating rows ≡ Ok later → later.matched ≡ updating.matched + length rows
rows_matched def parts assigns number updating later [] e =
    let is : updating ≡ later = cc in
    let same : later.matched ≡ updating.matched = sym (ap (λ (u : Updating). u.matched) is) in
    omega (arith, same)
rows_matched def parts assigns number updating later (row ∷ rows) e =
    by (update_row def parts assigns number updating row) refl (λ mid behind. rows_matched def parts assigns (number + 1) mid later rows behind) e
  where
    by : (r : Result Updating Refusal) → update_row def parts assigns number updating row ≡ r
        → ((mid : Updating) → update_rows def parts assigns (number + 1) mid rows ≡ Ok later → later.matched ≡ mid.matched + length rows)
        → passed r (λ then. update_rows def parts assigns (number + 1) then rows) ≡ Ok later → later.matched ≡ updating.matched + length (row ∷ rows)
    by (Err why) at more e = let bad : Err why ≡ Ok later = e in cc
    by (Ok mid) at more e =
        let first = row_matched def parts assigns number updating mid row at in
        let rest = more mid e in
        omega (arith, first, rest)
