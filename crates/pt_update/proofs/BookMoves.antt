-- A row goes from the book of its spot to that of another: the books are those of the rows with it changed.
use Rattle.std.proofs.Common.{◌≡◌, ◌≢◌, ℕ, ◌==◌, Bool, true, false, cond, not, List, [], ◌∷◌, ◌++◌, Option, Some, None, refl, sym, ap, ◌∙◌, subst, true≢false, append-nil}
use Rattle.std.specs.Option.{IsSome, option_map, option_map_or, option_or}
use Rattle.std.specs.BTreeMap.{BTreeMap}
use Rattle.std.proofs.lemmas.Bool.{eq-eqb, eqb-true}
use Rattle.std.proofs.lemmas.List.Elements.{filter-append}
use Rattle.std.proofs.lemmas.Map.Entries.{option_filter}
use Rattle.pt_value.specs.declared.value.Value.{Value}
use Rattle.pt_ast.specs.declared.database.Row.{Row}
use Rattle.pt_ast.specs.declared.database.Spot.{Spot}
use Rattle.pt_ast.specs.declared.table.TableDef.{TableDef}
use Rattle.pt_ast.specs.Keys.{unique_keys}
use Rattle.pt_place.specs.Place.{place_of}
use Rattle.pt_place.specs.Valid.{IsValid}
use Rattle.pt_db.specs.Rows.{AreRising, is_at, is_numbered, is_spot, others, row_at, spot_rows, with_cells}
use Rattle.pt_db.proofs.Serials.{cells_other, cells_rise, cells_same, others_rise, row_appended, row_gone, row_left}
use Rattle.pt_db.proofs.Spots.{spot_itself, spot_row_at, spot_same, stands_in, stands_there}
use Rattle.pt_unique.specs.Book.{Book, entry_of}
use Rattle.pt_books.specs.Books.{AreBooks, IsBook, IsBookOf, IsEntered, book_at}
use Rattle.pt_books.proofs.Spots.{books_entered}

-- # Which spot

turned : (a b : Spot) → is_spot a b ≡ false → is_spot b a ≡ false
turned a b apart = by (is_spot b a) refl
  where
    by : (t : Bool) → is_spot b a ≡ t → t ≡ false
    by true e = absurd (true≢false (sym (spot_itself a) ∙ ap (λ s. is_spot a s) (sym (spot_same b a e)) ∙ apart))
    by false e = refl

-- at the one and at the others
by_spot : (P : Spot → Type 0) (spot : Spot) → P spot → ((query : Spot) → is_spot spot query ≡ false → P query) → (query : Spot) → P query
by_spot P spot here others query = by (is_spot spot query) refl
  where
    by : (t : Bool) → is_spot spot query ≡ t → P query
    by true e = subst P (spot_same spot query e) here
    by false e = others query e

module _ (def : TableDef) (before : List Row) where
  -- # The same rows by serial

  alike_book : (a b : List Row) (spot : Spot) (o : Option Book) → IsSome o → ((serial : ℕ) → row_at (spot_rows def spot b) serial ≡ row_at (spot_rows def spot a) serial)
      → IsBook def before a spot o → IsBook def before b spot o
  alike_book a b spot None some same had = absurd (true≢false (sym some))
  alike_book a b spot (Some book) some same had = record { keys = had.keys; entries = λ serial. had.entries serial ∙ sym (ap (option_map (entry_of (unique_keys def))) (same serial)) }

  same_book : (a b : List Row) (spot : Spot) (o : Option Book) → spot_rows def spot b ≡ spot_rows def spot a → IsBook def before a spot o → IsBook def before b spot o
  same_book a b spot None same had = same ∙ had
  same_book a b spot (Some book) same had = subst (λ (rows : List Row). IsBookOf def rows book) (sym same) had

  module _ (now : List Row) (up : AreRising now) (serial : ℕ) (old : List Value) (there : row_at now serial ≡ Some old) (cells : List Value) (to : Spot) (placed : place_of def cells ≡ Some to) where
    abbrev row : Row
    row = record { serial = serial; cells = cells }

    -- the row at the end, in the place of its cells of before
    abbrev moved : List Row
    moved = others serial now ++ row ∷ []

    not_there : (query : Spot) → is_spot to query ≡ false → (k : ℕ) → is_at def query (record { serial = k; cells = cells }) ≡ false
    not_there query apart k = ap (λ o. option_map_or (is_spot query) o false) placed ∙ turned to query apart

    -- in another spot the same rows stand
    elsewhere : (query : Spot) → is_spot to query ≡ false → spot_rows def query (with_cells serial cells now) ≡ spot_rows def query moved
    elsewhere query apart =
        without now
        ∙ sym (filter-append (is_at def query) (others serial now) (row ∷ [])
        ∙ ap (λ t. spot_rows def query (others serial now) ++ cond t (row ∷ []) []) (not_there query apart serial)
        ∙ append-nil (spot_rows def query (others serial now)))
      where
        without : (rows : List Row) → spot_rows def query (with_cells serial cells rows) ≡ spot_rows def query (others serial rows)
        without [] = refl
        without (r ∷ rows) = by (is_numbered serial r) (without rows)
          where
            by : (t : Bool) → spot_rows def query (with_cells serial cells rows) ≡ spot_rows def query (others serial rows)
                → spot_rows def query (cond t (record r { cells = cells }) r ∷ with_cells serial cells rows) ≡ spot_rows def query (cond (not t) (r ∷ others serial rows) (others serial rows))
            by true rest = ap (λ b. cond b (record r { cells = cells } ∷ spot_rows def query (with_cells serial cells rows)) (spot_rows def query (with_cells serial cells rows))) (not_there query apart r.serial) ∙ rest
            by false rest = ap (λ (l : List Row). cond (is_at def query r) (r ∷ l) l) rest

    -- in its spot stand those that stood there but the row, and the row
    here : (k : ℕ) → row_at (spot_rows def to (with_cells serial cells now)) k ≡ row_at (spot_rows def to moved) k
    here k =
        spot_row_at def to (with_cells serial cells now) k (cells_rise serial cells now up)
        ∙ by (serial == k) refl
        ∙ sym (ap (λ rows. row_at rows k) (filter-append (is_at def to) (others serial now) (row ∷ []) ∙ ap (λ t. spot_rows def to (others serial now) ++ cond t (row ∷ []) []) (stands_there def to cells placed))
        ∙ row_appended (spot_rows def to (others serial now)) (row ∷ []) k
        ∙ ap (λ o. option_or o (cond (serial == k) (Some cells) None)) (spot_row_at def to (others serial now) k (others_rise serial now up)))
      where
        none_or : (o : Option (List Value)) → option_or o None ≡ o
        none_or None = refl
        none_or (Some x) = refl

        by : (t : Bool) → (serial == k) ≡ t
            → option_filter (stands_in def to) (row_at (with_cells serial cells now) k) ≡ option_or (option_filter (stands_in def to) (row_at (others serial now) k)) (cond t (Some cells) None)
        by true e =
            subst (λ n. option_filter (stands_in def to) (row_at (with_cells serial cells now) n) ≡ option_or (option_filter (stands_in def to) (row_at (others serial now) n)) (Some cells)) (eqb-true serial k e)
            (ap (option_filter (stands_in def to)) (cells_same serial cells now old there)
            ∙ ap (λ t. cond t (Some cells) None) (stands_there def to cells placed)
            ∙ sym (ap (λ o. option_or (option_filter (stands_in def to) o) (Some cells)) (row_gone serial now)))
        by false e =
            let apart : serial ≢ k = λ same. true≢false (sym (eq-eqb serial k same) ∙ e) in
            ap (option_filter (stands_in def to)) (cells_other serial cells now k apart ∙ sym (row_left serial k now apart))
            ∙ sym (none_or (option_filter (stands_in def to) (row_at (others serial now) k)))

    entered_some : (a b : BTreeMap (ℕ × ℕ) Book) → IsEntered a b to row → IsSome (book_at b to)
    entered_some a b e = subst (λ o. IsSome o) (sym e.is) refl

    -- Where the row was taken out of the books, and is entered, they are those of the rows with its new cells.
    pub books_moved : (valid : IsValid def) (mid new : BTreeMap (ℕ × ℕ) Book) → AreBooks def before (others serial now) mid → IsEntered mid new to row → AreBooks def before (with_cells serial cells now) new
    books_moved valid mid new books e =
        let had = books_entered def valid before (others serial now) (others_rise serial now up) mid new books to row placed (row_gone serial now) e in
        by_spot (λ query. IsBook def before (with_cells serial cells now) query (book_at new query)) to
        (alike_book moved (with_cells serial cells now) to (book_at new to) (entered_some mid new e) here (had to))
        (λ query apart. same_book moved (with_cells serial cells now) query (book_at new query) (elsewhere query apart) (had query))
