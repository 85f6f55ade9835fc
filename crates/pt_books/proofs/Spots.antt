-- The books of all spots, as one is read or a row is entered.
use Rattle.std.proofs.Common.{◌≡◌, ℕ, ◌&&◌, ◌||◌, ◌==◌, Bool, true, false, cond, not, List, [], ◌∷◌, ◌++◌, map, Option, Some, None, refl, sym, ap, ap₂, ◌∙◌, subst, true≢false, append-nil}
use Rattle.std.specs.List.{filter, list_any}
use Rattle.std.specs.Option.{IsSome, is_some, option_map, option_map_or}
use Rattle.std.specs.Cmp.{tied_then}
use Rattle.std.specs.Map.{lookup}
use Rattle.std.specs.Ordering.{is_eq, nat_cmp}
use Rattle.std.specs.BTreeMap as tree
use Rattle.std.specs.BTreeMap.{BTreeMap, IsEmpty, get}
use Rattle.std.proofs.lemmas.Bool.{eq-eqb, eqb-true}
use Rattle.std.proofs.lemmas.List.Elements.{filter-append}
use Rattle.std.proofs.lemmas.List.Folds.{list_any_none}
use Rattle.std.proofs.lemmas.List.Kept.{AllPairs-filter}
use Rattle.std.proofs.lemmas.Map.Entries.{option_filter}
use Rattle.pt_value.specs.declared.value.Value.{Value}
use Rattle.pt_ast.specs.declared.database.Row.{Row}
use Rattle.pt_ast.specs.declared.database.Spot.{Spot}
use Rattle.pt_ast.specs.declared.table.KeyDef.{KeyDef}
use Rattle.pt_ast.specs.declared.table.TableDef.{TableDef}
use Rattle.pt_ast.specs.Keys.{AreUnique, agree, agrees, is_taken, is_unique, unique_keys}
use Rattle.pt_place.specs.Place.{place_of}
use Rattle.pt_place.specs.Valid.{IsValid}
use Rattle.pt_db.specs.Rows.{AreRising, is_at, is_spot, others, row_at, spot_rows}
use Rattle.pt_db.proofs.Serials.{by_serials, filtered_rise, others_rise, row_gone, row_left, same_rows}
use Rattle.pt_db.proofs.Spots.{from_spot, spot_itself, spot_row_at, spot_same, stands_in, stands_there, taken_there}
use Rattle.pt_unique.specs.Book.{Book, entered, entry_at, entry_of, without}
use Rattle.pt_books.specs.Books.{AreBooks, AreOthersSame, IsAgreeing, IsBook, IsBookOf, IsEntered, IsRemoved, book_at, is_keyed, spot_cmp}
use Rattle.pt_books.proofs.OneBook.{agrees_found, book_entered, free_of_rows, taken_by_row}

-- # No unique key

no_key : (keys : List KeyDef) (a b : List Value) → list_any (λ (key : KeyDef). is_unique key.rank) keys ≡ false
    → list_any (agree a b) (map (λ (key : KeyDef). key.columns) (filter (λ (key : KeyDef). is_unique key.rank) keys)) ≡ false
no_key [] a b none = refl
no_key (key ∷ keys) a b none = by (is_unique key.rank) none (no_key keys a b)
  where
    by : (t : Bool) → (t || list_any (λ (k : KeyDef). is_unique k.rank) keys) ≡ false
        → (list_any (λ (k : KeyDef). is_unique k.rank) keys ≡ false → list_any (agree a b) (map (λ (k : KeyDef). k.columns) (filter (λ (k : KeyDef). is_unique k.rank) keys)) ≡ false)
        → list_any (agree a b) (map (λ (k : KeyDef). k.columns) (cond t (key ∷ filter (λ (k : KeyDef). is_unique k.rank) keys) (filter (λ (k : KeyDef). is_unique k.rank) keys))) ≡ false
    by true e rest = absurd (true≢false e)
    by false e rest = rest e

pub keyless_free : (def : TableDef) (cells : List Value) (rows : List Row) → is_keyed def ≡ false → is_taken def cells rows ≡ false
keyless_free def cells rows none = list_any_none (λ (row : Row). agrees def cells row.cells) rows (λ k d below. no_key def.keys cells _ none)

-- # Which spot

turned : (a b : Spot) → is_spot a b ≡ false → is_spot b a ≡ false
turned a b apart = by (is_spot b a) refl
  where
    by : (t : Bool) → is_spot b a ≡ t → t ≡ false
    by true e = absurd (true≢false (sym (spot_itself a) ∙ ap (λ s. is_spot a s) (sym (spot_same b a e)) ∙ apart))
    by false e = refl

-- at the one and at the others
by_spot : (P : Spot → Type 0) (spot : Spot) → P spot → ((query : Spot) → is_spot spot query ≡ false → P query) → (query : Spot) → P query
by_spot P spot here others query = by (is_spot spot query) refl
  where
    by : (t : Bool) → is_spot spot query ≡ t → P query
    by true e = subst P (spot_same spot query e) here
    by false e = others query e

-- the key of a spot is that of no other
same_place : (spot query : Spot) → is_eq (spot_cmp (spot.part, spot.sub) (query.part, query.sub)) ≡ is_spot spot query
same_place spot query =
    sym (tied_then (nat_cmp spot.part query.part) (nat_cmp spot.sub query.sub))
    ∙ ap₂ (λ (a b : Bool). a && b) (by_serials.ties spot.part query.part) (by_serials.ties spot.sub query.sub)

pub others_same : (old new : BTreeMap (ℕ × ℕ) Book) (spot : Spot) (o : Option Book)
    → ((q : ℕ × ℕ) → get spot_cmp new q ≡ cond (is_eq (spot_cmp (spot.part, spot.sub) q)) o (get spot_cmp old q)) → AreOthersSame old new spot
others_same old new spot o updates query apart =
    updates (query.part, query.sub) ∙ ap (λ t. cond t o (book_at old query)) (same_place spot query ∙ apart)

-- a book that was written back as it was
pub all_same : (old new : BTreeMap (ℕ × ℕ) Book) (spot : Spot) (book later : Book) → book_at old spot ≡ Some book → book_at new spot ≡ Some later → later ≡ book → AreOthersSame old new spot
    → (query : Spot) → book_at new query ≡ book_at old query
all_same old new spot book later was is same others = by_spot (λ query. book_at new query ≡ book_at old query) spot (is ∙ ap (λ b. Some b) same ∙ sym was) others

module _ (def : TableDef) where
  -- # A spot is read

  -- it depends on the rows of the spot alone
  same_book : (before now later : List Row) (spot : Spot) (o : Option Book) → spot_rows def spot later ≡ spot_rows def spot now → IsBook def before now spot o → IsBook def before later spot o
  same_book before now later spot None same had = same ∙ had
  same_book before now later spot (Some book) same had = subst (λ (rows : List Row). IsBookOf def rows book) (sym same) had

  pub books_none : (before : List Row) (books : BTreeMap (ℕ × ℕ) Book) → IsEmpty books → AreBooks def before (before ++ []) books
  books_none before books empty spot =
      subst (IsBook def before (before ++ []) spot) (sym (ap (λ es. lookup (tree.is_at (spot_cmp (spot.part, spot.sub))) es) empty)) (ap (spot_rows def spot) (append-nil before))

  -- no book changes
  pub books_kept : (before now : List Row) (old new : BTreeMap (ℕ × ℕ) Book) → AreBooks def before now old → ((query : Spot) → book_at new query ≡ book_at old query) → AreBooks def before now new
  books_kept before now old new had same query = subst (IsBook def before now query) (sym (same query)) (had query)

  pub books_read : (before now : List Row) (old new : BTreeMap (ℕ × ℕ) Book) (spot : Spot) (rows : List Row) (book : Book) → AreBooks def before now old → book_at old spot ≡ None → book_at new spot ≡ Some book
      → AreOthersSame old new spot → rows ≡ spot_rows def spot before → AreUnique def now → AreRising now → (AreUnique def rows → AreRising rows → IsBookOf def rows book) → AreBooks def before now new
  books_read before now old new spot rows book had none here others are unique up of =
      by_spot (λ query. IsBook def before now query (book_at new query)) spot
      (subst (IsBook def before now spot) (sym here) (subst (λ (rs : List Row). IsBookOf def rs book) is (of
      (subst (AreUnique def) (sym is) (AllPairs-filter (λ (a b : Row). agrees def b.cells a.cells ≡ false) (is_at def spot) now unique))
      (subst AreRising (sym is) (filtered_rise (is_at def spot) now up)))))
      (λ query apart. subst (IsBook def before now query) (sym (others query apart)) (had query))
    where
      same : spot_rows def spot now ≡ spot_rows def spot before
      same = subst (IsBook def before now spot) none (had spot)

      is : rows ≡ spot_rows def spot now
      is = are ∙ sym same

  -- # A row is entered

  module _ (valid : IsValid def) (before now : List Row) (up : AreRising now) (old new : BTreeMap (ℕ × ℕ) Book) (books : AreBooks def before now old) (spot : Spot) (row : Row)
      (placed : place_of def row.cells ≡ Some spot) where
    of_spot : (book : Book) → book_at old spot ≡ Some book → IsBookOf def (spot_rows def spot now) book
    of_spot book was = subst (IsBook def before now spot) was (books spot)

    spot_up : AreRising (spot_rows def spot now)
    spot_up = filtered_rise (is_at def spot) now up

    pub entered_free : IsEntered old new spot row → is_taken def row.cells now ≡ false
    entered_free e = sym (taken_there def valid row.cells spot placed now) ∙ free_of_rows def (spot_rows def spot now) e.book (of_spot e.book e.was) row.cells spot_up e.free

    pub agreeing_taken : (serial : ℕ) → IsAgreeing old new spot row serial → is_taken def row.cells now ≡ true
    agreeing_taken serial a = sym (taken_there def valid row.cells spot placed now) ∙ taken_by_row def (spot_rows def spot now) a.book (of_spot a.book a.was) row.cells serial a.taken.agrees

    -- the row that agrees stands in the spot
    pub agreeing_row : (serial : ℕ) → IsAgreeing old new spot row serial → (cells : List Value) × (row_at now serial ≡ Some cells) × (place_of def cells ≡ Some spot) × (agrees def row.cells cells ≡ true)
    agreeing_row serial a =
        by (row_at (spot_rows def spot now) serial) refl (sym (agrees_found def (spot_rows def spot now) a.book (of_spot a.book a.was) row.cells serial) ∙ a.taken.agrees)
      where
        by : (o : Option (List Value)) → row_at (spot_rows def spot now) serial ≡ o → option_map_or (agrees def row.cells) o false ≡ true
            → (cells : List Value) × (row_at now serial ≡ Some cells) × (place_of def cells ≡ Some spot) × (agrees def row.cells cells ≡ true)
        by None at e = absurd (true≢false (sym e))
        by (Some cells) at e =
            let there = from_spot def spot now serial cells up at in
            (cells, there.0, there.1, e)

    -- the rows of its spot, and those of the others
    row_there : spot_rows def spot (now ++ row ∷ []) ≡ spot_rows def spot now ++ row ∷ []
    row_there =
        filter-append (is_at def spot) now (row ∷ [])
        ∙ ap (λ t. spot_rows def spot now ++ cond t (row ∷ []) []) (stands_there def spot row.cells placed)

    row_elsewhere : (query : Spot) → is_spot spot query ≡ false → spot_rows def query (now ++ row ∷ []) ≡ spot_rows def query now
    row_elsewhere query apart =
        filter-append (is_at def query) now (row ∷ [])
        ∙ ap (λ t. spot_rows def query now ++ cond t (row ∷ []) []) (ap (λ o. option_map_or (is_spot query) o false) placed ∙ turned spot query apart)
        ∙ append-nil (spot_rows def query now)

    pub books_entered : row_at now row.serial ≡ None → IsEntered old new spot row → AreBooks def before (now ++ row ∷ []) new
    books_entered fresh e =
        by_spot (λ query. IsBook def before (now ++ row ∷ []) query (book_at new query)) spot
        (subst (IsBook def before (now ++ row ∷ []) spot) (sym e.is)
        (subst (λ (rows : List Row). IsBookOf def rows (entered e.book row)) (sym row_there)
        (book_entered def (spot_rows def spot now) e.book (of_spot e.book e.was) row
        (spot_row_at def spot now row.serial up ∙ ap (option_filter (stands_in def spot)) fresh))))
        (λ query apart. subst (IsBook def before (now ++ row ∷ []) query) (sym (e.others query apart))
        (same_book before now (now ++ row ∷ []) query (book_at old query) (row_elsewhere query apart) (books query)))

  -- # A row goes

  module _ (before now : List Row) (up : AreRising now) (serial : ℕ) (cells : List Value) (spot : Spot) (there : row_at now serial ≡ Some cells) (placed : place_of def cells ≡ Some spot) where
    left_at : (query : Spot) (other : ℕ) → row_at (spot_rows def query (others serial now)) other ≡ cond (serial == other) None (row_at (spot_rows def query now) other)
    left_at query other = spot_row_at def query (others serial now) other (others_rise serial now up) ∙ by (serial == other) refl
      where
        by : (t : Bool) → (serial == other) ≡ t → option_filter (stands_in def query) (row_at (others serial now) other) ≡ cond t None (row_at (spot_rows def query now) other)
        by true e = ap (option_filter (stands_in def query)) (subst (λ n. row_at (others serial now) n ≡ None) (eqb-true serial other e) (row_gone serial now))
        by false e =
            ap (option_filter (stands_in def query)) (row_left serial other now (λ same. true≢false (sym (eq-eqb serial other same) ∙ e)))
            ∙ sym (spot_row_at def query now other up)

    -- the rows of the other spots
    left_elsewhere : (query : Spot) → is_spot spot query ≡ false → spot_rows def query (others serial now) ≡ spot_rows def query now
    left_elsewhere query apart =
        same_rows (spot_rows def query (others serial now)) (spot_rows def query now) (filtered_rise (is_at def query) (others serial now) (others_rise serial now up)) (filtered_rise (is_at def query) now up)
        (λ other. left_at query other ∙ by other (serial == other) refl)
      where
        gone : row_at (spot_rows def query now) serial ≡ None
        gone =
            spot_row_at def query now serial up
            ∙ ap (option_filter (stands_in def query)) there
            ∙ ap (λ t. cond t (Some cells) None) (ap (λ o. option_map_or (is_spot query) o false) placed ∙ turned spot query apart)

        by : (other : ℕ) (t : Bool) → (serial == other) ≡ t → cond t None (row_at (spot_rows def query now) other) ≡ row_at (spot_rows def query now) other
        by other true e = sym (subst (λ n. row_at (spot_rows def query now) n ≡ None) (eqb-true serial other e) gone)
        by other false e = refl

    pub books_removed : (old new : BTreeMap (ℕ × ℕ) Book) → AreBooks def before now old → IsRemoved old new spot serial → AreBooks def before (others serial now) new
    books_removed old new books r =
        by_spot (λ query. IsBook def before (others serial now) query (book_at new query)) spot
        (subst (IsBook def before (others serial now) spot) (sym r.is) (record { keys = of.keys; entries = each }))
        (λ query apart. subst (IsBook def before (others serial now) query) (sym (r.others query apart))
        (same_book before now (others serial now) query (book_at old query) (left_elsewhere query apart) (books query)))
      where
        of : IsBookOf def (spot_rows def spot now) r.book
        of = subst (IsBook def before now spot) r.was (books spot)

        past : (t : Bool) (o : Option (List Value)) → cond t None (option_map (entry_of (unique_keys def)) o) ≡ option_map (entry_of (unique_keys def)) (cond t None o)
        past true o = refl
        past false o = refl

        each : (other : ℕ) → entry_at (without r.book serial) other ≡ option_map (entry_of (unique_keys def)) (row_at (spot_rows def spot (others serial now)) other)
        each other =
            r.entries other
            ∙ ap (λ t. cond t None (entry_at r.book other)) (by_serials.ties serial other)
            ∙ ap (λ o. cond (serial == other) None o) (of.entries other)
            ∙ past (serial == other) (row_at (spot_rows def spot now) other)
            ∙ sym (ap (option_map (entry_of (unique_keys def))) (left_at spot other))

-- # Whether a spot wants a book

pub wanting_none : (keyed : Bool) (o : Option Book) → (keyed && not (is_some o)) ≡ true → o ≡ None
wanting_none true None e = refl
wanting_none true (Some book) e = absurd (true≢false (sym e))
wanting_none false o e = absurd (true≢false (sym e))

pub unwanting_some : (keyed : Bool) (o : Option Book) → (keyed && not (is_some o)) ≡ false → keyed ≡ true → IsSome o
unwanting_some true None e is = absurd (true≢false e)
unwanting_some true (Some book) e is = refl
unwanting_some false o e is = absurd (true≢false (sym is))
