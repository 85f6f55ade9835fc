-- What a book says of the rows that it is of, and how it follows them.
use Rattle.std.proofs.Common.{◌≡◌, ◌≢◌, ℕ, ◌+◌, ◌<◌, ◌==◌, Bool, true, false, cond, List, [], ◌∷◌, ◌++◌, length, map, take, get_or, Option, Some, None, refl, sym, ap, ◌∙◌, subst, arith, Less, Equal, Greater, true≢false}
use Rattle.std.specs.declared.cmp.Ordering.{Ordering}
use Rattle.std.specs.List.{All}
use Rattle.std.specs.Option.{option_map, option_map_or, option_or}
use Rattle.std.specs.Ordering.{is_eq, match_ordering, nat_cmp}
use Rattle.std.specs.Map.{lookup}
use Rattle.std.specs.BTreeMap.{insert_entry, is_at}
use Rattle.std.proofs.lemmas.Bool.{eq-eqb, eqb-true, ne_eqb}
use Rattle.std.proofs.lemmas.List.{get_or_default, get_or-map, get_or-take, length-map, length-take, take_more}
use Rattle.std.proofs.lemmas.List.Folds.{list_any_none}
use Rattle.std.proofs.lemmas.Map.Keys.{below_from_sorted}
use Rattle.pt_value.specs.declared.value.Value.{Value}
use Rattle.pt_ast.specs.declared.database.Row.{Row}
use Rattle.pt_ast.specs.declared.table.TableDef.{TableDef}
use Rattle.pt_ast.specs.Keys.{AreUnique, agrees, is_taken, unique_keys}
use Rattle.pt_db.specs.Rows.{AreRising, row_at}
use Rattle.pt_db.proofs.RowSounds.{IsFreeOf, free_rows}
use Rattle.pt_db.proofs.Serials.{by_serials, row_absent, row_appended, row_holds, rows_hold, serial_of}
use Rattle.pt_unique.specs.Book.{Book, IsFree, agrees_at, entered, entry_at, entry_of, shares}
use Rattle.pt_unique.proofs.Agreement.{agreeing}
use Rattle.pt_books.specs.Books.{IsBookOf}

-- # An entry more

turned : (a b : ℕ) → (a == b) ≡ (b == a)
turned a b = by (a == b) refl
  where
    by : (t : Bool) → (a == b) ≡ t → t ≡ (b == a)
    by true e = sym (eq-eqb b a (sym (eqb-true a b e)))
    by false e = sym (ne_eqb b a (λ same. true≢false (sym (eq-eqb a b (sym same)) ∙ e)))

tied : (a b : ℕ) → is_eq (nat_cmp a b) ≡ (b == a)
tied a b = by_serials.ties a b ∙ turned a b

found_entered : {X : Type 0} (es : List (ℕ × X)) (k q : ℕ) (v : X) → lookup (is_at (nat_cmp q)) (insert_entry nat_cmp es k v) ≡ cond (k == q) (Some v) (lookup (is_at (nat_cmp q)) es)
found_entered [] k q v = ap (λ t. cond t (Some v) None) (tied q k)
found_entered {X} (e ∷ es) k q v = by (nat_cmp k e.0) refl (found_entered es k q v)
  where
    same : (t : Bool) (rest : Option X) → cond t (Some v) rest ≡ cond t (Some v) (cond t (Some e.1) rest)
    same true rest = refl
    same false rest = refl

    other : (t s : Bool) (rest : Option X) → (t ≡ true → s ≡ true → ⊥) → cond s (Some e.1) (cond t (Some v) rest) ≡ cond t (Some v) (cond s (Some e.1) rest)
    other true true rest apart = absurd (apart refl refl)
    other true false rest apart = refl
    other false s rest apart = refl

    by : (o : Ordering) → nat_cmp k e.0 ≡ o → lookup (is_at (nat_cmp q)) (insert_entry nat_cmp es k v) ≡ cond (k == q) (Some v) (lookup (is_at (nat_cmp q)) es)
        → lookup (is_at (nat_cmp q)) (match_ordering o ((k, v) ∷ e ∷ es) ((e.0, v) ∷ es) (e ∷ insert_entry nat_cmp es k v)) ≡ cond (k == q) (Some v) (lookup (is_at (nat_cmp q)) (e ∷ es))
    by Less is rest = ap (λ t. cond t (Some v) (lookup (is_at (nat_cmp q)) (e ∷ es))) (tied q k)
    by Equal is rest =
        let one : k ≡ e.0 = eqb-true k e.0 (sym (by_serials.ties k e.0) ∙ ap is_eq is) in
        let here : is_at (nat_cmp q) e.0 ≡ (k == q) = tied q e.0 ∙ ap (λ n. n == q) (sym one) in
        ap (λ t. cond t (Some v) (lookup (is_at (nat_cmp q)) es)) here
        ∙ same (k == q) (lookup (is_at (nat_cmp q)) es)
        ∙ sym (ap (λ t. cond (k == q) (Some v) (cond t (Some e.1) (lookup (is_at (nat_cmp q)) es))) here)
    by Greater is rest =
        ap (λ (o : Option X). cond (is_at (nat_cmp q) e.0) (Some e.1) o) rest
        ∙ other (k == q) (is_at (nat_cmp q) e.0) (lookup (is_at (nat_cmp q)) es) (λ t s.
        let one : k ≡ e.0 = eqb-true k q t ∙ sym (eqb-true e.0 q (sym (tied q e.0) ∙ s)) in
        let both : true ≡ false = sym (by_serials.ties k e.0 ∙ eq-eqb k e.0 one) ∙ ap is_eq is in
        true≢false both)

-- # What it says

module _ (def : TableDef) (rows : List Row) (book : Book) (is : IsBookOf def rows book) where
  -- whether it agrees with the row of a serial
  pub agrees_found : (cells : List Value) (serial : ℕ) → agrees_at book (entry_of book.keys cells) serial ≡ option_map_or (agrees def cells) (row_at rows serial) false
  agrees_found cells serial =
      ap (λ keys. option_map_or (shares (entry_of keys cells)) (entry_at book serial) false) is.keys
      ∙ ap (λ o. option_map_or (shares (entry_of (unique_keys def) cells)) o false) (is.entries serial)
      ∙ by (row_at rows serial)
    where
      by : (o : Option (List Value)) → option_map_or (shares (entry_of (unique_keys def) cells)) (option_map (entry_of (unique_keys def)) o) false ≡ option_map_or (agrees def cells) o false
      by None = refl
      by (Some other) = agreeing (unique_keys def) cells other

  pub free_of_rows : (cells : List Value) → AreRising rows → IsFree book (entry_of book.keys cells) → is_taken def cells rows ≡ false
  free_of_rows cells up free =
      list_any_none (λ (row : Row). agrees def cells row.cells) rows
      (rows_hold (IsFreeOf def cells) rows up (λ serial other at. sym (ap (λ o. option_map_or (agrees def cells) o false) at) ∙ sym (agrees_found cells serial) ∙ free serial))

  -- where no row agrees, none does at any serial
  pub rows_free : (cells : List Value) → All (IsFreeOf def cells) rows → IsFree book (entry_of book.keys cells)
  rows_free cells all serial = agrees_found cells serial ∙ by (row_at rows serial) refl
    where
      by : (o : Option (List Value)) → row_at rows serial ≡ o → option_map_or (agrees def cells) o false ≡ false
      by None at = refl
      by (Some other) at = row_holds (IsFreeOf def cells) rows serial other all at

  pub taken_by_row : (cells : List Value) (serial : ℕ) → agrees_at book (entry_of book.keys cells) serial ≡ true → is_taken def cells rows ≡ true
  taken_by_row cells serial agrees_is = by (is_taken def cells rows) refl
    where
      by : (t : Bool) → is_taken def cells rows ≡ t → is_taken def cells rows ≡ true
      by true e = e
      by false e = absurd (true≢false (sym agrees_is ∙ rows_free cells (free_rows def cells rows e) serial))

  -- # A row more

  pub book_entered : (row : Row) → row_at rows row.serial ≡ None → IsBookOf def (rows ++ row ∷ []) (entered book row)
  book_entered row fresh = record {
    keys = is.keys;
    entries = λ serial.
        found_entered book.entries row.serial serial (entry_of book.keys row.cells)
        ∙ ap (λ keys. cond (row.serial == serial) (Some (entry_of keys row.cells)) (entry_at book serial)) is.keys
        ∙ ap (λ o. cond (row.serial == serial) (Some (entry_of (unique_keys def) row.cells)) o) (is.entries serial)
        ∙ by serial (row.serial == serial) refl (row_at rows serial) refl
        ∙ sym (ap (option_map (entry_of (unique_keys def))) (row_appended rows (row ∷ []) serial));
  }
    where
      by : (serial : ℕ) (t : Bool) → (row.serial == serial) ≡ t → (o : Option (List Value)) → row_at rows serial ≡ o
          → cond t (Some (entry_of (unique_keys def) row.cells)) (option_map (entry_of (unique_keys def)) o) ≡ option_map (entry_of (unique_keys def)) (option_or o (cond t (Some row.cells) None))
      by serial true e None at = refl
      by serial true e (Some other) at = let bad : None ≡ Some other = sym fresh ∙ ap (row_at rows) (eqb-true row.serial serial e) ∙ at in cc
      by serial false e None at = refl
      by serial false e (Some other) at = refl

-- # The rows that were read, one after the other

pub book_none : (def : TableDef) (book : Book) → book.keys ≡ unique_keys def → book.entries ≡ [] → IsBookOf def [] book
book_none def book keys none = record { keys = keys; entries = λ serial. ap (lookup (is_at (nat_cmp serial))) none }

module _ (def : TableDef) (rows : List Row) (i : ℕ) (row : Row) (below : i < length rows) (own : row ≡ get_or rows i row) where
  within : (k : ℕ) → k < length (take i rows) → k < i
  within k less = omega (arith, less, length-take i rows)

  at_own : (d : Row) → get_or rows i d ≡ row
  at_own d = sym (own ∙ get_or_default rows i row d below)

  earlier_free : AreUnique def rows → All (IsFreeOf def row.cells) (take i rows)
  earlier_free unique k d less =
      subst (λ (other : Row). agrees def row.cells other.cells ≡ false) (sym (get_or-take i rows k d (within k less)))
      (subst (λ (this : Row). agrees def this.cells (get_or rows k d).cells ≡ false) (at_own d) (unique k i d (within k less) below))

  earlier_apart : AreRising rows → All (λ (other : Row). other.serial ≢ row.serial) (take i rows)
  earlier_apart up k d less =
      let before = within k less in
      let serials = map serial_of rows in
      let lower : get_or serials k d.serial < get_or serials i d.serial = below_from_sorted serials k i d.serial up before (omega (arith, below, length-map rows serial_of)) in
      let here : get_or serials k d.serial ≡ (get_or (take i rows) k d).serial = get_or-map serial_of rows k d d.serial (omega (arith, before, below)) ∙ ap serial_of (sym (get_or-take i rows k d before)) in
      let there : get_or serials i d.serial ≡ row.serial = get_or-map serial_of rows i d d.serial below ∙ ap serial_of (at_own d) in
      λ same. omega (arith, lower, here, there, same)

  pub book_more : (book later : Book) → AreUnique def rows → AreRising rows → IsBookOf def (take i rows) book → (IsFree book (entry_of book.keys row.cells) → later ≡ entered book row)
      → IsBookOf def (take (i + 1) rows) later
  book_more book later unique up is enters =
      let free = rows_free def (take i rows) book is row.cells (earlier_free unique) in
      let more = book_entered def (take i rows) book is row (row_absent (take i rows) row.serial (earlier_apart up)) in
      subst (λ (rs : List Row). IsBookOf def rs later) (sym (take_more rows i row below ∙ ap (λ (r : Row). take i rows ++ r ∷ []) (sym own)))
      (subst (IsBookOf def (take i rows ++ row ∷ [])) (sym (enters free)) more)
