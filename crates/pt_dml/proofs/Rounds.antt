-- A row is entered in the book of its spot. REPLACE takes those that agree with it away first, one after the other.
use Rattle.std.proofs.Common.{◌≡◌, ◌≢◌, ℕ, ◌+◌, ◌-◌, ◌<◌, ◌≤◌, ◌==◌, Bool, true, false, cond, not, List, [], ◌∷◌, length, Option, Some, None, Result, Ok, Err, refl, sym, ap, ◌∙◌, subst, arith, true≢false}
use Rattle.std.specs.List.{All, filter}
use Rattle.std.specs.declared.alloc.AllocError.{AllocError}
use Rattle.std.specs.BTreeMap.{BTreeMap, is_at}
use Rattle.std.specs.Map.{lookup, remove_entry}
use Rattle.std.specs.Option.{IsSome, option_map_or}
use Rattle.std.specs.Ordering.{nat_cmp}
use Rattle.std.proofs.lemmas.Bool.{eqb-true}
use Rattle.std.proofs.lemmas.List.Elements.{All-weaker}
use Rattle.std.proofs.lemmas.Map.Entries.{option_filter}
use Rattle.pt_value.specs.declared.value.Value.{Value}
use Rattle.pt_ast.specs.declared.database.Row.{Row}
use Rattle.pt_ast.specs.declared.database.Spot.{Spot}
use Rattle.pt_ast.specs.declared.table.TableDef.{TableDef}
use Rattle.pt_ast.specs.Keys.{agrees, is_taken}
use Rattle.pt_place.specs.Place.{place_of}
use Rattle.pt_place.specs.Valid.{IsValid}
use Rattle.pt_db.specs.Rows.{AreRising, is_numbered, others, row_at}
use Rattle.pt_db.specs.Sound.{AreSoundRows, IsSoundRow}
use Rattle.pt_db.proofs.RowSounds.{IsFreeOf, free_rows, rows_kept}
use Rattle.pt_db.proofs.Serials.{filtered_rise, row_absent, row_filtered, rows_hold}
use Rattle.pt_flat.specs.declared.filling.Filling.{Filling}
use Rattle.pt_flat.specs.declared.filling.InsertMode.{InsertMode}
use Rattle.pt_flat.specs.declared.filling.InsertMode.TheVariants as mode
use Rattle.pt_flat.specs.Insert.{cleared}
use Rattle.pt_unique.specs.Book.{Book, entry_at, entry_of, shares}
use Rattle.pt_books.specs.Books.{AreBooks, IsAgreeing, IsEntered, IsRemoved, book_at, is_keyed}
use Rattle.pt_books.proofs.Spots.{agreeing_row, agreeing_taken, books_entered, books_kept, books_removed, entered_free, keyless_free}
use Rattle.pt_dml.specs.declared.work.Work.{Work}
use Rattle.pt_dml.specs.Work.{Enters, GivesWay, IsOver, IsPut, IsReady, IsSameWork, IsTried, IsWorkOn, added_of, deleted_of, filling_of, rows_now}
use Rattle.pt_dml.proofs.Lists.{filter_inner, filter_keeps, filter_none, filter_turned, others_one}
use Rattle.pt_dml.proofs.Now.{deleted_more, gone_more, now_less}

-- # Nothing agrees

module _ (def : TableDef) (cells : List Value) where
  abbrev pub agreeing : Row → Bool
  agreeing row = agrees def cells row.cells

  abbrev pub apart : Row → Bool
  apart row = not (agrees def cells row.cells)

  pub free_apart : (rows : List Row) → is_taken def cells rows ≡ false → filter apart rows ≡ rows
  free_apart rows free = filter_keeps apart rows (All-weaker (IsFreeOf def cells) (λ (row : Row). apart row ≡ true) (λ row is. ap (λ b. not b) is) rows (free_rows def cells rows free))

  pub free_none : (rows : List Row) → is_taken def cells rows ≡ false → filter agreeing rows ≡ []
  free_none rows free = filter_none agreeing rows (free_rows def cells rows free)

  -- nothing is taken away
  pub cleared_free : (how : InsertMode) (filling : Filling) → is_taken def cells filling.rows ≡ false → cleared how def cells filling ≡ filling
  cleared_free mode.Refuse filling free = refl
  cleared_free mode.Skip filling free = refl
  cleared_free mode.Replace filling free =
      ap (λ rows. let f : Filling = record filling { rows = rows; deleted = filling.deleted + length (filter agreeing filling.rows) } in f) (free_apart filling.rows free)
      ∙ ap (λ n. let f : Filling = record filling { deleted = n } in f)
      (let none : length (filter agreeing filling.rows) ≡ 0 = ap (λ (rows : List Row). length rows) (free_none filling.rows free) in
      let more : filling.deleted + length (filter agreeing filling.rows) ≡ filling.deleted = omega (arith, none) in
      more)

-- # One round

-- what holds as the rows that agree with these cells go
pub record IsRound (def : TableDef) (before : List Row) (cells : List Value) (start now : Work) : Type 0 where
  pub over : IsOver def before (rows_now before now) now
  pub left : filter (apart def cells) (rows_now before now) ≡ filter (apart def cells) (rows_now before start)
  pub counted : deleted_of now + length (filter (agreeing def cells) (rows_now before now)) ≡ deleted_of start + length (filter (agreeing def cells) (rows_now before start))

pub round_none : (def : TableDef) (before : List Row) (cells : List Value) (start : Work) → IsWorkOn def before start → IsRound def before cells start start
round_none def before cells start on = record { over = on.over; left = refl; counted = refl }

module _ (def : TableDef) (valid : IsValid def) (before : List Row) (start now : Work) (spot : Spot) (row : Row) (placed : place_of def row.cells ≡ Some spot) (keyed : is_keyed def ≡ true)
    (round : IsRound def before row.cells start now) (books : BTreeMap (ℕ × ℕ) Book) where
  abbrev rows : List Row
  rows = rows_now before now

  up : AreRising rows
  up = round.over.sound.rising

  had : AreBooks def before rows now.books
  had = round.over.books keyed

  module _ (later : Work) (serial : ℕ) (puts : All (IsPut now.first now.next def) now.puts) (counted : now.first + length now.puts ≤ now.next) (agrees_is : IsAgreeing now.books books spot row serial)
      (gives : GivesWay (record now { books = books }) later spot serial) where
    there : (cells : List Value) × (row_at rows serial ≡ Some cells) × (place_of def cells ≡ Some spot) × (agrees def row.cells cells ≡ true)
    there = agreeing_row def valid before rows up now.books books had spot row placed serial agrees_is

    less : rows_now before later ≡ others serial rows
    less = now_less def before round.over.rising (record now { books = books }) later round.over.below puts spot serial gives

    -- whatever has the serial agrees
    each : All (λ (other : Row). not (is_numbered serial other) ≡ false → apart def row.cells other ≡ false) rows
    each = rows_hold (λ (other : Row). not (is_numbered serial other) ≡ false → apart def row.cells other ≡ false) rows up (λ number cells at same. by number cells at (number == serial) refl same)
      where
        same_cells : (cells : List Value) → row_at rows serial ≡ Some cells → agrees def row.cells cells ≡ true
        same_cells cells at = let is : Some there.0 ≡ Some cells = sym there.1 ∙ at in let one : there.0 ≡ cells = cc in subst (λ cs. agrees def row.cells cs ≡ true) one there.3

        by : (number : ℕ) (cells : List Value) → row_at rows number ≡ Some cells → (t : Bool) → (number == serial) ≡ t → not t ≡ false → not (agrees def row.cells cells) ≡ false
        by number cells at true e same = ap (λ b. not b) (same_cells cells (subst (λ n. row_at rows n ≡ Some cells) (eqb-true number serial e) at))
        by number cells at false e same = absurd (true≢false same)

    one_less : length (filter (agreeing def row.cells) (rows_now before later)) + 1 ≡ length (filter (agreeing def row.cells) rows)
    one_less =
        ap (λ (rs : List Row). length (filter (agreeing def row.cells) rs) + 1) less
        ∙ ap (λ (rs : List Row). length rs + 1) (filter_turned (agreeing def row.cells) (λ (other : Row). not (is_numbered serial other)) rows)
        ∙ others_one serial (filter (agreeing def row.cells) rows) there.0 (filtered_rise (agreeing def row.cells) rows up)
        (row_filtered (agreeing def row.cells) rows serial up ∙ ap (option_filter (λ (cells : List Value). agrees def row.cells cells)) there.1 ∙ ap (λ t. cond t (Some there.0) None) there.3)

    pub round_more : IsRound def before row.cells start later
    round_more = record {
      over = record {
        books = λ k. subst (λ rs. AreBooks def before rs later.books) (sym less)
            (books_removed def before rows up serial there.0 spot there.1 there.2 books later.books (books_kept def before rows now.books books had agrees_is.same) gives.books);
        sound = subst (AreSoundRows later.next def) (sym less)
            (subst (λ n. AreSoundRows n def (others serial rows)) (sym gives.same.next) (rows_kept now.next def (λ (other : Row). not (is_numbered serial other)) rows round.over.sound));
        rising = round.over.rising;
        below = subst (λ n. All (λ (other : Row). other.serial < n) before) (sym gives.same.first) round.over.below;
        gone = gone_more def before round.over.rising (record now { books = books }) later round.over.below puts spot serial gives there.0 there.1 there.2 round.over.gone;
      };
      left =
          ap (filter (apart def row.cells)) less
          ∙ filter_inner (apart def row.cells) (λ (other : Row). not (is_numbered serial other)) rows each
          ∙ round.left;
      counted =
          let had = round.counted in
          let one = one_less in
          let more = deleted_more def before round.over.rising (record now { books = books }) later round.over.below puts spot serial gives there.0 there.1 up counted in
          omega (arith, had, one, more);
    }

  -- # It is entered

  module _ (entered : IsEntered now.books books spot row) where
    abbrev pub done : Work
    done = record now { books = books }

    free : is_taken def row.cells rows ≡ false
    free = entered_free def valid before rows up now.books books had spot row placed entered

    fresh : row.serial ≡ now.next → row_at rows row.serial ≡ None
    fresh own =
        row_absent rows row.serial
        (All-weaker (IsSoundRow now.next def) (λ (other : Row). other.serial ≢ row.serial) (λ other s same. (let below = s.below in omega (arith, below, same, own))) rows round.over.sound.each)

    pub round_ready : row.serial ≡ now.next → IsSameWork start now → IsReady mode.Replace def before start done row
    round_ready own same = record {
      cleared =
          ap (λ rs. let f : Filling = record { rows = rs; next = now.next; added = now.next - now.first; skipped = now.skipped; deleted = deleted_of now } in f) (sym (free_apart def row.cells rows free) ∙ round.left)
          ∙ ap (λ n. let f : Filling = record { rows = gone; next = n; added = n - now.first; skipped = now.skipped; deleted = deleted_of now } in f) same.next
          ∙ ap (λ n. let f : Filling = record { rows = gone; next = start.next; added = start.next - n; skipped = now.skipped; deleted = deleted_of now } in f) same.first
          ∙ ap (λ n. let f : Filling = record { rows = gone; next = start.next; added = added_of start; skipped = n; deleted = deleted_of now } in f) same.skipped
          ∙ ap (λ n. let f : Filling = record { rows = gone; next = start.next; added = added_of start; skipped = start.skipped; deleted = n } in f) counted;
      free = free;
      over = record {
        books = λ k. books_entered def valid before rows up now.books books had spot row placed (fresh own) entered;
        sound = round.over.sound;
        rising = round.over.rising;
        below = round.over.below;
        gone = round.over.gone;
      };
    }
      where
        gone : List Row
        gone = filter (apart def row.cells) (rows_now before start)

        counted : deleted_of now ≡ deleted_of start + length (filter (agreeing def row.cells) (rows_now before start))
        counted =
            let none : length (filter (agreeing def row.cells) rows) ≡ 0 = ap (λ (rs : List Row). length rs) (free_none def row.cells rows free) in
            let had = round.counted in
            omega (arith, none, had)

-- # Without rounds

-- the table has no unique key
pub keyless_ready : (how : InsertMode) (def : TableDef) (before : List Row) (work : Work) (row : Row) → is_keyed def ≡ false → IsWorkOn def before work → IsReady how def before work work row
keyless_ready how def before work row keyless on =
    let free = keyless_free def row.cells (rows_now before work) keyless in
    record {
      cleared = sym (cleared_free def row.cells how (filling_of before work) free);
      free = free;
      over = record {
        books = λ keyed. absurd (true≢false (sym keyed ∙ keyless));
        sound = on.over.sound;
        rising = on.over.rising;
        below = on.over.below;
        gone = on.over.gone;
      };
    }

module _ (def : TableDef) (valid : IsValid def) (before : List Row) (work : Work) (spot : Spot) (row : Row) (placed : place_of def row.cells ≡ Some spot) (keyed : is_keyed def ≡ true)
    (on : IsWorkOn def before work) (books : BTreeMap (ℕ × ℕ) Book) where
  -- no row agrees with it
  pub entered_ready : (how : InsertMode) → IsEntered work.books books spot row → row.serial ≡ work.next → IsReady how def before work (record work { books = books }) row
  entered_ready how entered own =
      let round = round_none def before row.cells work on in
      let free = entered_free def valid before (rows_now before work) on.over.sound.rising work.books books (on.over.books keyed) spot row placed entered in
      let ready = round_ready def valid before work work spot row placed keyed round books entered own (record { first = refl; next = refl; skipped = refl }) in
      record {
        cleared = sym (cleared_free def row.cells how (filling_of before work) free);
        free = free;
        over = record { books = ready.over.books; sound = on.over.sound; rising = on.over.rising; below = on.over.below; gone = on.over.gone };
      }

  -- one does
  pub agreeing_there : (serial : ℕ) → IsAgreeing work.books books spot row serial → is_taken def row.cells (rows_now before work) ≡ true
  agreeing_there serial a = agreeing_taken def valid before (rows_now before work) on.over.sound.rising work.books books (on.over.books keyed) spot row placed serial a

  pub agreeing_on : (serial : ℕ) → IsAgreeing work.books books spot row serial → IsWorkOn def before (record work { books = books })
  agreeing_on serial a = record {
    over = record {
      books = λ k. books_kept def before (rows_now before work) work.books books (on.over.books k) a.same;
      sound = on.over.sound;
      rising = on.over.rising;
      below = on.over.below;
      gone = on.over.gone;
    };
    none = on.none;
  }

-- # The rounds end

-- how many rows a book has
abbrev pub held_in : Option Book → ℕ
held_in None = 0
held_in (Some book) = length book.entries

removed_shorter : {X : Type 0} (test : ℕ → Bool) (es : List (ℕ × X)) (x : X) → lookup test es ≡ Some x → length (remove_entry test es) + 1 ≡ length es
removed_shorter test [] x at = let bad : None ≡ Some x = at in cc
removed_shorter {X} test (e ∷ es) x at = by (test e.0) at (removed_shorter test es x)
  where
    by : (t : Bool) → cond t (Some e.1) (lookup test es) ≡ Some x → (lookup test es ≡ Some x → length (remove_entry test es) + 1 ≡ length es)
        → length (cond t es (e ∷ remove_entry test es)) + 1 ≡ length (e ∷ es)
    by true here rest = omega arith
    by false here rest = let more = rest here in omega (arith, more)

pub held_less : (old books later : BTreeMap (ℕ × ℕ) Book) (spot : Spot) (row : Row) (serial : ℕ) → IsAgreeing old books spot row serial → IsRemoved books later spot serial
    → held_in (book_at later spot) < held_in (book_at old spot)
held_less old books later spot row serial a r =
    let same : Some r.book ≡ Some a.book = sym r.was ∙ a.same spot ∙ a.was in
    let one : r.book ≡ a.book = cc in
    let here : held_in (book_at later spot) ≡ length (remove_entry (is_at (nat_cmp serial)) a.book.entries) =
    ap held_in r.is ∙ ap (λ (book : Book). length (remove_entry (is_at (nat_cmp serial)) book.entries)) one in
    let there : held_in (book_at old spot) ≡ length a.book.entries = ap held_in a.was in
    let shorter = by (entry_at a.book serial) refl a.taken.agrees in
    omega (arith, here, there, shorter)
  where
    by : (o : Option (List (ℕ × List Value))) → entry_at a.book serial ≡ o → option_map_or (shares (entry_of a.book.keys row.cells)) o false ≡ true
        → length (remove_entry (is_at (nat_cmp serial)) a.book.entries) + 1 ≡ length a.book.entries
    by None at e = absurd (true≢false (sym e))
    by (Some entry) at e = removed_shorter (is_at (nat_cmp serial)) a.book.entries entry at

pub removed_there : (books later : BTreeMap (ℕ × ℕ) Book) (spot : Spot) (serial : ℕ) → IsRemoved books later spot serial → IsSome (book_at later spot)
removed_there books later spot serial r = subst (λ (o : Option Book). IsSome o) (sym r.is) refl

pub same_then : (a b c : Work) → IsSameWork a b → IsSameWork b c → IsSameWork a c
same_then a b c first then = record { first = then.first ∙ first.first; next = then.next ∙ first.next; skipped = then.skipped ∙ first.skipped }

-- # However it ends

module _ (how : InsertMode) (apart_is : how ≢ mode.Replace) (def : TableDef) (valid : IsValid def) (before : List Row) (work : Work) (spot : Spot) (row : Row) (placed : place_of def row.cells ≡ Some spot)
    (keyed : is_keyed def ≡ true) (on : IsWorkOn def before work) (books : BTreeMap (ℕ × ℕ) Book) where
  pub tried_enters : row.serial ≡ work.next → (r : Result Bool AllocError) → IsTried work.books books spot row r → Enters how def before work (record work { books = books }) row r
  tried_enters own (Ok true) entered = entered_ready def valid before work spot row placed keyed on books how entered own
  tried_enters own (Ok false) (serial, a) = (
    apart_is,
    agreeing_there def valid before work spot row placed keyed on books serial a,
    refl,
    agreeing_on def valid before work spot row placed keyed on books serial a,
  )
  tried_enters own (Err e) tried = tt
