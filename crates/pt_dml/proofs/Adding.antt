-- One row more, against the model, and over every host.
use Rattle.std.proofs.Common.{◌≡◌, ◌≢◌, ℕ, ◌+◌, ◌<◌, ◌≤◌, ◌==◌, ◌^◌, nat_lt, Bool, true, false, cond, not, List, [], ◌∷◌, ◌++◌, length, Option, Some, Result, Ok, Err, refl, sym, ap, ◌∙◌, subst, arith, append-nil, length-append}
use Rattle.std.specs.List.{All, filter}
use Rattle.std.specs.Result.{OnOk}
use Rattle.std.specs.Option.{IsSome}
use Rattle.std.specs.BTreeMap.{BTreeMap}
use Rattle.std.proofs.lemmas.Bool.{le-leb, lt-leb, ltb-false, ltb-true}
use Rattle.std.proofs.lemmas.List.Elements.{All-append, All-cons, All-filter, All-nil, All-push, All-weaker}
use Rattle.std.proofs.lemmas.List.Filters.{length-filter_both}
use Rattle.std.proofs.lemmas.List.Kept.{AllPairs-filter}
use Rattle.pt_plain.proofs.Pairs.{pairs_between}
use Rattle.pt_value.specs.declared.value.Value.{Value}
use Rattle.pt_ast.specs.declared.database.Row.{Row}
use Rattle.pt_ast.specs.declared.database.Spot.{Spot}
use Rattle.pt_ast.specs.declared.table.TableDef.{TableDef}
use Rattle.pt_ast.specs.declared.refusal.Refusal.{Refusal}
use Rattle.pt_ast.specs.declared.refusal.Refusal.TheVariants as refusal
use Rattle.pt_ast.specs.Keys.{is_taken}
use Rattle.pt_place.specs.Place.{place_of}
use Rattle.pt_checks.specs.declared.faults.CellsFault.{CellsFault}
use Rattle.pt_checks.specs.declared.faults.CellsFault.TheVariants as fault
use Rattle.pt_db.specs.Outcome.{refused_where}
use Rattle.pt_db.specs.Sound.{AreSoundRows, IsSoundRow}
use Rattle.pt_db.specs.Spots.{IsSpotOf}
use Rattle.pt_db.proofs.RowSounds.{row_pushed}
use Rattle.pt_flat.specs.declared.filling.Filling.{Filling}
use Rattle.pt_flat.specs.declared.filling.InsertMode.{InsertMode}
use Rattle.pt_flat.specs.declared.filling.InsertMode.TheVariants as mode
use Rattle.pt_flat.specs.Insert.{add_cells, cleared, with_added, with_skipped}
use Rattle.pt_holds.specs.RowChanges.{AreOnce}
use Rattle.pt_unique.specs.Book.{Book}
use Rattle.pt_books.specs.Books.{AreBooks}
use Rattle.pt_dml.specs.declared.work.Work.{Work}
use Rattle.pt_dml.specs.Parts.{IsPlaced, with_row}
use Rattle.pt_dml.specs.Work.{Adds, AreGone, Enters, GivesWay, IsPut, IsPutBehind, IsReady, IsWork, IsWorkBehind, IsWorkOn, PassesOver, Puts, added_of, deleted_of, filling_of, rows_now, skipping}
use Rattle.pt_dml.proofs.Now.{now_more}

some_placed : (o : Option Spot) (spot : Spot) → o ≡ Some spot → IsSome o
some_placed o spot at = subst (λ (q : Option Spot). IsSome q) (sym at) refl

-- # A row is refused, or passed over

module _ (def : TableDef) (number : ℕ) (cells : List Value) (filling : Filling) (taken : is_taken def cells filling.rows ≡ true) where
  pub refused_row : with_row mode.Refuse def number filling cells ≡ Err (refusal.DuplicateKey number)
  refused_row = ap (λ t. refused_where t (refusal.DuplicateKey number) (add_cells number cells filling)) taken

  pub skipped_row : with_row mode.Skip def number filling cells ≡ Ok (with_skipped filling)
  skipped_row = ap (λ t. cond t (Ok (with_skipped filling)) (add_cells number cells filling)) taken

pub skipping_on : (def : TableDef) (before : List Row) (work : Work) → IsWorkOn def before work → IsWorkOn def before (skipping work)
skipping_on def before work on = record {
  over = record { books = on.over.books; sound = on.over.sound; rising = on.over.rising; below = on.over.below; gone = on.over.gone };
  none = on.none;
}

-- a row agrees with it, and it doesn't replace that one
pub passed_adds : (how : InsertMode) (def : TableDef) (number : ℕ) (before : List Row) (old mid new : Work) (row : Row) → Enters how def before old mid row (Ok false)
    → (r : Result (Unit {0}) CellsFault) → PassesOver how mid new number r → Adds def before (with_row how def number (filling_of before old) row.cells) new r
passed_adds how def number before old mid new row (apart, taken, same, on) (Ok done) (is, later) = (
  subst (λ (h : InsertMode). with_row h def number (filling_of before old) row.cells ≡ Ok (filling_of before new)) (sym is)
      (skipped_row def number row.cells (filling_of before old) taken ∙ ap (λ f. Ok (with_skipped f)) (sym same) ∙ ap (λ (w : Work). Ok (filling_of before w)) (sym later)),
  subst (IsWorkOn def before) (sym later) (skipping_on def before mid on),
)
passed_adds how def number before old mid new row (apart, taken, same, on) (Err (fault.Refused why)) (other, is) =
    subst (λ (w : Refusal). with_row how def number (filling_of before old) row.cells ≡ Err w) (sym is) (by how apart other)
  where
    by : (h : InsertMode) → h ≢ mode.Replace → h ≢ mode.Skip → with_row h def number (filling_of before old) row.cells ≡ Err (refusal.DuplicateKey number)
    by mode.Refuse a b = refused_row def number row.cells (filling_of before old) taken
    by mode.Skip a b = absurd (b refl)
    by mode.Replace a b = absurd (a refl)
passed_adds how def number before old mid new row enters (Err fault.NoMemory) passes = absurd passes

-- # It is put

module _ (how : InsertMode) (def : TableDef) (number : ℕ) (spot : Spot) (before : List Row) (old mid new : Work) (row : Row) (at : IsPlaced def spot row.cells) (ready : IsReady how def before old mid row)
    (own : row.serial ≡ mid.next) (counted : mid.first + length mid.puts ≤ mid.next) (some : 0 < mid.first) where
  -- 19 doesn't come
  free_adds : with_row how def number (filling_of before old) row.cells ≡ add_cells number row.cells (filling_of before mid)
  free_adds = by how ready.cleared
    where
      same_free : filling_of before mid ≡ filling_of before old → is_taken def row.cells (rows_now before old) ≡ false
      same_free same = ap (λ (f : Filling). is_taken def row.cells f.rows) (sym same) ∙ ready.free

      by : (h : InsertMode) → filling_of before mid ≡ cleared h def row.cells (filling_of before old)
          → with_row h def number (filling_of before old) row.cells ≡ add_cells number row.cells (filling_of before mid)
      by mode.Refuse same =
          ap (λ t. refused_where t (refusal.DuplicateKey number) (add_cells number row.cells (filling_of before old))) (same_free same)
          ∙ ap (add_cells number row.cells) (sym same)
      by mode.Skip same =
          ap (λ t. cond t (Ok (with_skipped (filling_of before old))) (add_cells number row.cells (filling_of before old))) (same_free same)
          ∙ ap (add_cells number row.cells) (sym same)
      by mode.Replace same = ap (add_cells number row.cells) (sym same)

  module _ (put : IsPutBehind mid new spot row) where
    rows_more : rows_now before new ≡ rows_now before mid ++ row ∷ []
    rows_more = now_more before mid new spot row put

    the_row : row ≡ (let r : Row = record { serial = mid.next; cells = row.cells } in r)
    the_row = ap (λ n. let r : Row = record { serial = n; cells = row.cells } in r) own

    puts_more : length new.puts ≡ length mid.puts + 1
    puts_more = ap (λ (puts : List (Spot × Row)). length puts) put.puts ∙ length-append mid.puts ((spot, row) ∷ [])

    added_more : added_of new ≡ added_of mid + 1
    added_more = let next = put.next in let first = put.first in omega (arith, next, first, counted)

    deleted_same : deleted_of new ≡ deleted_of mid
    deleted_same =
        let next = put.next in
        let first = put.first in
        let more = puts_more in
        let gone : length new.deletes ≡ length mid.deletes = ap (λ (deletes : List (Spot × ℕ)). length deletes) put.deletes in
        omega (arith, next, first, counted, more, gone)

    filling_more : filling_of before new ≡ with_added row.cells (filling_of before mid)
    filling_more =
        ap (λ rs. let f : Filling = record { rows = rs; next = new.next; added = added_of new; skipped = new.skipped; deleted = deleted_of new } in f) (rows_more ∙ ap (λ r. rows_now before mid ++ r ∷ []) the_row)
        ∙ ap (λ n. let f : Filling = record { rows = later; next = n; added = added_of new; skipped = new.skipped; deleted = deleted_of new } in f) put.next
        ∙ ap (λ n. let f : Filling = record { rows = later; next = mid.next + 1; added = n; skipped = new.skipped; deleted = deleted_of new } in f) added_more
        ∙ ap (λ n. let f : Filling = record { rows = later; next = mid.next + 1; added = added_of mid + 1; skipped = n; deleted = deleted_of new } in f) put.skipped
        ∙ ap (λ n. let f : Filling = record { rows = later; next = mid.next + 1; added = added_of mid + 1; skipped = mid.skipped; deleted = n } in f) deleted_same
      where
        later : List Row
        later = rows_now before mid ++ (let r : Row = record { serial = mid.next; cells = row.cells } in r) ∷ []

    this_sound : IsSoundRow (mid.next + 1) def (record { serial = mid.next; cells = row.cells })
    this_sound = record {
      fits = at.fits;
      nulls = at.nulls;
      placed = some_placed (place_of def row.cells) spot at.placed;
      least = omega (arith, counted, some);
      below = omega arith;
    }

    new_on : IsWorkOn def before new
    new_on = record {
      over = record {
        books = λ keyed. subst (λ (bs : BTreeMap (ℕ × ℕ) Book). AreBooks def before (rows_now before new) bs) (sym put.books)
            (subst (λ rs. AreBooks def before rs mid.books) (sym rows_more) (ready.over.books keyed));
        sound = subst (AreSoundRows new.next def) (sym (rows_more ∙ ap (λ r. rows_now before mid ++ r ∷ []) the_row))
            (subst (λ n. AreSoundRows n def (rows_now before mid ++ (let r : Row = record { serial = mid.next; cells = row.cells } in r) ∷ [])) (sym put.next)
            (row_pushed mid.next def (rows_now before mid) row.cells ready.over.sound this_sound ready.free));
        rising = ready.over.rising;
        below = subst (λ n. All (λ (r : Row). r.serial < n) before) (sym put.first) ready.over.below;
        gone = subst (AreGone def before) (sym put.deletes) ready.over.gone;
      };
      none = λ same. absurd (let next = put.next in let first = put.first in omega (arith, same, next, first, counted));
    }

  pub puts_adds : (r : Result (Unit {0}) CellsFault) → Puts mid new spot number row r → Adds def before (with_row how def number (filling_of before old) row.cells) new r
  puts_adds (Ok done) put = (
    free_adds
        ∙ ap (λ t. refused_where t (refusal.SerialsUsed number) (Ok (with_added row.cells (filling_of before mid)))) (lt-leb (2 ^ 62) mid.next put.room)
        ∙ ap (λ f. Ok f) (sym (filling_more put)),
    new_on put,
  )
  puts_adds (Err (fault.Refused why)) (past, is) =
      free_adds
      ∙ ap (λ t. refused_where t (refusal.SerialsUsed number) (Ok (with_added row.cells (filling_of before mid)))) (le-leb (2 ^ 62) mid.next past)
      ∙ ap (λ w. Err w) (sym is)
  puts_adds (Err fault.NoMemory) put = tt

-- # Over every host

pub books_work : (def : TableDef) (number : ℕ) (work : Work) (books : BTreeMap (ℕ × ℕ) Book) → IsWork def number work → IsWork def number (record work { books = books })
books_work def number work books w = record { some = w.some; deletes = w.deletes; puts = w.puts; once = w.once; counted = w.counted; most = w.most; skipped = w.skipped }

pub later_work : (def : TableDef) (number : ℕ) (work : Work) → IsWork def number work → IsWork def (number + 1) work
later_work def number work w = record { some = w.some; deletes = w.deletes; puts = w.puts; once = w.once; counted = w.counted; most = w.most; skipped = (let skipped = w.skipped in omega (arith, skipped)) }

pub skipping_work : (def : TableDef) (number : ℕ) (work : Work) → IsWork def number work → IsWork def (number + 1) (skipping work)
skipping_work def number work w = record { some = w.some; deletes = w.deletes; puts = w.puts; once = w.once; counted = w.counted; most = w.most; skipped = (let skipped = w.skipped in omega (arith, skipped)) }

pub passed_work : (how : InsertMode) (def : TableDef) (number : ℕ) (old mid new : Work) → IsWork def number mid → mid.first ≡ old.first → (r : Result (Unit {0}) CellsFault) → PassesOver how mid new number r
    → OnOk r (IsWorkBehind def (number + 1) old new)
passed_work how def number old mid new w first (Ok done) (is, later) =
    subst (IsWorkBehind def (number + 1) old) (sym later) (record { work = skipping_work def number mid w; first = first })
passed_work how def number old mid new w first (Err e) passes = tt

-- rows go
module _ (def : TableDef) (number : ℕ) (old new : Work) (w : IsWork def number old) (spot : Spot) (serial : ℕ) (of : IsSpotOf def spot) (gives : GivesWay old new spot serial) where
  abbrev stays : Spot × Row → Bool
  stays put = not (put.1.serial == serial)

  with_same : All (λ (delete : Spot × ℕ). IsSpotOf def delete.0) new.deletes → All (IsPut old.first old.next def) new.puts → AreOnce new.puts → length new.puts ≤ length old.puts → IsWork def number new
  with_same deletes puts once less = record {
    some = subst (λ n. 0 < n) (sym gives.same.first) w.some;
    deletes = deletes;
    puts = subst (λ n. All (IsPut n new.next def) new.puts) (sym gives.same.first) (subst (λ n. All (IsPut old.first n def) new.puts) (sym gives.same.next) puts);
    once = once;
    counted = (let counted = w.counted in let first = gives.same.first in let next = gives.same.next in omega (arith, counted, first, next, less));
    most = subst (λ n. n ≤ 2 ^ 62) (sym gives.same.next) w.most;
    skipped = subst (λ n. n < number) (sym gives.same.skipped) w.skipped;
  }

  pub gives_work : IsWork def number new
  gives_work = by (nat_lt serial old.first) refl
    where
      by : (t : Bool) → nat_lt serial old.first ≡ t → IsWork def number new
      by true e =
          let is = gives.old_one (ltb-true serial old.first e) in
          with_same
          (subst (All (λ (delete : Spot × ℕ). IsSpotOf def delete.0)) (sym is.0) (All-push (λ (delete : Spot × ℕ). IsSpotOf def delete.0) old.deletes (spot, serial) w.deletes of))
          (subst (All (IsPut old.first old.next def)) (sym is.1) w.puts)
          (subst AreOnce (sym is.1) w.once)
          (let same : length new.puts ≡ length old.puts = ap (λ (puts : List (Spot × Row)). length puts) is.1 in omega (arith, same))
      by false e =
          let is = gives.own (ltb-false serial old.first e) in
          with_same
          (subst (All (λ (delete : Spot × ℕ). IsSpotOf def delete.0)) (sym is.0) w.deletes)
          (subst (All (IsPut old.first old.next def)) (sym is.1) (All-filter stays (IsPut old.first old.next def) old.puts w.puts))
          (subst AreOnce (sym is.1) (AllPairs-filter (λ (a b : Spot × Row). a.1.serial ≢ b.1.serial) stays old.puts w.once))
          (let same : length new.puts ≡ length (filter stays old.puts) = ap (λ (puts : List (Spot × Row)). length puts) is.1 in
          let both = length-filter_both stays (λ (put : Spot × Row). not (stays put)) (λ put. refl) old.puts in
          omega (arith, same, both))

-- and one comes
module _ (def : TableDef) (number : ℕ) (spot : Spot) (row : Row) (at : IsPlaced def spot row.cells) (old mid new : Work) (w : IsWork def number mid) (own : row.serial ≡ mid.next) (begun : mid.first ≡ old.first) where
  put_works : IsPutBehind mid new spot row → IsWorkBehind def (number + 1) old new
  put_works put =
      let counted = w.counted in
      let room = put.room in
      let next = put.next in
      let first = put.first in
      let skipped = w.skipped in
      let same = put.skipped in
      let some = w.some in
      let more : length new.puts ≡ length mid.puts + 1 = ap (λ (puts : List (Spot × Row)). length puts) put.puts ∙ length-append mid.puts ((spot, row) ∷ []) in
      let this : IsPut new.first new.next def (spot, row) = record { placed = at.placed; fits = record { cells = at.fits; nulls = at.nulls }; from = omega (arith, counted, own, first); below = omega (arith, next, own) } in
      record {
        work = record {
          some = omega (arith, some, first);
          deletes = subst (All (λ (delete : Spot × ℕ). IsSpotOf def delete.0)) (sym put.deletes) w.deletes;
          puts = subst (All (IsPut new.first new.next def)) (sym put.puts) (All-append (IsPut new.first new.next def) mid.puts ((spot, row) ∷ [])
              (All-weaker (IsPut mid.first mid.next def) (IsPut new.first new.next def) later mid.puts w.puts) (All-cons (IsPut new.first new.next def) (spot, row) [] this (All-nil (IsPut new.first new.next def))));
          once = subst AreOnce (sym put.puts) (pairs_between (λ (a b : Spot × Row). a.1.serial ≢ b.1.serial) mid.puts (spot, row) [] (subst AreOnce (sym (append-nil mid.puts)) w.once)
              (All-weaker (IsPut mid.first mid.next def) (λ (p : Spot × Row). p.1.serial ≢ row.serial) (λ p is same. (let below = is.below in omega (arith, below, same, own))) mid.puts w.puts)
              (All-nil (λ (p : Spot × Row). row.serial ≢ p.1.serial)));
          counted = omega (arith, counted, more, next, first);
          most = omega (arith, room, next);
          skipped = omega (arith, skipped, same);
        };
        first = put.first ∙ begun;
      }
    where
      later : (p : Spot × Row) → IsPut mid.first mid.next def p → IsPut new.first new.next def p
      later p is = record {
        placed = is.placed;
        fits = is.fits;
        from = (let from = is.from in let first = put.first in omega (arith, from, first));
        below = (let below = is.below in let next = put.next in omega (arith, below, next));
      }

  pub puts_work : (r : Result (Unit {0}) CellsFault) → Puts mid new spot number row r → OnOk r (IsWorkBehind def (number + 1) old new)
  puts_work (Ok done) put = put_works put
  puts_work (Err e) put = tt
