-- What the records of deletes and puts leave of rows, serial by serial.
use Rattle.std.proofs.Common.{◌≡◌, ◌≢◌, ◌⊎◌, inl, inr, ℕ, ◌==◌, nat_lt, Bool, true, false, cond, not, ◌&&◌, ◌||◌, List, [], ◌∷◌, ◌++◌, map, Option, Some, None, refl, sym, ap, ap₂, ◌∙◌, subst, Less, Equal, Greater}
use Rattle.std.specs.List.{All, AllByRecursion, flat_map}
use Rattle.std.specs.Option.{IsSome, is_some, option_and_then, option_or}
use Rattle.std.specs.Ordering.{nat_cmp, match_ordering}
use Rattle.std.proofs.lemmas.Bool.{eq-eqb, eqb-true, ne_eqb, true≢false}
use Rattle.std.proofs.lemmas.Grind.{flat_map-append}
use Rattle.std.proofs.lemmas.List.Elements.{All-head, All-tail}
use Rattle.std.proofs.lemmas.Map.Keys.{sorted_head, sorted_tail}
use Rattle.pt_plain.proofs.Pairs.{pairs_head, pairs_tail}
use Rattle.pt_value.specs.declared.value.Value.{Value}
use Rattle.pt_ast.specs.declared.database.Row.{Row}
use Rattle.pt_ast.specs.declared.database.Spot.{Spot}
use Rattle.pt_rowfile.specs.declared.record.Record.{Record}
use Rattle.pt_rowfile.specs.declared.record.Record.TheVariants.{Put, Delete}
use Rattle.pt_rowfile.specs.Records.{IsRecord, record_bytes}
use Rattle.pt_rowfile.specs.Rows.{Spells, SpellsRows, after, has_row, is_serial, left}
use Rattle.pt_rowfile.specs.Rows as file
use Rattle.pt_rowfile.proofs.Parts.{one_some}
use Rattle.pt_db.specs.Rows.{AreRising, others, row_at, with_row}
use Rattle.pt_db.proofs.Serials.{by_serials, cells_found, others_rise, row_beside, row_gone, row_left, row_placed, serial_of, with_row_rises}
use Rattle.pt_db.proofs.Keyed.{below_absent}
use Rattle.pt_holds.specs.RowChanges.{AreApart, AreOnce, is_deleted, kept, rows_put}

-- ---- rows of a file are rows of a table

pub has_is : (serial : ℕ) (rows : List Row) → has_row serial rows ≡ is_some (row_at rows serial)
has_is serial [] = refl
has_is serial (row ∷ rows) = by_test (row.serial == serial) (has_is serial rows)
  where
    by_test : (t : Bool) → has_row serial rows ≡ is_some (row_at rows serial) → (t || has_row serial rows) ≡ is_some (cond t (Some row.cells) (row_at rows serial))
    by_test true rest = refl
    by_test false rest = rest

pub none_is : (o : Option (List Value)) → is_some o ≡ false → o ≡ None
none_is None e = refl
none_is (Some cells) e = absurd (true≢false e)

pub placed_is : (row : Row) (rows : List Row) → row_at rows row.serial ≡ None → file.with_row row rows ≡ with_row row rows
placed_is row [] none = refl
placed_is row (other ∷ rows) none = go (nat_lt row.serial other.serial) (row.serial == other.serial) (apart (other.serial == row.serial) refl none) (placed_is row rows (behind (other.serial == row.serial) none))
  where
    apart : (t : Bool) → (other.serial == row.serial) ≡ t → cond t (Some other.cells) (row_at rows row.serial) ≡ None → (row.serial == other.serial) ≡ false
    apart true e gone = let bad : Some other.cells ≡ None = gone in cc
    apart false e gone = ne_eqb row.serial other.serial (λ same. let bad : true ≡ false = sym (eq-eqb other.serial row.serial (sym same)) ∙ e in cc)

    behind : (t : Bool) → cond t (Some other.cells) (row_at rows row.serial) ≡ None → row_at rows row.serial ≡ None
    behind true gone = let bad : Some other.cells ≡ None = gone in cc
    behind false gone = gone

    go : (t s : Bool) → s ≡ false → file.with_row row rows ≡ with_row row rows
        → cond t (row ∷ other ∷ rows) (other ∷ file.with_row row rows) ≡ match_ordering (cond t Less (cond s Equal Greater)) (row ∷ other ∷ rows) (row ∷ rows) (other ∷ with_row row rows)
    go true s e rest = refl
    go false true e rest = absurd (true≢false e)
    go false false e rest = ap (λ (xs : List Row). other ∷ xs) rest

others_none : (serial : ℕ) (rows : List Row) → row_at rows serial ≡ None → others serial rows ≡ rows
others_none serial [] none = refl
others_none serial (row ∷ rows) none = by_test (row.serial == serial) none (others_none serial rows)
  where
    by_test : (t : Bool) → cond t (Some row.cells) (row_at rows serial) ≡ None → (row_at rows serial ≡ None → others serial rows ≡ rows)
        → cond (not t) (row ∷ others serial rows) (others serial rows) ≡ row ∷ rows
    by_test true gone rest = let bad : Some row.cells ≡ None = gone in cc
    by_test false gone rest = ap (λ (xs : List Row). row ∷ xs) (rest gone)

-- behind a row of a rising list there is none of its serial
none_behind : (row : Row) (rows : List Row) → AreRising (row ∷ rows) → row_at rows row.serial ≡ None
none_behind row rows up =
    cells_found rows row.serial
    ∙ ap (λ o. found_cells o) (below_absent nat_cmp (λ a b. a == b) by_serials serial_of rows row.serial (sorted_head nat_cmp row.serial (map serial_of rows) up))
  where
    found_cells : Option Row → Option (List Value)
    found_cells None = None
    found_cells (Some r) = Some r.cells

pub without_is : (serial : ℕ) (rows : List Row) → AreRising rows → file.without_row serial rows ≡ others serial rows
without_is serial [] up = refl
without_is serial (row ∷ rows) up = by_test (row.serial == serial) refl (without_is serial rows (sorted_tail nat_cmp row.serial (map serial_of rows) up))
  where
    by_test : (t : Bool) → (row.serial == serial) ≡ t → file.without_row serial rows ≡ others serial rows
        → cond t rows (row ∷ file.without_row serial rows) ≡ cond (not t) (row ∷ others serial rows) (others serial rows)
    by_test true e rest = sym (others_none serial rows (subst (λ n. row_at rows n ≡ None) (eqb-true row.serial serial e) (none_behind row rows up)))
    by_test false e rest = ap (λ (xs : List Row). row ∷ xs) rest

-- ---- records, one after the other

pub left_both : (a b : List Record) (rows middle : List Row) → left a rows ≡ Some middle → left (a ++ b) rows ≡ left b middle
left_both [] b rows middle is = ap (left b) (one_some rows middle is)
left_both (entry ∷ a) b rows middle is = go (after entry rows) is (λ later. left_both a b later middle)
  where
    go : (o : Option (List Row)) → option_and_then (left a) o ≡ Some middle → ((later : List Row) → left a later ≡ Some middle → left (a ++ b) later ≡ left b middle)
        → option_and_then (left (a ++ b)) o ≡ left b middle
    go None e rest = let bad : None ≡ Some middle = e in cc
    go (Some later) e rest = rest later e

-- What records leave: rows by rising serial, with these cells at each serial.
pub record Leaving (entries : List Record) (rows : List Row) (cells : ℕ → Option (List Value)) : Type 0 where
  pub later : List Row
  pub leaves : left entries rows ≡ Some later
  pub rising : AreRising later
  pub each : (serial : ℕ) → row_at later serial ≡ cells serial

one_more : (entry : Record) (entries : List Record) (rows next later : List Row) → after entry rows ≡ Some next → left entries next ≡ Some later → left (entry ∷ entries) rows ≡ Some later
one_more entry entries rows next later step rest = ap (option_and_then (left entries)) step ∙ rest

-- ---- deletes

abbrev pub deletes_of : List (Spot × ℕ) → List Record
deletes_of deletes = map (λ (delete : Spot × ℕ). Delete delete.1) deletes

delete_step : (serial : ℕ) (rows : List Row) → AreRising rows → IsSome (row_at rows serial) → after (Delete serial) rows ≡ Some (others serial rows)
delete_step serial rows up some =
    ap (λ b. cond b (Some (file.without_row serial rows)) None) (has_is serial rows ∙ some)
    ∙ ap (λ (xs : List Row). Some xs) (without_is serial rows up)

pub kept_none : (b : Bool) → kept {X = List Value} b None ≡ None
kept_none true = refl
kept_none false = refl

some_left : (serial query : ℕ) (rows : List Row) → serial ≢ query → IsSome (row_at rows query) → IsSome (row_at (others serial rows) query)
some_left serial query rows apart some = ap (λ (o : Option (List Value)). is_some o) (row_left serial query rows apart) ∙ some

all_left : (serial : ℕ) (rows : List Row) (deletes : List (Spot × ℕ)) → All (λ (d : Spot × ℕ). serial ≢ d.1) deletes → All (λ (d : Spot × ℕ). IsSome (row_at rows d.1)) deletes
    → All (λ (d : Spot × ℕ). IsSome (row_at (others serial rows) d.1)) deletes
all_left serial rows deletes apart some k d within = some_left serial _ rows (apart k d within) (some k d within)

pub left_deletes : (deletes : List (Spot × ℕ)) (rows : List Row) → AreRising rows → All (λ (d : Spot × ℕ). IsSome (row_at rows d.1)) deletes → AreApart deletes
    → Leaving (deletes_of deletes) rows (λ serial. kept (is_deleted deletes serial) (row_at rows serial))
left_deletes [] rows up some apart = record { later = rows; leaves = refl; rising = up; each = λ serial. refl }
left_deletes (d ∷ deletes) rows up some apart =
    let here : IsSome (row_at rows d.1) = All-head (λ (e : Spot × ℕ). IsSome (row_at rows e.1)) d deletes some in
    let head = pairs_head (λ (a b : Spot × ℕ). a.1 ≢ b.1) d deletes apart in
    let rest = left_deletes deletes (others d.1 rows) (others_rise d.1 rows up) (all_left d.1 rows deletes head (All-tail (λ (e : Spot × ℕ). IsSome (row_at rows e.1)) d deletes some))
    (pairs_tail (λ (a b : Spot × ℕ). a.1 ≢ b.1) d deletes apart) in
    record {
      later = rest.later;
      leaves = one_more (Delete d.1) (deletes_of deletes) rows (others d.1 rows) rest.later (delete_step d.1 rows up here) rest.leaves;
      rising = rest.rising;
      each = λ serial. rest.each serial ∙ by_test serial (d.1 == serial) refl;
    }
  where
    by_test : (serial : ℕ) (t : Bool) → (d.1 == serial) ≡ t → kept (is_deleted deletes serial) (row_at (others d.1 rows) serial) ≡ kept (t || is_deleted deletes serial) (row_at rows serial)
    by_test serial true e =
        ap (kept (is_deleted deletes serial)) (subst (λ n. row_at (others d.1 rows) n ≡ None) (eqb-true d.1 serial e) (row_gone d.1 rows))
        ∙ kept_none (is_deleted deletes serial)
    by_test serial false e =
        ap (kept (is_deleted deletes serial)) (row_left d.1 serial rows (λ same. let bad : true ≡ false = sym (eq-eqb d.1 serial same) ∙ e in cc))

-- ---- puts

abbrev pub puts_of : List (Spot × Row) → List Record
puts_of puts = map (λ (put : Spot × Row). Put put.1) puts

put_step : (row : Row) (rows : List Row) → is_serial row.serial ≡ true → row_at rows row.serial ≡ None → after (Put row) rows ≡ Some (with_row row rows)
put_step row rows serial none =
    ap₂ (λ (a b : Bool). cond (a && not b) (Some (file.with_row row rows)) None) serial (has_is row.serial rows ∙ ap (λ (o : Option (List Value)). is_some o) none)
    ∙ ap (λ (xs : List Row). Some xs) (placed_is row rows none)

-- no put has a serial that none of them has
pub put_absent : (puts : List (Spot × Row)) (serial : ℕ) → All (λ (p : Spot × Row). serial ≢ p.1.serial) puts → row_at (rows_put puts) serial ≡ None
put_absent [] serial apart = refl
put_absent (p ∷ puts) serial apart =
    ap (λ b. cond b (Some p.1.cells) (row_at (rows_put puts) serial))
    (ne_eqb p.1.serial serial (λ same. All-head (λ (q : Spot × Row). serial ≢ q.1.serial) p puts apart (sym same)))
    ∙ put_absent puts serial (All-tail (λ (q : Spot × Row). serial ≢ q.1.serial) p puts apart)

-- where nothing of both stands
abbrev pub AreFree : List (Spot × Row) → List Row → Type 0
AreFree puts rows = (serial : ℕ) → (row_at (rows_put puts) serial ≡ None) ⊎ (row_at rows serial ≡ None)

free_here : (p : Spot × Row) (puts : List (Spot × Row)) (rows : List Row) → AreFree (p ∷ puts) rows → row_at rows p.1.serial ≡ None
free_here p puts rows free = go (free p.1.serial)
  where
    go : (row_at (rows_put (p ∷ puts)) p.1.serial ≡ None) ⊎ (row_at rows p.1.serial ≡ None) → row_at rows p.1.serial ≡ None
    go (inl none) =
        let there : row_at (rows_put (p ∷ puts)) p.1.serial ≡ Some p.1.cells = ap (λ b. cond b (Some p.1.cells) (row_at (rows_put puts) p.1.serial)) (eq-eqb p.1.serial p.1.serial refl) in
        let bad : Some p.1.cells ≡ None = sym there ∙ none in cc
    go (inr none) = none

free_behind : (p : Spot × Row) (puts : List (Spot × Row)) (rows : List Row) → All (λ (q : Spot × Row). p.1.serial ≢ q.1.serial) puts → AreFree (p ∷ puts) rows → AreFree puts (with_row p.1 rows)
free_behind p puts rows apart free serial = by_test (p.1.serial == serial) refl (free serial)
  where
    by_test : (t : Bool) → (p.1.serial == serial) ≡ t → (cond t (Some p.1.cells) (row_at (rows_put puts) serial) ≡ None) ⊎ (row_at rows serial ≡ None)
        → (row_at (rows_put puts) serial ≡ None) ⊎ (row_at (with_row p.1 rows) serial ≡ None)
    by_test true e h = inl (subst (λ n. row_at (rows_put puts) n ≡ None) (eqb-true p.1.serial serial e) (put_absent puts p.1.serial apart))
    by_test false e (inl none) = inl none
    by_test false e (inr none) = inr (row_beside p.1 rows serial (λ same. let bad : true ≡ false = sym (eq-eqb p.1.serial serial same) ∙ e in cc) ∙ none)

pub left_puts : (puts : List (Spot × Row)) (rows : List Row) → AreRising rows → All (λ (p : Spot × Row). is_serial p.1.serial ≡ true) puts → AreOnce puts → AreFree puts rows
    → Leaving (puts_of puts) rows (λ serial. option_or (row_at (rows_put puts) serial) (row_at rows serial))
left_puts [] rows up serials once free = record { later = rows; leaves = refl; rising = up; each = λ serial. refl }
left_puts (p ∷ puts) rows up serials once free =
    let here : is_serial p.1.serial ≡ true = All-head (λ (q : Spot × Row). is_serial q.1.serial ≡ true) p puts serials in
    let head = pairs_head (λ (a b : Spot × Row). a.1.serial ≢ b.1.serial) p puts once in
    let rest = left_puts puts (with_row p.1 rows) (with_row_rises p.1 rows up) (All-tail (λ (q : Spot × Row). is_serial q.1.serial ≡ true) p puts serials)
    (pairs_tail (λ (a b : Spot × Row). a.1.serial ≢ b.1.serial) p puts once) (free_behind p puts rows head free) in
    record {
      later = rest.later;
      leaves = one_more (Put p.1) (puts_of puts) rows (with_row p.1 rows) rest.later (put_step p.1 rows here (free_here p puts rows free)) rest.leaves;
      rising = rest.rising;
      each = λ serial. rest.each serial ∙ ap (option_or (row_at (rows_put puts) serial)) (row_placed p.1 rows serial) ∙ by_test serial head (p.1.serial == serial) refl;
    }
  where
    by_test : (serial : ℕ) → All (λ (q : Spot × Row). p.1.serial ≢ q.1.serial) puts → (t : Bool) → (p.1.serial == serial) ≡ t
        → option_or (row_at (rows_put puts) serial) (cond t (Some p.1.cells) (row_at rows serial)) ≡ option_or (cond t (Some p.1.cells) (row_at (rows_put puts) serial)) (row_at rows serial)
    by_test serial apart true e =
        ap (λ o. option_or o (Some p.1.cells)) (subst (λ n. row_at (rows_put puts) n ≡ None) (eqb-true p.1.serial serial e) (put_absent puts p.1.serial apart))
    by_test serial apart false e = refl

-- ---- the bytes of a file

each_both : (a b : List Record) → AllByRecursion IsRecord a → AllByRecursion IsRecord b → AllByRecursion IsRecord (a ++ b)
each_both [] b each_a each_b = each_b
each_both (entry ∷ a) b each_a each_b = (each_a.0, each_both a b each_a.1 each_b)

-- records behind a file
pub spells_more : (bytes : List ℕ) (rows later : List Row) (entries : List Record) → SpellsRows bytes rows → AllByRecursion IsRecord entries → left entries rows ≡ Some later
    → SpellsRows (bytes ++ flat_map record_bytes entries) later
spells_more bytes rows later entries spells each leaves = record {
  records = spells.records ++ entries;
  each = each_both spells.records entries spells.each each;
  text = ap (λ (xs : List ℕ). xs ++ flat_map record_bytes entries) spells.text ∙ sym (flat_map-append record_bytes spells.records entries);
  leaves = left_both spells.records entries [] rows spells.leaves ∙ leaves;
}

-- an empty file
pub spells_none : SpellsRows [] []
spells_none = record { records = []; each = tt; text = refl; leaves = refl }
