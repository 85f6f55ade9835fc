-- The rows that a file's records leave, and the places at which they were put.
use Rattle.std.proofs.Common.{◌≡◌, ℕ, ◌+◌, ◌<◌, ◌==◌, Bool, true, false, cond, not, ◌&&◌, List, [], ◌∷◌, length, Option, Some, None, refl, sym, ap, ◌∙◌, subst}
use Rattle.std.specs.Prelude.{Contains}
use Rattle.std.specs.List.{All}
use Rattle.std.specs.Option.{IsSome, is_some}
use Rattle.std.specs.Ordering.{nat_cmp}
use Rattle.std.proofs.lemmas.Bool.{and_parts, eq-eqb, eqb-true, ltb-true, not-true}
use Rattle.std.proofs.lemmas.List.Elements.{All-cons, All-contains, All-filter, All-nil, All-weaker}
use Rattle.pt_value.specs.declared.value.Value.{Value}
use Rattle.pt_plain.proofs.Rising.{sorted_nil}
use Rattle.pt_ast.specs.declared.database.Row.{Row}
use Rattle.pt_rowfile.specs.declared.record.Record.{Record}
use Rattle.pt_rowfile.specs.declared.record.Record.TheVariants.{Delete, Put}
use Rattle.pt_rowfile.specs.Placed.{IsPlaceOf, place_after, place_left}
use Rattle.pt_rowfile.specs.Records.{record_bytes}
use Rattle.pt_rowfile.specs.Rows.{SpellsRows, after, has_row, is_serial, left}
use Rattle.pt_rowfile.specs.Rows as file
use Rattle.pt_rowfile.proofs.Parts.{from_then, one_some}
use Rattle.pt_db.specs.Rows.{AreRising, is_numbered, others, row_at, with_row}
use Rattle.pt_db.proofs.Serials.{others_rise, row_gone, row_left, row_placed, with_row_all, with_row_rises}
use Rattle.pt_holds.proofs.Held.{one_text}
use Rattle.pt_holds.proofs.Left.{has_is, none_is, placed_is, without_is}

-- ---- rows by rising serial, from 1

pub record AreLeft (rows : List Row) : Type 0 where
  pub rising : AreRising rows
  pub least : All (λ row. 0 < row.serial) rows

if_some : {A : Type 0} (b : Bool) (x y : A) → cond b (Some x) None ≡ Some y → (b ≡ true) × (x ≡ y)
if_some true x y e = (refl, one_some x y e)
if_some false x y e = absurd cc

-- what a put makes of rows
record IsPut (row : Row) (rows later : List Row) : Type 0 where
  serial : is_serial row.serial ≡ true
  is : later ≡ with_row row rows

put_is : (row : Row) (rows later : List Row) → after (Put row) rows ≡ Some later → IsPut row rows later
put_is row rows later step =
    let made = if_some (is_serial row.serial && not (has_row row.serial rows)) (file.with_row row rows) later step in
    let both = and_parts (is_serial row.serial) (not (has_row row.serial rows)) made.0 in
    record {
      serial = both.0;
      is = sym made.1 ∙ placed_is row rows (none_is (row_at rows row.serial) (sym (has_is row.serial rows) ∙ not-true (has_row row.serial rows) both.1));
    }

-- and a delete
delete_is : (serial : ℕ) (rows later : List Row) → AreRising rows → after (Delete serial) rows ≡ Some later → later ≡ others serial rows
delete_is serial rows later up step = sym (if_some (has_row serial rows) (file.without_row serial rows) later step).1 ∙ without_is serial rows up

some_serial : (serial : ℕ) → is_serial serial ≡ true → 0 < serial
some_serial serial is = ltb-true 0 serial (and_parts _ _ is).0

left_after : (entry : Record) (rows later : List Row) → AreLeft rows → after entry rows ≡ Some later → AreLeft later
left_after (Put row) rows later are step =
    let put = put_is row rows later step in
    subst AreLeft (sym put.is) (record {
      rising = with_row_rises row rows are.rising;
      least = with_row_all (λ (r : Row). 0 < r.serial) row rows (some_serial row.serial put.serial) are.least;
    })
left_after (Delete serial) rows later are step =
    subst AreLeft (sym (delete_is serial rows later are.rising step)) (record {
      rising = others_rise serial rows are.rising;
      least = All-filter (λ (r : Row). not (is_numbered serial r)) (λ (r : Row). 0 < r.serial) rows are.least;
    })

are_left : (entries : List Record) (rows later : List Row) → AreLeft rows → left entries rows ≡ Some later → AreLeft later
are_left [] rows later are is = subst AreLeft (one_some rows later is) are
are_left (entry ∷ entries) rows later are is =
    let first = from_then (left entries) (after entry rows) later is in
    are_left entries first.0 later (left_after entry rows first.0 are first.1) first.2

no_rows : AreLeft []
no_rows = record { rising = sorted_nil nat_cmp; least = All-nil (λ (row : Row). 0 < row.serial) }

pub spelled_left : (bytes : List ℕ) (rows : List Row) → SpellsRows bytes rows → AreLeft rows
spelled_left bytes rows spells = are_left spells.records [] rows no_rows spells.leaves

-- ---- a row that is left was put somewhere

placed_after : (serial : ℕ) (entry : Record) (rows later : List Row) (here : ℕ) (place : Option ℕ) → AreRising rows → after entry rows ≡ Some later → is_some place ≡ is_some (row_at rows serial)
    → is_some (place_after serial entry here place) ≡ is_some (row_at later serial)
placed_after serial (Put row) rows later here place up step same =
    by_test (row.serial == serial) same ∙ sym (ap (λ (o : Option (List Value)). is_some o) (ap (λ (rs : List Row). row_at rs serial) (put_is row rows later step).is ∙ row_placed row rows serial))
  where
    by_test : (t : Bool) → is_some place ≡ is_some (row_at rows serial) → is_some (cond t (Some here) place) ≡ is_some (cond t (Some row.cells) (row_at rows serial))
    by_test true e = refl
    by_test false e = e
placed_after serial (Delete other) rows later here place up step same =
    by_test (other == serial) refl same ∙ sym (ap (λ (rs : List Row). is_some (row_at rs serial)) (delete_is other rows later up step))
  where
    by_test : (t : Bool) → (other == serial) ≡ t → is_some place ≡ is_some (row_at rows serial) → is_some (cond t None place) ≡ is_some (row_at (others other rows) serial)
    by_test true e is = sym (subst (λ n. is_some (row_at (others other rows) n) ≡ false) (eqb-true other serial e) (ap (λ (o : Option (List Value)). is_some o) (row_gone other rows)))
    by_test false e is = is ∙ sym (ap (λ (o : Option (List Value)). is_some o) (row_left other serial rows (λ equal. let bad : true ≡ false = sym (eq-eqb other serial equal) ∙ e in cc)))

placed_left : (serial : ℕ) (entries : List Record) (rows later : List Row) (here : ℕ) (place : Option ℕ) → AreLeft rows → left entries rows ≡ Some later → is_some place ≡ is_some (row_at rows serial)
    → is_some (place_left serial entries here place) ≡ is_some (row_at later serial)
placed_left serial [] rows later here place are is same = same ∙ ap (λ (rs : List Row). is_some (row_at rs serial)) (one_some rows later is)
placed_left serial (entry ∷ entries) rows later here place are is same =
    let first = from_then (left entries) (after entry rows) later is in
    placed_left serial entries first.0 later (here + length (record_bytes entry)) (place_after serial entry here place) (left_after entry rows first.0 are first.1) first.2
    (placed_after serial entry rows first.0 here place are.rising first.1 same)

-- the row of its serial is found among rows that have it
each_found : (rows : List Row) → All (λ (row : Row). IsSome (row_at rows row.serial)) rows
each_found [] = All-nil (λ (row : Row). IsSome (row_at [] row.serial))
each_found (first ∷ rows) =
    All-cons (λ (row : Row). IsSome (row_at (first ∷ rows) row.serial)) first rows
    (ap (λ b. is_some (cond b (Some first.cells) (row_at rows first.serial))) (eq-eqb first.serial first.serial refl))
    (All-weaker (λ (row : Row). IsSome (row_at rows row.serial)) (λ (row : Row). IsSome (row_at (first ∷ rows) row.serial)) (λ row. behind (first.serial == row.serial) (row_at rows row.serial)) rows (each_found rows))
  where
    behind : (t : Bool) (o : Option (List Value)) → IsSome o → IsSome (cond t (Some first.cells) o)
    behind true o some = refl
    behind false o some = some

pub put_somewhere : (bytes : List ℕ) (rows : List Row) (row : Row) (place : Option ℕ) → SpellsRows bytes rows → Contains rows row → IsPlaceOf bytes row.serial place → IsSome place
put_somewhere bytes rows row place spells has put =
    let same = one_text put.records spells.records put.each spells.each (sym put.text ∙ spells.text) in
    ap (λ (o : Option ℕ). is_some o) put.last
    ∙ ap (λ (entries : List Record). is_some (place_left row.serial entries 0 None)) same
    ∙ placed_left row.serial spells.records [] rows 0 None no_rows spells.leaves refl
    ∙ All-contains (λ (r : Row). IsSome (row_at rows r.serial)) rows row (each_found rows) has

-- and in one place
pub one_place : (bytes : List ℕ) (serial : ℕ) (a b : Option ℕ) → IsPlaceOf bytes serial a → IsPlaceOf bytes serial b → a ≡ b
one_place bytes serial a b x y =
    x.last ∙ ap (λ (entries : List Record). place_left serial entries 0 None) (one_text x.records y.records x.each y.each (sym x.text ∙ y.text)) ∙ sym y.last
