-- The puts of rows whose serials rise leave these rows; and what is given for a spot.
use Rattle.std.proofs.Common.{◌≡◌, ◌≢◌, inr, ℕ, ◌==◌, Bool, true, false, true≢false, eq-eqb, cond, List, [], ◌∷◌, ◌++◌, map, Option, Some, None, Less, refl, sym, ap, ◌∙◌, subst, arith}
use Rattle.std.specs.List.{All, AllByRecursion, find, flat_map}
use Rattle.std.specs.Option.{option_map, option_or}
use Rattle.std.specs.Ordering.{nat_cmp}
use Rattle.std.proofs.lemmas.List.Elements.{All-cons, All-head, All-map, All-nil, All-tail}
use Rattle.std.proofs.lemmas.List.Kept.{AllPairs-cons}
use Rattle.std.proofs.lemmas.Map.Keys.{sorted_head, sorted_tail}
use Rattle.pt_plain.proofs.Rising.{sorted_nil}
use Rattle.pt_value.specs.declared.value.Value.{Value}
use Rattle.pt_ast.specs.declared.database.Row.{Row}
use Rattle.pt_ast.specs.declared.database.Spot.{Spot}
use Rattle.pt_rowfile.specs.declared.record.Record.{Record}
use Rattle.pt_rowfile.specs.declared.record.Record.TheVariants.{Put}
use Rattle.pt_rowfile.specs.Records.{IsRecord, record_bytes}
use Rattle.pt_rowfile.specs.Rows.{SpellsRows, is_serial, left}
use Rattle.pt_db.specs.Rows.{AreRising, is_spot, row_at}
use Rattle.pt_db.proofs.Keyed.{less_other}
use Rattle.pt_db.proofs.Serials.{by_serials, same_rows, serial_of}
use Rattle.pt_holds.specs.Acts.{rows_text}
use Rattle.pt_holds.specs.RowChanges.{AreOnce, rows_put}
use Rattle.pt_holds.specs.ShapeChanges.{fresh_at}
use Rattle.pt_holds.proofs.Left.{left_puts, puts_of}
use Rattle.pt_holds.proofs.Wholes.{first}

-- ---- rows as puts

-- the rows, each with some spot
abbrev beside : Row → Spot × Row
beside row = (first, row)

same_puts : (rows : List Row) → puts_of (map beside rows) ≡ map (λ (row : Row). Put row) rows
same_puts [] = refl
same_puts (row ∷ rows) = ap (λ (rest : List Record). Put row ∷ rest) (same_puts rows)

same_put : (rows : List Row) → rows_put (map beside rows) ≡ rows
same_put [] = refl
same_put (row ∷ rows) = ap (λ (rest : List Row). row ∷ rest) (same_put rows)

same_text : (rows : List Row) → rows_text rows ≡ flat_map record_bytes (map (λ (row : Row). Put row) rows)
same_text [] = refl
same_text (row ∷ rows) = ap (λ (rest : List ℕ). record_bytes (Put row) ++ rest) (same_text rows)

each_record : (rows : List Row) → All (λ (row : Row). IsRecord (Put row)) rows → AllByRecursion IsRecord (map (λ (row : Row). Put row) rows)
each_record [] each = tt
each_record (row ∷ rows) each = (All-head (λ (r : Row). IsRecord (Put r)) row rows each, each_record rows (All-tail (λ (r : Row). IsRecord (Put r)) row rows each))

-- rising serials stand once
others_above : (row : Row) (rows : List Row) → AllByRecursion (λ serial. nat_cmp row.serial serial ≡ Less) (map serial_of rows) → All (λ (p : Spot × Row). row.serial ≢ p.1.serial) (map beside rows)
others_above row [] above = All-nil (λ (p : Spot × Row). row.serial ≢ p.1.serial)
others_above row (other ∷ rows) above =
    All-cons (λ (p : Spot × Row). row.serial ≢ p.1.serial) (beside other) (map beside rows) (λ same. not_below row.serial other.serial same above.0) (others_above row rows above.1)
  where
    not_below : (a b : ℕ) → a ≡ b → nat_cmp a b ≡ Less → ⊥
    not_below a b same less =
        let other = less_other nat_cmp (λ (x y : ℕ). x == y) by_serials serial_of a b less in true≢false (sym (eq-eqb a b same) ∙ other)

rise_once : (rows : List Row) → AreRising rows → AreOnce (map beside rows)
rise_once [] up = λ i j d before below. absurd (omega (arith, below))
rise_once (row ∷ rows) up =
    AllPairs-cons (λ (a b : Spot × Row). a.1.serial ≢ b.1.serial) (beside row) (map beside rows)
    (others_above row rows (sorted_head nat_cmp row.serial (map serial_of rows) up)) (rise_once rows (sorted_tail nat_cmp row.serial (map serial_of rows) up))

no_rows : AreRising []
no_rows = sorted_nil nat_cmp

pub given_spelled : (rows : List Row) → AreRising rows → All (λ (row : Row). is_serial row.serial ≡ true) rows → All (λ (row : Row). IsRecord (Put row)) rows → SpellsRows (rows_text rows) rows
given_spelled rows up serials records =
    let puts = map beside rows in
    let come = left_puts puts [] no_rows (All-map (λ (p : Spot × Row). is_serial p.1.serial ≡ true) beside rows serials) (rise_once rows up) (λ serial. inr refl) in
    let same : come.later ≡ rows = same_rows come.later rows come.rising up (λ serial. come.each serial ∙ or_none (row_at (rows_put puts) serial) ∙ ap (λ (rs : List Row). row_at rs serial) (same_put rows)) in
    record {
      records = map (λ (row : Row). Put row) rows;
      each = each_record rows records;
      text = same_text rows;
      leaves = ap (λ (entries : List Record). left entries []) (sym (same_puts rows)) ∙ come.leaves ∙ ap (λ (rs : List Row). Some rs) same;
    }
  where
    or_none : (o : Option (List Value)) → option_or o None ≡ o
    or_none (Some cells) = refl
    or_none None = refl

-- ---- what is given for a spot

pub found_given : (P : Spot × List Row → Type 0) (fresh : List (Spot × List Row)) (spot : Spot) (rows : List Row) → All P fresh → fresh_at fresh spot ≡ Some rows → (own : Spot) × P (own, rows)
found_given P [] spot rows each at = let bad : None ≡ Some rows = at in cc
found_given P (given ∷ fresh) spot rows each at = go (is_spot given.0 spot) (found_given P fresh spot rows (All-tail P given fresh each)) at
  where
    one : (a b : List Row) → Some a ≡ Some b → a ≡ b
    one a b e = cc

    go : (t : Bool) → (fresh_at fresh spot ≡ Some rows → (own : Spot) × P (own, rows)) → option_map (λ (g : Spot × List Row). g.1) (cond t (Some given) (find (λ (g : Spot × List Row). is_spot g.0 spot) fresh)) ≡ Some rows
        → (own : Spot) × P (own, rows)
    go true rest e = (given.0, subst (λ (rs : List Row). P (given.0, rs)) (one given.1 rows e) (All-head P given fresh each))
    go false rest e = rest e
