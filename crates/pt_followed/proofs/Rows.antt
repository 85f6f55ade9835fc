-- Tuples of values of the columns, and rows that have them.
use Rattle.std.proofs.Common.{◌≡◌, ℕ, zero, suc, ◌<◌, arith, Bool, true, false, List, [], ◌∷◌, length, map, set, Option, pos, refl, sym, ap, ap₂, subst, ◌∙◌}
use Rattle.std.specs.Prelude.{◌==◌, cond, neg_ℤ, nat_lt}
use Rattle.std.proofs.lemmas.Bool.{and_from, and_parts, eq-eqb, eqb-true, false≢true, lt-ltb}
use Rattle.std.proofs.lemmas.List.{get_or-set_other, get_or-set_same}
use Rattle.pt_value.specs.declared.value.Value.{Value}
use Rattle.pt_value.specs.declared.value.Value.TheVariants.{Null, Int, Day, Bytes}
use Rattle.pt_value.specs.declared.value.Kind.{Kind}
use Rattle.pt_value.specs.declared.value.Kind.TheVariants as kind
use Rattle.pt_ast.specs.declared.table.Column.{Column}
use Rattle.pt_ast.specs.declared.tree.Cond.{Cond}
use Rattle.pt_ast.specs.Bounds.{cells_at}
use Rattle.pt_expr.specs.Truths.{is_null}
use Rattle.pt_place.specs.Fitting.{kind_at}
use Rattle.pt_interval.specs.Counting.{AreAll}
use Rattle.pt_interval.specs.Instances.{is_int_read, is_int_told}
use Rattle.pt_reach.specs.declared.domain.Domain.{Domain}
use Rattle.pt_reach.specs.Domains.{has_in, is_of, is_of_column}
use Rattle.pt_reach.specs.Kept.{AreOfKinds, IsLeft, IsOfKind, cell_at}
use Rattle.pt_reach.specs.May.{may_hold}
use Rattle.pt_followed.specs.Steps.{AreItems, AreSetsOf, IsSetOf}

abbrev if_so : Bool → Bool → Bool → Bool
if_so t a b = cond t a b

-- ---- a value of a kind

pub kind_told : (k : Kind) (v : Value) → IsOfKind k v → is_of k v ≡ true
kind_told kind.Int Null h = refl
kind_told kind.BigInt Null h = refl
kind_told kind.Date Null h = refl
kind_told (kind.Binary most) Null h = refl
kind_told kind.Int (Int n) h = is_int_told (neg_ℤ (pos 2_147_483_648)) (pos 2_147_483_647) n h.0 h.1
kind_told kind.BigInt (Int n) h = is_int_told (neg_ℤ (pos 9_223_372_036_854_775_808)) (pos 9_223_372_036_854_775_807) n h.0 h.1
kind_told kind.Date (Int n) h = absurd h
kind_told (kind.Binary most) (Int n) h = absurd h
kind_told kind.Int (Day day) h = absurd h
kind_told kind.BigInt (Day day) h = absurd h
kind_told kind.Date (Day day) h = is_int_told (neg_ℤ (pos 354_285)) (pos 2_932_896) day h.0 h.1
kind_told (kind.Binary most) (Day day) h = absurd h
kind_told kind.Int (Bytes bytes) h = absurd h
kind_told kind.BigInt (Bytes bytes) h = absurd h
kind_told kind.Date (Bytes bytes) h = absurd h
kind_told (kind.Binary most) (Bytes bytes) h = h

pub kind_read : (k : Kind) (v : Value) → is_of k v ≡ true → IsOfKind k v
kind_read kind.Int Null h = tt
kind_read kind.BigInt Null h = tt
kind_read kind.Date Null h = tt
kind_read (kind.Binary most) Null h = tt
kind_read kind.Int (Int n) h = let both = is_int_read (neg_ℤ (pos 2_147_483_648)) (pos 2_147_483_647) n h in (both.0, both.1)
kind_read kind.BigInt (Int n) h = let both = is_int_read (neg_ℤ (pos 9_223_372_036_854_775_808)) (pos 9_223_372_036_854_775_807) n h in (both.0, both.1)
kind_read kind.Date (Int n) h = absurd (false≢true h)
kind_read (kind.Binary most) (Int n) h = absurd (false≢true h)
kind_read kind.Int (Day day) h = absurd (false≢true h)
kind_read kind.BigInt (Day day) h = absurd (false≢true h)
kind_read kind.Date (Day day) h = let both = is_int_read (neg_ℤ (pos 354_285)) (pos 2_932_896) day h in (both.0, both.1)
kind_read (kind.Binary most) (Day day) h = absurd (false≢true h)
kind_read kind.Int (Bytes bytes) h = absurd (false≢true h)
kind_read kind.BigInt (Bytes bytes) h = absurd (false≢true h)
kind_read kind.Date (Bytes bytes) h = absurd (false≢true h)
kind_read (kind.Binary most) (Bytes bytes) h = h

-- ---- cells of the columns' kinds

pub cell_kind : (columns : List Column) (cells : List Value) (n : ℕ) → AreOfKinds columns cells → n < length columns → IsOfKind (kind_at columns n) (cell_at cells n)
cell_kind [] cells n are within = absurd (omega (arith, within))
cell_kind (column ∷ columns) [] n are within = absurd are
cell_kind (column ∷ columns) (cell ∷ cells) zero are within = are.0
cell_kind (column ∷ columns) (cell ∷ cells) (suc n) are within = cell_kind columns cells n are.1 (omega (arith, within))

set_kinds : (columns : List Column) (cells : List Value) (n : ℕ) (v : Value) → AreOfKinds columns cells → IsOfKind (kind_at columns n) v → AreOfKinds columns (set cells n v)
set_kinds [] [] zero v are is = tt
set_kinds [] [] (suc n) v are is = tt
set_kinds [] (cell ∷ cells) n v are is = absurd are
set_kinds (column ∷ columns) [] n v are is = absurd are
set_kinds (column ∷ columns) (cell ∷ cells) zero v are is = (is, are.1)
set_kinds (column ∷ columns) (cell ∷ cells) (suc n) v are is = (are.0, set_kinds columns cells n v are.1 is)

as_long : (columns : List Column) (cells : List Value) → AreOfKinds columns cells → length cells ≡ length columns
as_long [] [] are = refl
as_long [] (cell ∷ cells) are = absurd are
as_long (column ∷ columns) [] are = absurd are
as_long (column ∷ columns) (cell ∷ cells) are = let rest = as_long columns cells are.1 in omega (arith, rest)

within_kind : (b : Bool) (k : Kind) (v : Value) → b ≡ true → cond b (is_of k v) (is_null v) ≡ is_of k v
within_kind b k v e = ap (λ (t : Bool). cond t (is_of k v) (is_null v)) e

pub of_column : (columns : List Column) (n : ℕ) (v : Value) → n < length columns → is_of_column columns n v ≡ is_of (kind_at columns n) v
of_column columns n v within = within_kind (nat_lt n (length columns)) (kind_at columns n) v (lt-ltb n (length columns) within)

-- ---- a row that has given cells in given columns, and NULL in the others

abbrev nulls : List Column → List Value
nulls columns = map (λ (column : Column). Null) columns

abbrev filled : List Column → List ℕ → List Value → List Value
filled columns [] vs = nulls columns
filled columns (n ∷ ns) [] = nulls columns
filled columns (n ∷ ns) (v ∷ vs) = set (filled columns ns vs) n v

nulls_kinds : (columns : List Column) → AreOfKinds columns (nulls columns)
nulls_kinds [] = tt
nulls_kinds (column ∷ columns) = (tt, nulls_kinds columns)

-- each is another one than those behind it
abbrev pub AreApart : List ℕ → Type 0
AreApart [] = Unit {0}
AreApart (n ∷ ns) = AreAll (λ (m : ℕ). m ≡ n → ⊥) ns × AreApart ns

abbrev pub AreWithin : List Column → List ℕ → Type 0
AreWithin columns ns = AreAll (λ (n : ℕ). n < length columns) ns

module _ (columns : List Column) (at : ℕ) (cond : Option Cond) where
  value_kind : (n : ℕ) (set : Domain) (v : Value) → n < length columns → IsSetOf columns at cond n set → has_in set v ≡ true → IsOfKind (kind_at columns n) v
  value_kind n set v within is held =
      let both = and_parts (is_of_column columns n v) _ (sym (is v) ∙ held) in
      kind_read (kind_at columns n) v (sym (of_column columns n v within) ∙ both.0)

  filled_kinds : (ns : List ℕ) (sets : List Domain) (vs : List Value) → AreWithin columns ns → AreSetsOf columns at cond ns sets → AreItems sets vs → AreOfKinds columns (filled columns ns vs)
  filled_kinds [] sets vs within are items = nulls_kinds columns
  filled_kinds (n ∷ ns) [] vs within are items = absurd are
  filled_kinds (n ∷ ns) (s ∷ sets) [] within are items = absurd items
  filled_kinds (n ∷ ns) (s ∷ sets) (v ∷ vs) within are items =
      set_kinds columns (filled columns ns vs) n v (filled_kinds ns sets vs within.1 are.1 items.1) (value_kind n s v within.0 are.0 items.0)

  others_same : (cells : List Value) (n : ℕ) (v : Value) (ns : List ℕ) → AreAll (λ (m : ℕ). m ≡ n → ⊥) ns → cells_at (set cells n v) ns ≡ cells_at cells ns
  others_same cells n v [] apart = refl
  others_same cells n v (m ∷ ns) apart = ap₂ (λ (w : Value) (ws : List Value). w ∷ ws) (get_or-set_other cells n m v Null apart.0) (others_same cells n v ns apart.1)

  filled_cells : (ns : List ℕ) (sets : List Domain) (vs : List Value) → AreWithin columns ns → AreApart ns → AreSetsOf columns at cond ns sets → AreItems sets vs → cells_at (filled columns ns vs) ns ≡ vs
  filled_cells [] [] [] within apart are items = refl
  filled_cells [] [] (v ∷ vs) within apart are items = absurd items
  filled_cells [] (s ∷ sets) vs within apart are items = absurd are
  filled_cells (n ∷ ns) [] vs within apart are items = absurd are
  filled_cells (n ∷ ns) (s ∷ sets) [] within apart are items = absurd items
  filled_cells (n ∷ ns) (s ∷ sets) (v ∷ vs) within apart are items =
      let long = as_long columns (filled columns ns vs) (filled_kinds ns sets vs within.1 are.1 items.1) in
      ap₂ (λ (w : Value) (ws : List Value). w ∷ ws)
      (get_or-set_same (filled columns ns vs) n v Null (let below = within.0 in omega (arith, long, below)))
      (others_same (filled columns ns vs) n v ns apart.0 ∙ filled_cells ns sets vs within.1 apart.1 are.1 items.1)

  own_left : (set : Domain) (v : Value) → IsSetOf columns at cond at set → has_in set v ≡ true → may_hold columns at cond v ≡ true
  own_left set v is held =
      sym (ap (λ (t : Bool). if_so t (may_hold columns at cond v) true) (eq-eqb at at refl))
      ∙ (and_parts (is_of_column columns at v) _ (sym (is v) ∙ held)).1

  -- a tuple of the sets is that of some row that is left
  pub row_of : (others : List ℕ) (sets : List Domain) (vs : List Value) → AreWithin columns (at ∷ others) → AreApart (at ∷ others) → AreSetsOf columns at cond (at ∷ others) sets → AreItems sets vs
      → (cells : List Value) × IsLeft columns at cond cells × (cells_at cells (at ∷ others) ≡ vs)
  row_of others [] vs within apart are items = absurd are
  row_of others (s ∷ sets) [] within apart are items = absurd items
  row_of others (s ∷ sets) (v ∷ vs) within apart are items =
      let cells = filled columns (at ∷ others) (v ∷ vs) in
      let long = as_long columns (filled columns others vs) (filled_kinds others sets vs within.1 are.1 items.1) in
      let own : cell_at cells at ≡ v = get_or-set_same (filled columns others vs) at v Null (let below = within.0 in omega (arith, long, below)) in (
        cells,
        record {
          kinds = filled_kinds (at ∷ others) (s ∷ sets) (v ∷ vs) within are items;
          may = ap (may_hold columns at cond) own ∙ own_left s v are.0 items.0;
        },
        filled_cells (at ∷ others) (s ∷ sets) (v ∷ vs) within apart are items,
      )

  left_told : (cells : List Value) (n : ℕ) (t : Bool) → IsLeft columns at cond cells → (n == at) ≡ t → if_so t (may_hold columns at cond (cell_at cells n)) true ≡ true
  left_told cells n true left e = subst (λ (m : ℕ). may_hold columns at cond (cell_at cells m) ≡ true) (sym (eqb-true n at e)) left.may
  left_told cells n false left e = refl

  pub item_of : (n : ℕ) (set : Domain) (cells : List Value) → n < length columns → IsSetOf columns at cond n set → IsLeft columns at cond cells → has_in set (cell_at cells n) ≡ true
  item_of n set cells within is left =
      is (cell_at cells n)
      ∙ and_from (is_of_column columns n (cell_at cells n)) _ (of_column columns n (cell_at cells n) within ∙ kind_told (kind_at columns n) (cell_at cells n) (cell_kind columns cells n left.kinds within))
      (left_told cells n (n == at) left refl)

  -- the tuple of a row that is left is one of the sets
  pub items_of : (ns : List ℕ) (sets : List Domain) (cells : List Value) → AreWithin columns ns → AreSetsOf columns at cond ns sets → IsLeft columns at cond cells → AreItems sets (cells_at cells ns)
  items_of [] [] cells within are left = tt
  items_of [] (s ∷ sets) cells within are left = absurd are
  items_of (n ∷ ns) [] cells within are left = absurd are
  items_of (n ∷ ns) (s ∷ sets) cells within are left = (item_of n s cells within.0 are.0 left, items_of ns sets cells within.1 are.1 left)
