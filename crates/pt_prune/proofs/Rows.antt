-- Rows of NULLs but for one cell, and the values of a column.
use Rattle.std.proofs.Common.{◌≡◌, ℕ, zero, suc, ◌<◌, arith, Bool, true, List, [], ◌∷◌, length, map, Option, refl, sym, ap, ◌∙◌}
use Rattle.std.specs.Prelude.{if◌then◌else◌}
use Rattle.std.proofs.lemmas.Bool.{and_from, and_parts, false≢true, lt-ltb}
use Rattle.pt_value.specs.declared.value.Value.{Value}
use Rattle.pt_value.specs.declared.value.Value.TheVariants.{Null, Int, Day, Bytes}
use Rattle.pt_value.specs.declared.value.Kind.{Kind}
use Rattle.pt_value.specs.declared.value.Kind.TheVariants as kind
use Rattle.pt_ast.specs.declared.table.Column.{Column}
use Rattle.pt_ast.specs.declared.tree.Cond.{Cond}
use Rattle.pt_expr.specs.Truths.{is_null}
use Rattle.pt_expr.specs.Columns.{AreFitting}
use Rattle.pt_value.specs.Fits.{Fits}
use Rattle.pt_place.specs.Fitting.{kind_at}
use Rattle.pt_interval.specs.Instances.{is_int_read, is_int_told}
use Rattle.pt_reach.specs.Domains.{is_of, is_of_column}
use Rattle.pt_reach.specs.Kept.{AreOfKinds, IsLeft, IsOfKind, cell_at}
use Rattle.pt_reach.specs.May.{may_hold}
use Rattle.pt_prune.specs.Marks.{is_left, row_with}

-- ---- values of a kind

of_kind : (k : Kind) (v : Value) → is_of k v ≡ true → IsOfKind k v
of_kind k Null e = tt
of_kind kind.Int (Int n) e = is_int_read _ _ n e
of_kind kind.Int (Day day) e = absurd (false≢true e)
of_kind kind.Int (Bytes bytes) e = absurd (false≢true e)
of_kind kind.BigInt (Int n) e = is_int_read _ _ n e
of_kind kind.BigInt (Day day) e = absurd (false≢true e)
of_kind kind.BigInt (Bytes bytes) e = absurd (false≢true e)
of_kind kind.Date (Int n) e = absurd (false≢true e)
of_kind kind.Date (Day day) e = is_int_read _ _ day e
of_kind kind.Date (Bytes bytes) e = absurd (false≢true e)
of_kind (kind.Binary most) (Int n) e = absurd (false≢true e)
of_kind (kind.Binary most) (Day day) e = absurd (false≢true e)
of_kind (kind.Binary most) (Bytes bytes) e = e

null_of : (k : Kind) → is_of k Null ≡ true
null_of kind.Int = refl
null_of kind.BigInt = refl
null_of kind.Date = refl
null_of (kind.Binary most) = refl

to_kind : (k : Kind) (v : Value) → IsOfKind k v → is_of k v ≡ true
to_kind k Null h = null_of k
to_kind kind.Int (Int n) h = is_int_told _ _ n h.0 h.1
to_kind kind.Int (Day day) h = absurd h
to_kind kind.Int (Bytes bytes) h = absurd h
to_kind kind.BigInt (Int n) h = is_int_told _ _ n h.0 h.1
to_kind kind.BigInt (Day day) h = absurd h
to_kind kind.BigInt (Bytes bytes) h = absurd h
to_kind kind.Date (Int n) h = absurd h
to_kind kind.Date (Day day) h = is_int_told _ _ day h.0 h.1
to_kind kind.Date (Bytes bytes) h = absurd h
to_kind (kind.Binary most) (Int n) h = absurd h
to_kind (kind.Binary most) (Day day) h = absurd h
to_kind (kind.Binary most) (Bytes bytes) h = h

-- ---- rows

nulls_kinds : (columns : List Column) → AreOfKinds columns (map (λ (column : Column). Null) columns)
nulls_kinds [] = tt
nulls_kinds (column ∷ columns) = (tt, nulls_kinds columns)

kinds_with : (columns : List Column) (c : ℕ) (v : Value) → c < length columns → is_of (kind_at columns c) v ≡ true → AreOfKinds columns (row_with columns c v)
kinds_with [] c v within e = absurd (omega (arith, within))
kinds_with (column ∷ columns) zero v within e = (of_kind column.kind v e, nulls_kinds columns)
kinds_with (column ∷ columns) (suc c) v within e = (tt, kinds_with columns c v (omega (arith, within)) e)

kinds_at : (columns : List Column) (cells : List Value) (c : ℕ) → c < length columns → AreOfKinds columns cells → IsOfKind (kind_at columns c) (cell_at cells c)
kinds_at [] cells c within kinds = absurd (omega (arith, within))
kinds_at (column ∷ columns) [] c within kinds = absurd kinds
kinds_at (column ∷ columns) (cell ∷ cells) zero within kinds = kinds.0
kinds_at (column ∷ columns) (cell ∷ cells) (suc c) within kinds = kinds_at columns cells c (omega (arith, within)) kinds.1

nulls_fitting : (columns : List Column) → AreFitting columns (map (λ (column : Column). Null) columns)
nulls_fitting [] = tt
nulls_fitting (column ∷ columns) = (tt, nulls_fitting columns)

-- a value that its column takes
pub fitting_with : (columns : List Column) (c : ℕ) (v : Value) → c < length columns → Fits (kind_at columns c) v → AreFitting columns (row_with columns c v)
fitting_with [] c v within fits = absurd (omega (arith, within))
fitting_with (column ∷ columns) zero v within fits = (fits, nulls_fitting columns)
fitting_with (column ∷ columns) (suc c) v within fits = (tt, fitting_with columns c v (omega (arith, within)) fits)

pub cell_with : (columns : List Column) (c : ℕ) (v : Value) → c < length columns → cell_at (row_with columns c v) c ≡ v
cell_with [] c v within = absurd (omega (arith, within))
cell_with (column ∷ columns) zero v within = refl
cell_with (column ∷ columns) (suc c) v within = cell_with columns c v (omega (arith, within))

-- ---- what a condition leaves

module _ (columns : List Column) (c : ℕ) (cond : Option Cond) (within : c < length columns) where
  inside : (v : Value) → is_of_column columns c v ≡ is_of (kind_at columns c) v
  inside v = ap (λ (b : Bool). if b then is_of (kind_at columns c) v else is_null v) (lt-ltb c (length columns) within)

  pub row_left : (v : Value) → is_left columns c cond v ≡ true → IsLeft columns c cond (row_with columns c v)
  row_left v e =
      let both = and_parts (is_of_column columns c v) (may_hold columns c cond v) e in
      record {
        kinds = kinds_with columns c v within (sym (inside v) ∙ both.0);
        may = ap (may_hold columns c cond) (cell_with columns c v within) ∙ both.1;
      }

  pub cell_left : (cells : List Value) → IsLeft columns c cond cells → is_left columns c cond (cell_at cells c) ≡ true
  cell_left cells left =
      and_from (is_of_column columns c (cell_at cells c)) (may_hold columns c cond (cell_at cells c))
      (inside (cell_at cells c) ∙ to_kind (kind_at columns c) (cell_at cells c) (kinds_at columns cells c within left.kinds)) left.may
