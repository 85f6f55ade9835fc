-- The marks of a partitioning over YEAR or TO_DAYS of its column tell which partitions are reached.
use Rattle.std.proofs.Common.{◌≡◌, ℕ, ◌<◌, Bool, true, false, List, [], ◌∷◌, length, map, Option, Some, None, Ok, refl, sym, ap, ◌∙◌}
use Rattle.std.specs.Prelude.{cond, is_some}
use Rattle.std.proofs.lemmas.Bool.{false≢true, true≢false, and_parts}
use Rattle.pt_value.specs.declared.value.Value.{Value}
use Rattle.pt_value.specs.declared.value.Kind.{Kind}
use Rattle.pt_value.specs.declared.value.Kind.TheVariants as kind
use Rattle.pt_ast.specs.declared.tree.Cond.{Cond}
use Rattle.pt_ast.specs.declared.tree.Expr.{Expr}
use Rattle.pt_ast.specs.declared.tree.Expr.TheOpen.{Expr-F}
use Rattle.pt_ast.specs.declared.tree.Expr.TheViews.{out-Expr}
use Rattle.pt_ast.specs.declared.tree.Func.{Func}
use Rattle.pt_ast.specs.declared.tree.Func.TheVariants as func
use Rattle.pt_ast.specs.declared.table.PartBy.TheVariants as by
use Rattle.pt_ast.specs.declared.table.PartDef.{PartDef}
use Rattle.pt_ast.specs.declared.table.TableDef.{TableDef}
use Rattle.pt_ast.specs.Bounds.{value_of}
use Rattle.pt_ast.specs.Lists.{list_part}
use Rattle.pt_ast.specs.Ranges.{bound_of, range_columns_part, range_part}
use Rattle.pt_expr.specs.declared.kind.ExprKind.{ExprKind}
use Rattle.pt_expr.specs.Found.{after, call_finding, checked, column_found, kind_finding}
use Rattle.pt_place.specs.Fitting.{kind_at}
use Rattle.pt_place.specs.Place.{number_of}
use Rattle.pt_place.specs.Valid.{IsValid}
use Rattle.pt_interval.specs.Counting.{AreAll}
use Rattle.pt_reach.specs.declared.domain.Domain.{Domain}
use Rattle.pt_reach.specs.Domains.{has_in, is_day, is_of, is_of_column}
use Rattle.pt_reach.specs.Kept.{IsLeft, IsReached, cell_at, follows_all, is_followed, is_name, is_year_or_days, level_column}
use Rattle.pt_followed.specs.Marks.{AreMarked, AreReached}
use Rattle.pt_followed.specs.Steps.{IsListedBy, IsMetBy, IsNumberBound, IsSetOf, called, come_to}
use Rattle.pt_followed.proofs.Checked.{integer_list, integer_range, list_once, number_bounds, range_rises, sound_values}
use Rattle.pt_followed.proofs.Comings.{listed_back, listed_to}
use Rattle.pt_followed.proofs.Named.{IsCalled, called_expr, called_number}
use Rattle.pt_followed.proofs.Placed.{met_placed, number_placed, placed_met}
use Rattle.pt_followed.proofs.Rows.{item_of, of_column, row_of}
use Rattle.pt_followed.proofs.Whole.{told}

-- ---- which function

-- a followed expression that is no call is a column
pub own_named : (x : Expr-F Expr) → is_followed x ≡ true → None ≡ called x → is_name x ≡ true
own_named (Expr-F.Number n) h e = absurd (false≢true h)
own_named (Expr-F.Text bytes) h e = absurd (false≢true h)
own_named (Expr-F.Hex bytes) h e = absurd (false≢true h)
own_named (Expr-F.Date day) h e = absurd (false≢true h)
own_named Expr-F.Null h e = absurd (false≢true h)
own_named (Expr-F.Column name) h e = refl
own_named (Expr-F.Neg part) h e = absurd (false≢true h)
own_named (Expr-F.Sum parts) h e = absurd (false≢true h)
own_named (Expr-F.Product first parts) h e = absurd (false≢true h)
own_named (Expr-F.Call f part) h e = absurd (true≢false (sym (ap is_some e)))

chosen : (b c : Bool) → cond b c false ≡ true → b ≡ true
chosen true c e = refl
chosen false c e = absurd (false≢true e)

-- and one that is a call is of YEAR or TO_DAYS
followed_func : (x : Expr-F Expr) (f : Func) → is_followed x ≡ true → called x ≡ Some f → is_year_or_days f ≡ true
followed_func (Expr-F.Number n) f h e = absurd (false≢true h)
followed_func (Expr-F.Text bytes) f h e = absurd (false≢true h)
followed_func (Expr-F.Hex bytes) f h e = absurd (false≢true h)
followed_func (Expr-F.Date day) f h e = absurd (false≢true h)
followed_func Expr-F.Null f h e = absurd (false≢true h)
followed_func (Expr-F.Column name) f h e = absurd (true≢false (sym (ap is_some e)))
followed_func (Expr-F.Neg part) f h e = absurd (false≢true h)
followed_func (Expr-F.Sum parts) f h e = absurd (false≢true h)
followed_func (Expr-F.Product first parts) f h e = absurd (false≢true h)
followed_func (Expr-F.Call g part) f h e = ap is_year_or_days (let same : f ≡ g = cc in same) ∙ chosen (is_year_or_days g) (is_name (out-Expr part)) h

-- ---- its column is one of days

day_kind : (f : Func) (k : Kind) (e : ExprKind) (v : Value) → is_year_or_days f ≡ true → after (call_finding f (column_found k)) (λ found. kind_finding false found.shape) ≡ Ok e → is_of k v ≡ true → is_day v ≡ true
day_kind func.Abs k e v own sound is = absurd (false≢true own)
day_kind func.Month k e v own sound is = absurd (false≢true own)
day_kind func.DayOfMonth k e v own sound is = absurd (false≢true own)
day_kind func.DayOfYear k e v own sound is = absurd (false≢true own)
day_kind func.DayOfWeek k e v own sound is = absurd (false≢true own)
day_kind func.Weekday k e v own sound is = absurd (false≢true own)
day_kind func.Quarter k e v own sound is = absurd (false≢true own)
day_kind func.Year kind.Int e v own sound is = absurd (cc)
day_kind func.Year kind.BigInt e v own sound is = absurd (cc)
day_kind func.Year kind.Date e v own sound is = is
day_kind func.Year (kind.Binary most) e v own sound is = absurd (cc)
day_kind func.ToDays kind.Int e v own sound is = absurd (cc)
day_kind func.ToDays kind.BigInt e v own sound is = absurd (cc)
day_kind func.ToDays kind.Date e v own sound is = is
day_kind func.ToDays (kind.Binary most) e v own sound is = absurd (cc)

module _ (def : TableDef) (at : ℕ) (condition : Option Cond) (set : Domain) (valid : IsValid def) (expr : Expr) (f : Func) (followed : is_followed (out-Expr expr) ≡ true) (is : called (out-Expr expr) ≡ Some f)
    (own : IsCalled def.columns at f expr) (are : IsSetOf def.columns at condition at set) where
  day_in : (k : ExprKind) → checked def.columns expr false ≡ Ok k → (v : Value) → has_in set v ≡ true → is_day v ≡ true
  day_in k sound v held =
      let of = sym (of_column def.columns at v own.within) ∙ (and_parts (is_of_column def.columns at v) _ (sym (are v) ∙ held)).0 in
      day_kind f (kind_at def.columns at) k v (followed_func (out-Expr expr) f followed is) (sym (ap (λ r. after r (λ found. kind_finding false found.shape)) own.found) ∙ sound) of

  come_is : (cells : List Value) → value_of (number_of def.columns expr cells) ≡ come_to (Some f) (cell_at cells at)
  come_is cells = ap value_of (called_number def.columns at expr f own cells)

  row_with : (v : Value) → has_in set v ≡ true → (cells : List Value) × IsLeft def.columns at condition cells × (cell_at cells at ≡ v)
  row_with v held =
      let row = row_of def.columns at condition [] (set ∷ []) (v ∷ []) (own.within, tt) (tt, tt) (are, tt) (held, tt) in
      (row.0, row.1, let same = row.2 in let e : cell_at row.0 at ≡ v = cc in e)

  module _ (marks : List Bool) where
    range_by : def.by ≡ by.Range expr → AreAll (λ (part : PartDef). IsNumberBound (bound_of part)) def.parts → AreMarked (length def.parts) (IsMetBy (come_to (Some f)) set (map bound_of def.parts)) marks → AreReached def at condition marks
    range_by kind numbers = told def at condition (set ∷ []) marks valid (by.Range expr) (IsMetBy (come_to (Some f)) set (map bound_of def.parts)) kind (λ i inside. (to i inside, back i inside))
      where
        placed : (cells : List Value) → range_part def.parts (number_of def.columns expr cells) ≡ range_columns_part def.parts (come_to (Some f) (cell_at cells at) ∷ [])
        placed cells = number_placed def.parts (number_of def.columns expr cells) numbers ∙ ap (λ (w : Value). range_columns_part def.parts (w ∷ [])) (come_is cells)

        to : (i : ℕ) → i < length def.parts → IsMetBy (come_to (Some f)) set (map bound_of def.parts) i → IsReached def.columns at condition (λ cells. range_part def.parts (number_of def.columns expr cells)) i
        to i inside (v, held, from, below) =
            let row = row_with v held in (
              row.0,
              row.1,
              placed row.0 ∙ ap (λ (w : Value). range_columns_part def.parts (come_to (Some f) w ∷ [])) row.2
                  ∙ met_placed def.parts (come_to (Some f) v ∷ []) i (range_rises def valid expr kind) inside from below,
            )

        back : (i : ℕ) → i < length def.parts → IsReached def.columns at condition (λ cells. range_part def.parts (number_of def.columns expr cells)) i → IsMetBy (come_to (Some f)) set (map bound_of def.parts) i
        back i inside (cells, left, e) =
            let both = placed_met def.parts (come_to (Some f) (cell_at cells at) ∷ []) i (sym (placed cells) ∙ e) inside in
            (cell_at cells at, item_of def.columns at condition at set cells own.within are left, both.0, both.1)

    list_by : def.by ≡ by.List expr → AreMarked (length def.parts) (IsListedBy (come_to (Some f)) set def.parts) marks → AreReached def at condition marks
    list_by kind = told def at condition (set ∷ []) marks valid (by.List expr) (IsListedBy (come_to (Some f)) set def.parts) kind (λ i inside. (to i inside, back i inside))
      where
        placed : (cells : List Value) → list_part def.parts (value_of (number_of def.columns expr cells) ∷ []) ≡ list_part def.parts (come_to (Some f) (cell_at cells at) ∷ [])
        placed cells = ap (λ (w : Value). list_part def.parts (w ∷ [])) (come_is cells)

        to : (i : ℕ) → i < length def.parts → IsListedBy (come_to (Some f)) set def.parts i → IsReached def.columns at condition (λ cells. list_part def.parts (value_of (number_of def.columns expr cells) ∷ [])) i
        to i inside listed =
            let found = listed_to (come_to (Some f)) set def.parts i (list_once def valid expr kind) inside listed in
            let row = row_with found.0 found.1 in
            (row.0, row.1, placed row.0 ∙ ap (λ (w : Value). list_part def.parts (come_to (Some f) w ∷ [])) row.2 ∙ found.2)

        back : (i : ℕ) → i < length def.parts → IsReached def.columns at condition (λ cells. list_part def.parts (value_of (number_of def.columns expr cells) ∷ [])) i → IsListedBy (come_to (Some f)) set def.parts i
        back i inside (cells, left, e) =
            listed_back (come_to (Some f)) set def.parts i (cell_at cells at) inside (item_of def.columns at condition at set cells own.within are left) (sym (placed cells) ∙ e)

-- ---- what the code asks

module _ (def : TableDef) (at : ℕ) (condition : Option Cond) (valid : IsValid def) (expr : Expr) (f : Func) (column : level_column def.columns def.by ≡ Some at) (followed : follows_all def.by ≡ true) (is : called (out-Expr expr) ≡ Some f) where
  module _ (kind : def.by ≡ by.Range expr) where
    range_followed : is_followed (out-Expr expr) ≡ true
    range_followed = sym (ap follows_all kind) ∙ followed

    range_own : IsCalled def.columns at f expr
    range_own = called_expr def.columns at expr f range_followed is (ap (level_column def.columns) (sym kind) ∙ column)

    pub range_func : is_year_or_days f ≡ true
    range_func = followed_func (out-Expr expr) f range_followed is

    pub range_numbers : AreAll (λ (part : PartDef). IsNumberBound (bound_of part)) def.parts
    range_numbers = number_bounds expr def.parts (sound_values def valid (by.Range expr) kind)

    pub range_days : (set : Domain) → IsSetOf def.columns at condition at set → (v : Value) → has_in set v ≡ true → is_day v ≡ true
    range_days set are = let whole = integer_range def valid expr kind in day_in def at condition set valid expr f range_followed is range_own are whole.0 whole.1

    pub range_reached : (set : Domain) (marks : List Bool) → IsSetOf def.columns at condition at set → AreMarked (length def.parts) (IsMetBy (come_to (Some f)) set (map bound_of def.parts)) marks → AreReached def at condition marks
    range_reached set marks are = range_by def at condition set valid expr f range_followed is range_own are marks kind range_numbers

  module _ (kind : def.by ≡ by.List expr) where
    list_followed : is_followed (out-Expr expr) ≡ true
    list_followed = sym (ap follows_all kind) ∙ followed

    list_own : IsCalled def.columns at f expr
    list_own = called_expr def.columns at expr f list_followed is (ap (level_column def.columns) (sym kind) ∙ column)

    pub list_func : is_year_or_days f ≡ true
    list_func = followed_func (out-Expr expr) f list_followed is

    pub list_days : (set : Domain) → IsSetOf def.columns at condition at set → (v : Value) → has_in set v ≡ true → is_day v ≡ true
    list_days set are = let whole = integer_list def valid expr kind in day_in def at condition set valid expr f list_followed is list_own are whole.0 whole.1

    pub list_reached : (set : Domain) (marks : List Bool) → IsSetOf def.columns at condition at set → AreMarked (length def.parts) (IsListedBy (come_to (Some f)) set def.parts) marks → AreReached def at condition marks
    list_reached set marks are = list_by def at condition set valid expr f list_followed is list_own are marks kind
