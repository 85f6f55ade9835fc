-- The marks of each kind of partitioning tell which partitions are reached.
use Rattle.std.proofs.Common.{◌≡◌, ◌↔◌, ℕ, suc, ◌<◌, arith, Bool, true, false, List, [], ◌∷◌, length, map, All, Option, Some, Ok, refl, sym, ap, subst, ◌∙◌}
use Rattle.std.specs.Prelude.{is_some}
use Rattle.std.proofs.lemmas.Bool.{true≢false}
use Rattle.pt_value.specs.declared.value.Value.{Value}
use Rattle.pt_ast.specs.declared.tree.Cond.{Cond}
use Rattle.pt_ast.specs.declared.tree.Expr.{Expr}
use Rattle.pt_ast.specs.declared.tree.Expr.TheViews.{out-Expr}
use Rattle.pt_ast.specs.declared.table.Column.{Column}
use Rattle.pt_ast.specs.declared.table.PartBy.{PartBy}
use Rattle.pt_ast.specs.declared.table.PartBy.TheVariants as by
use Rattle.pt_ast.specs.declared.table.TableDef.{TableDef}
use Rattle.pt_ast.specs.Bounds.{cells_at, value_of}
use Rattle.pt_ast.specs.Lists.{list_part}
use Rattle.pt_ast.specs.Ranges.{bound_of, range_columns_part, range_part}
use Rattle.pt_ast.specs.StorableDef.{IsStorableDef}
use Rattle.pt_expr.specs.declared.kind.ExprKind.{ExprKind}
use Rattle.pt_expr.specs.Found.{checked, column_found, kind_finding, kind_of, after}
use Rattle.pt_place.specs.Checks.{is_integer}
use Rattle.pt_place.specs.Fitting.{kind_at}
use Rattle.pt_place.specs.Place.{number_of, part_of}
use Rattle.pt_place.specs.Valid.{IsValid, numbers_of}
use Rattle.pt_place.proofs.Positions.{storable_placed}
use Rattle.pt_reach.specs.declared.domain.Domain.{Domain}
use Rattle.pt_reach.specs.Kept.{IsLeft, IsReached, cell_at, first, is_name, level_column}
use Rattle.pt_followed.specs.Marks.{AreMarked, AreReached}
use Rattle.pt_followed.specs.Steps.{AreSetsOf, IsListed, IsMet}
use Rattle.pt_followed.proofs.Checked.{columns_once, columns_rise, integer_list, integer_range, list_once, listed_apart, number_bounds, range_rises, sound_by, sound_values}
use Rattle.pt_followed.proofs.Counting.{marked_as}
use Rattle.pt_followed.proofs.Named.{IsOwn, own_expr, own_number}
use Rattle.pt_followed.proofs.Placed.{integer_value, list_listed, number_placed, placed_alike, range_met}
use Rattle.pt_followed.proofs.Rows.{AreApart, AreWithin, cell_kind}

both : {P Q R : Type 0} → P ↔ Q → Q ↔ R → P ↔ R
both f g = (λ p. g.0 (f.0 p), λ r. f.1 (g.1 r))

-- the first of some
first_is : (numbers : List ℕ) (at : ℕ) → first numbers ≡ Some at → (others : List ℕ) × (numbers ≡ at ∷ others)
first_is [] at e = absurd (true≢false (sym (ap is_some e)))
first_is (n ∷ ns) at e = (ns, let same : n ≡ at = cc in ap (λ (m : ℕ). m ∷ ns) same)

all_within : (columns : List Column) (numbers : List ℕ) → All (λ number. number < length columns) numbers → AreWithin columns numbers
all_within columns [] all = tt
all_within columns (n ∷ ns) all = (all 0 n (omega arith), all_within columns ns (λ k d h. all (suc k) d (omega (arith, h))))

module _ (def : TableDef) (at : ℕ) (cond : Option Cond) (sets : List Domain) (marks : List Bool) (valid : IsValid def) where
  -- what holds of each part, carried to the partitioning
  pub told : (main : PartBy) (P : ℕ → Type 0) → def.by ≡ main → ((i : ℕ) → i < length def.parts → P i ↔ IsReached def.columns at cond (part_of def.columns main def.parts) i) → AreMarked (length def.parts) P marks
      → AreReached def at cond marks
  told main P is same are =
      subst (λ (m : PartBy). AreMarked (length def.parts) (IsReached def.columns at cond (part_of def.columns m def.parts)) marks) (sym is)
      (marked_as (length def.parts) P (IsReached def.columns at cond (part_of def.columns main def.parts)) marks same are)

  -- ---- COLUMNS

  module _ (numbers : List ℕ) (column : first numbers ≡ Some at) (are : AreSetsOf def.columns at cond numbers sets) (within : AreWithin def.columns numbers) (apart : AreApart numbers) where
    abbrev others : List ℕ
    others = (first_is numbers at column).0

    abbrev listed : numbers ≡ at ∷ others
    listed = (first_is numbers at column).1

    range_columns_told : def.by ≡ by.RangeColumns numbers → AreMarked (length def.parts) (IsMet sets (map bound_of def.parts)) marks → AreReached def at cond marks
    range_columns_told is =
        told (by.RangeColumns numbers) (IsMet sets (map bound_of def.parts)) is
        (λ i inside. subst (λ (ns : List ℕ). IsMet sets (map bound_of def.parts) i ↔ IsReached def.columns at cond (λ cells. range_columns_part def.parts (cells_at cells ns)) i) (sym listed)
        (range_met def.columns at cond others sets def.parts (subst (AreWithin def.columns) listed within) (subst AreApart listed apart)
        (subst (λ (ns : List ℕ). AreSetsOf def.columns at cond ns sets) listed are) (columns_rise def valid numbers is) i inside))

    list_columns_told : def.by ≡ by.ListColumns numbers → AreMarked (length def.parts) (IsListed sets def.parts) marks → AreReached def at cond marks
    list_columns_told is =
        told (by.ListColumns numbers) (IsListed sets def.parts) is
        (λ i inside. subst (λ (ns : List ℕ). IsListed sets def.parts i ↔ IsReached def.columns at cond (λ cells. list_part def.parts (cells_at cells ns)) i) (sym listed)
        (list_listed def.columns at cond others sets def.parts (subst (AreWithin def.columns) listed within) (subst AreApart listed apart)
        (subst (λ (ns : List ℕ). AreSetsOf def.columns at cond ns sets) listed are) (columns_once def valid numbers is) i inside))

  module _ (storable : IsStorableDef def) (numbers : List ℕ) where
    placed : (main : PartBy) → def.by ≡ main → numbers_of main ≡ numbers → AreWithin def.columns numbers
    placed main is own = all_within def.columns numbers (subst (λ (ns : List ℕ). All (λ number. number < length def.columns) ns) (ap numbers_of is ∙ own) (storable_placed def storable).by)

    pub range_columns_reached : def.by ≡ by.RangeColumns numbers → level_column def.columns def.by ≡ Some at → AreSetsOf def.columns at cond numbers sets → AreMarked (length def.parts) (IsMet sets (map bound_of def.parts)) marks
        → AreReached def at cond marks
    range_columns_reached is column are =
        range_columns_told numbers (ap (level_column def.columns) (sym is) ∙ column) are (placed (by.RangeColumns numbers) is refl)
        (listed_apart def.columns numbers (sound_by def valid (by.RangeColumns numbers) is)) is

    pub list_columns_reached : def.by ≡ by.ListColumns numbers → level_column def.columns def.by ≡ Some at → AreSetsOf def.columns at cond numbers sets → AreMarked (length def.parts) (IsListed sets def.parts) marks
        → AreReached def at cond marks
    list_columns_reached is column are =
        list_columns_told numbers (ap (level_column def.columns) (sym is) ∙ column) are (placed (by.ListColumns numbers) is refl)
        (listed_apart def.columns numbers (sound_by def valid (by.ListColumns numbers) is)) is

  -- ---- a column alone

  module _ (expr : Expr) (are : AreSetsOf def.columns at cond (at ∷ []) sets) (own : IsOwn def.columns at expr) where
    alone : AreWithin def.columns (at ∷ [])
    alone = (own.within, tt)

    once : AreApart (at ∷ [])
    once = (tt, tt)

    whole_kind : (k : ExprKind) → checked def.columns expr false ≡ Ok k → kind_of (column_found (kind_at def.columns at)).shape ≡ k
    whole_kind k e = let found : Ok (kind_of (column_found (kind_at def.columns at)).shape) ≡ Ok k = sym (ap (λ r. after r (λ f. kind_finding false f.shape)) own.found) ∙ e in cc

    value_same : (k : ExprKind) → checked def.columns expr false ≡ Ok k → is_integer k ≡ true → (cells : List Value) → IsLeft def.columns at cond cells → value_of (number_of def.columns expr cells) ≡ cell_at cells at
    value_same k sound whole cells left =
        ap value_of (own_number def.columns at expr own cells)
        ∙ integer_value (kind_at def.columns at) (cell_at cells at) (ap is_integer (whole_kind k sound) ∙ whole) (cell_kind def.columns cells at left.kinds own.within)

    pub range_told : def.by ≡ by.Range expr → AreMarked (length def.parts) (IsMet sets (map bound_of def.parts)) marks → AreReached def at cond marks
    range_told is =
        let whole = integer_range def valid expr is in
        told (by.Range expr) (IsMet sets (map bound_of def.parts)) is
        (λ i inside. both (range_met def.columns at cond [] sets def.parts alone once are (range_rises def valid expr is) i inside)
        (placed_alike def.columns at cond (λ cells. range_columns_part def.parts (cells_at cells (at ∷ []))) (λ cells. range_part def.parts (number_of def.columns expr cells)) i
        (λ cells left. number_placed def.parts (number_of def.columns expr cells) (number_bounds expr def.parts (sound_values def valid (by.Range expr) is))
        ∙ ap (λ (v : Value). range_columns_part def.parts (v ∷ [])) (value_same whole.0 whole.1 whole.2 cells left))))

    pub list_told : def.by ≡ by.List expr → AreMarked (length def.parts) (IsListed sets def.parts) marks → AreReached def at cond marks
    list_told is =
        let whole = integer_list def valid expr is in
        told (by.List expr) (IsListed sets def.parts) is
        (λ i inside. both (list_listed def.columns at cond [] sets def.parts alone once are (list_once def valid expr is) i inside)
        (placed_alike def.columns at cond (λ cells. list_part def.parts (cells_at cells (at ∷ []))) (λ cells. list_part def.parts (value_of (number_of def.columns expr cells) ∷ [])) i
        (λ cells left. ap (λ (v : Value). list_part def.parts (v ∷ [])) (value_same whole.0 whole.1 whole.2 cells left))))

  pub own_range_reached : (expr : Expr) → def.by ≡ by.Range expr → is_name (out-Expr expr) ≡ true → level_column def.columns def.by ≡ Some at → AreSetsOf def.columns at cond (at ∷ []) sets
      → AreMarked (length def.parts) (IsMet sets (map bound_of def.parts)) marks → AreReached def at cond marks
  own_range_reached expr is name column are = range_told expr are (own_expr def.columns at expr name (ap (level_column def.columns) (sym is) ∙ column)) is

  pub own_list_reached : (expr : Expr) → def.by ≡ by.List expr → is_name (out-Expr expr) ≡ true → level_column def.columns def.by ≡ Some at → AreSetsOf def.columns at cond (at ∷ []) sets
      → AreMarked (length def.parts) (IsListed sets def.parts) marks → AreReached def at cond marks
  own_list_reached expr is name column are = list_told expr are (own_expr def.columns at expr name (ap (level_column def.columns) (sym is) ∙ column)) is
