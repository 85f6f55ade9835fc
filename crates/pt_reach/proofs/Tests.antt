-- An atom, where the column has a value, rests on that value and on what the constants come to.
use Rattle.std.proofs.Common.{◌≡◌, ℕ, Bool, true, false, ◌||◌, List, [], ◌∷◌, refl, sym, ap, ap₂, ◌∙◌}
use Rattle.std.specs.Prelude.{IsOk, if◌then◌else◌}
use Rattle.std.specs.declared.cmp.Ordering.{Ordering}
use Rattle.std.specs.declared.cmp.Ordering.TheVariants.{Less, Equal, Greater}
use Rattle.std.specs.Ordering.{ordering_reverse}
use Rattle.std.proofs.lemmas.Bool.{and_parts, or_left, or_right}
use Rattle.pt_value.specs.Value.{value_cmp, value_cmp_total}
use Rattle.pt_value.specs.declared.truth.Truth.{Truth}
use Rattle.pt_value.specs.declared.truth.Truth.TheVariants.{Unknown}
use Rattle.pt_value.specs.declared.value.Kind.{Kind}
use Rattle.pt_value.specs.declared.value.Value.{Value}
use Rattle.pt_value.specs.declared.value.Value.TheVariants.{Null}
use Rattle.pt_ast.specs.declared.table.Column.{Column}
use Rattle.pt_ast.specs.declared.tree.Cmp.{Cmp}
use Rattle.pt_ast.specs.declared.tree.Cmp.TheVariants as cmp
use Rattle.pt_ast.specs.declared.tree.Expr.{Expr}
use Rattle.pt_expr.specs.Found.{column_found, may_be_day}
use Rattle.pt_expr.specs.FoundCond.{alike_verdict}
use Rattle.pt_expr.specs.Truths.{are_dates, compare_truth, compared, holds, is_null, negated, operand, truth_of}
use Rattle.pt_expr.specs.Values.{as_day, value}
use Rattle.pt_place.specs.Fitting.{kind_at}
use Rattle.pt_reach.specs.declared.reach.Reach.{Reach}
use Rattle.pt_reach.specs.May.{if_atom, is_column, is_comparison, is_constant, is_own, is_true, row_at}
use Rattle.pt_reach.specs.Reaching.{IsReach}
use Rattle.pt_reach.specs.Steps.{mirrored}
use Rattle.pt_reach.proofs.Constants.{column_value, constant_value}
use Rattle.pt_reach.proofs.Names.{at_row}
use Rattle.pt_reach.proofs.Typing.{first_like, second_like}

-- ---- sides exchanged

either_way : (a b : Bool) → (a || b) ≡ (b || a)
either_way true true = refl
either_way true false = refl
either_way false true = refl
either_way false false = refl

held_back : (sign : Cmp) (o : Ordering) → holds sign (ordering_reverse o) ≡ holds (mirrored sign) o
held_back cmp.Eq Less = refl
held_back cmp.Eq Equal = refl
held_back cmp.Eq Greater = refl
held_back cmp.Ne Less = refl
held_back cmp.Ne Equal = refl
held_back cmp.Ne Greater = refl
held_back cmp.Lt Less = refl
held_back cmp.Lt Equal = refl
held_back cmp.Lt Greater = refl
held_back cmp.Le Less = refl
held_back cmp.Le Equal = refl
held_back cmp.Le Greater = refl
held_back cmp.Gt Less = refl
held_back cmp.Gt Equal = refl
held_back cmp.Gt Greater = refl
held_back cmp.Ge Less = refl
held_back cmp.Ge Equal = refl
held_back cmp.Ge Greater = refl

compared_back : (sign : Cmp) (k x : Value) → compared sign k x ≡ compared (mirrored sign) x k
compared_back sign k x =
    ap₂ (λ (unknown held : Bool). if unknown then Unknown else truth_of held) (either_way (is_null k) (is_null x))
    (ap (holds sign) (value_cmp_total.antisymm k x) ∙ held_back sign (value_cmp x k))

-- ---- operands where the column has a value

-- the value is its own day, where days are compared
abbrev pub Stays : Bool → Value → Type 0
Stays dates x = dates ≡ true → as_day x ≡ x

pub column_operand : (columns : List Column) (c : ℕ) (dates : Bool) (expr : Expr) (x : Value) → is_column columns c expr ≡ true → Stays dates x → operand columns (row_at c x) dates expr ≡ x
column_operand columns c true expr x own stays = ap as_day (column_value columns (row_at c x) c expr own ∙ at_row c x) ∙ stays refl
column_operand columns c false expr x own stays = column_value columns (row_at c x) c expr own ∙ at_row c x

pub constant_operand : (columns : List Column) (a b : List Value) (dates : Bool) (expr : Expr) → is_constant expr ≡ true → operand columns a dates expr ≡ operand columns b dates expr
constant_operand columns a b true expr constant = ap as_day (constant_value columns a b expr constant)
constant_operand columns a b false expr constant = constant_value columns a b expr constant

module _ (columns : List Column) (c : ℕ) (cells : List Value) (dates : Bool) (x : Value) (stays : Stays dates x) where
  compare_left : (sign : Cmp) (left right : Expr) → dates ≡ are_dates columns (left ∷ right ∷ []) → is_own columns c left right ≡ true
      → compare_truth columns (row_at c x) sign left right ≡ compared sign x (operand columns cells dates right)
  compare_left sign left right e own =
      let both = and_parts (is_column columns c left) (is_constant right) own in
      ap (λ (d : Bool). compared sign (operand columns (row_at c x) d left) (operand columns (row_at c x) d right)) (sym e)
      ∙ ap₂ (compared sign) (column_operand columns c dates left x both.0 stays) (constant_operand columns (row_at c x) cells dates right both.1)

  compare_right : (sign : Cmp) (left right : Expr) → dates ≡ are_dates columns (left ∷ right ∷ []) → is_own columns c right left ≡ true
      → compare_truth columns (row_at c x) sign left right ≡ compared (mirrored sign) x (operand columns cells dates left)
  compare_right sign left right e own =
      let both = and_parts (is_column columns c right) (is_constant left) own in
      ap (λ (d : Bool). compared sign (operand columns (row_at c x) d left) (operand columns (row_at c x) d right)) (sym e)
      ∙ ap₂ (compared sign) (constant_operand columns (row_at c x) cells dates left both.1) (column_operand columns c dates right x both.0 stays)
      ∙ compared_back sign (operand columns cells dates left) x

null_of : (columns : List Column) (c : ℕ) (is_not : Bool) (expr : Expr) (x : Value) → is_column columns c expr ≡ true
    → negated is_not (truth_of (is_null (value columns (row_at c x) expr))) ≡ negated is_not (truth_of (is_null x))
null_of columns c is_not expr x own = ap (λ (v : Value). negated is_not (truth_of (is_null v))) (column_value columns (row_at c x) c expr own ∙ at_row c x)

-- ---- sets of values

module _ {T : Type 0} {order : T → T → Ordering} {is_value : T → Bool} {value_of : T → Value} where
  pub everywhere_else : (reach : Reach T) (is_atom : Bool) (t : Value → Truth) → is_atom ≡ false → IsReach order is_value value_of reach (λ x. true) → IsReach order is_value value_of reach (λ x. if_atom is_atom (t x))
  everywhere_else reach is_atom t e is = record {
    null = is.null ∙ sym (ap (λ (b : Bool). if_atom b (t Null)) e);
    others = λ v h. is.others v h ∙ sym (ap (λ (b : Bool). if_atom b (t (value_of v))) e);
  }

  pub atom_reach : (reach : Reach T) (is_atom : Bool) (s t : Value → Truth) → is_atom ≡ true → t Null ≡ s Null → ((v : T) → t (value_of v) ≡ s (value_of v))
      → IsReach order is_value value_of reach (λ x. is_true (s x)) → IsReach order is_value value_of reach (λ x. if_atom is_atom (t x))
  atom_reach reach is_atom s t e n more is = record {
    null = is.null ∙ sym (ap (λ (b : Bool). if_atom b (t Null)) e ∙ ap is_true n);
    others = λ v h. is.others v h ∙ sym (ap (λ (b : Bool). if_atom b (t (value_of v))) e ∙ ap is_true (more v));
  }

  pub null_reach : (columns : List Column) (c : ℕ) (is_not : Bool) (expr : Expr) (reach : Reach T) → is_column columns c expr ≡ true → IsReach order is_value value_of reach (λ x. is_true (negated is_not (truth_of (is_null x))))
      → IsReach order is_value value_of reach (λ x. if_atom (is_column columns c expr) (negated is_not (truth_of (is_null (value columns (row_at c x) expr)))))
  null_reach columns c is_not expr reach own =
      atom_reach reach (is_column columns c expr) (λ x. negated is_not (truth_of (is_null x))) (λ x. negated is_not (truth_of (is_null (value columns (row_at c x) expr)))) own
      (null_of columns c is_not expr Null own) (λ v. null_of columns c is_not expr (value_of v) own)

  module _ {has_kind : Kind → Bool} (law : (k : Kind) (v : T) → has_kind k ≡ true → may_be_day (column_found k).shape ≡ true → as_day (value_of v) ≡ value_of v)
      (columns : List Column) (c : ℕ) (cells : List Value) (has : has_kind (kind_at columns c) ≡ true) (reach : Reach T) (dates : Bool) where
    pub left_reach : (sign : Cmp) (left right : Expr) → IsOk (alike_verdict columns (left ∷ right ∷ [])) → dates ≡ are_dates columns (left ∷ right ∷ []) → is_own columns c left right ≡ true
        → IsReach order is_value value_of reach (λ x. is_true (compared sign x (operand columns cells dates right)))
        → IsReach order is_value value_of reach (λ x. if_atom (is_comparison columns c left right) (compare_truth columns (row_at c x) sign left right))
    left_reach sign left right ok e own =
        let both = and_parts (is_column columns c left) (is_constant right) own in
        atom_reach reach (is_comparison columns c left right) (λ x. compared sign x (operand columns cells dates right)) (λ x. compare_truth columns (row_at c x) sign left right)
        (or_left (is_own columns c left right) (is_own columns c right left) own)
        (compare_left columns c cells dates Null (λ d. refl) sign left right e own)
        (λ v. compare_left columns c cells dates (value_of v) (λ d. law (kind_at columns c) v has (first_like columns c left both.0 (right ∷ []) ok (sym e ∙ d))) sign left right e own)

    pub right_reach : (sign : Cmp) (left right : Expr) → IsOk (alike_verdict columns (left ∷ right ∷ [])) → dates ≡ are_dates columns (left ∷ right ∷ []) → is_own columns c right left ≡ true
        → IsReach order is_value value_of reach (λ x. is_true (compared (mirrored sign) x (operand columns cells dates left)))
        → IsReach order is_value value_of reach (λ x. if_atom (is_comparison columns c left right) (compare_truth columns (row_at c x) sign left right))
    right_reach sign left right ok e own =
        let both = and_parts (is_column columns c right) (is_constant left) own in
        atom_reach reach (is_comparison columns c left right) (λ x. compared (mirrored sign) x (operand columns cells dates left)) (λ x. compare_truth columns (row_at c x) sign left right)
        (or_right (is_own columns c left right) (is_own columns c right left) own)
        (compare_right columns c cells dates Null (λ d. refl) sign left right e own)
        (λ v. compare_right columns c cells dates (value_of v) (λ d. law (kind_at columns c) v has (second_like columns c right both.0 left [] ok (sym e ∙ d))) sign left right e own)
