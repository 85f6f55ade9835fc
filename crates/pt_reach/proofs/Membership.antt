-- IN and BETWEEN of the column itself and constants: where they are TRUE.
use Rattle.std.proofs.Common.{◌≡◌, ℕ, ◌+◌, ◌<◌, ◌≤◌, Bool, true, false, not, ◌&&◌, ◌||◌, List, [], ◌∷◌, ◌++◌, drop, length, get_or, map, refl, sym, ap, ap₂, subst, ◌∙◌}
use Rattle.std.specs.Prelude.{IsOk, if◌then◌else◌}
use Rattle.std.specs.List.{list_all, list_any}
use Rattle.std.specs.declared.cmp.Ordering.{Ordering}
use Rattle.std.specs.declared.cmp.Ordering.TheVariants.{Less, Equal, Greater}
use Rattle.std.specs.Ordering.{is_eq, is_ge, is_gt, is_le, is_lt}
use Rattle.std.proofs.lemmas.Bool.{and_parts, false≢true, true≢false}
use Rattle.std.proofs.lemmas.List.{at_drop_all, at_drop_more}
use Rattle.std.proofs.lemmas.List.Folds.{list_any-append}
use Rattle.pt_value.specs.Truth.{least, turned}
use Rattle.pt_value.specs.Value.{value_cmp}
use Rattle.pt_value.specs.declared.truth.Truth.{Truth}
use Rattle.pt_value.specs.declared.truth.Truth.TheVariants.{False, Unknown, True}
use Rattle.pt_value.specs.declared.value.Kind.{Kind}
use Rattle.pt_value.specs.declared.value.Value.{Value}
use Rattle.pt_value.specs.declared.value.Value.TheVariants.{Null}
use Rattle.pt_ast.specs.declared.table.Column.{Column}
use Rattle.pt_ast.specs.declared.tree.Cmp.{Cmp}
use Rattle.pt_ast.specs.declared.tree.Cmp.TheVariants as cmp
use Rattle.pt_ast.specs.declared.tree.Expr.{Expr}
use Rattle.pt_expr.specs.Found.{column_found, may_be_day}
use Rattle.pt_expr.specs.FoundCond.{alike_verdict}
use Rattle.pt_expr.specs.Truths.{among, among_truth, are_dates, between, between_truth, compared, equals, is_null, negated, operand, truth_of}
use Rattle.pt_expr.specs.Values.{as_day}
use Rattle.pt_place.specs.Fitting.{kind_at}
use Rattle.pt_interval.specs.Spans.{IsSet, has}
use Rattle.pt_interval.specs.declared.span.Span.{Span}
use Rattle.pt_reach.specs.declared.reach.Reach.{Reach}
use Rattle.pt_reach.specs.May.{if_atom, is_between_constants, is_column, is_constant, is_in_constants, is_true, row_at}
use Rattle.pt_reach.specs.Reaching.{IsReach}
use Rattle.pt_reach.specs.Steps.{has_some}
use Rattle.pt_reach.proofs.Folding.{or_none, or_one}
use Rattle.pt_reach.proofs.Tests.{Stays, atom_reach, column_operand, constant_operand}
use Rattle.pt_reach.proofs.Truths.{true_both}
use Rattle.pt_reach.proofs.Typing.{first_like}

-- ---- equal to one of a list

equal_cases : (a b t : Bool) → is_true (if a || b then Unknown else truth_of t) ≡ (not a && not b && t)
equal_cases true true true = refl
equal_cases true true false = refl
equal_cases true false true = refl
equal_cases true false false = refl
equal_cases false true true = refl
equal_cases false true false = refl
equal_cases false false true = refl
equal_cases false false false = refl

pub equal_true : (x k : Value) → is_true (compared cmp.Eq x k) ≡ equals x k
equal_true x k = equal_cases (is_null x) (is_null k) (is_eq (value_cmp x k))

among_cases : (t u : Bool) → is_true (if t then True else (if u then Unknown else False)) ≡ t
among_cases true u = refl
among_cases false true = refl
among_cases false false = refl

not_cases : (t u : Bool) → is_true (turned (if t then True else (if u then Unknown else False))) ≡ (not t && not u)
not_cases true u = refl
not_cases false true = refl
not_cases false false = refl

pub among_true : (x : Value) (items : List Value) → is_true (among x items) ≡ list_any (equals x) items
among_true x items = among_cases (list_any (equals x) items) (is_null x || list_any is_null items)

null_equals : (items : List Value) → list_any (equals Null) items ≡ false
null_equals [] = refl
null_equals (item ∷ items) = null_equals items

pub null_among : (items : List Value) → is_true (among Null items) ≡ false
null_among items = among_true Null items ∙ null_equals items

and_none : (t : Bool) → (t && false) ≡ false
and_none true = refl
and_none false = refl

and_all : (t : Bool) → (t && true) ≡ t
and_all true = refl
and_all false = refl

or_all : (t : Bool) → (t || true) ≡ true
or_all true = refl
or_all false = refl

pub null_not_among : (items : List Value) → is_true (turned (among Null items)) ≡ false
null_not_among items = not_cases (list_any (equals Null) items) true ∙ and_none (not (list_any (equals Null) items))

-- where an item is NULL no value is told apart from it
pub none_not_among : (x : Value) (items : List Value) → list_any is_null items ≡ true → is_true (turned (among x items)) ≡ false
none_not_among x items null =
    not_cases (list_any (equals x) items) (is_null x || list_any is_null items)
    ∙ ap (λ (u : Bool). not (list_any (equals x) items) && not u) (ap (λ (b : Bool). is_null x || b) null ∙ or_all (is_null x))
    ∙ and_none (not (list_any (equals x) items))

pub not_among : (x : Value) (items : List Value) → is_null x ≡ false → list_any is_null items ≡ false → is_true (turned (among x items)) ≡ not (list_any (equals x) items)
not_among x items some none =
    not_cases (list_any (equals x) items) (is_null x || list_any is_null items)
    ∙ ap₂ (λ (a b : Bool). not (list_any (equals x) items) && not (a || b)) some none
    ∙ and_all (not (list_any (equals x) items))

-- ---- between two

pub between_true : (x l h : Value) → is_true (between x l h) ≡ (is_true (compared cmp.Ge x l) && is_true (compared cmp.Le x h))
between_true x l h = true_both (compared cmp.Ge x l) (compared cmp.Le x h)

ge_turned : (unknown : Bool) (o : Ordering) → turned (if unknown then Unknown else truth_of (is_ge o)) ≡ (if unknown then Unknown else truth_of (is_lt o))
ge_turned true o = refl
ge_turned false Less = refl
ge_turned false Equal = refl
ge_turned false Greater = refl

le_turned : (unknown : Bool) (o : Ordering) → turned (if unknown then Unknown else truth_of (is_le o)) ≡ (if unknown then Unknown else truth_of (is_gt o))
le_turned true o = refl
le_turned false Less = refl
le_turned false Equal = refl
le_turned false Greater = refl

turned_both : (a b : Truth) → is_true (turned (least a b)) ≡ (is_true (turned a) || is_true (turned b))
turned_both False False = refl
turned_both False Unknown = refl
turned_both False True = refl
turned_both Unknown False = refl
turned_both Unknown Unknown = refl
turned_both Unknown True = refl
turned_both True False = refl
turned_both True Unknown = refl
turned_both True True = refl

pub apart_true : (x l h : Value) → is_true (turned (between x l h)) ≡ (is_true (compared cmp.Lt x l) || is_true (compared cmp.Gt x h))
apart_true x l h =
    turned_both (compared cmp.Ge x l) (compared cmp.Le x h)
    ∙ ap₂ (λ (a b : Truth). is_true a || is_true b) (ge_turned (is_null x || is_null l) (value_cmp x l)) (le_turned (is_null x || is_null h) (value_cmp x h))

-- ---- where the column has a value

constant_operands : (columns : List Column) (a b : List Value) (dates : Bool) (list : List Expr) → list_all is_constant list ≡ true → map (operand columns a dates) list ≡ map (operand columns b dates) list
constant_operands columns a b dates [] all = refl
constant_operands columns a b dates (expr ∷ list) all =
    let both = and_parts (is_constant expr) (list_all is_constant list) all in
    ap₂ (λ (v : Value) (vs : List Value). v ∷ vs) (constant_operand columns a b dates expr both.0) (constant_operands columns a b dates list both.1)

module _ (columns : List Column) (c : ℕ) (cells : List Value) (dates : Bool) (x : Value) (stays : Stays dates x) where
  among_of : (expr : Expr) (list : List Expr) → dates ≡ are_dates columns (expr ∷ list) → is_in_constants columns c expr list ≡ true
      → among_truth columns (row_at c x) expr list ≡ among x (map (operand columns cells dates) list)
  among_of expr list e atom =
      let both = and_parts (is_column columns c expr) (list_all is_constant list) atom in
      ap (λ (d : Bool). among (operand columns (row_at c x) d expr) (map (operand columns (row_at c x) d) list)) (sym e)
      ∙ ap₂ among (column_operand columns c dates expr x both.0 stays) (constant_operands columns (row_at c x) cells dates list both.1)

  between_of : (expr low high : Expr) → dates ≡ are_dates columns (expr ∷ low ∷ high ∷ []) → is_between_constants columns c expr low high ≡ true
      → between_truth columns (row_at c x) expr low high ≡ between x (operand columns cells dates low) (operand columns cells dates high)
  between_of expr low high e atom =
      let both = and_parts (is_column columns c expr) (is_constant low && is_constant high) atom in
      let ends = and_parts (is_constant low) (is_constant high) both.1 in
      ap (λ (d : Bool). between (operand columns (row_at c x) d expr) (operand columns (row_at c x) d low) (operand columns (row_at c x) d high)) (sym e)
      ∙ ap (λ (y : Value). between y (operand columns (row_at c x) dates low) (operand columns (row_at c x) dates high)) (column_operand columns c dates expr x both.0 stays)
      ∙ ap₂ (between x) (constant_operand columns (row_at c x) cells dates low ends.0) (constant_operand columns (row_at c x) cells dates high ends.1)

-- ---- sets of values

module _ {T : Type 0} {order : T → T → Ordering} {is_value : T → Bool} {value_of : T → Value} {has_kind : Kind → Bool}
    (law : (k : Kind) (v : T) → has_kind k ≡ true → may_be_day (column_found k).shape ≡ true → as_day (value_of v) ≡ value_of v)
    (columns : List Column) (c : ℕ) (cells : List Value) (has : has_kind (kind_at columns c) ≡ true) (reach : Reach T) (dates : Bool) where
  pub in_is : (negate : Bool) (expr : Expr) (list : List Expr) → IsOk (alike_verdict columns (expr ∷ list)) → dates ≡ are_dates columns (expr ∷ list) → is_in_constants columns c expr list ≡ true
      → IsReach order is_value value_of reach (λ x. is_true (negated negate (among x (map (operand columns cells dates) list))))
      → IsReach order is_value value_of reach (λ x. if_atom (is_in_constants columns c expr list) (negated negate (among_truth columns (row_at c x) expr list)))
  in_is negate expr list ok e atom =
      let own = (and_parts (is_column columns c expr) (list_all is_constant list) atom).0 in
      atom_reach reach (is_in_constants columns c expr list) (λ x. negated negate (among x (map (operand columns cells dates) list))) (λ x. negated negate (among_truth columns (row_at c x) expr list)) atom
      (ap (negated negate) (among_of columns c cells dates Null (λ d. refl) expr list e atom))
      (λ v. ap (negated negate) (among_of columns c cells dates (value_of v) (λ d. law (kind_at columns c) v has (first_like columns c expr own list ok (sym e ∙ d))) expr list e atom))

  pub between_is : (negate : Bool) (expr low high : Expr) → IsOk (alike_verdict columns (expr ∷ low ∷ high ∷ [])) → dates ≡ are_dates columns (expr ∷ low ∷ high ∷ []) → is_between_constants columns c expr low high ≡ true
      → IsReach order is_value value_of reach (λ x. is_true (negated negate (between x (operand columns cells dates low) (operand columns cells dates high))))
      → IsReach order is_value value_of reach (λ x. if_atom (is_between_constants columns c expr low high) (negated negate (between_truth columns (row_at c x) expr low high)))
  between_is negate expr low high ok e atom =
      let own = (and_parts (is_column columns c expr) (is_constant low && is_constant high) atom).0 in
      atom_reach reach (is_between_constants columns c expr low high) (λ x. negated negate (between x (operand columns cells dates low) (operand columns cells dates high)))
      (λ x. negated negate (between_truth columns (row_at c x) expr low high)) atom
      (ap (negated negate) (between_of columns c cells dates Null (λ d. refl) expr low high e atom))
      (λ v. ap (negated negate) (between_of columns c cells dates (value_of v) (λ d. law (kind_at columns c) v has (first_like columns c expr own (low ∷ high ∷ []) ok (sym e ∙ d))) expr low high e atom))

-- ---- the items of a list, one by one

module _ {T : Type 0} (order : T → T → Ordering) (x : Value) (v : T) (op : Expr → Value) (list : List Expr) (i : ℕ) (whole : Bool) where
  pub equal_more : (item : Expr) (sets after : List (List (Span T))) (set : List (Span T)) → i < length list → item ≡ get_or list i item → has order set v ≡ is_true (compared cmp.Eq x (op item)) → after ≡ sets ++ set ∷ []
      → (has_some order sets v || list_any (equals x) (map op (drop i list))) ≡ whole → (has_some order after v || list_any (equals x) (map op (drop (i + 1) list))) ≡ whole
  equal_more item sets after set within is here now so_far =
      ap (λ (l : List (List (Span T))). has_some order l v || list_any (equals x) (map op (drop (i + 1) list))) now
      ∙ ap (λ (b : Bool). b || list_any (equals x) (map op (drop (i + 1) list)))
      (list_any-append (λ (s : List (Span T)). has order s v) sets (set ∷ []) ∙ ap (λ (b : Bool). has_some order sets v || (b || false)) (here ∙ equal_true x (op item)))
      ∙ or_one (has_some order sets v) (equals x (op item)) (list_any (equals x) (map op (drop (i + 1) list)))
      ∙ ap (λ (b : Bool). has_some order sets v || b)
      (sym (at_drop_more (λ es. list_any (equals x) (map op es)) list i item within ∙ ap (λ e. equals x (op e) || list_any (equals x) (map op (drop (i + 1) list))) (sym is)))
      ∙ so_far

  pub equal_end : (sets : List (List (Span T))) → length list ≤ i → (has_some order sets v || list_any (equals x) (map op (drop i list))) ≡ whole → has_some order sets v ≡ whole
  equal_end sets past so_far =
      sym (or_none (has_some order sets v)) ∙ ap (λ (b : Bool). has_some order sets v || b) (sym (at_drop_all (λ es. list_any (equals x) (map op es)) list i past)) ∙ so_far

-- ---- for answers

pub two_dates : (d a b x y : Bool) → d ≡ (a || b) → a ≡ x → b ≡ y → d ≡ (x || (y || false))
two_dates d a b x y h e f = h ∙ ap₂ (λ (s t : Bool). s || t) e (f ∙ sym (or_none y))

pub three_dates : (d a ends b l x y z : Bool) → d ≡ (a || ends) → a ≡ x → ends ≡ (b || l) → b ≡ y → l ≡ z → d ≡ (x || (y || (z || false)))
three_dates d a ends b l x y z h e f i j = h ∙ ap₂ (λ (s t : Bool). s || t) e (f ∙ ap₂ (λ (s t : Bool). s || t) i (j ∙ sym (or_none z)))

module _ {T : Type 0} {order : T → T → Ordering} {is_value : T → Bool} {value_of : T → Value} where
  pub by_constant : (f : Value → Value → Truth) (reach : Reach T) (k own : Value) → k ≡ own → IsReach order is_value value_of reach (λ x. is_true (f x k)) → IsReach order is_value value_of reach (λ x. is_true (f x own))
  by_constant f reach k own e is = subst (λ (y : Value). IsReach order is_value value_of reach (λ x. is_true (f x y))) e is

  pub by_ends : (negate : Bool) (reach : Reach T) (l low h high : Value) → l ≡ low → h ≡ high → IsReach order is_value value_of reach (λ x. is_true (negated negate (between x l h)))
      → IsReach order is_value value_of reach (λ x. is_true (negated negate (between x low high)))
  by_ends negate reach l low h high e f is =
      subst (λ (y : Value). IsReach order is_value value_of reach (λ x. is_true (negated negate (between x low y)))) f
      (subst (λ (y : Value). IsReach order is_value value_of reach (λ x. is_true (negated negate (between x y h)))) e is)

  pub by_sign : (sign other : Cmp) (reach : Reach T) (k : Value) → sign ≡ other → IsReach order is_value value_of reach (λ x. is_true (compared sign x k)) → IsReach order is_value value_of reach (λ x. is_true (compared other x k))
  by_sign sign other reach k e is = subst (λ (s : Cmp). IsReach order is_value value_of reach (λ x. is_true (compared s x k))) e is

  pub in_positive : (negate : Bool) (items : List Value) (spans : List (Span T)) → negate ≡ false → IsSet order is_value spans (λ v. list_any (equals (value_of v)) items)
      → IsReach order is_value value_of (record { null = false; spans = spans }) (λ x. is_true (negated negate (among x items)))
  in_positive true items spans e is = absurd (true≢false e)
  in_positive false items spans e is = record { null = sym (null_among items); others = λ v value. is v value ∙ sym (among_true (value_of v) items) }

  pub in_none : (negate : Bool) (items : List Value) (reach : Reach T) → negate ≡ true → list_any is_null items ≡ true → IsReach order is_value value_of reach (λ x. false)
      → IsReach order is_value value_of reach (λ x. is_true (negated negate (among x items)))
  in_none true items reach e null is = record { null = is.null ∙ sym (null_not_among items); others = λ v value. is.others v value ∙ sym (none_not_among (value_of v) items null) }
  in_none false items reach e null is = absurd (false≢true e)

  pub in_outside : (negate : Bool) (items : List Value) (equal spans : List (Span T)) → negate ≡ true → list_any is_null items ≡ false → ((v : T) → is_null (value_of v) ≡ false)
      → IsSet order is_value equal (λ v. list_any (equals (value_of v)) items) → IsSet order is_value spans (λ v. not (has order equal v))
      → IsReach order is_value value_of (record { null = false; spans = spans }) (λ x. is_true (negated negate (among x items)))
  in_outside true items equal spans e none some is out = record {
    null = sym (null_not_among items);
    others = λ v value. out v value ∙ ap not (is v value) ∙ sym (not_among (value_of v) items (some v) none);
  }
  in_outside false items equal spans e none some is out = absurd (false≢true e)
