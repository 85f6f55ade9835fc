-- What a valid definition has: sound expressions, columns that are apart, and bounds of the right form.
use Rattle.std.proofs.Common.{◌≡◌, ℕ, arith, Bool, true, false, ◌&&◌, ◌||◌, List, [], ◌∷◌, ◌++◌, length, Option, Some, None, Result, Ok, Err, refl, sym, ap, ◌∙◌}
use Rattle.std.specs.Prelude.{◌==◌, not}
use Rattle.std.specs.List.{list_any}
use Rattle.std.specs.Str.{str_eq_ignore_ascii_case, str_to_ascii_lowercase}
use Rattle.std.proofs.lemmas.Bool.{and_parts, eqb-true, not-false, or_left, or_parts, or_right, true≢false}
use Rattle.std.proofs.lemmas.List.Folds.{list_any-append}
use Rattle.std.proofs.lemmas.Slice.Eq.{bytes_eq-Decides}
use Rattle.pt_value.specs.declared.value.Value.TheVariants.{Null, Int, Day, Bytes}
use Rattle.pt_value.specs.declared.value.Kind.TheVariants as kind
use Rattle.pt_ast.specs.declared.refusal.Arg.TheVariants as arg
use Rattle.pt_ast.specs.declared.refusal.Refusal.{Refusal}
use Rattle.pt_ast.specs.declared.refusal.Refusal.TheVariants as refusal
use Rattle.pt_ast.specs.declared.tree.Expr.{Expr}
use Rattle.pt_ast.specs.declared.table.Column.{Column}
use Rattle.pt_ast.specs.declared.table.Bound.{Bound}
use Rattle.pt_ast.specs.declared.table.Bound.TheVariants.{Val, Max}
use Rattle.pt_ast.specs.declared.table.PartBy.{PartBy}
use Rattle.pt_ast.specs.declared.table.PartBy.TheVariants as by
use Rattle.pt_ast.specs.declared.table.PartDef.{PartDef}
use Rattle.pt_ast.specs.declared.table.TableDef.{TableDef}
use Rattle.pt_ast.specs.Lists.{list_fault}
use Rattle.pt_ast.specs.Ranges.{bound_of, only, range_fault}
use Rattle.pt_expr.specs.declared.kind.ExprKind.{ExprKind}
use Rattle.pt_expr.specs.declared.kind.CheckFault.{CheckFault}
use Rattle.pt_expr.specs.Found.{checked}
use Rattle.pt_place.specs.Checks.{bad_bounds, is_integer, is_some_name, name_twice, of_finding, of_list_fault, of_range_fault, part_names, too_many, twice}
use Rattle.pt_place.specs.Fitting.{kinds_of}
use Rattle.pt_place.specs.First.{first_in, first_of, in_turn, in_turn_from, refused_if}
use Rattle.pt_place.specs.Names.{is_among, name_at, names_at, names_in}
use Rattle.pt_place.specs.Valid.{IsValid, bad_by, bad_items, bad_kinds, bad_parts, bad_values, has_bound, is_bound_out, is_without_parts, is_wrong_bound, is_wrong_tuple, leaf_count, other_subs}
use Rattle.pt_place.proofs.Firsts.{none_first, none_next, passes}
use Rattle.pt_place.proofs.Passing.{passed}
use Rattle.pt_interval.specs.Counting.{AreAll}
use Rattle.pt_followed.specs.Steps.{IsNumberBound}
use Rattle.pt_followed.proofs.Rows.{AreApart}

-- ---- the checks of the partitioning

fourth : (a b c d e f : Option Refusal) → first_of (a ∷ b ∷ c ∷ d ∷ e ∷ f ∷ []) ≡ None → d ≡ None
fourth (Some r) b c d e f h = cc
fourth None (Some r) c d e f h = cc
fourth None None (Some r) d e f h = cc
fourth None None None (Some r) e f h = cc
fourth None None None None e f h = refl

module _ (def : TableDef) (valid : IsValid def) where
  -- what a level is by
  pub sound_by : (main : PartBy) → def.by ≡ main → bad_by valid.0 def.columns main ≡ None
  sound_by main is = ap (bad_by valid.0 def.columns) (sym is) ∙ (passed def valid).by

  pub sound_bounds : (main : PartBy) → def.by ≡ main → bad_bounds main def.parts ≡ None
  sound_bounds main is = ap (λ (m : PartBy). bad_bounds m def.parts) (sym is) ∙ (passed def valid).bounds

  pub sound_values : (main : PartBy) → def.by ≡ main → first_in (bad_values (kinds_of def.columns main) main) def.parts ≡ None
  sound_values main is =
      ap (λ (m : PartBy). first_in (bad_values (kinds_of def.columns m) m) def.parts) (sym is)
      ∙ fourth (refused_if (is_without_parts def.by def.sub def.parts) (refusal.NoPartitions valid.0)) (too_many (leaf_count def.sub def.parts)) (first_in (other_subs def.parts) def.parts)
      (first_in (bad_values (kinds_of def.columns def.by) def.by) def.parts) (bad_bounds def.by def.parts) (in_turn name_twice (part_names def.parts))
      (none_first (bad_parts valid.0 def) None
      (none_next (bad_kinds valid.0 def) (first_of (bad_parts valid.0 def ∷ []))
      (none_next (bad_items def) (first_of (bad_kinds valid.0 def ∷ bad_parts valid.0 def ∷ [])) valid.1)))

  rising : (r : Option (ℕ × ℕ)) → of_range_fault def.parts r ≡ None → r ≡ None
  rising (Some fault) e = cc
  rising None e = refl

  once : (r : Option ℕ) → of_list_fault def.parts r ≡ None → r ≡ None
  once (Some fault) e = cc
  once None e = refl

  pub range_rises : (expr : Expr) → def.by ≡ by.Range expr → range_fault def.parts ≡ None
  range_rises expr is = rising (range_fault def.parts) (sound_bounds (by.Range expr) is)

  pub columns_rise : (numbers : List ℕ) → def.by ≡ by.RangeColumns numbers → range_fault def.parts ≡ None
  columns_rise numbers is = rising (range_fault def.parts) (sound_bounds (by.RangeColumns numbers) is)

  pub list_once : (expr : Expr) → def.by ≡ by.List expr → list_fault def.parts ≡ None
  list_once expr is = once (list_fault def.parts) (sound_bounds (by.List expr) is)

  pub columns_once : (numbers : List ℕ) → def.by ≡ by.ListColumns numbers → list_fault def.parts ≡ None
  columns_once numbers is = once (list_fault def.parts) (sound_bounds (by.ListColumns numbers) is)

  integer : (names : Bool) (r : Result ExprKind CheckFault) → of_finding valid.0 names r ≡ None → (k : ExprKind) × (r ≡ Ok k) × (is_integer k ≡ true)
  integer names (Ok k) e = (k, refl, (and_parts (is_integer k) names (not-false (is_integer k && names) (passes _ _ e))).0)
  integer names (Err fault) e = cc

  pub integer_range : (expr : Expr) → def.by ≡ by.Range expr → (k : ExprKind) × (checked def.columns expr false ≡ Ok k) × (is_integer k ≡ true)
  integer_range expr is = integer (is_some_name (names_in expr)) (checked def.columns expr false) (sound_by (by.Range expr) is)

  pub integer_list : (expr : Expr) → def.by ≡ by.List expr → (k : ExprKind) × (checked def.columns expr false ≡ Ok k) × (is_integer k ≡ true)
  integer_list expr is = integer (is_some_name (names_in expr)) (checked def.columns expr false) (sound_by (by.List expr) is)

-- ---- columns that are listed once are apart

same_name : (name : List ℕ) → str_eq_ignore_ascii_case name name ≡ true
same_name name = (bytes_eq-Decides (str_to_ascii_lowercase name) (str_to_ascii_lowercase name)).1 refl

module _ (columns : List Column) where
  apart_from : (n : ℕ) (before : List (List ℕ)) (ns : List ℕ) → is_among (name_at columns n) before ≡ true → in_turn_from twice before (names_at columns ns) ≡ None → AreAll (λ (m : ℕ). m ≡ n → ⊥) ns
  apart_from n before [] there e = tt
  apart_from n before (m ∷ ns) there e = (
    (λ same. true≢false (sym there ∙ ap (λ (k : ℕ). is_among (name_at columns k) before) (sym same) ∙ passes (is_among (name_at columns m) before) (refusal.DuplicateColumn (arg.Name (name_at columns m)))
        (none_first (twice before (name_at columns m)) (in_turn_from twice (before ++ name_at columns m ∷ []) (names_at columns ns)) e))),
    apart_from n (before ++ name_at columns m ∷ []) ns
        (list_any-append (str_eq_ignore_ascii_case (name_at columns n)) before (name_at columns m ∷ []) ∙ or_left (is_among (name_at columns n) before) _ there)
        (none_next (twice before (name_at columns m)) (in_turn_from twice (before ++ name_at columns m ∷ []) (names_at columns ns)) e),
  )

  all_apart : (before : List (List ℕ)) (ns : List ℕ) → in_turn_from twice before (names_at columns ns) ≡ None → AreApart ns
  all_apart before [] e = tt
  all_apart before (n ∷ ns) e =
      let rest = none_next (twice before (name_at columns n)) (in_turn_from twice (before ++ name_at columns n ∷ []) (names_at columns ns)) e in (
        apart_from n (before ++ name_at columns n ∷ []) ns
            (list_any-append (str_eq_ignore_ascii_case (name_at columns n)) before (name_at columns n ∷ [])
            ∙ or_right (is_among (name_at columns n) before) _ (or_left (str_eq_ignore_ascii_case (name_at columns n) (name_at columns n)) false (same_name (name_at columns n)))) rest,
        all_apart (before ++ name_at columns n ∷ []) ns rest,
      )

  pub listed_apart : (ns : List ℕ) → in_turn twice (names_at columns ns) ≡ None → AreApart ns
  listed_apart ns e = all_apart [] ns e

-- ---- bounds of RANGE over an expression

number_item : (item : Bound) → is_wrong_bound true kind.BigInt item ≡ false → IsNumberBound (item ∷ [])
number_item (Val Null) e = absurd (true≢false e)
number_item (Val (Int n)) e = tt
number_item (Val (Day day)) e = absurd (true≢false e)
number_item (Val (Bytes bytes)) e = absurd (true≢false e)
number_item Max e = tt

number_tuple : (tuple : List Bound) → is_wrong_tuple true (kind.BigInt ∷ []) tuple ≡ false → IsNumberBound tuple
number_tuple [] e = absurd (true≢false e)
number_tuple (item ∷ []) e = number_item item (or_parts (is_wrong_bound true kind.BigInt item) false e).0
number_tuple (item ∷ other ∷ items) e = absurd (let b = (or_parts (not (length (item ∷ other ∷ items) == 1)) _ e).0 in let same = eqb-true (length (item ∷ other ∷ items)) 1 (not-false (length (item ∷ other ∷ items) == 1) b) in omega (arith, same))

number_only : (tuples : List (List Bound)) → not (length tuples == 1) ≡ false → list_any (is_wrong_tuple true (kind.BigInt ∷ [])) tuples ≡ false → IsNumberBound (only tuples)
number_only [] e h = absurd (true≢false e)
number_only (tuple ∷ tuples) e h = number_tuple tuple (or_parts (is_wrong_tuple true (kind.BigInt ∷ []) tuple) (list_any (is_wrong_tuple true (kind.BigInt ∷ [])) tuples) h).0

number_part : (expr : Expr) (part : PartDef) → bad_values (kind.BigInt ∷ []) (by.Range expr) part ≡ None → IsNumberBound (bound_of part)
number_part expr part e =
    let wrong = passes _ _ (none_first (refused_if (not (length part.bounds == 1) || list_any (is_wrong_tuple true (kind.BigInt ∷ [])) part.bounds) (refusal.WrongValues part.name))
    (first_of (refused_if (list_any (has_bound is_bound_out (kind.BigInt ∷ [])) part.bounds) (refusal.OutOfRange (arg.Name part.name)) ∷ [])) e) in
    let both = or_parts (not (length part.bounds == 1)) (list_any (is_wrong_tuple true (kind.BigInt ∷ [])) part.bounds) wrong in
    number_only part.bounds both.0 both.1

pub number_bounds : (expr : Expr) (parts : List PartDef) → first_in (bad_values (kind.BigInt ∷ []) (by.Range expr)) parts ≡ None → AreAll (λ (part : PartDef). IsNumberBound (bound_of part)) parts
number_bounds expr [] e = tt
number_bounds expr (part ∷ parts) e = (
  number_part expr part (none_first (bad_values (kind.BigInt ∷ []) (by.Range expr) part) (first_in (bad_values (kind.BigInt ∷ []) (by.Range expr)) parts) e),
  number_bounds expr parts (none_next (bad_values (kind.BigInt ∷ []) (by.Range expr) part) (first_in (bad_values (kind.BigInt ∷ []) (by.Range expr)) parts) e),
)
