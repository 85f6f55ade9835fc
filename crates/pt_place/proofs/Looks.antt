-- What a row's place rests on: the cells of the columns that the partitioning uses, and no others.
use Rattle.std.proofs.Common.{◌≡◌, ℕ, suc, ◌+◌, arith, Bool, true, false, cond, not, ◌&&◌, List, [], ◌∷◌, ◌++◌, length, map, Option, Some, None, ℤ, refl, sym, ap, ap₂, subst, ◌∙◌}
use Rattle.std.specs.Prelude.{fold, nat_lt, neg_ℤ, pos, slice_index_or}
use Rattle.std.specs.List.{cons_option, flat_map, filter_map, list_all, position_or_len}
use Rattle.pt_value.specs.Hashes.{key_of, key_part}
use Rattle.pt_value.specs.declared.value.Value.{Value}
use Rattle.pt_value.specs.declared.value.Value.TheVariants.{Null, Int}
use Rattle.pt_ast.specs.declared.tree.Expr.{Expr, map-Expr}
use Rattle.pt_ast.specs.declared.tree.Expr.TheOpen.{Expr-F}
use Rattle.pt_ast.specs.declared.tree.Expr.TheViews.{out-Expr}
use Rattle.pt_ast.specs.declared.tree.Expr.TheFolds.{fold-roll-Expr, ind-Expr}
use Rattle.pt_ast.specs.declared.table.Column.{Column}
use Rattle.pt_ast.specs.declared.table.PartBy.{PartBy}
use Rattle.pt_ast.specs.declared.table.PartBy.TheVariants as by
use Rattle.pt_ast.specs.declared.table.PartDef.{PartDef}
use Rattle.pt_ast.specs.Bounds.{cells_at, value_of}
use Rattle.pt_ast.specs.Lists.{list_part}
use Rattle.pt_ast.specs.Ranges.{range_columns_part, range_part}
use Rattle.pt_expr.specs.Columns.{cell_named, is_named}
use Rattle.pt_expr.specs.Values.{call, on_number, plus, times, value, value_step, wanted}
use Rattle.std.proofs.lemmas.Bool.{lt-ltb, ltb-false, ltb-true, true≢false}
use Rattle.pt_place.specs.Names.{column_of, columns_used, names_in, names_step}
use Rattle.pt_place.specs.Place.{hashed, number_in, number_of, numbered, part_of}

-- ---- both of two tests

pub both_left : (x y : Bool) → (x && y) ≡ true → x ≡ true
both_left true y h = refl
both_left false y h = h

pub both_right : (x y : Bool) → (x && y) ≡ true → y ≡ true
both_right true y h = h
both_right false y h = absurd (true≢false (sym h))

-- ---- a cell by its column's name, and by its column's position

abbrev read : List Value → Option ℕ → Value
read cells None = Null
read cells (Some n) = slice_index_or cells n Null

none_read : (o : Option ℕ) → Null ≡ read [] o
none_read None = refl
none_read (Some n) = refl

by_tests : (n l : ℕ) (s t : Bool) → nat_lt n l ≡ s → nat_lt (suc n) (suc l) ≡ t → s ≡ t
by_tests n l true true e f = refl
by_tests n l true false e f = let below = ltb-true n l e in let past = ltb-false (suc n) (suc l) f in absurd (omega (arith, below, past))
by_tests n l false true e f = let past = ltb-false n l e in let below = ltb-true (suc n) (suc l) f in absurd (omega (arith, below, past))
by_tests n l false false e f = refl

below_next : (n l : ℕ) → nat_lt n l ≡ nat_lt (suc n) (suc l)
below_next n l = by_tests n l (nat_lt n l) (nat_lt (suc n) (suc l)) refl refl

one_more : (n : ℕ) → suc n ≡ 1 + n
one_more n = omega arith

module _ (cell : Value) (cells : List Value) (n : ℕ) where
  later : (t : Bool) → read cells (cond t (Some n) None) ≡ read (cell ∷ cells) (cond t (Some (suc n)) None)
  later true = refl
  later false = refl

  next_cell : (t : Bool) (l : ℕ) (rest : Value) → rest ≡ read cells (cond (nat_lt n l) (Some n) None)
      → cond t cell rest ≡ read (cell ∷ cells) (cond (nat_lt (cond (not t) (1 + n) 0) (suc l)) (Some (cond (not t) (1 + n) 0)) None)
  next_cell true l rest e = ap (λ (t : Bool). read (cell ∷ cells) (cond t (Some 0) None)) (sym (lt-ltb 0 (suc l) (omega arith)))
  next_cell false l rest e =
      e ∙ later (nat_lt n l) ∙ ap (λ (t : Bool). read (cell ∷ cells) (cond t (Some (suc n)) None)) (below_next n l)
      ∙ ap (λ (k : ℕ). read (cell ∷ cells) (cond (nat_lt k (suc l)) (Some k) None)) (one_more n)

named_cell : (name : List ℕ) (columns : List Column) (cells : List Value) → cell_named name columns cells ≡ read cells (column_of columns name)
named_cell name [] cells = refl
named_cell name (column ∷ columns) [] = none_read (column_of (column ∷ columns) name)
named_cell name (column ∷ columns) (cell ∷ cells) =
    next_cell cell cells (position_or_len (is_named name) columns) (is_named name column) (length columns) (cell_named name columns cells) (named_cell name columns cells)

-- ---- an expression rests on the cells that it names

module _ (columns : List Column) (a b : List Value) where
  -- the cells of these names are the same
  abbrev SameAt : List (List ℕ) → Type 0
  SameAt [] = Unit {0}
  SameAt (name ∷ names) = (cell_named name columns a ≡ cell_named name columns b) × SameAt names

  same_append : (xs ys : List (List ℕ)) → SameAt (xs ++ ys) → SameAt xs × SameAt ys
  same_append [] ys s = (tt, s)
  same_append (x ∷ xs) ys s = let rest = same_append xs ys s.1 in ((s.0, rest.0), rest.1)

  abbrev RestsOn : Expr → Type 0
  RestsOn expr = SameAt (names_in expr) → value columns a expr ≡ value columns b expr

  abbrev Proved : Type 0
  Proved = (expr : Expr) × RestsOn expr

  abbrev exprs : {X : Type 0} → List (X × Proved) → List (X × Expr)
  exprs {X} ps = map {B = X × Expr} (λ (p : X × Proved). (p.0, p.1.0)) ps

  abbrev all_names : {X : Type 0} → List (X × Proved) → List (List ℕ)
  all_names {X} ps = flat_map (λ (q : X × List (List ℕ)). q.1) (map {B = X × List (List ℕ)} (λ (q : X × Expr). (q.0, names_in q.1)) (exprs ps))

  abbrev valued : {X : Type 0} → List Value → List (X × Proved) → List (X × Value)
  valued {X} cells ps = map {B = X × Value} (λ (q : X × Expr). (q.0, value columns cells q.1)) (exprs ps)

  parts_same : {X : Type 0} (parts : List (X × Proved)) → SameAt (all_names parts) → valued a parts ≡ valued b parts
  parts_same {X} [] s = refl
  parts_same {X} (p ∷ ps) s =
      let both = same_append (names_in p.1.0) (all_names ps) s in
      ap₂ (λ (v : Value) (vs : List (X × Value)). (p.0, v) ∷ vs) (p.1.1 both.0) (parts_same ps both.1)

  abbrev NodeRests : Expr-F Expr → Type 0
  NodeRests x =
      SameAt (names_step (map-Expr Expr (List (List ℕ)) names_in x))
      → value_step columns a (map-Expr Expr Value (value columns a) x) ≡ value_step columns b (map-Expr Expr Value (value columns b) x)

  node : (y : Expr-F Proved) → NodeRests (map-Expr Proved Expr (λ (e : Proved). e.0) y)
  node (Expr-F.Number n) s = refl
  node (Expr-F.Text bytes) s = refl
  node (Expr-F.Hex bytes) s = refl
  node (Expr-F.Date day) s = refl
  node Expr-F.Null s = refl
  node (Expr-F.Column name) s = s.0
  node (Expr-F.Neg part) s = ap (on_number neg_ℤ) (part.1 s)
  node (Expr-F.Sum parts) s = ap (fold plus (Int (pos 0))) (parts_same parts s)
  node (Expr-F.Product first parts) s =
      let both = same_append (names_in first.0) (all_names parts) s in
      ap₂ (fold times) (first.1 both.0) (parts_same parts both.1)
  node (Expr-F.Call f part) s = ap (call f) (part.1 s)

  rests_on : (expr : Expr) → RestsOn expr
  rests_on = ind-Expr RestsOn (λ x y is s.
      fold-roll-Expr Value (value_step columns a) x
      ∙ subst NodeRests is (node y) (subst SameAt (fold-roll-Expr (List (List ℕ)) names_step x) s)
      ∙ sym (fold-roll-Expr Value (value_step columns b) x))

  number_same : (expr : Expr) → SameAt (names_in expr) → number_of columns expr a ≡ number_of columns expr b
  number_same expr s = ap (λ (v : Value). number_in (wanted false (out-Expr expr) v)) (rests_on expr s)

-- ---- one level rests on the cells of the columns that it uses

module _ (columns : List Column) (a b : List Value) (has : ℕ → Bool) (same : (n : ℕ) → has n ≡ true → slice_index_or a n Null ≡ slice_index_or b n Null) where
  cells_same : (numbers : List ℕ) → list_all has numbers ≡ true → cells_at a numbers ≡ cells_at b numbers
  cells_same [] h = refl
  cells_same (n ∷ ns) h = ap₂ (λ (v : Value) (vs : List Value). v ∷ vs) (same n (both_left (has n) (list_all has ns) h)) (cells_same ns (both_right (has n) (list_all has ns) h))

  read_same : (o : Option ℕ) (numbers : List ℕ) → list_all has (cons_option o numbers) ≡ true → (read a o ≡ read b o) × (list_all has numbers ≡ true)
  read_same None numbers h = (refl, h)
  read_same (Some n) numbers h = (same n (both_left (has n) (list_all has numbers) h), both_right (has n) (list_all has numbers) h)

  names_same : (names : List (List ℕ)) → list_all has (filter_map (column_of columns) names) ≡ true → SameAt columns a b names
  names_same [] h = tt
  names_same (name ∷ names) h =
      let both = read_same (column_of columns name) (filter_map (column_of columns) names) h in
      (named_cell name columns a ∙ both.0 ∙ sym (named_cell name columns b), names_same names both.1)

  by_expr : (expr : Expr) → list_all has (filter_map (column_of columns) (names_in expr)) ≡ true → number_of columns expr a ≡ number_of columns expr b
  by_expr expr h = number_same columns a b expr (names_same (names_in expr) h)

  pub numbered_same : (kind : PartBy) (n : ℕ) → list_all has (columns_used columns kind) ≡ true → numbered columns kind n a ≡ numbered columns kind n b
  numbered_same by.Whole n h = refl
  numbered_same (by.Range expr) n h = refl
  numbered_same (by.List expr) n h = refl
  numbered_same (by.RangeColumns numbers) n h = refl
  numbered_same (by.ListColumns numbers) n h = refl
  numbered_same (by.Hash linear expr) n h = ap (λ (number : Option ℤ). hashed linear number n) (by_expr expr h)
  numbered_same (by.Key linear numbers) n h = ap (λ (cells : List Value). key_part (key_of cells) n linear) (cells_same numbers h)

  pub part_same : (kind : PartBy) (parts : List PartDef) → list_all has (columns_used columns kind) ≡ true → part_of columns kind parts a ≡ part_of columns kind parts b
  part_same by.Whole parts h = refl
  part_same (by.Range expr) parts h = ap (range_part parts) (by_expr expr h)
  part_same (by.List expr) parts h = ap (λ (number : Option ℤ). list_part parts (value_of number ∷ [])) (by_expr expr h)
  part_same (by.RangeColumns numbers) parts h = ap (range_columns_part parts) (cells_same numbers h)
  part_same (by.ListColumns numbers) parts h = ap (list_part parts) (cells_same numbers h)
  part_same (by.Hash linear expr) parts h = ap Some (numbered_same (by.Hash linear expr) (length parts) h)
  part_same (by.Key linear numbers) parts h = ap Some (numbered_same (by.Key linear numbers) (length parts) h)
