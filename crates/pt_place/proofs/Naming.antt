-- The names in an expression, part by part.
use Rattle.std.proofs.Common.{◌≡◌, ℕ, ◌+◌, ◌<◌, ◌≤◌, Bool, true, false, ◌||◌, ◌&&◌, List, [], ◌∷◌, ◌++◌, length, drop, get_or, map, refl, sym, ap, ◌∙◌}
use Rattle.std.specs.List.{flat_map, filter_map, list_all}
use Rattle.std.proofs.lemmas.List.{at_drop_more, at_drop_all}
use Rattle.std.proofs.lemmas.List.Elements.{filter_map-append}
use Rattle.std.proofs.lemmas.List.Folds.{list_all-append}
use Rattle.pt_ast.specs.declared.table.Column.{Column}
use Rattle.pt_ast.specs.declared.table.KeyDef.{KeyDef}
use Rattle.pt_ast.specs.declared.tree.Op.{Op}
use Rattle.pt_ast.specs.declared.tree.Expr.{Expr}
use Rattle.pt_ast.specs.declared.tree.Expr.TheOpen.{Expr-F}
use Rattle.pt_ast.specs.declared.tree.Expr.TheVariants as tree
use Rattle.pt_ast.specs.declared.tree.Expr.TheVariants.{rolls-Sum, rolls-Product}
use Rattle.pt_ast.specs.declared.tree.Expr.TheFolds.{fold-roll-Expr}
use Rattle.pt_place.specs.Checks.{has_column, is_some_name}
use Rattle.pt_place.specs.Names.{column_of, names_in, names_step}
use Rattle.pt_place.specs.Used.{has_names, named}

beside : {X : Type 0} (parts : List (X × Expr)) → flat_map (λ (part : X × List (List ℕ)). part.1) (map (λ (part : X × Expr). (part.0, names_in part.1)) parts) ≡ named parts
beside [] = refl
beside (part ∷ parts) = ap (λ l. names_in part.1 ++ l) (beside parts)

names-Sum : (expr : Expr) (parts : List (Bool × Expr)) → expr ≡ tree.Sum parts → names_in expr ≡ named parts
names-Sum expr parts is = ap names_in is ∙ ap names_in (sym (rolls-Sum parts)) ∙ fold-roll-Expr (List (List ℕ)) names_step (Expr-F.Sum parts) ∙ beside parts

names-Product : (expr first : Expr) (parts : List (Op × Expr)) → expr ≡ tree.Product first parts → names_in expr ≡ names_in first ++ named parts
names-Product expr first parts is =
    ap names_in is ∙ ap names_in (sym (rolls-Product first parts)) ∙ fold-roll-Expr (List (List ℕ)) names_step (Expr-F.Product first parts) ∙ ap (λ l. names_in first ++ l) (beside parts)

-- ---- whether there is a name

some-append : (xs ys : List (List ℕ)) → is_some_name (xs ++ ys) ≡ (is_some_name xs || is_some_name ys)
some-append [] ys = refl
some-append (x ∷ xs) ys = refl

pub some_sum : (expr : Expr) (parts : List (Bool × Expr)) → expr ≡ tree.Sum parts → is_some_name (named parts) ≡ is_some_name (names_in expr)
some_sum expr parts is = ap is_some_name (sym (names-Sum expr parts is))

pub some_product : (expr first : Expr) (parts : List (Op × Expr)) → expr ≡ tree.Product first parts → is_some_name (names_in first) ≡ false → is_some_name (named parts) ≡ is_some_name (names_in expr)
some_product expr first parts is none =
    sym (ap is_some_name (names-Product expr first parts is) ∙ some-append (names_in first) (named parts) ∙ ap (λ b. b || is_some_name (named parts)) none)

-- ---- whether a key has the columns of the names

has-append : (key : KeyDef) (columns : List Column) (xs ys : List (List ℕ)) → has_names key columns (xs ++ ys) ≡ (has_names key columns xs && has_names key columns ys)
has-append key columns xs ys = ap (list_all (has_column key)) (filter_map-append (column_of columns) xs ys) ∙ list_all-append (has_column key) (filter_map (column_of columns) xs) (filter_map (column_of columns) ys)

module _ (key : KeyDef) (columns : List Column) where
  pub has_sum : (expr : Expr) (parts : List (Bool × Expr)) → expr ≡ tree.Sum parts → has_names key columns (named parts) ≡ has_names key columns (names_in expr)
  has_sum expr parts is = ap (has_names key columns) (sym (names-Sum expr parts is))

  pub has_first : (expr first : Expr) (parts : List (Op × Expr)) → expr ≡ tree.Product first parts → has_names key columns (names_in first) ≡ false → false ≡ has_names key columns (names_in expr)
  has_first expr first parts is lacking =
      sym (ap (has_names key columns) (names-Product expr first parts is) ∙ has-append key columns (names_in first) (named parts) ∙ ap (λ b. b && has_names key columns (named parts)) lacking)

  pub has_product : (expr first : Expr) (parts : List (Op × Expr)) → expr ≡ tree.Product first parts → has_names key columns (names_in first) ≡ true
      → has_names key columns (named parts) ≡ has_names key columns (names_in expr)
  has_product expr first parts is having =
      sym (ap (has_names key columns) (names-Product expr first parts is) ∙ has-append key columns (names_in first) (named parts) ∙ ap (λ b. b && has_names key columns (named parts)) having)

module _ (key : KeyDef) (columns : List Column) {X : Type 0} (parts : List (X × Expr)) (i : ℕ) (part : X × Expr) (within : i < length parts) (is : part ≡ get_or parts i part) (all : Bool) where
  has_step : has_names key columns (named (drop i parts)) ≡ (has_names key columns (names_in part.1) && has_names key columns (named (drop (i + 1) parts)))
  has_step =
      at_drop_more (λ (ps : List (X × Expr)). has_names key columns (named ps)) parts i part within
      ∙ ap (λ (p : X × Expr). has_names key columns (names_in p.1 ++ named (drop (i + 1) parts))) (sym is)
      ∙ has-append key columns (names_in part.1) (named (drop (i + 1) parts))

  pub has_lacking : has_names key columns (named (drop i parts)) ≡ all → has_names key columns (names_in part.1) ≡ false → false ≡ all
  has_lacking kept lacking = ap (λ b. b && has_names key columns (named (drop (i + 1) parts))) (sym lacking) ∙ sym has_step ∙ kept

  pub has_more : has_names key columns (named (drop i parts)) ≡ all → has_names key columns (names_in part.1) ≡ true → has_names key columns (named (drop (i + 1) parts)) ≡ all
  has_more kept having = ap (λ b. b && has_names key columns (named (drop (i + 1) parts))) (sym having) ∙ sym has_step ∙ kept

pub has_end : (key : KeyDef) (columns : List Column) {X : Type 0} (parts : List (X × Expr)) (i : ℕ) (all : Bool) → length parts ≤ i → has_names key columns (named (drop i parts)) ≡ all → true ≡ all
has_end key columns {X} parts i all past kept = sym (at_drop_all (λ (ps : List (X × Expr)). has_names key columns (named ps)) parts i past) ∙ kept
