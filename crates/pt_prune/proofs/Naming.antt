-- The columns that an expression names, part by part.
use Rattle.std.proofs.Common.{◌≡◌, ℕ, ◌+◌, ◌<◌, ◌≤◌, Bool, true, false, cond, List, [], ◌∷◌, ◌++◌, length, drop, get_or, map, Option, Some, None, refl, sym, ap, ◌∙◌, nat_eq}
use Rattle.std.specs.Prelude.{fold, ◌&&◌}
use Rattle.std.specs.List.{cons_option, flat_map, filter_map, list_all}
use Rattle.std.proofs.lemmas.List.{at_drop_more, at_drop_all}
use Rattle.std.proofs.lemmas.List.Sums.{fold-append}
use Rattle.pt_ast.specs.declared.table.Column.{Column}
use Rattle.pt_ast.specs.declared.tree.Op.{Op}
use Rattle.pt_ast.specs.declared.tree.Expr.{Expr}
use Rattle.pt_ast.specs.declared.tree.Expr.TheOpen.{Expr-F}
use Rattle.pt_ast.specs.declared.tree.Expr.TheVariants as tree
use Rattle.pt_ast.specs.declared.tree.Expr.TheVariants.{rolls-Sum, rolls-Product}
use Rattle.pt_ast.specs.declared.tree.Expr.TheFolds.{fold-roll-Expr}
use Rattle.pt_place.specs.Names.{column_of, names_in, names_step}
use Rattle.pt_place.specs.Used.{named}
use Rattle.pt_reach.specs.Kept.{sole}
use Rattle.pt_prune.specs.declared.columns.Lone.{Lone}
use Rattle.pt_prune.specs.declared.columns.Lone.TheVariants as lone
use Rattle.pt_prune.specs.Lone.{noted, sole_of, with_column, with_name}

beside : {X : Type 0} (parts : List (X × Expr)) → flat_map (λ (part : X × List (List ℕ)). part.1) (map (λ (part : X × Expr). (part.0, names_in part.1)) parts) ≡ named parts
beside [] = refl
beside (part ∷ parts) = ap (λ l. names_in part.1 ++ l) (beside parts)

names-Sum : (expr : Expr) (parts : List (Bool × Expr)) → expr ≡ tree.Sum parts → names_in expr ≡ named parts
names-Sum expr parts is = ap names_in is ∙ ap names_in (sym (rolls-Sum parts)) ∙ fold-roll-Expr (List (List ℕ)) names_step (Expr-F.Sum parts) ∙ beside parts

names-Product : (expr first : Expr) (parts : List (Op × Expr)) → expr ≡ tree.Product first parts → names_in expr ≡ names_in first ++ named parts
names-Product expr first parts is =
    ap names_in is ∙ ap names_in (sym (rolls-Product first parts)) ∙ fold-roll-Expr (List (List ℕ)) names_step (Expr-F.Product first parts) ∙ ap (λ l. names_in first ++ l) (beside parts)

module _ {S : Type 0} (f : S → List ℕ → S) (before : S) where
  pub sum_first : (expr : Expr) (parts : List (Bool × Expr)) → expr ≡ tree.Sum parts → fold f before (named parts) ≡ fold f before (names_in expr)
  sum_first expr parts is = ap (fold f before) (sym (names-Sum expr parts is))

  pub product_first : (expr first : Expr) (parts : List (Op × Expr)) (after : S) → expr ≡ tree.Product first parts → after ≡ fold f before (names_in first) → fold f after (named parts) ≡ fold f before (names_in expr)
  product_first expr first parts after is now =
      ap (λ (s : S). fold f s (named parts)) now ∙ sym (fold-append f before (names_in first) (named parts)) ∙ ap (fold f before) (sym (names-Product expr first parts is))

  pub one_more : {X : Type 0} (parts : List (X × Expr)) (i : ℕ) (part : X × Expr) (after whole : S) → i < length parts → part ≡ get_or parts i part → after ≡ fold f before (names_in part.1)
      → fold f before (named (drop i parts)) ≡ whole → fold f after (named (drop (i + 1) parts)) ≡ whole
  one_more {X} parts i part after whole within is now was =
      ap (λ (s : S). fold f s (named (drop (i + 1) parts))) now
      ∙ sym (fold-append f before (names_in part.1) (named (drop (i + 1) parts)))
      ∙ ap (λ (p : X × Expr). fold f before (names_in p.1 ++ named (drop (i + 1) parts))) is
      ∙ sym (at_drop_more (λ (ps : List (X × Expr)). fold f before (named ps)) parts i part within)
      ∙ was

  pub no_more : {X : Type 0} (parts : List (X × Expr)) (i : ℕ) (whole : S) → length parts ≤ i → fold f before (named (drop i parts)) ≡ whole → before ≡ whole
  no_more {X} parts i whole past was = sym (at_drop_all (λ (ps : List (X × Expr)). fold f before (named ps)) parts i past) ∙ was

-- ---- one column and no other

several : (ns : List ℕ) → fold with_column lone.Several ns ≡ lone.Several
several [] = refl
several (n ∷ ns) = several ns

sole_from : (c : ℕ) (ns : List ℕ) → sole_of (fold with_column (lone.One c) ns) ≡ cond (list_all (λ other. nat_eq other c) ns) (Some c) None
sole_from c [] = refl
sole_from c (n ∷ ns) = by (nat_eq n c) (sole_from c ns)
  where
    by : (b : Bool) → sole_of (fold with_column (lone.One c) ns) ≡ cond (list_all (λ other. nat_eq other c) ns) (Some c) None
        → sole_of (fold with_column (cond b (lone.One c) lone.Several) ns) ≡ cond (b && list_all (λ other. nat_eq other c) ns) (Some c) None
    by true rest = rest
    by false rest = ap sole_of (several ns)

sole_all : (ns : List ℕ) → sole_of (fold with_column lone.Nothing ns) ≡ sole ns
sole_all [] = refl
sole_all (c ∷ ns) = sole_from c ns

by_columns : (columns : List Column) (names : List (List ℕ)) (before : Lone) → fold (with_name columns) before names ≡ fold with_column before (filter_map (column_of columns) names)
by_columns columns [] before = refl
by_columns columns (name ∷ names) before = by (column_of columns name) (λ next. by_columns columns names next)
  where
    by : (o : Option ℕ) → ((next : Lone) → fold (with_name columns) next names ≡ fold with_column next (filter_map (column_of columns) names))
        → fold (with_name columns) (noted before o) names ≡ fold with_column before (cons_option o (filter_map (column_of columns) names))
    by None rest = rest before
    by (Some c) rest = rest (with_column before c)

pub sole_named : (columns : List Column) (names : List (List ℕ)) → sole_of (fold (with_name columns) lone.Nothing names) ≡ sole (filter_map (column_of columns) names)
sole_named columns names = ap sole_of (by_columns columns names lone.Nothing) ∙ sole_all (filter_map (column_of columns) names)
