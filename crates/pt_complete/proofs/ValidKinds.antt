-- What a text is partitioned by passes as that of a definition: an expression whose columns are named as the table does is the same.
use Rattle.std.proofs.Common.{◌≡◌, ℕ, Bool, false, List, [], ◌∷◌, ◌++◌, map, Option, Some, None, refl, sym, ap, ap₂, subst, ◌∙◌}
use Rattle.std.specs.List.{flat_map}
use Rattle.std.proofs.lemmas.List.{map-append}
use Rattle.pt_ast.specs.declared.tree.Expr.{Expr, map-Expr}
use Rattle.pt_ast.specs.declared.tree.Expr.TheOpen.{Expr-F}
use Rattle.pt_ast.specs.declared.tree.Expr.TheFolds.{fold-roll-Expr, ind-Expr}
use Rattle.pt_ast.specs.declared.tree.Expr.TheVariants.{rolls-Column}
use Rattle.pt_ast.specs.declared.table.Column.{Column}
use Rattle.pt_ast.specs.declared.table.KeyDef.{KeyDef}
use Rattle.pt_ast.specs.declared.written.HashSpec.{HashSpec}
use Rattle.pt_ast.specs.declared.written.HashSpec.TheVariants as hash
use Rattle.pt_ast.specs.declared.written.MainSpec.{MainSpec}
use Rattle.pt_ast.specs.declared.written.MainSpec.TheVariants as main
use Rattle.pt_ast.specs.declared.written.SubSpec.{SubSpec}
use Rattle.pt_expr.specs.Columns.{column_named}
use Rattle.pt_expr.specs.Found.{Finding, after, call_finding, checked, column_finding, finding, finding_step, kind_finding, negation}
use Rattle.pt_place.specs.Checks.{bad_expr, is_some_name, of_finding, twice}
use Rattle.pt_place.specs.First.{in_turn}
use Rattle.pt_place.specs.Names.{names_at, names_in, names_step}
use Rattle.pt_place.specs.Valid.{bad_by}
use Rattle.pt_place.proofs.Firsts.{none_first, none_next}
use Rattle.pt_written.specs.Complete.{bad_hash, bad_list, bad_main, bad_sub}
use Rattle.pt_written.specs.Written.{columns_for_rows, own_name, places_of}
use Rattle.pt_written.specs.WrittenParts.{by_hash, by_of, renamed, renaming, sub_of}
use Rattle.pt_complete.proofs.ValidNames.{own_column, own_none, places_once}

-- ---- lists of columns

pub list_once : (columns : List Column) (names : List (List ℕ)) → bad_list columns names ≡ None → in_turn twice (names_at columns (places_of columns names)) ≡ None
list_once columns names none = places_once columns names (none_first _ _ none) (none_first _ _ (none_next _ _ none))

-- ---- what an expression is found to be

module _ (columns : List Column) where
  column_same : (name : List ℕ) → column_finding (own_name columns name) (column_named (own_name columns name) columns) ≡ column_finding name (column_named name columns)
  column_same name = ap (column_finding (own_name columns name)) (own_column name columns) ∙ by_column (column_named name columns) refl
    where
      by_column : (o : Option Column) → column_named name columns ≡ o → column_finding (own_name columns name) o ≡ column_finding name o
      by_column (Some column) is = refl
      by_column None is = ap (λ (n : List ℕ). column_finding n None) (own_none name columns is)

  abbrev SameFinding : Expr → Type 0
  SameFinding expr = finding columns (renamed columns expr) ≡ finding columns expr

  abbrev Found : Type 0
  Found = (expr : Expr) × SameFinding expr

  abbrev exprs : {X : Type 0} → List (X × Found) → List (X × Expr)
  exprs {X} ps = map {B = X × Expr} (λ (p : X × Found). (p.0, p.1.0)) ps

  abbrev own_named : {X : Type 0} → List (X × Expr) → List (X × Expr)
  own_named {X} es = map {B = X × Expr} (λ (q : X × Expr). (q.0, renamed columns q.1)) es

  abbrev findings : {X : Type 0} → List (X × Expr) → List (X × Finding)
  findings {X} es = map {B = X × Finding} (λ (q : X × Expr). (q.0, finding columns q.1)) es

  parts_same : {X : Type 0} (ps : List (X × Found)) → findings (own_named (exprs ps)) ≡ findings (exprs ps)
  parts_same {X} [] = refl
  parts_same {X} (p ∷ ps) = ap₂ (λ (f : Finding) (fs : List (X × Finding)). (p.0, f) ∷ fs) p.1.1 (parts_same ps)

  abbrev NodeSame : Expr-F Expr → Type 0
  NodeSame x = finding columns (renaming columns (map-Expr Expr Expr (renamed columns) x)) ≡ finding_step columns (map-Expr Expr Finding (finding columns) x)

  node : (y : Expr-F Found) → NodeSame (map-Expr Found Expr (λ (e : Found). e.0) y)
  node (Expr-F.Number n) = fold-roll-Expr Finding (finding_step columns) (Expr-F.Number n)
  node (Expr-F.Text bytes) = fold-roll-Expr Finding (finding_step columns) (Expr-F.Text bytes)
  node (Expr-F.Hex bytes) = fold-roll-Expr Finding (finding_step columns) (Expr-F.Hex bytes)
  node (Expr-F.Date day) = fold-roll-Expr Finding (finding_step columns) (Expr-F.Date day)
  node Expr-F.Null = fold-roll-Expr Finding (finding_step columns) Expr-F.Null
  node (Expr-F.Column name) =
      ap (finding columns) (sym (rolls-Column (own_name columns name))) ∙ fold-roll-Expr Finding (finding_step columns) (Expr-F.Column (own_name columns name)) ∙ column_same name
  node (Expr-F.Neg part) = fold-roll-Expr Finding (finding_step columns) (Expr-F.Neg (renamed columns part.0)) ∙ ap (λ (f : Finding). after f negation) part.1
  node (Expr-F.Sum parts) =
      fold-roll-Expr Finding (finding_step columns) (Expr-F.Sum (own_named (exprs parts))) ∙ ap (λ (fs : List (Bool × Finding)). finding_step columns (Expr-F.Sum fs)) (parts_same parts)
  node (Expr-F.Product first parts) =
      fold-roll-Expr Finding (finding_step columns) (Expr-F.Product (renamed columns first.0) (own_named (exprs parts)))
      ∙ ap₂ (λ (f : Finding) fs. finding_step columns (Expr-F.Product f fs)) first.1 (parts_same parts)
  node (Expr-F.Call f part) = fold-roll-Expr Finding (finding_step columns) (Expr-F.Call f (renamed columns part.0)) ∙ ap (λ (r : Finding). after r (call_finding f)) part.1

  pub finding_same : (expr : Expr) → SameFinding expr
  finding_same = ind-Expr SameFinding (λ x y is.
      ap (finding columns) (fold-roll-Expr Expr (renaming columns) x)
      ∙ subst NodeSame is (node y)
      ∙ sym (fold-roll-Expr Finding (finding_step columns) x))

  -- ---- the names in an expression

  abbrev SameNames : Expr → Type 0
  SameNames expr = names_in (renamed columns expr) ≡ map (own_name columns) (names_in expr)

  abbrev Named : Type 0
  Named = (expr : Expr) × SameNames expr

  abbrev trees : {X : Type 0} → List (X × Named) → List (X × Expr)
  trees {X} ps = map {B = X × Expr} (λ (p : X × Named). (p.0, p.1.0)) ps

  abbrev all_names : {X : Type 0} → List (X × Expr) → List (List ℕ)
  all_names {X} es = flat_map (λ (q : X × List (List ℕ)). q.1) (map {B = X × List (List ℕ)} (λ (q : X × Expr). (q.0, names_in q.1)) es)

  names_same : {X : Type 0} (ps : List (X × Named)) → all_names (own_named (trees ps)) ≡ map (own_name columns) (all_names (trees ps))
  names_same {X} [] = refl
  names_same {X} (p ∷ ps) = ap₂ (λ (a b : List (List ℕ)). a ++ b) p.1.1 (names_same ps) ∙ sym (map-append (own_name columns) (names_in p.1.0) (all_names (trees ps)))

  abbrev NodeNames : Expr-F Expr → Type 0
  NodeNames x = names_in (renaming columns (map-Expr Expr Expr (renamed columns) x)) ≡ map (own_name columns) (names_step (map-Expr Expr (List (List ℕ)) names_in x))

  node_names : (y : Expr-F Named) → NodeNames (map-Expr Named Expr (λ (e : Named). e.0) y)
  node_names (Expr-F.Number n) = fold-roll-Expr (List (List ℕ)) names_step (Expr-F.Number n)
  node_names (Expr-F.Text bytes) = fold-roll-Expr (List (List ℕ)) names_step (Expr-F.Text bytes)
  node_names (Expr-F.Hex bytes) = fold-roll-Expr (List (List ℕ)) names_step (Expr-F.Hex bytes)
  node_names (Expr-F.Date day) = fold-roll-Expr (List (List ℕ)) names_step (Expr-F.Date day)
  node_names Expr-F.Null = fold-roll-Expr (List (List ℕ)) names_step Expr-F.Null
  node_names (Expr-F.Column name) = ap names_in (sym (rolls-Column (own_name columns name))) ∙ fold-roll-Expr (List (List ℕ)) names_step (Expr-F.Column (own_name columns name))
  node_names (Expr-F.Neg part) = fold-roll-Expr (List (List ℕ)) names_step (Expr-F.Neg (renamed columns part.0)) ∙ part.1
  node_names (Expr-F.Sum parts) = fold-roll-Expr (List (List ℕ)) names_step (Expr-F.Sum (own_named (trees parts))) ∙ names_same parts
  node_names (Expr-F.Product first parts) =
      fold-roll-Expr (List (List ℕ)) names_step (Expr-F.Product (renamed columns first.0) (own_named (trees parts)))
      ∙ ap₂ (λ (a b : List (List ℕ)). a ++ b) first.1 (names_same parts) ∙ sym (map-append (own_name columns) (names_in first.0) (all_names (trees parts)))
  node_names (Expr-F.Call f part) = fold-roll-Expr (List (List ℕ)) names_step (Expr-F.Call f (renamed columns part.0)) ∙ part.1

  names_of_renamed : (expr : Expr) → SameNames expr
  names_of_renamed = ind-Expr SameNames (λ x y is.
      ap names_in (fold-roll-Expr Expr (renaming columns) x)
      ∙ subst NodeNames is (node_names y)
      ∙ ap (map (own_name columns)) (sym (fold-roll-Expr (List (List ℕ)) names_step x)))

  some_mapped : (names : List (List ℕ)) → is_some_name (map (own_name columns) names) ≡ is_some_name names
  some_mapped [] = refl
  some_mapped (name ∷ names) = refl

  pub expr_same : (table : List ℕ) (expr : Expr) → bad_expr table columns (renamed columns expr) ≡ bad_expr table columns expr
  expr_same table expr =
      ap (λ (f : Finding). of_finding table (is_some_name (names_in (renamed columns expr))) (after f (λ found. kind_finding false found.shape))) (finding_same expr)
      ∙ ap (λ b. of_finding table b (checked columns expr false)) (ap is_some_name (names_of_renamed expr) ∙ some_mapped (names_in expr))

  -- ---- the kinds of partitioning

  hash_valid : (table : List ℕ) (instead : List ℕ) (own : HashSpec) → in_turn twice (names_at columns instead) ≡ None → bad_hash table columns own ≡ None → bad_by table columns (by_hash columns instead own) ≡ None
  hash_valid table instead (hash.Hash linear expr) once none = expr_same table expr ∙ none
  hash_valid table instead (hash.Key linear []) once none = once
  hash_valid table instead (hash.Key linear (name ∷ names)) once none = list_once columns (name ∷ names) none

  pub main_valid : (table : List ℕ) (keys : List KeyDef) (own : MainSpec) → in_turn twice (names_at columns (columns_for_rows columns keys)) ≡ None → bad_main table columns own ≡ None
      → bad_by table columns (by_of columns keys own) ≡ None
  main_valid table keys (main.Range expr) once none = expr_same table expr ∙ none
  main_valid table keys (main.List expr) once none = expr_same table expr ∙ none
  main_valid table keys (main.RangeColumns names) once none = list_once columns names none
  main_valid table keys (main.ListColumns names) once none = list_once columns names none
  main_valid table keys (main.Hash own) once none = hash_valid table (columns_for_rows columns keys) own once none

  pub sub_valid : (table : List ℕ) (own : Option SubSpec) → bad_sub table columns own ≡ None → bad_by table columns (sub_of columns own) ≡ None
  sub_valid table None none = refl
  sub_valid table (Some sub) none = hash_valid table [] sub.hash refl none
