-- An expression that may be partitioned by is kept as a storable one, with each column named as the table does.
use Rattle.std.proofs.Common.{◌≡◌, ℕ, suc, ℤ, Bool, true, false, cond, ◌||◌, List, [], ◌∷◌, map, length, max, Option, Some, None, Result, Ok, Err, refl, sym, ap, ap₂, subst, ◌∙◌, arith, Any}
use Rattle.std.specs.List.{AllByRecursion, list_all}
use Rattle.std.specs.Option.{option_map_or}
use Rattle.std.proofs.lemmas.Int.{ints}
use Rattle.std.proofs.lemmas.List.{length-map}
use Rattle.pt_value.specs.Fits.{FitsDate, fits_date}
use Rattle.pt_value.specs.Text.{day_of}
use Rattle.pt_value.proofs.Spelled.{day_of-spells}
use Rattle.pt_ast.specs.declared.tree.Op.{Op}
use Rattle.pt_ast.specs.declared.tree.Op.TheVariants as op
use Rattle.pt_ast.specs.declared.tree.Func.{Func}
use Rattle.pt_ast.specs.declared.tree.Func.TheVariants as func
use Rattle.pt_ast.specs.declared.tree.Expr.{Expr, every-Expr, every_here-Expr, fold-roll-Expr, map-Expr, out-roll-Expr, roll-Expr}
use Rattle.pt_ast.specs.declared.tree.Expr.TheOpen.{Expr-F}
use Rattle.pt_ast.specs.declared.tree.Expr.TheVariants.{rolls-Column}
use Rattle.pt_ast.specs.declared.table.Column.{Column}
use Rattle.pt_ast.specs.Storable.{HasAtLeast, greatest}
use Rattle.pt_ast.specs.StorableExpr.{BeginsWithPlus, IsStorableExpr, IsStorableNode, depth, depth_step}
use Rattle.pt_ast.specs.StorableDef.{IsFitDate, IsKeptExpr, IsKeptNode, IsShort}
use Rattle.pt_expr.specs.declared.kind.CheckFault.{CheckFault}
use Rattle.pt_expr.specs.Columns.{column_named, is_named}
use Rattle.pt_expr.specs.Found.{Finding, after, all_found, absolute, beside, call_finding, column_finding, date_finding, day_part, finding, finding_step, kind_finding, may_be_day, may_be_wide, negation, product_finding, is_literal, sum_finding, takes, text_shape, other}
use Rattle.pt_place.specs.Checks.{bad_expr, of_finding}
use Rattle.pt_place.specs.Names.{names_in}
use Rattle.pt_place.proofs.Looks.{both_left, both_right}
use Rattle.pt_place.specs.Checks.{is_some_name}
use Rattle.pt_written.specs.Written.{own_name}
use Rattle.pt_written.specs.WrittenParts.{renamed, renaming}
use Rattle.pt_complete.proofs.Layers.{all_both, by_kids, every_kids, every_roll, kids}

-- ---- columns named as the table does, layer by layer

abbrev pub name_layer : List Column → Expr-F Expr → Expr-F Expr
name_layer columns (Expr-F.Column name) = Expr-F.Column (own_name columns name)
name_layer columns node = node

abbrev pub renamed_layer : List Column → Expr-F Expr → Expr-F Expr
renamed_layer columns layer = name_layer columns (map-Expr Expr Expr (renamed columns) layer)

module _ (columns : List Column) where
  names_layer : (layer : Expr-F Expr) → renaming columns layer ≡ roll-Expr (name_layer columns layer)
  names_layer (Expr-F.Number n) = refl
  names_layer (Expr-F.Text bytes) = refl
  names_layer (Expr-F.Hex bytes) = refl
  names_layer (Expr-F.Date day) = refl
  names_layer Expr-F.Null = refl
  names_layer (Expr-F.Column name) = sym (rolls-Column (own_name columns name))
  names_layer (Expr-F.Neg part) = refl
  names_layer (Expr-F.Sum parts) = refl
  names_layer (Expr-F.Product first parts) = refl
  names_layer (Expr-F.Call called part) = refl

  renamed_roll : (layer : Expr-F Expr) → roll-Expr (renamed_layer columns layer) ≡ renamed columns (roll-Expr layer)
  renamed_roll layer = sym (fold-roll-Expr Expr (renaming columns) layer ∙ names_layer (map-Expr Expr Expr (renamed columns) layer))

  abbrev parts_renamed : {A : Type 0} → List (A × Expr) → List (A × Expr)
  parts_renamed {A} ps = map {B = A × Expr} (λ (p : A × Expr). (p.0, renamed columns p.1)) ps

  -- ---- what is below

  module _ (P : Expr → Type 0) where
    below_parts : {A : Type 0} (ps : List (A × Expr)) → AllByRecursion (λ x. P (renamed columns x)) (map (λ (p : A × Expr). p.1) ps) → AllByRecursion P (map (λ (p : A × Expr). p.1) (parts_renamed ps))
    below_parts [] all = tt
    below_parts (p ∷ ps) all = (all.0, below_parts ps all.1)

    below : (layer : Expr-F Expr) → AllByRecursion (λ x. P (renamed columns x)) (kids layer) → AllByRecursion P (kids (renamed_layer columns layer))
    below (Expr-F.Number n) all = tt
    below (Expr-F.Text bytes) all = tt
    below (Expr-F.Hex bytes) all = tt
    below (Expr-F.Date day) all = tt
    below Expr-F.Null all = tt
    below (Expr-F.Column name) all = tt
    below (Expr-F.Neg part) all = all
    below (Expr-F.Sum parts) all = below_parts parts all
    below (Expr-F.Product first parts) all = (all.0, below_parts parts all.1)
    below (Expr-F.Call called part) all = all

  -- ---- depth

  abbrev SameDepth : Expr → Type 0
  SameDepth x = depth (renamed columns x) ≡ depth x

  abbrev depths : {A : Type 0} → List (A × Expr) → List ℕ
  depths {A} ps = map (λ (p : A × ℕ). p.1) (map {B = A × ℕ} (λ (p : A × Expr). (p.0, depth p.1)) ps)

  parts_deep : {A : Type 0} (ps : List (A × Expr)) → AllByRecursion SameDepth (map (λ (p : A × Expr). p.1) ps) → depths (parts_renamed ps) ≡ depths ps
  parts_deep [] all = refl
  parts_deep (p ∷ ps) all = ap₂ (λ (n : ℕ) (ns : List ℕ). n ∷ ns) all.0 (parts_deep ps all.1)

  layer_deep : (layer : Expr-F Expr) → AllByRecursion SameDepth (kids layer) → depth_step (map-Expr Expr ℕ depth (renamed_layer columns layer)) ≡ depth_step (map-Expr Expr ℕ depth layer)
  layer_deep (Expr-F.Number n) all = refl
  layer_deep (Expr-F.Text bytes) all = refl
  layer_deep (Expr-F.Hex bytes) all = refl
  layer_deep (Expr-F.Date day) all = refl
  layer_deep Expr-F.Null all = refl
  layer_deep (Expr-F.Column name) all = refl
  layer_deep (Expr-F.Neg part) all = ap suc all.0
  layer_deep (Expr-F.Sum parts) all = ap (λ (ns : List ℕ). suc (greatest ns)) (parts_deep parts all)
  layer_deep (Expr-F.Product first parts) all = ap₂ (λ (n : ℕ) (ns : List ℕ). suc (max n (greatest ns))) all.0 (parts_deep parts all.1)
  layer_deep (Expr-F.Call called part) all = ap suc all.0

  same_depth : (x : Expr) → SameDepth x
  same_depth = by_kids SameDepth (λ layer all.
      ap depth (sym (renamed_roll layer)) ∙ fold-roll-Expr ℕ depth_step (renamed_layer columns layer) ∙ layer_deep layer all ∙ sym (fold-roll-Expr ℕ depth_step layer))

  -- ---- each node is storable

  begins_so : (parts : List (Bool × Expr)) → BeginsWithPlus parts → BeginsWithPlus (parts_renamed parts)
  begins_so [] so = tt
  begins_so (part ∷ parts) so = so

  as_many : {A : Type 0} (least : ℕ) (ps : List (A × Expr)) → HasAtLeast least ps → HasAtLeast least (parts_renamed ps)
  as_many {A} least ps so = let same = length-map {B = A × Expr} ps (λ (p : A × Expr). (p.0, renamed columns p.1)) in (omega (arith, so.0, same), omega (arith, so.1, same))

  layer_storable : (layer : Expr-F Expr) → IsStorableNode layer → IsStorableNode (renamed_layer columns layer)
  layer_storable (Expr-F.Number n) so = so
  layer_storable (Expr-F.Text bytes) so = so
  layer_storable (Expr-F.Hex bytes) so = so
  layer_storable (Expr-F.Date day) so = tt
  layer_storable Expr-F.Null so = tt
  layer_storable (Expr-F.Column name) so = tt
  layer_storable (Expr-F.Neg part) so = tt
  layer_storable (Expr-F.Sum parts) so = (as_many 2 parts so.0, begins_so parts so.1)
  layer_storable (Expr-F.Product first parts) so = as_many 1 parts so
  layer_storable (Expr-F.Call called part) so = tt

  abbrev Stays : Expr → Type 0
  Stays x = every-Expr IsStorableNode x → every-Expr IsStorableNode (renamed columns x)

  stays : (x : Expr) → Stays x
  stays = by_kids Stays (λ layer all each.
      let here = subst IsStorableNode (out-roll-Expr layer) (every_here-Expr IsStorableNode (roll-Expr layer) each) in
      let inner = subst (λ (l : Expr-F Expr). AllByRecursion (every-Expr IsStorableNode) (kids l)) (out-roll-Expr layer) (every_kids IsStorableNode (roll-Expr layer) each) in
      subst (every-Expr IsStorableNode) (renamed_roll layer)
      (every_roll IsStorableNode (renamed_layer columns layer) (layer_storable layer here)
      (below (every-Expr IsStorableNode) layer (all_both Stays (every-Expr IsStorableNode) (λ x. every-Expr IsStorableNode (renamed columns x)) (λ x step so. step so) (kids layer) all inner))))

  renamed_storable : (x : Expr) → IsStorableExpr x → IsStorableExpr (renamed columns x)
  renamed_storable x so = record { nodes = stays x so.nodes; depth = omega (arith, so.depth, same_depth x) }

-- ---- what a sound part is found to be: an integer, a day or a text that spells one

abbrev pub IsFine : Finding → Type 0
IsFine (Ok found) = (may_be_wide found.shape || may_be_day found.shape) ≡ true
IsFine (Err fault) = ⊥

abbrev pub is_wide : Finding → Bool
is_wide (Ok part) = may_be_wide part.shape
is_wide (Err fault) = false

abbrev pub is_taken : Op → Finding → Bool
is_taken o (Ok part) = takes o part
is_taken o (Err fault) = false

pub or_left : (a b : Bool) → a ≡ true → (a || b) ≡ true
or_left true b is = refl
or_left false b is = absurd (cc)

pub wide_fine : (r : Finding) → is_wide r ≡ true → IsFine r
wide_fine (Ok part) is = or_left (may_be_wide part.shape) (may_be_day part.shape) is
wide_fine (Err fault) is = absurd (cc)

abbrev pub is_written : Finding → Bool
is_written (Ok part) = is_literal part.shape
is_written (Err fault) = false

pub written_wide : (r : Finding) → is_written r ≡ true → is_wide r ≡ true
written_wide (Ok part) is = grind (arith, is)
written_wide (Err fault) is = is

pub taken_fine : (o : Op) (r : Finding) → is_taken o r ≡ true → IsFine r
taken_fine op.Times (Ok part) is = wide_fine (Ok part) is
taken_fine op.Div (Ok part) is = wide_fine (Ok part) (written_wide (Ok part) (both_left (is_literal part.shape) _ is))
taken_fine op.Mod (Ok part) is = wide_fine (Ok part) (written_wide (Ok part) (both_left (is_literal part.shape) _ is))
taken_fine o (Err fault) is = absurd (cc)

-- where a test decides between a finding and a fault, and the finding is fine, the test holds
pub chosen : (b : Bool) (r : Finding) (f : CheckFault) → IsFine (cond b r (Err f)) → b ≡ true
chosen true r f is = refl
chosen false r f is = absurd is

pub neg_fine : (r : Finding) → IsFine (after r negation) → IsFine r
neg_fine (Ok part) is = wide_fine (Ok part) (chosen (may_be_wide part.shape) _ _ is)
neg_fine (Err fault) is = is

pub abs_fine : (r : Finding) → IsFine (after r absolute) → IsFine r
abs_fine (Ok part) is = wide_fine (Ok part) (chosen (may_be_wide part.shape) _ _ is)
abs_fine (Err fault) is = is

pub part_fine : (bound : ℕ) (r : Finding) → IsFine (after r (λ part. day_part bound part.shape)) → IsFine r
part_fine bound (Ok part) is = grind (arith, is)
part_fine bound (Err fault) is = is

pub call_fine : (f : Func) (r : Finding) → IsFine (after r (call_finding f)) → IsFine r
call_fine func.Abs r is = abs_fine r is
call_fine func.Year r is = part_fine 9999 r is
call_fine func.Month r is = part_fine 12 r is
call_fine func.DayOfMonth r is = part_fine 31 r is
call_fine func.DayOfYear r is = part_fine 366 r is
call_fine func.DayOfWeek r is = part_fine 7 r is
call_fine func.Weekday r is = part_fine 6 r is
call_fine func.Quarter r is = part_fine 4 r is
call_fine func.ToDays r is = part_fine 3_652_424 r is

-- ---- lists of parts

module _ {A : Type 0} (test : A → Bool) where
  -- all that was found passes the test
  abbrev AllPass : Result (List A) CheckFault → Type 0
  AllPass (Ok founds) = list_all test founds ≡ true
  AllPass (Err fault) = ⊥

  abbrev Passes : Result A CheckFault → Type 0
  Passes (Ok found) = test found ≡ true
  Passes (Err fault) = ⊥

  one_passes : (first : Result A CheckFault) (rest : Result (List A) CheckFault) → AllPass (after first (λ x. after rest (λ xs. Ok (x ∷ xs)))) → Passes first × AllPass rest
  one_passes (Ok x) (Ok xs) is = (both_left (test x) (list_all test xs) is, both_right (test x) (list_all test xs) is)
  one_passes (Ok x) (Err fault) is = absurd is
  one_passes (Err fault) rest is = absurd is

  all_pass : (fs : List (Result A CheckFault)) → AllPass (all_found fs) → AllByRecursion Passes fs
  all_pass [] is = tt
  all_pass (f ∷ fs) is = let both = one_passes f (all_found fs) is in (both.0, all_pass fs both.1)

pub passes_wide : (r : Finding) → Passes (λ part. is_wide (Ok part)) r → IsFine r
passes_wide (Ok part) is = wide_fine (Ok part) is
passes_wide (Err fault) is = absurd is

pub passes_taken : (o : Op) (r : Finding) → Passes (λ (part : Op × _). is_taken part.0 (Ok part.1)) (beside o r) → IsFine r
passes_taken o (Ok part) is = taken_fine o (Ok part) is
passes_taken o (Err fault) is = absurd is

pub sum_wide : (r : _) → IsFine (after r sum_finding) → AllPass (λ part. is_wide (Ok part)) r
sum_wide (Ok parts) is = chosen _ _ _ is
sum_wide (Err fault) is = is

pub product_taken : (first : Finding) (r : _) → IsFine (after first (λ found. after r (product_finding found))) → IsFine first × AllPass (λ (part : Op × _). is_taken part.0 (Ok part.1)) r
product_taken (Ok first) (Ok parts) is =
    let both = chosen _ _ _ is in
    (wide_fine (Ok first) (both_left (may_be_wide first.shape) _ both), both_right (may_be_wide first.shape) _ both)
product_taken (Ok first) (Err fault) is = absurd is
product_taken (Err fault) r is = absurd is

-- ---- each node is kept

pub short_text : (bytes : List ℕ) (o : Option ℤ) → day_of bytes ≡ o → IsFine (Ok (other (text_shape o))) → IsShort bytes
short_text bytes (Some day) spelled fine = omega (arith, ap length (day_of-spells bytes day spelled).text)
short_text bytes None spelled fine = absurd (cc)

pub fit_date : (o : Option ℤ) → IsFine (date_finding o) → IsFitDate o
fit_date (Some day) is = by (chosen (fits_date day) _ _ is)
  where
    by : fits_date day ≡ true → FitsDate day
    by fits = grind (arith, ints, fits)
fit_date None is = is

pub is_there : (name : List ℕ) (columns : List Column) (own : Column) → column_named name columns ≡ Some own → Any (λ (column : Column). column.name ≡ own.name) columns
is_there name [] own found = absurd (cc)
is_there name (column ∷ columns) own found = by (is_named name column) found (is_there name columns own)
  where
    by : (b : Bool) → cond b (Some column) (column_named name columns) ≡ Some own → (column_named name columns ≡ Some own → Any (λ (c : Column). c.name ≡ own.name) columns)
        → Any (λ (c : Column). c.name ≡ own.name) (column ∷ columns)
    by true found later = (0, column, omega arith, refl, cc)
    by false found later = let m = later found in (suc m.0, m.1, omega (arith, m.2), m.3, m.4)

pub own_there : (name : List ℕ) (columns : List Column) (o : Option Column) → column_named name columns ≡ o → IsFine (column_finding name o)
    → Any (λ (column : Column). column.name ≡ option_map_or (λ (own : Column). own.name) o name) columns
own_there name columns (Some own) found is = is_there name columns own found
own_there name columns None found is = absurd is

module _ (columns : List Column) where
  abbrev Fine : Expr → Type 0
  Fine x = IsFine (finding columns x)

  sum_parts : (ps : List (Bool × Expr)) → AllByRecursion (Passes (λ part. is_wide (Ok part))) (map (λ (p : Bool × Finding). p.1) (map {B = Bool × Finding} (λ (p : Bool × Expr). (p.0, finding columns p.1)) ps))
      → AllByRecursion Fine (map (λ (p : Bool × Expr). p.1) ps)
  sum_parts [] is = tt
  sum_parts (p ∷ ps) is = (passes_wide (finding columns p.1) is.0, sum_parts ps is.1)

  product_parts : (ps : List (Op × Expr)) → AllByRecursion (Passes (λ (part : Op × _). is_taken part.0 (Ok part.1))) (map (λ (p : Op × Finding). beside p.0 p.1) (map {B = Op × Finding} (λ (p : Op × Expr). (p.0, finding columns p.1)) ps))
      → AllByRecursion Fine (map (λ (p : Op × Expr). p.1) ps)
  product_parts [] is = tt
  product_parts (p ∷ ps) is = (passes_taken p.0 (finding columns p.1) is.0, product_parts ps is.1)

  below_fine : (layer : Expr-F Expr) → IsFine (finding_step columns (map-Expr Expr Finding (finding columns) layer)) → AllByRecursion Fine (kids layer)
  below_fine (Expr-F.Number n) is = tt
  below_fine (Expr-F.Text bytes) is = tt
  below_fine (Expr-F.Hex bytes) is = tt
  below_fine (Expr-F.Date day) is = tt
  below_fine Expr-F.Null is = tt
  below_fine (Expr-F.Column name) is = tt
  below_fine (Expr-F.Neg part) is = (neg_fine (finding columns part) is, tt)
  below_fine (Expr-F.Sum parts) is = sum_parts parts (all_pass (λ part. is_wide (Ok part)) _ (sum_wide _ is))
  below_fine (Expr-F.Product first parts) is = let both = product_taken (finding columns first) _ is in (both.0, product_parts parts (all_pass (λ (part : Op × _). is_taken part.0 (Ok part.1)) _ both.1))
  below_fine (Expr-F.Call called part) is = (call_fine called (finding columns part) is, tt)

  layer_kept : (layer : Expr-F Expr) → IsFine (finding_step columns (map-Expr Expr Finding (finding columns) layer)) → IsKeptNode columns (renamed_layer columns layer)
  layer_kept (Expr-F.Number n) is = tt
  layer_kept (Expr-F.Text bytes) is = short_text bytes (day_of bytes) refl is
  layer_kept (Expr-F.Hex bytes) is = absurd (cc)
  layer_kept (Expr-F.Date day) is = fit_date day is
  layer_kept Expr-F.Null is = tt
  layer_kept (Expr-F.Column name) is = own_there name columns (column_named name columns) refl is
  layer_kept (Expr-F.Neg part) is = tt
  layer_kept (Expr-F.Sum parts) is = tt
  layer_kept (Expr-F.Product first parts) is = tt
  layer_kept (Expr-F.Call called part) is = tt

  abbrev Keeps : Expr → Type 0
  Keeps x = Fine x → every-Expr (IsKeptNode columns) (renamed columns x)

  keeps : (x : Expr) → Keeps x
  keeps = by_kids Keeps (λ layer all fine.
      let here = subst IsFine (fold-roll-Expr Finding (finding_step columns) layer) fine in
      subst (every-Expr (IsKeptNode columns)) (renamed_roll columns layer)
      (every_roll (IsKeptNode columns) (renamed_layer columns layer) (layer_kept layer here)
      (below columns (every-Expr (IsKeptNode columns)) layer (all_both Keeps Fine (λ x. every-Expr (IsKeptNode columns) (renamed columns x)) (λ x step so. step so) (kids layer) all (below_fine layer here)))))

-- ---- the whole expression is an integer

pub whole_fine : (table : List ℕ) (names : Bool) (r : Finding) → of_finding table names (after r (λ found. kind_finding false found.shape)) ≡ None → IsFine r
whole_fine table names (Ok found) none = grind (arith, none)
whole_fine table names (Err fault) none = cc

pub expr_kept : (table : List ℕ) (columns : List Column) (x : Expr) → bad_expr table columns x ≡ None → IsStorableExpr x → IsKeptExpr columns (renamed columns x)
expr_kept table columns x none so = record {
  storable = renamed_storable columns x so;
  nodes = keeps columns x (whole_fine table (is_some_name (names_in x)) (finding columns x) none);
}
