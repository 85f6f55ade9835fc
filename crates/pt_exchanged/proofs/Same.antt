-- Tables of the same structure: what fits the one fits the other, and two rows agree on a unique key of both or of neither.
use Rattle.std.proofs.Common.{◌≡◌, ℕ, ◌==◌, Bool, true, false, ◌&&◌, ◌||◌, List, [], ◌∷◌, map, refl, sym, ap, ap₂, subst, ◌∙◌, arith, nat_eq}
use Rattle.std.specs.List.{filter, list_any}
use Rattle.std.specs.Cmp.Lexicographic.{pointwise}
use Rattle.std.specs.Str.{str_eq_ignore_ascii_case}
use Rattle.std.proofs.lemmas.Bool.{and_parts, eqb-true}
use Rattle.pt_value.specs.Fits.{Fits}
use Rattle.pt_value.specs.declared.value.Kind.{Kind}
use Rattle.pt_value.specs.declared.value.Kind.TheVariants as kind
use Rattle.pt_value.specs.declared.value.Value.{Value}
use Rattle.pt_ast.specs.declared.table.Column.{Column}
use Rattle.pt_ast.specs.declared.table.KeyDef.{KeyDef}
use Rattle.pt_ast.specs.declared.table.Rank.{Rank}
use Rattle.pt_ast.specs.declared.table.Rank.TheVariants as rank
use Rattle.pt_ast.specs.declared.table.TableDef.{TableDef}
use Rattle.pt_ast.specs.Keys.{agree, agrees, is_null, is_unique}
use Rattle.pt_defs.specs.Spelling.{flag}
use Rattle.pt_expr.specs.Columns.{AreFitting}
use Rattle.pt_db.specs.Sound.{has_wrong_null}
use Rattle.pt_show.specs.Structure.{columns_of, kind_code, same_column, same_keys, same_structure}

-- ---- columns

-- a number tells the type
kind_same : (a b : Kind) → kind_code a ≡ kind_code b → a ≡ b
kind_same kind.Int kind.Int e = refl
kind_same kind.Int kind.BigInt e = absurd (omega (arith, e))
kind_same kind.Int kind.Date e = absurd (omega (arith, e))
kind_same kind.Int (kind.Binary n) e = absurd (omega (arith, e))
kind_same kind.BigInt kind.Int e = absurd (omega (arith, e))
kind_same kind.BigInt kind.BigInt e = refl
kind_same kind.BigInt kind.Date e = absurd (omega (arith, e))
kind_same kind.BigInt (kind.Binary n) e = absurd (omega (arith, e))
kind_same kind.Date kind.Int e = absurd (omega (arith, e))
kind_same kind.Date kind.BigInt e = absurd (omega (arith, e))
kind_same kind.Date kind.Date e = refl
kind_same kind.Date (kind.Binary n) e = absurd (omega (arith, e))
kind_same (kind.Binary m) kind.Int e = absurd (omega (arith, e))
kind_same (kind.Binary m) kind.BigInt e = absurd (omega (arith, e))
kind_same (kind.Binary m) kind.Date e = absurd (omega (arith, e))
kind_same (kind.Binary m) (kind.Binary n) e = let same : m ≡ n = omega (arith, e) in ap kind.Binary same

flag_same : (a b : Bool) → flag a ≡ flag b → a ≡ b
flag_same true true e = refl
flag_same true false e = absurd (omega (arith, e))
flag_same false true e = absurd (omega (arith, e))
flag_same false false e = refl

module _ (a b : Column) (same : same_column a b ≡ true) where
  parts : (str_eq_ignore_ascii_case a.name b.name ≡ true) × ((kind_code a.kind == kind_code b.kind) && (flag a.not_null == flag b.not_null)) ≡ true
  parts = and_parts (str_eq_ignore_ascii_case a.name b.name) ((kind_code a.kind == kind_code b.kind) && (flag a.not_null == flag b.not_null)) same

  both : ((kind_code a.kind == kind_code b.kind) ≡ true) × ((flag a.not_null == flag b.not_null) ≡ true)
  both = and_parts (kind_code a.kind == kind_code b.kind) (flag a.not_null == flag b.not_null) parts.1

  of_kind : a.kind ≡ b.kind
  of_kind = kind_same a.kind b.kind (eqb-true (kind_code a.kind) (kind_code b.kind) both.0)

  of_nulls : a.not_null ≡ b.not_null
  of_nulls = flag_same a.not_null b.not_null (eqb-true (flag a.not_null) (flag b.not_null) both.1)

columns_fit : (xs ys : List Column) (cells : List Value) → pointwise same_column xs ys ≡ true → AreFitting ys cells → AreFitting xs cells
columns_fit [] [] cells e h = h
columns_fit [] (b ∷ ys) cells e h = let bad : false ≡ true = e in cc
columns_fit (a ∷ xs) [] cells e h = let bad : false ≡ true = e in cc
columns_fit (a ∷ xs) (b ∷ ys) [] e h = h
columns_fit (a ∷ xs) (b ∷ ys) (cell ∷ cells) e h =
    let two = and_parts (same_column a b) (pointwise same_column xs ys) e in
    (subst (λ (k : Kind). Fits k cell) (sym (of_kind a b two.0)) h.0, columns_fit xs ys cells two.1 h.1)

nulls_same : (xs ys : List Column) (cells : List Value) → pointwise same_column xs ys ≡ true → has_wrong_null xs cells ≡ has_wrong_null ys cells
nulls_same [] [] cells e = refl
nulls_same [] (b ∷ ys) cells e = let bad : false ≡ true = e in cc
nulls_same (a ∷ xs) [] cells e = let bad : false ≡ true = e in cc
nulls_same (a ∷ xs) (b ∷ ys) [] e = refl
nulls_same (a ∷ xs) (b ∷ ys) (cell ∷ cells) e =
    let two = and_parts (same_column a b) (pointwise same_column xs ys) e in
    ap₂ (λ (x y : Bool). (x && is_null cell) || y) (of_nulls a b two.0) (nulls_same xs ys cells two.1)

module _ (xs ys : List Column) where
  columns_turned : pointwise same_column xs ys ≡ true → (cells : List Value) → AreFitting xs cells → AreFitting ys cells
  columns_turned e cells h = turned xs ys cells e h
    where
      turned : (xs ys : List Column) (own : List Value) → pointwise same_column xs ys ≡ true → AreFitting xs own → AreFitting ys own
      turned [] [] own e h = h
      turned [] (y ∷ ys) own e h = let bad : false ≡ true = e in cc
      turned (x ∷ xs) [] own e h = let bad : false ≡ true = e in cc
      turned (x ∷ xs) (y ∷ ys) [] e h = h
      turned (x ∷ xs) (y ∷ ys) (cell ∷ more) e h =
          let two = and_parts (same_column x y) (pointwise same_column xs ys) e in
          (subst (λ (k : Kind). Fits k cell) (of_kind x y two.0) h.0, turned xs ys more two.1 h.1)

-- ---- keys

numbers_same : (xs ys : List ℕ) → pointwise nat_eq xs ys ≡ true → xs ≡ ys
numbers_same [] [] e = refl
numbers_same [] (y ∷ ys) e = let bad : false ≡ true = e in cc
numbers_same (x ∷ xs) [] e = let bad : false ≡ true = e in cc
numbers_same (x ∷ xs) (y ∷ ys) e =
    let two = and_parts (nat_eq x y) (pointwise nat_eq xs ys) e in
    ap₂ (λ (n : ℕ) (ns : List ℕ). n ∷ ns) (eqb-true x y two.0) (numbers_same xs ys two.1)

lists_same : (xs ys : List (List ℕ)) → pointwise (pointwise nat_eq) xs ys ≡ true → xs ≡ ys
lists_same [] [] e = refl
lists_same [] (y ∷ ys) e = let bad : false ≡ true = e in cc
lists_same (x ∷ xs) [] e = let bad : false ≡ true = e in cc
lists_same (x ∷ xs) (y ∷ ys) e =
    let two = and_parts (pointwise nat_eq x y) (pointwise (pointwise nat_eq) xs ys) e in
    ap₂ (λ (n : List ℕ) (ns : List (List ℕ)). n ∷ ns) (numbers_same x y two.0) (lists_same xs ys two.1)

module _ (p : List ℕ → Bool) where
  -- some unique key's columns pass: the primary key's, or another's
  by_ranks : (keys : List KeyDef) → list_any p (map (λ (key : KeyDef). key.columns) (filter (λ (key : KeyDef). is_unique key.rank) keys)) ≡ (list_any p (columns_of rank.Primary keys) || list_any p (columns_of rank.Unique keys))
  unfolding columns_of
  by_ranks [] = refl
  by_ranks (key ∷ keys) = by key.rank (by_ranks keys)
    where
      x : Bool
      x = p key.columns

      later : Bool
      later = list_any p (map (λ (own : KeyDef). own.columns) (filter (λ (own : KeyDef). is_unique own.rank) keys))

      primary : Bool
      primary = list_any p (columns_of rank.Primary keys)

      unique : Bool
      unique = list_any p (columns_of rank.Unique keys)

      first : (a b c d : Bool) → d ≡ (b || c) → (a || d) ≡ ((a || b) || c)
      first true b c d e = refl
      first false b c d e = e

      second : (a b c d : Bool) → d ≡ (b || c) → (a || d) ≡ (b || (a || c))
      second true true c d e = refl
      second true false c d e = refl
      second false b c d e = e

      keyed : Rank → List KeyDef → List KeyDef
      keyed r rest = record key { rank = r } ∷ rest

      by : (r : Rank) → later ≡ (primary || unique)
          → list_any p (map (λ (own : KeyDef). own.columns) (filter (λ (own : KeyDef). is_unique own.rank) (keyed r keys))) ≡ (list_any p (columns_of rank.Primary (keyed r keys)) || list_any p (columns_of rank.Unique (keyed r keys)))
      by rank.Primary e = first x primary unique later e
      by rank.Unique e = second x primary unique later e
      by rank.Plain e = e

-- ---- two tables

module _ (a b : TableDef) (same : same_structure a b ≡ true) where
  columns_are : pointwise same_column a.columns b.columns ≡ true
  columns_are = (and_parts (pointwise same_column a.columns b.columns) (same_keys rank.Primary a.keys b.keys && same_keys rank.Unique a.keys b.keys) same).0

  keys_are : (same_keys rank.Primary a.keys b.keys ≡ true) × (same_keys rank.Unique a.keys b.keys ≡ true)
  keys_are = and_parts (same_keys rank.Primary a.keys b.keys) (same_keys rank.Unique a.keys b.keys) (and_parts (pointwise same_column a.columns b.columns) (same_keys rank.Primary a.keys b.keys && same_keys rank.Unique a.keys b.keys) same).1

  pub fits_first : (cells : List Value) → AreFitting b.columns cells → AreFitting a.columns cells
  fits_first cells h = columns_fit a.columns b.columns cells columns_are h

  pub fits_second : (cells : List Value) → AreFitting a.columns cells → AreFitting b.columns cells
  fits_second cells h = columns_turned a.columns b.columns columns_are cells h

  pub same_nulls : (cells : List Value) → has_wrong_null a.columns cells ≡ has_wrong_null b.columns cells
  same_nulls cells = nulls_same a.columns b.columns cells columns_are

  pub same_agrees : (x y : List Value) → agrees a x y ≡ agrees b x y
  same_agrees x y =
      by_ranks (agree x y) a.keys
      ∙ ap₂ (λ (xs ys : List (List ℕ)). list_any (agree x y) xs || list_any (agree x y) ys) (lists_same (columns_of rank.Primary a.keys) (columns_of rank.Primary b.keys) keys_are.0) (lists_same (columns_of rank.Unique a.keys) (columns_of rank.Unique b.keys) keys_are.1)
      ∙ sym (by_ranks (agree x y) b.keys)
