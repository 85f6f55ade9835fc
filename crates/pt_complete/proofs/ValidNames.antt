-- Names that are the same but for case, and columns by their own names.
use Rattle.std.proofs.Common.{◌≡◌, ℕ, suc, ◌+◌, ◌<◌, Bool, true, false, cond, not, ◌||◌, List, [], ◌∷◌, ◌++◌, map, length, Option, Some, None, refl, sym, ap, ◌∙◌, arith}
use Rattle.std.specs.Prelude.{is_none, nat_lt, slice_index_or}
use Rattle.std.specs.Str.{bytes_eq, str_eq_ignore_ascii_case, str_to_ascii_lowercase}
use Rattle.std.specs.List.{position_or_len}
use Rattle.std.specs.Option.{option_map_or, option_or}
use Rattle.std.proofs.lemmas.Bool.{ltb-true, true≢false}
use Rattle.std.proofs.lemmas.Slice.Eq.{bytes_eq-Decides}
use Rattle.std.proofs.lemmas.List.{map-append}
use Rattle.pt_ast.specs.declared.table.Column.{Column}
use Rattle.pt_ast.specs.declared.refusal.Refusal.{Refusal}
use Rattle.pt_ast.specs.declared.refusal.Arg.TheVariants as arg
use Rattle.pt_ast.specs.declared.refusal.Refusal.TheVariants as refusal
use Rattle.pt_expr.specs.Columns.{column_named, is_named}
use Rattle.pt_place.specs.Checks.{twice}
use Rattle.pt_place.specs.First.{first_in, in_turn, in_turn_from, refused_if}
use Rattle.pt_place.specs.Names.{is_among, name_at, names_at, names_of}
use Rattle.pt_place.proofs.Firsts.{none_first, none_next, passes}
use Rattle.pt_written.specs.Complete.{no_column}
use Rattle.pt_written.specs.Written.{own_name, places_of}

-- ---- small letters

abbrev pub lower : List ℕ → List ℕ
lower name = str_to_ascii_lowercase name

pub alike_lower : (a b : List ℕ) → str_eq_ignore_ascii_case a b ≡ true → lower a ≡ lower b
alike_lower a b e = (bytes_eq-Decides (lower a) (lower b)).0 e

pub lower_alike : (a b : List ℕ) → lower a ≡ lower b → str_eq_ignore_ascii_case a b ≡ true
lower_alike a b e = (bytes_eq-Decides (lower a) (lower b)).1 e

-- ---- tests that agree

pub not_refused : (b : Bool) (r : Refusal) → b ≡ false → refused_if b r ≡ None
not_refused true r e = cc
not_refused false r e = refl

pub both_none : (a b : Option Refusal) → a ≡ None → b ≡ None → option_or a b ≡ None
both_none (Some r) b e f = e
both_none None b e f = f

-- ---- what holds of each item

abbrev pub Each : {A : Type 0} → (A → Type 0) → List A → Type 0
Each {A} P [] = Unit {0}
Each {A} P (x ∷ xs) = P x × Each P xs

pub each_append : {A : Type 0} (P : A → Type 0) (xs ys : List A) → Each P xs → Each P ys → Each P (xs ++ ys)
each_append P [] ys all more = more
each_append P (x ∷ xs) ys all more = (all.0, each_append P xs ys all.1 more)

pub each_left : {A : Type 0} (P : A → Type 0) (xs ys : List A) → Each P (xs ++ ys) → Each P xs
each_left P [] ys all = tt
each_left P (x ∷ xs) ys all = (all.0, each_left P xs ys all.1)

pub each_right : {A : Type 0} (P : A → Type 0) (xs ys : List A) → Each P (xs ++ ys) → Each P ys
each_right P [] ys all = all
each_right P (x ∷ xs) ys all = each_right P xs ys all.1

-- ---- a list of names beside another of the same names

pub among_same : (a b : List ℕ) (xs ys : List (List ℕ)) → lower a ≡ lower b → map lower xs ≡ map lower ys → is_among a xs ≡ is_among b ys
among_same a b [] [] e same = refl
among_same a b [] (y ∷ ys) e same = cc
among_same a b (x ∷ xs) [] e same = cc
among_same a b (x ∷ xs) (y ∷ ys) e same =
    let head : lower x ≡ lower y = cc in
    let tail : map lower xs ≡ map lower ys = cc in
    ap (λ l. bytes_eq l (lower x) || is_among a xs) e ∙ ap (λ l. bytes_eq (lower b) l || is_among a xs) head
    ∙ ap (λ t. str_eq_ignore_ascii_case b y || t) (among_same a b xs ys e tail)

pub added : (x y : List ℕ) (bx by : List (List ℕ)) → lower x ≡ lower y → map lower bx ≡ map lower by → map lower (bx ++ x ∷ []) ≡ map lower (by ++ y ∷ [])
added x y bx by e same = map-append lower bx (x ∷ []) ∙ ap (λ l. l ++ lower x ∷ []) same ∙ ap (λ n. map lower by ++ n ∷ []) e ∙ sym (map-append lower by (y ∷ []))

pub turns_same : (bx by xs ys : List (List ℕ)) → map lower bx ≡ map lower by → map lower xs ≡ map lower ys → in_turn_from twice bx xs ≡ None → in_turn_from twice by ys ≡ None
turns_same bx by [] [] before same none = refl
turns_same bx by [] (y ∷ ys) before same none = cc
turns_same bx by (x ∷ xs) [] before same none = cc
turns_same bx by (x ∷ xs) (y ∷ ys) before same none =
    let head : lower x ≡ lower y = cc in
    let tail : map lower xs ≡ map lower ys = cc in
    both_none _ _
    (not_refused _ (refusal.DuplicateColumn (arg.Name y)) (sym (among_same x y bx by head before) ∙ passes _ _ (none_first _ _ none)))
    (turns_same (bx ++ x ∷ []) (by ++ y ∷ []) xs ys (added x y bx by head before) tail (none_next _ _ none))

-- ---- a column by a name, and by its own

pub named_same : (a b : List ℕ) (columns : List Column) → lower a ≡ lower b → column_named a columns ≡ column_named b columns
named_same a b [] e = refl
named_same a b (column ∷ columns) e =
    ap (λ l. cond (bytes_eq (lower column.name) l) (Some column) (column_named a columns)) e
    ∙ ap (λ o. cond (is_named b column) (Some column) o) (named_same a b columns e)

pub own_lower : (name : List ℕ) (columns : List Column) → lower (own_name columns name) ≡ lower name
own_lower name [] = refl
own_lower name (column ∷ columns) = by_test (is_named name column) refl (own_lower name columns)
  where
    by_test : (t : Bool) → is_named name column ≡ t → lower (own_name columns name) ≡ lower name
        → lower (option_map_or (λ (c : Column). c.name) (cond t (Some column) (column_named name columns)) name) ≡ lower name
    by_test true is rest = alike_lower column.name name is
    by_test false is rest = rest

pub own_column : (name : List ℕ) (columns : List Column) → column_named (own_name columns name) columns ≡ column_named name columns
own_column name columns = named_same (own_name columns name) name columns (own_lower name columns)

pub own_none : (name : List ℕ) (columns : List Column) → column_named name columns ≡ None → own_name columns name ≡ name
own_none name columns e = ap (λ (o : Option Column). option_map_or (λ (c : Column). c.name) o name) e

-- ---- a column by its place

pub one_more : (n : ℕ) → 1 + n ≡ suc n
one_more n = omega arith

-- what the column of a name is, read by its place
pub read_at : {A : Type 0} (f : Column → A) (d : A) (name : List ℕ) (columns : List Column)
    → slice_index_or (map f columns) (position_or_len (is_named name) columns) d ≡ option_map_or f (column_named name columns) d
read_at {A} f d name [] = refl
read_at {A} f d name (column ∷ columns) = by_test (is_named name column) (read_at f d name columns)
  where
    by_test : (t : Bool) → slice_index_or (map f columns) (position_or_len (is_named name) columns) d ≡ option_map_or f (column_named name columns) d
        → slice_index_or (f column ∷ map f columns) (cond (not t) (1 + position_or_len (is_named name) columns) 0) d ≡ option_map_or f (cond t (Some column) (column_named name columns)) d
    by_test true rest = refl
    by_test false rest = ap (λ n. slice_index_or (f column ∷ map f columns) n d) (one_more (position_or_len (is_named name) columns)) ∙ rest

pub there : (n len : ℕ) → is_none (cond (nat_lt n len) (Some n) None) ≡ false → n < len
there n len e = by (nat_lt n len) refl
  where
    by : (b : Bool) → nat_lt n len ≡ b → n < len
    by true is = ltb-true n len is
    by false is = absurd (true≢false (ap (λ b. is_none (cond b (Some n) None)) (sym is) ∙ e))

pub place_within : (columns : List Column) (name : List ℕ) → no_column columns name ≡ None → position_or_len (is_named name) columns < length columns
place_within columns name none = there _ _ (passes _ _ none)

pub found_lower : (name : List ℕ) (columns : List Column) → position_or_len (is_named name) columns < length columns → lower (name_at columns (position_or_len (is_named name) columns)) ≡ lower name
found_lower name [] within = absurd (omega (arith, within))
found_lower name (column ∷ columns) within = by_test (is_named name column) refl within (found_lower name columns)
  where
    by_test : (t : Bool) → is_named name column ≡ t → cond (not t) (1 + position_or_len (is_named name) columns) 0 < length (column ∷ columns)
        → (position_or_len (is_named name) columns < length columns → lower (name_at columns (position_or_len (is_named name) columns)) ≡ lower name)
        → lower (slice_index_or (names_of (column ∷ columns)) (cond (not t) (1 + position_or_len (is_named name) columns) 0) []) ≡ lower name
    by_test true is in' rest = alike_lower column.name name is
    by_test false is in' rest =
        ap (λ n. lower (slice_index_or (names_of (column ∷ columns)) n [])) (one_more (position_or_len (is_named name) columns)) ∙ rest (omega (arith, in'))

pub places_lower : (columns : List Column) (names : List (List ℕ)) → first_in (no_column columns) names ≡ None → map lower names ≡ map lower (names_at columns (places_of columns names))
places_lower columns [] none = refl
places_lower columns (name ∷ names) none =
    ap (λ l. l ∷ map lower names) (sym (found_lower name columns (place_within columns name (none_first _ _ none))))
    ∙ ap (λ l. lower (name_at columns (position_or_len (is_named name) columns)) ∷ l) (places_lower columns names (none_next _ _ none))

-- names that are there, each once, are once each by their places too
pub places_once : (columns : List Column) (names : List (List ℕ)) → first_in (no_column columns) names ≡ None → in_turn twice names ≡ None → in_turn twice (names_at columns (places_of columns names)) ≡ None
places_once columns names there once = turns_same [] [] names (names_at columns (places_of columns names)) refl (places_lower columns names there) once
