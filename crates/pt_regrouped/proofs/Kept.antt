-- What a valid and storable table has that its partitions may change without losing it.
use Rattle.std.proofs.Common.{◌≡◌, ℕ, ◌*◌, ◌≤◌, Bool, true, false, List, [], ◌∷◌, ◌++◌, map, length, Option, None, refl, sym, ap, ◌∙◌, arith, All}
use Rattle.std.specs.Prelude.{if◌then◌else◌}
use Rattle.std.specs.Option.{option_or}
use Rattle.std.proofs.lemmas.Bool.{eqb-true, not-false}
use Rattle.std.proofs.lemmas.List.Elements.{All-cons, All-head, All-nil, All-tail}
use Rattle.pt_ast.specs.Storable.{IsCounted}
use Rattle.pt_ast.specs.StorableDef.{AreSubsOf, IsStorableDef, IsStorablePartDef}
use Rattle.pt_ast.specs.declared.table.Column.{Column}
use Rattle.pt_ast.specs.declared.table.KeyDef.{KeyDef}
use Rattle.pt_ast.specs.declared.table.PartBy.{PartBy}
use Rattle.pt_ast.specs.declared.table.PartBy.TheVariants as by
use Rattle.pt_ast.specs.declared.table.PartDef.{PartDef}
use Rattle.pt_ast.specs.declared.table.TableDef.{TableDef}
use Rattle.pt_ast.specs.declared.refusal.Refusal.{Refusal}
use Rattle.pt_ast.specs.declared.refusal.Refusal.TheVariants as refusal
use Rattle.pt_place.specs.Checks.{bad_bounds, is_whole, name_twice, part_names, too_many}
use Rattle.pt_place.specs.First.{first_in, in_turn, in_turn_from, refused_if}
use Rattle.pt_place.specs.Fitting.{kinds_of}
use Rattle.pt_place.specs.Valid.{IsValid, bad_column, bad_items, bad_kinds, bad_parts, bad_values, first_subs, is_without_parts, leaf_count, other_subs, refusal_of}
use Rattle.pt_place.proofs.Firsts.{none_first, none_next, or_assoc, passes}
use Rattle.pt_complete.proofs.Kept.{first_false}
use Rattle.pt_complete.proofs.Order.{few_told, least_right}
use Rattle.pt_complete.proofs.StorableColumns.{IsLimited}
use Rattle.pt_complete.proofs.Valid.{six_none, three_none}
use Rattle.pt_complete.proofs.ValidCounts.{AllHave}

-- ---- lists one behind the other

pub first_append : {A : Type 0} (check : A → Option Refusal) (xs ys : List A) → first_in check (xs ++ ys) ≡ option_or (first_in check xs) (first_in check ys)
first_append check [] ys = refl
first_append check (x ∷ xs) ys = ap (option_or (check x)) (first_append check xs ys) ∙ sym (or_assoc (check x) (first_in check xs) (first_in check ys))

pub first_left : {A : Type 0} (check : A → Option Refusal) (xs ys : List A) → first_in check (xs ++ ys) ≡ None → first_in check xs ≡ None
first_left check xs ys none = none_first (first_in check xs) (first_in check ys) (sym (first_append check xs ys) ∙ none)

pub first_right : {A : Type 0} (check : A → Option Refusal) (xs ys : List A) → first_in check (xs ++ ys) ≡ None → first_in check ys ≡ None
first_right check xs ys none = none_next (first_in check xs) (first_in check ys) (sym (first_append check xs ys) ∙ none)

pub have_append : (n : ℕ) (xs ys : List PartDef) → AllHave n xs → AllHave n ys → AllHave n (xs ++ ys)
have_append n [] ys has more = more
have_append n (x ∷ xs) ys has more = (has.0, have_append n xs ys has.1 more)

pub have_left : (n : ℕ) (xs ys : List PartDef) → AllHave n (xs ++ ys) → AllHave n xs
have_left n [] ys has = tt
have_left n (x ∷ xs) ys has = (has.0, have_left n xs ys has.1)

pub have_right : (n : ℕ) (xs ys : List PartDef) → AllHave n (xs ++ ys) → AllHave n ys
have_right n [] ys has = has
have_right n (x ∷ xs) ys has = have_right n xs ys has.1

pub all_left : {A : Type 0} (P : A → Type 0) (xs ys : List A) → All P (xs ++ ys) → All P xs
all_left P [] ys so = All-nil P
all_left P (x ∷ xs) ys so = All-cons P x xs (All-head P x (xs ++ ys) so) (all_left P xs ys (All-tail P x (xs ++ ys) so))

pub all_right : {A : Type 0} (P : A → Type 0) (xs ys : List A) → All P (xs ++ ys) → All P ys
all_right P [] ys so = so
all_right P (x ∷ xs) ys so = all_right P xs ys (All-tail P x (xs ++ ys) so)

-- ---- columns

-- no VARBINARY of a valid table is longer than it may be
pub limited_from : (keys : List KeyDef) (before columns : List Column) → in_turn_from (bad_column keys) before columns ≡ None → All IsLimited (map (λ (column : Column). column.kind) columns)
limited_from keys before [] none = All-nil IsLimited
limited_from keys before (column ∷ columns) none =
    All-cons IsLimited column.kind (map (λ (own : Column). own.kind) columns)
    (first_false _ _ (passes _ _ (none_first _ _ (none_next _ _ (none_first _ _ none)))))
    (limited_from keys (before ++ column ∷ []) columns (none_next _ _ none))

-- ---- subpartitions

pub have_in : (n : ℕ) (all parts : List PartDef) → first_subs all ≡ n → first_in (other_subs all) parts ≡ None → AllHave n parts
have_in n all [] is none = tt
have_in n all (part ∷ parts) is none = (
  eqb-true (length part.subs) (first_subs all) (not-false _ (passes _ _ (none_first _ _ none))) ∙ is,
  have_in n all parts is (none_next _ _ none),
)

pub no_subs_of : (own : PartBy) (names : List (List ℕ)) → is_whole own ≡ true → AreSubsOf own names → names ≡ []
no_subs_of by.Whole names whole so = so
no_subs_of (by.Range expr) names whole so = cc
no_subs_of (by.List expr) names whole so = cc
no_subs_of (by.RangeColumns numbers) names whole so = cc
no_subs_of (by.ListColumns numbers) names whole so = cc
no_subs_of (by.Hash linear expr) names whole so = cc
no_subs_of (by.Key linear numbers) names whole so = cc

pub are_subs : (own : PartBy) (names : List (List ℕ)) → (is_whole own ≡ true → names ≡ []) → IsCounted names → AreSubsOf own names
are_subs by.Whole names none few = none refl
are_subs (by.Range expr) names none few = few
are_subs (by.List expr) names none few = few
are_subs (by.RangeColumns numbers) names none few = few
are_subs (by.ListColumns numbers) names none few = few
are_subs (by.Hash linear expr) names none few = few
are_subs (by.Key linear numbers) names none few = few

-- a table that isn't subpartitioned has no names of subpartitions
pub no_subs : (main sub : PartBy) (parts : List PartDef) → All (IsStorablePartDef main sub) parts → is_whole sub ≡ true → first_subs parts ≡ 0
no_subs main sub [] so whole = refl
no_subs main sub (part ∷ parts) so whole = ap length (no_subs_of sub part.subs whole (All-head (IsStorablePartDef main sub) part parts so).subs)

-- ---- what is known of a valid table

pub valid_parts : (table : List ℕ) (def : TableDef) → refusal_of table def ≡ None
    → (refused_if (is_without_parts def.by def.sub def.parts) (refusal.NoPartitions table) ≡ None) × (too_many (leaf_count def.sub def.parts) ≡ None) × (first_in (other_subs def.parts) def.parts ≡ None)
    × (first_in (bad_values (kinds_of def.columns def.by) def.by) def.parts ≡ None) × (bad_bounds def.by def.parts ≡ None) × (in_turn name_twice (part_names def.parts) ≡ None)
valid_parts table def valid =
    six_none (refused_if (is_without_parts def.by def.sub def.parts) (refusal.NoPartitions table)) (too_many (leaf_count def.sub def.parts)) (first_in (other_subs def.parts) def.parts)
    (first_in (bad_values (kinds_of def.columns def.by) def.by) def.parts) (bad_bounds def.by def.parts) (in_turn name_twice (part_names def.parts))
    (three_none (bad_items def) (bad_kinds table def) (bad_parts table def) valid).2

pub valid_limited : (table : List ℕ) (def : TableDef) → refusal_of table def ≡ None → All IsLimited (map (λ (column : Column). column.kind) def.columns)
valid_limited table def valid =
    limited_from def.keys [] def.columns (none_first _ _ (three_none (bad_items def) (bad_kinds table def) (bad_parts table def) valid).0)

-- a partition of the table has so many subpartitions at most
pub few_in : (whole : Bool) (parts : List PartDef) → (whole ≡ true → first_subs parts ≡ 0) → length parts * (if whole then 1 else (first_subs parts)) ≤ 8192 → first_subs parts ≤ 8192
few_in true parts none few = omega (arith, none refl)
few_in false [] none few = omega arith
few_in false (part ∷ parts) none few = omega (arith, few, least_right (length (part ∷ parts)) (first_subs (part ∷ parts)) (omega arith))

pub few_subs : (def : TableDef) → IsStorableDef def → IsValid def → first_subs def.parts ≤ 8192
few_subs def so valid =
    few_in (is_whole def.sub) def.parts (no_subs def.by def.sub def.parts so.parts) (few_told (leaf_count def.sub def.parts) (passes _ _ (valid_parts valid.0 def valid.1).1))
