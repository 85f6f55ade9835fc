-- Columns that pass as a text pass as those of a definition.
use Rattle.std.proofs.Common.{◌≡◌, ℕ, ◌+◌, ◌<◌, Bool, true, false, cond, not, ◌&&◌, ◌||◌, ◌==◌, List, [], ◌∷◌, ◌++◌, map, length, Option, Some, None, refl, sym, ap, subst, ◌∙◌, arith}
use Rattle.std.specs.Prelude.{slice_index_or}
use Rattle.std.specs.List.{filter_map, list_any, position_or_len}
use Rattle.std.specs.Option.{option_map_or}
use Rattle.std.specs.Str.{str_eq_ignore_ascii_case}
use Rattle.std.proofs.lemmas.Bool.{eqb-true, false_from_ne_true, or_from, or_left, or_parts, or_right, true≢false}
use Rattle.std.proofs.lemmas.List.{append-nil, append_assoc, get_or_at, length-map, map-append}
use Rattle.std.proofs.lemmas.List.Elements.{filter_map-append}
use Rattle.pt_value.specs.declared.value.Kind.{Kind}
use Rattle.pt_value.specs.declared.value.Value.{Value}
use Rattle.pt_value.specs.declared.value.Value.TheVariants as value
use Rattle.pt_ast.specs.declared.written.ColOption.{ColOption}
use Rattle.pt_ast.specs.declared.written.ColOption.TheVariants as option
use Rattle.pt_ast.specs.declared.written.KindSpec.{KindSpec}
use Rattle.pt_ast.specs.declared.written.Item.{Item}
use Rattle.pt_ast.specs.declared.written.Item.TheVariants as text
use Rattle.pt_ast.specs.declared.table.Column.{Column}
use Rattle.pt_ast.specs.declared.table.KeyDef.{KeyDef}
use Rattle.pt_ast.specs.declared.table.Rank.{Rank}
use Rattle.pt_ast.specs.declared.table.Rank.TheVariants as rank
use Rattle.pt_ast.specs.declared.refusal.Arg.TheVariants as arg
use Rattle.pt_ast.specs.declared.refusal.Refusal.TheVariants as refusal
use Rattle.pt_expr.specs.Columns.{column_named, is_named}
use Rattle.pt_place.specs.Checks.{has_column, is_default_out, is_default_wrong, is_primary_rank, twice}
use Rattle.pt_place.specs.First.{first_in, in_turn, in_turn_from}
use Rattle.pt_place.specs.Names.{is_among, names_of}
use Rattle.pt_place.specs.Valid.{bad_column}
use Rattle.pt_place.proofs.Firsts.{none_first, none_next, passes}
use Rattle.pt_written.specs.Complete.{bad_item, bad_written_key, no_column}
use Rattle.pt_written.specs.Written.{KeyText, but_null, column_in, columns_of, default_in, is_not_null, is_not_null_at, is_primary_option, key_of, key_option, keys_written, kind_of, places_of, primary_names, primary_names_in, says_not_null}
use Rattle.pt_complete.proofs.Columns.{names_same}
use Rattle.pt_complete.proofs.ValidNames.{Each, alike_lower, both_none, each_append, each_right, lower_alike, not_refused, place_within, read_at}
use Rattle.pt_complete.specs.Making.{column_as}

-- ---- defaults: NULL is no default

pub default_out : (k : Kind) (o : Option Value) → is_default_out k o ≡ false → is_default_out k (but_null o) ≡ false
default_out k None e = e
default_out k (Some value.Null) e = refl
default_out k (Some (value.Int n)) e = e
default_out k (Some (value.Day day)) e = e
default_out k (Some (value.Bytes bytes)) e = e

pub default_wrong : (k : Kind) (not_null : Bool) (o : Option Value) → is_default_wrong k not_null o ≡ false → is_default_wrong k not_null (but_null o) ≡ false
default_wrong k not_null None e = e
default_wrong k not_null (Some value.Null) e = refl
default_wrong k not_null (Some (value.Int n)) e = e
default_wrong k not_null (Some (value.Day day)) e = e
default_wrong k not_null (Some (value.Bytes bytes)) e = e

-- ---- keys whose columns are there, each once

abbrev pub IsListed : List Column → KeyText → Type 0
IsListed columns key = (first_in (no_column columns) key.columns ≡ None) × (in_turn twice key.columns ≡ None)

pub keys_listed : (columns : List Column) (before keys : List KeyText) → in_turn_from (bad_written_key columns) before keys ≡ None → Each (IsListed columns) keys
keys_listed columns before [] none = tt
keys_listed columns before (key ∷ keys) none =
    let list = none_first _ _ (none_first _ _ none) in
    ((none_first _ _ list, none_first _ _ (none_next _ _ list)), keys_listed columns (before ++ key ∷ []) keys (none_next _ _ none))

-- ---- primary keys have columns that are NOT NULL

abbrev pub is_full : List Column → List ℕ → Bool
is_full columns name = option_map_or (λ (column : Column). column.not_null) (column_named name columns) false

abbrev pub AreFull : List Column → List (List ℕ) → Type 0
AreFull columns names = Each (λ name. is_full columns name ≡ true) names

abbrev pub IsFullText : List Column → KeyText → Type 0
IsFullText columns key = is_primary_rank key.rank ≡ true → AreFull columns key.columns

-- all names of the one list are in the other
abbrev pub AreIn : List (List ℕ) → List (List ℕ) → Type 0
AreIn names all = (name : List ℕ) → is_among name names ≡ true → is_among name all ≡ true

pub among_append : (name : List ℕ) (xs ys : List (List ℕ)) → is_among name (xs ++ ys) ≡ (is_among name xs || is_among name ys)
among_append name [] ys = refl
among_append name (x ∷ xs) ys = ap (λ t. str_eq_ignore_ascii_case name x || t) (among_append name xs ys) ∙ sym (or_thrice (str_eq_ignore_ascii_case name x) (is_among name xs) (is_among name ys))
  where
    or_thrice : (a b c : Bool) → ((a || b) || c) ≡ (a || (b || c))
    or_thrice true b c = refl
    or_thrice false b c = refl

pub in_left : (xs ys all : List (List ℕ)) → AreIn (xs ++ ys) all → AreIn xs all
in_left xs ys all so name e = so name (among_append name xs ys ∙ or_left (is_among name xs) (is_among name ys) e)

pub in_right : (xs ys all : List (List ℕ)) → AreIn (xs ++ ys) all → AreIn ys all
in_right xs ys all so name e = so name (among_append name xs ys ∙ or_right (is_among name xs) (is_among name ys) e)

-- columns of these names are NOT NULL
abbrev pub AreMarked : List (List ℕ) → List Column → Type 0
AreMarked primary columns = Each (λ (column : Column). is_among column.name primary ≡ true → column.not_null ≡ true) columns

pub marked : (primary : List (List ℕ)) (items : List Item) → AreMarked primary (filter_map (column_in primary) items)
marked primary [] = tt
marked primary (text.Column name written options ∷ items) = (λ e. or_right (says_not_null options || list_any is_primary_option options) (is_among name primary) e, marked primary items)
marked primary (text.Key rank name columns ∷ items) = marked primary items

pub full_named : (primary : List (List ℕ)) (name : List ℕ) (columns : List Column) → AreMarked primary columns → ((a : List ℕ) → str_eq_ignore_ascii_case a name ≡ true → is_among a primary ≡ true)
    → position_or_len (is_named name) columns < length columns → is_full columns name ≡ true
full_named primary name [] so is within = absurd (omega (arith, within))
full_named primary name (column ∷ columns) so is within = by_test (is_named name column) refl within (full_named primary name columns so.1 is)
  where
    by_test : (t : Bool) → is_named name column ≡ t → cond (not t) (1 + position_or_len (is_named name) columns) 0 < length (column ∷ columns)
        → (position_or_len (is_named name) columns < length columns → is_full columns name ≡ true)
        → option_map_or (λ (c : Column). c.not_null) (cond t (Some column) (column_named name columns)) false ≡ true
    by_test true named in' rest = so.0 (is column.name named)
    by_test false named in' rest = rest (omega (arith, in'))

pub full_list : (primary : List (List ℕ)) (columns : List Column) (names : List (List ℕ)) → AreMarked primary columns → AreIn names primary → first_in (no_column columns) names ≡ None → AreFull columns names
full_list primary columns [] so is none = tt
full_list primary columns (name ∷ names) so is none = (
  full_named primary name columns so (λ a e. is a (or_left (str_eq_ignore_ascii_case a name) (is_among a names) e)) (place_within columns name (none_first _ _ none)),
  full_list primary columns names so (λ a e. is a (or_right (str_eq_ignore_ascii_case a name) (is_among a names) e)) (none_next _ _ none),
)

-- a column behind others of other names is the first of its name
pub turned : (a b : List ℕ) → str_eq_ignore_ascii_case a b ≡ false → str_eq_ignore_ascii_case b a ≡ false
turned a b e = false_from_ne_true _ (λ is. true≢false (sym (lower_alike a b (sym (alike_lower b a is))) ∙ e))

pub behind_others : (name : List ℕ) (before after : List Column) → is_among name (names_of before) ≡ false → column_named name (before ++ after) ≡ column_named name after
behind_others name [] after none = refl
behind_others name (column ∷ before) after none =
    let both = or_parts (str_eq_ignore_ascii_case name column.name) (is_among name (names_of before)) none in
    ap (λ t. cond t (Some column) (column_named name (before ++ after))) (turned name column.name both.0) ∙ behind_others name before after both.1

pub own_full : (primary : List (List ℕ)) (name : List ℕ) (written : KindSpec) (options : List ColOption) (columns before after : List Column)
    → columns ≡ before ++ column_as primary name written options ∷ after → is_among name (names_of before) ≡ false → list_any is_primary_option options ≡ true → is_full columns name ≡ true
own_full primary name written options columns before after is none own =
    ap (λ l. is_full l name) is
    ∙ ap (λ (o : Option Column). option_map_or (λ (c : Column). c.not_null) o false) (
    behind_others name before (column_as primary name written options ∷ after) none
    ∙ ap (λ t. cond t (Some (column_as primary name written options)) (column_named name after)) (lower_alike name name refl))
    ∙ or_left (says_not_null options || list_any is_primary_option options) (is_among name primary) (or_right (says_not_null options) (list_any is_primary_option options) own)

pub own_texts : (columns : List Column) (name : List ℕ) (options : List ColOption) → (list_any is_primary_option options ≡ true → is_full columns name ≡ true) → Each (IsFullText columns) (filter_map (key_option name) options)
own_texts columns name [] full = tt
own_texts columns name (option.NotNull ∷ options) full = own_texts columns name options full
own_texts columns name (option.Null ∷ options) full = own_texts columns name options full
own_texts columns name (option.Default literal ∷ options) full = own_texts columns name options full
own_texts columns name (option.Primary ∷ options) full = (λ e. (full refl, tt), own_texts columns name options (λ e. full refl))
own_texts columns name (option.Unique ∷ options) full = (λ e. absurd (true≢false (sym e)), own_texts columns name options full)

pub key_text_full : (primary : List (List ℕ)) (columns : List Column) (r : Rank) (name : Option (List ℕ)) (names : List (List ℕ)) → AreMarked primary columns
    → AreIn (primary_names_in (text.Key r name names)) primary → first_in (no_column columns) names ≡ None → is_primary_rank r ≡ true → AreFull columns names
key_text_full primary columns rank.Primary name names so is none e = full_list primary columns names so is none
key_text_full primary columns rank.Unique name names so is none e = absurd (true≢false (sym e))
key_text_full primary columns rank.Plain name names so is none e = absurd (true≢false (sym e))

-- ---- the columns, item by item

module _ (primary : List (List ℕ)) (columns : List Column) where
  taken : (before : List Item) (item : Item) (items : List Item) → columns ≡ filter_map (column_in primary) before ++ filter_map (column_in primary) (item ∷ items)
      → columns ≡ filter_map (column_in primary) (before ++ item ∷ []) ++ filter_map (column_in primary) items
  taken before (text.Column name written options) items is =
      is ∙ sym (append_assoc (filter_map (column_in primary) before) (column_as primary name written options ∷ []) (filter_map (column_in primary) items))
      ∙ ap (λ l. l ++ filter_map (column_in primary) items) (sym (filter_map-append (column_in primary) before (text.Column name written options ∷ [])))
  taken before (text.Key rank name names) items is =
      is ∙ ap (λ l. l ++ filter_map (column_in primary) items) (sym (filter_map-append (column_in primary) before (text.Key rank name names ∷ []) ∙ append-nil (filter_map (column_in primary) before)))

  no_other : (before : List Item) (name : List ℕ) → twice (names_of (columns_of before)) name ≡ None → is_among name (names_of (filter_map (column_in primary) before)) ≡ false
  no_other before name none = ap (is_among name) (names_same primary (primary_names before) before) ∙ passes _ _ none

  full_texts : (before items : List Item) → columns ≡ filter_map (column_in primary) before ++ filter_map (column_in primary) items → in_turn_from (bad_item primary) before items ≡ None
      → AreIn (primary_names items) primary → AreMarked primary columns → Each (IsListed columns) (keys_written items) → Each (IsFullText columns) (keys_written items)
  full_texts before [] is none within so listed = tt
  full_texts before (text.Column name written options ∷ items) is none within so listed =
      each_append (IsFullText columns) (filter_map (key_option name) options) (keys_written items)
      (own_texts columns name options (λ own. own_full primary name written options columns (filter_map (column_in primary) before) (filter_map (column_in primary) items) is (no_other before name (none_first _ _ (none_first _ _ none))) own))
      (full_texts (before ++ text.Column name written options ∷ []) items (taken before (text.Column name written options) items is) (none_next _ _ none) within so
      (each_right (IsListed columns) (filter_map (key_option name) options) (keys_written items) listed))
  full_texts before (text.Key r name names ∷ items) is none within so listed = (
    key_text_full primary columns r name names so (in_left (primary_names_in (text.Key r name names)) (primary_names items) primary within) listed.0.0,
    full_texts (before ++ text.Key r name names ∷ []) items (taken before (text.Key r name names) items is) (none_next (bad_item primary before (text.Key r name names)) _ none)
        (in_right (primary_names_in (text.Key r name names)) (primary_names items) primary within) so listed.1,
  )

  -- ---- no column of a primary key may be NULL

  abbrev pub has_primary_at : List KeyDef → ℕ → Bool
  has_primary_at keys number = list_any (λ (key : KeyDef). is_primary_rank key.rank && has_column key number) keys

  not_there : (i : ℕ) (names : List (List ℕ)) → is_not_null_at columns i ≡ false → AreFull columns names → list_any (λ own. own == i) (places_of columns names) ≡ false
  not_there i [] nullable full = refl
  not_there i (name ∷ names) nullable full =
      or_from _ _
      (false_from_ne_true _ (λ e. true≢false (
      sym full.0 ∙ sym (read_at (λ (column : Column). column.not_null) false name columns)
      ∙ ap (is_not_null_at columns) (eqb-true (position_or_len (is_named name) columns) i e) ∙ nullable)))
      (not_there i names nullable full.1)

  no_primary : (i : ℕ) (keys : List KeyText) → is_not_null_at columns i ≡ false → Each (IsFullText columns) keys → has_primary_at (map (key_of columns) keys) i ≡ false
  no_primary i [] nullable full = refl
  no_primary i (key ∷ keys) nullable full = or_from _ _ (by_rank (is_primary_rank key.rank) refl) (no_primary i keys nullable full.1)
    where
      by_rank : (t : Bool) → is_primary_rank key.rank ≡ t → (t && has_column (key_of columns key) i) ≡ false
      by_rank true is = not_there i key.columns nullable (full.0 is)
      by_rank false is = refl

  module _ (keys : List KeyDef) (nullable : (i : ℕ) → is_not_null_at columns i ≡ false → has_primary_at keys i ≡ false) where
    here : (before after : List Column) (own : Column) → columns ≡ before ++ own ∷ after → (not own.not_null && has_primary_at keys (length before)) ≡ false
    here before after own is = by_mark own.not_null (at_own is)
      where
        at_own : columns ≡ before ++ own ∷ after → is_not_null_at columns (length before) ≡ own.not_null
        at_own same =
            ap (λ (l : List Column). is_not_null_at l (length before)) same
            ∙ ap (λ l. slice_index_or l (length before) false) (map-append (λ (column : Column). column.not_null) before (own ∷ after))
            ∙ get_or_at (map (λ (column : Column). column.not_null) before) own.not_null (map (λ (column : Column). column.not_null) after) false (length before) (length-map before (λ (column : Column). column.not_null))

        by_mark : (t : Bool) → is_not_null_at columns (length before) ≡ t → (not t && has_primary_at keys (length before)) ≡ false
        by_mark true e = refl
        by_mark false e = nullable (length before) e

    columns_pass : (before items : List Item) → columns ≡ filter_map (column_in primary) before ++ filter_map (column_in primary) items → in_turn_from (bad_item primary) before items ≡ None
        → in_turn_from (bad_column keys) (filter_map (column_in primary) before) (filter_map (column_in primary) items) ≡ None
    columns_pass before [] is none = refl
    columns_pass before (text.Column name written options ∷ items) is none =
        let own = none_first _ _ none in
        let outs = or_parts _ _ (passes _ _ (none_first _ _ (none_next _ _ own))) in
        let longs = or_parts _ _ outs.0 in
        both_none _ _
        (both_none _ _ (not_refused _ (refusal.DuplicateColumn (arg.Name name)) (no_other before name (none_first _ _ own)))
        (both_none _ _ (not_refused _ (refusal.OutOfRange (arg.Name name)) (or_from _ _ longs.0 (default_out (kind_of written) (default_in (kind_of written) options) outs.1)))
        (both_none _ _ (not_refused _ (refusal.TypeMismatch (arg.Name name))
        (or_from _ _ (default_wrong (kind_of written) (is_not_null primary name options) (default_in (kind_of written) options) (passes _ _ (none_first _ _ (none_next _ _ (none_next _ _ own)))))
        (here (filter_map (column_in primary) before) (filter_map (column_in primary) items) (column_as primary name written options) is))) refl)))
        (subst (λ l. in_turn_from (bad_column keys) l (filter_map (column_in primary) items) ≡ None) (filter_map-append (column_in primary) before (text.Column name written options ∷ []))
        (columns_pass (before ++ text.Column name written options ∷ []) items (taken before (text.Column name written options) items is) (none_next _ _ none)))
    columns_pass before (text.Key r name names ∷ items) is none =
        subst (λ l. in_turn_from (bad_column keys) l (filter_map (column_in primary) items) ≡ None)
        (filter_map-append (column_in primary) before (text.Key r name names ∷ []) ∙ append-nil (filter_map (column_in primary) before))
        (columns_pass (before ++ text.Key r name names ∷ []) items (taken before (text.Key r name names) items is) (none_next (bad_item primary before (text.Key r name names)) _ none))

pub columns_valid : (items : List Item) → in_turn (bad_item (primary_names items)) items ≡ None → in_turn (bad_written_key (columns_of items)) (keys_written items) ≡ None
    → in_turn (bad_column (map (key_of (columns_of items)) (keys_written items))) (columns_of items) ≡ None
columns_valid items none keyed =
    let full = full_texts (primary_names items) (columns_of items) [] items refl none (λ name e. e) (marked (primary_names items) items) (keys_listed (columns_of items) [] (keys_written items) keyed) in
    columns_pass (primary_names items) (columns_of items) (map (key_of (columns_of items)) (keys_written items))
    (λ i nullable. no_primary (primary_names items) (columns_of items) i (keys_written items) nullable full) [] items refl none
