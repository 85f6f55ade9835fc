-- Lists of columns that are there have positions of columns, and keys of a text that passes its checks are storable.
use Rattle.std.proofs.Common.{◌≡◌, ℕ, ◌<◌, Bool, true, false, cond, List, [], ◌∷◌, ◌++◌, map, length, Option, Some, None, refl, sym, ap, ◌∙◌, arith, All}
use Rattle.std.specs.Prelude.{IfSome, is_none, nat_lt, find}
use Rattle.std.specs.List.{filter_map, position_or_len}
use Rattle.std.specs.Option.{option_map_or, option_or}
use Rattle.std.proofs.lemmas.List.{length-map}
use Rattle.std.proofs.lemmas.List.Elements.{All-append, All-cons, All-head, All-nil, All-tail}
use Rattle.pt_ast.specs.declared.written.ColOption.{ColOption}
use Rattle.pt_ast.specs.declared.written.ColOption.TheVariants as option
use Rattle.pt_ast.specs.declared.written.Item.{Item}
use Rattle.pt_ast.specs.declared.written.Item.TheVariants as text
use Rattle.pt_ast.specs.declared.table.Column.{Column}
use Rattle.pt_ast.specs.declared.table.KeyDef.{KeyDef}
use Rattle.pt_ast.specs.declared.table.Rank.{Rank}
use Rattle.pt_ast.specs.declared.table.Rank.TheVariants as rank
use Rattle.pt_ast.specs.declared.refusal.Refusal.{Refusal}
use Rattle.pt_ast.specs.declared.refusal.Refusal.TheVariants as refusal
use Rattle.pt_ast.specs.Storable.{HasAtLeast, IsCounted}
use Rattle.pt_ast.specs.StorableDef.{ArePositions, AreSomePositions, IsNamedByRank, IsStorableKey}
use Rattle.pt_ast.specs.StorableSpec.{IsStorableItem}
use Rattle.pt_expr.specs.Columns.{is_named}
use Rattle.pt_place.specs.Checks.{is_primary_rank}
use Rattle.pt_place.specs.First.{first_in, in_turn_from}
use Rattle.pt_place.proofs.Firsts.{none_first, none_next, passes}
use Rattle.pt_written.specs.Complete.{bad_list, bad_written_key, no_column}
use Rattle.pt_written.specs.Written.{KeyText, columns_for_rows, is_full_unique, key_for_rows, key_name, key_of, key_option, keys_written, own_key, places_of}

-- ---- lists of columns

pub there : (n len : ℕ) → is_none (cond (nat_lt n len) (Some n) None) ≡ false → n < len
there n len e = by (nat_lt n len) refl
  where
    by : (b : Bool) → nat_lt n len ≡ b → n < len
    by true is = grind (arith, is)
    by false is = absurd (no (ap (λ b. is_none (cond b (Some n) None)) (sym is) ∙ e))
      where
        no : (true ≡ false) → ⊥
        no x = cc

pub places_within : (columns : List Column) (names : List (List ℕ)) → first_in (no_column columns) names ≡ None → All (λ number. number < length columns) (places_of columns names)
places_within columns [] none = All-nil (λ number. number < length columns)
places_within columns (name ∷ names) none =
    All-cons (λ number. number < length columns) _ (places_of columns names)
    (there (position_or_len (is_named name) columns) (length columns) (passes _ _ (none_first _ _ none)))
    (places_within columns names (none_next _ _ none))

pub places_length : (columns : List Column) (names : List (List ℕ)) → length (places_of columns names) ≡ length names
places_length columns names = length-map names (λ name. position_or_len (is_named name) columns)

pub are_positions : (columns : List Column) (names : List (List ℕ)) → bad_list columns names ≡ None → IsCounted names → ArePositions (length columns) (places_of columns names)
are_positions columns names none few = (omega (arith, few, places_length columns names), places_within columns names (none_first _ _ none))

pub are_some_positions : (columns : List Column) (names : List (List ℕ)) → bad_list columns names ≡ None → HasAtLeast 1 names → AreSomePositions (length columns) (places_of columns names)
are_some_positions columns names none some =
    ((omega (arith, some.0, places_length columns names), omega (arith, some.1, places_length columns names)), are_positions columns names none some.1)

-- ---- keys

pub named_as : (columns : List Column) (key : KeyText) (r : Rank) → key.rank ≡ r → IsNamedByRank r (key_name columns key)
named_as columns key rank.Primary is = rw is refl
named_as columns key rank.Unique is = tt
named_as columns key rank.Plain is = tt

pub key_storable : (columns : List Column) (key : KeyText) → bad_list columns key.columns ≡ None → HasAtLeast 1 key.columns → IsStorableKey (length columns) (key_of columns key)
key_storable columns key none some = record {
  columns = are_some_positions columns key.columns none some;
  name = named_as columns key key.rank refl;
}

-- a key lists one column and more
abbrev pub HasColumns : KeyText → Type 0
HasColumns key = HasAtLeast 1 key.columns

pub keys_storable : (columns : List Column) (before keys : List KeyText) → in_turn_from (bad_written_key columns) before keys ≡ None → All HasColumns keys
    → All (IsStorableKey (length columns)) (map (key_of columns) keys)
keys_storable columns before [] none some = All-nil (IsStorableKey (length columns))
keys_storable columns before (key ∷ keys) none some =
    All-cons (IsStorableKey (length columns)) (key_of columns key) (map (key_of columns) keys)
    (key_storable columns key (none_first _ _ (none_first _ _ none)) (All-head HasColumns key keys some))
    (keys_storable columns (before ++ key ∷ []) keys (none_next _ _ none) (All-tail HasColumns key keys some))

pub own_some : (name : List ℕ) (options : List ColOption) → All HasColumns (filter_map (key_option name) options)
own_some name [] = All-nil HasColumns
own_some name (option.NotNull ∷ options) = own_some name options
own_some name (option.Null ∷ options) = own_some name options
own_some name (option.Default literal ∷ options) = own_some name options
own_some name (option.Primary ∷ options) = All-cons HasColumns (own_key rank.Primary name) (filter_map (key_option name) options) (omega arith, omega arith) (own_some name options)
own_some name (option.Unique ∷ options) = All-cons HasColumns (own_key rank.Unique name) (filter_map (key_option name) options) (omega arith, omega arith) (own_some name options)

pub keys_some : (items : List Item) → All IsStorableItem items → All HasColumns (keys_written items)
keys_some [] so = All-nil HasColumns
keys_some (text.Column name written options ∷ items) so =
    All-append HasColumns (filter_map (key_option name) options) (keys_written items) (own_some name options) (keys_some items (All-tail IsStorableItem _ items so))
keys_some (text.Key rank name columns ∷ items) so =
    All-cons HasColumns _ (keys_written items) (All-head IsStorableItem (text.Key rank name columns) items so) (keys_some items (All-tail IsStorableItem _ items so))

-- ---- keys alone: there is no column for them to list

pub none_there : (names : List (List ℕ)) → HasAtLeast 1 names → first_in (no_column []) names ≡ None → ⊥
none_there [] some none = omega (arith, some.0)
none_there (name ∷ names) some none = found (first_in (no_column []) names) none
  where
    found : (rest : Option Refusal) → option_or (Some (refusal.NoSuchColumn name)) rest ≡ None → ⊥
    found rest e = cc

-- where a text has an item and no column, it has a key
pub keyless : (before : List KeyText) (keys : List KeyText) → 0 < length keys → All HasColumns keys → in_turn_from (bad_written_key []) before keys ≡ None → ⊥
keyless before [] some has none = omega (arith, some)
keyless before (key ∷ keys) some has none = none_there key.columns (All-head HasColumns key keys has) (none_first _ _ (none_first _ _ (none_first _ _ none)))

-- ---- KEY without columns

pub found_key : (width : ℕ) (test : KeyDef → Bool) (keys : List KeyDef) → All (IsStorableKey width) keys → IfSome (find test keys) (IsStorableKey width)
found_key width test [] so = tt
found_key width test (key ∷ keys) so = by (test key) (found_key width test keys (All-tail (IsStorableKey width) key keys so))
  where
    by : (b : Bool) → IfSome (find test keys) (IsStorableKey width) → IfSome (cond b (Some key) (find test keys)) (IsStorableKey width)
    by true later = All-head (IsStorableKey width) key keys so
    by false later = later

pub either_key : (width : ℕ) (a b : Option KeyDef) → IfSome a (IsStorableKey width) → IfSome b (IsStorableKey width) → IfSome (option_or a b) (IsStorableKey width)
either_key width (Some key) b of_a of_b = of_a
either_key width None b of_a of_b = of_b

pub key_positions : (width : ℕ) (o : Option KeyDef) → IfSome o (IsStorableKey width) → ArePositions width (option_map_or (λ (key : KeyDef). key.columns) o [])
key_positions width (Some key) so = so.columns.1
key_positions width None so = (omega arith, All-nil (λ number. number < width))

pub instead_positions : (columns : List Column) (keys : List KeyDef) → All (IsStorableKey (length columns)) keys → ArePositions (length columns) (columns_for_rows columns keys)
instead_positions columns keys so =
    key_positions (length columns) (key_for_rows columns keys)
    (either_key (length columns) (find (λ (key : KeyDef). is_primary_rank key.rank) keys) (find (is_full_unique columns) keys)
    (found_key (length columns) (λ (key : KeyDef). is_primary_rank key.rank) keys so) (found_key (length columns) (is_full_unique columns) keys so))
