-- Columns of a text that passes its checks are storable: a default is no longer than a VARBINARY may be.
use Rattle.std.proofs.Common.{◌≡◌, ℕ, Bool, false, List, [], ◌∷◌, ◌++◌, map, Option, Some, None, arith, All}
use Rattle.std.specs.Prelude.{IfSome}
use Rattle.std.specs.List.{filter_map}
use Rattle.std.proofs.lemmas.List.Elements.{All-cons, All-nil}
use Rattle.pt_value.specs.declared.value.Kind.{Kind}
use Rattle.pt_value.specs.declared.value.Kind.TheVariants as kind
use Rattle.pt_value.specs.declared.value.Value.{Value}
use Rattle.pt_value.specs.declared.value.Value.TheVariants as value
use Rattle.pt_ast.specs.declared.written.Item.{Item}
use Rattle.pt_ast.specs.declared.written.Item.TheVariants as text
use Rattle.pt_ast.specs.declared.table.Column.{Column}
use Rattle.pt_ast.specs.StorableDef.{IsShortValue, IsStorableColumn}
use Rattle.pt_place.specs.Checks.{is_default_out, is_default_wrong, is_too_long}
use Rattle.pt_place.specs.First.{in_turn_from}
use Rattle.pt_place.proofs.Firsts.{none_first, none_next, passes}
use Rattle.pt_written.specs.Complete.{bad_item}
use Rattle.pt_written.specs.Written.{but_null, column_in, default_in, is_not_null, kind_of}
use Rattle.pt_complete.proofs.Kept.{first_false, second_false}

pub short_default : (k : Kind) (not_null : Bool) (o : Option Value) → is_too_long k ≡ false → is_default_out k o ≡ false → is_default_wrong k not_null o ≡ false → IfSome (but_null o) IsShortValue
short_default k not_null None long out wrong = tt
short_default k not_null (Some value.Null) long out wrong = tt
short_default k not_null (Some (value.Int n)) long out wrong = tt
short_default k not_null (Some (value.Day day)) long out wrong = tt
short_default (kind.Binary most) not_null (Some (value.Bytes bytes)) long out wrong = grind (arith, long, out)
short_default kind.Int not_null (Some (value.Bytes bytes)) long out wrong = absurd (cc)
short_default kind.BigInt not_null (Some (value.Bytes bytes)) long out wrong = absurd (cc)
short_default kind.Date not_null (Some (value.Bytes bytes)) long out wrong = absurd (cc)

pub columns_storable : (primary : List (List ℕ)) (before items : List Item) → in_turn_from (bad_item primary) before items ≡ None → All IsStorableColumn (filter_map (column_in primary) items)
columns_storable primary before [] none = All-nil IsStorableColumn
columns_storable primary before (text.Column name written options ∷ items) none =
    let own = none_next _ _ (none_first _ _ none) in
    let out = passes _ _ (none_first _ _ own) in
    All-cons IsStorableColumn _ (filter_map (column_in primary) items)
    (short_default (kind_of written) (is_not_null primary name options) (default_in (kind_of written) options) (first_false _ _ (first_false _ _ out)) (second_false _ _ out) (passes _ _ (none_first _ _ (none_next _ _ own))))
    (columns_storable primary (before ++ text.Column name written options ∷ []) items (none_next _ _ none))
columns_storable primary before (text.Key rank name columns ∷ items) none = columns_storable primary (before ++ text.Key rank name columns ∷ []) items none

-- ---- kinds

-- no VARBINARY is longer than it may be
abbrev pub IsLimited : Kind → Type 0
IsLimited k = is_too_long k ≡ false

pub columns_limited : (primary : List (List ℕ)) (before items : List Item) → in_turn_from (bad_item primary) before items ≡ None → All IsLimited (map (λ (column : Column). column.kind) (filter_map (column_in primary) items))
columns_limited primary before [] none = All-nil IsLimited
columns_limited primary before (text.Column name written options ∷ items) none =
    All-cons IsLimited (kind_of written) (map (λ (column : Column). column.kind) (filter_map (column_in primary) items))
    (first_false _ _ (first_false _ _ (passes _ _ (none_first _ _ (none_next _ _ (none_first _ _ none))))))
    (columns_limited primary (before ++ text.Column name written options ∷ []) items (none_next _ _ none))
columns_limited primary before (text.Key rank name columns ∷ items) none = columns_limited primary (before ++ text.Key rank name columns ∷ []) items none
