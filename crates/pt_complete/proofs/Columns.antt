-- Columns, one by one beside the names of those before them.
use Rattle.std.proofs.Common.{◌≡◌, ℕ, ◌+◌, ◌<◌, ◌≤◌, List, [], ◌∷◌, ◌++◌, length, take, drop, get_or, Option, Some, None, Ok, Err, refl, sym, ap, ◌∙◌}
use Rattle.std.specs.List.{filter_map}
use Rattle.std.proofs.lemmas.List.{map-append, take_all, take_more}
use Rattle.std.proofs.lemmas.List.Elements.{filter_map-append}
use Rattle.pt_ast.specs.declared.written.ColOption.{ColOption}
use Rattle.pt_ast.specs.declared.written.KindSpec.{KindSpec}
use Rattle.pt_ast.specs.declared.written.Item.{Item}
use Rattle.pt_ast.specs.declared.written.Item.TheVariants as text
use Rattle.pt_ast.specs.declared.table.Column.{Column}
use Rattle.pt_ast.specs.declared.refusal.Refusal.{Refusal}
use Rattle.pt_place.specs.First.{in_turn, in_turn_from}
use Rattle.pt_place.specs.Names.{names_of}
use Rattle.pt_place.proofs.Firsts.{turn_found, turn_more}
use Rattle.pt_written.specs.Complete.{bad_item, bad_written_column, refused_or}
use Rattle.pt_written.specs.Written.{column_in, columns_of, is_not_null, kind_of, primary_names}
use Rattle.pt_complete.proofs.Naming.{made_err, made_ok}
use Rattle.pt_complete.specs.Making.{bad_item_beside, column_as, columns_added, names_added}

-- ---- a column

module _ (primary names : List (List ℕ)) (name : List ℕ) (written : KindSpec) (options : List ColOption) (own : Item) (is : own ≡ text.Column name written options) where
  check : Option Refusal
  check = bad_written_column (kind_of written) (is_not_null primary name options) options names name

  pub put_none : (column : Column) → Ok column ≡ refused_or (bad_written_column (kind_of written) (is_not_null primary name options) options names name) (column_as primary name written options)
      → None ≡ bad_item_beside primary names own
  put_none column e = sym (ap (bad_item_beside primary names) is ∙ (made_ok _ (column_as primary name written options) column e).0)

  pub put_column : (column : Column) → Ok column ≡ refused_or (bad_written_column (kind_of written) (is_not_null primary name options) options names name) (column_as primary name written options)
      → column ∷ [] ≡ columns_added primary own
  put_column column e = ap (λ c. c ∷ []) (made_ok _ (column_as primary name written options) column e).1 ∙ sym (ap (columns_added primary) is)

  pub put_some : (r : Refusal) → Err r ≡ refused_or (bad_written_column (kind_of written) (is_not_null primary name options) options names name) (column_as primary name written options)
      → Some r ≡ bad_item_beside primary names own
  put_some r e = sym (ap (bad_item_beside primary names) is ∙ made_err _ (column_as primary name written options) r e)

-- ---- the columns

-- names don't depend on the primary key
pub names_same : (p q : List (List ℕ)) (items : List Item) → names_of (filter_map (column_in p) items) ≡ names_of (filter_map (column_in q) items)
names_same p q [] = refl
names_same p q (text.Column name written options ∷ items) = ap (λ l. name ∷ l) (names_same p q items)
names_same p q (text.Key rank name columns ∷ items) = names_same p q items

pub beside_same : (p names : List (List ℕ)) (before : List Item) (own : Item) → names ≡ names_of (columns_of before) → bad_item p before own ≡ bad_item_beside p names own
beside_same p names before (text.Column name written options) is =
    ap (λ l. bad_written_column (kind_of written) (is_not_null p name options) options l name) (sym is)
beside_same p names before (text.Key rank name columns) is = refl

pub names_one : (p : List (List ℕ)) (own : Item) → names_of (columns_added p own) ≡ names_added own
names_one p (text.Column name written options) = refl
names_one p (text.Key rank name columns) = refl

pub added_one : (p : List (List ℕ)) (own : Item) → filter_map (column_in p) (own ∷ []) ≡ columns_added p own
added_one p (text.Column name written options) = refl
added_one p (text.Key rank name columns) = refl

module _ (items : List Item) (i : ℕ) (own : Item) (within : i < length items) (at : own ≡ get_or items i own) (p names : List (List ℕ)) (primary : p ≡ primary_names items) (named : names ≡ names_of (filter_map (column_in (primary_names items)) (take i items))) where
  before_same : bad_item (primary_names items) (take i items) own ≡ bad_item_beside p names own
  before_same =
      beside_same (primary_names items) names (take i items) own (named ∙ names_same (primary_names items) (primary_names (take i items)) (take i items))
      ∙ ap (λ l. bad_item_beside l names own) (sym primary)

  pub columns_found : (r : Refusal) → in_turn_from (bad_item (primary_names items)) (take i items) (drop i items) ≡ in_turn (bad_item (primary_names items)) items
      → Some r ≡ bad_item_beside p names own → in_turn (bad_item (primary_names items)) items ≡ Some r
  columns_found r kept found = sym (turn_found (bad_item (primary_names items)) items i own r _ within at kept (before_same ∙ sym found))

  pub columns_checked : in_turn_from (bad_item (primary_names items)) (take i items) (drop i items) ≡ in_turn (bad_item (primary_names items)) items
      → None ≡ bad_item_beside p names own → in_turn_from (bad_item (primary_names items)) (take (i + 1) items) (drop (i + 1) items) ≡ in_turn (bad_item (primary_names items)) items
  columns_checked kept none = turn_more (bad_item (primary_names items)) items i own _ within at kept (before_same ∙ sym none)

  columns_taken : filter_map (column_in (primary_names items)) (take (i + 1) items) ≡ filter_map (column_in (primary_names items)) (take i items) ++ columns_added p own
  columns_taken =
      ap (filter_map (column_in (primary_names items))) (take_more items i own within ∙ ap (λ x. take i items ++ x ∷ []) (sym at))
      ∙ filter_map-append (column_in (primary_names items)) (take i items) (own ∷ [])
      ∙ ap (λ l. filter_map (column_in (primary_names items)) (take i items) ++ l) (added_one (primary_names items) own ∙ ap (λ l. columns_added l own) (sym primary))

  pub columns_more : (columns next : List Column) → columns ≡ filter_map (column_in (primary_names items)) (take i items) → next ≡ columns ++ columns_added p own
      → next ≡ filter_map (column_in (primary_names items)) (take (i + 1) items)
  columns_more columns next so is_next = is_next ∙ ap (λ l. l ++ columns_added p own) so ∙ sym columns_taken

  pub names_more : (next : List (List ℕ)) → next ≡ names ++ names_added own → next ≡ names_of (filter_map (column_in (primary_names items)) (take (i + 1) items))
  names_more next is_next =
      is_next ∙ ap (λ l. l ++ names_added own) named ∙ ap (λ l. names_of (filter_map (column_in (primary_names items)) (take i items)) ++ l) (sym (names_one p own))
      ∙ sym (map-append (λ (column : Column). column.name) (filter_map (column_in (primary_names items)) (take i items)) (columns_added p own))
      ∙ ap names_of (sym columns_taken)

pub columns_end : (items : List Item) (i : ℕ) (columns : List Column) → length items ≤ i → columns ≡ filter_map (column_in (primary_names items)) (take i items) → columns ≡ columns_of items
columns_end items i columns past so = so ∙ ap (filter_map (column_in (primary_names items))) (take_all i items past)
