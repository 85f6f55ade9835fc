-- Keys as written, one by one, where a primary key stands before or not.
use Rattle.std.proofs.Common.{◌≡◌, ℕ, ◌+◌, ◌<◌, ◌≤◌, Bool, true, false, ◌&&◌, ◌||◌, List, [], ◌∷◌, ◌++◌, map, length, drop, get_or, Option, Some, None, refl, sym, ap, ◌∙◌}
use Rattle.std.specs.List.{list_any, filter_map}
use Rattle.std.specs.Option.{option_or}
use Rattle.std.proofs.lemmas.List.{at_drop_more, at_drop_all}
use Rattle.pt_ast.specs.declared.table.Column.{Column}
use Rattle.pt_ast.specs.declared.written.ColOption.{ColOption}
use Rattle.pt_ast.specs.declared.written.ColOption.TheVariants as option
use Rattle.pt_ast.specs.declared.written.KindSpec.{KindSpec}
use Rattle.pt_ast.specs.declared.written.Item.{Item}
use Rattle.pt_ast.specs.declared.written.Item.TheVariants as text
use Rattle.pt_ast.specs.declared.refusal.Arg.TheVariants as arg
use Rattle.pt_ast.specs.declared.refusal.Refusal.{Refusal}
use Rattle.pt_ast.specs.declared.refusal.Refusal.TheVariants as refusal
use Rattle.pt_place.specs.Checks.{is_primary_rank}
use Rattle.pt_written.specs.Complete.{bad_list, bad_written_key}
use Rattle.pt_place.specs.First.{in_turn, in_turn_from, refused_if}
use Rattle.pt_written.specs.Reading.{bad_key_after, bad_keys_after, has_primary_text}
use Rattle.pt_written.specs.Written.{KeyText, is_primary_option, key_option, keys_in, keys_written}
use Rattle.pt_place.proofs.Firsts.{or-none, or-some, or_assoc, or_end}

or-or : (a b c : Bool) → ((a || b) || c) ≡ (a || (b || c))
or-or true b c = refl
or-or false b c = refl

or-false : (b : Bool) → (b || false) ≡ b
or-false true = refl
or-false false = refl

any-more : (before : List KeyText) (key : KeyText) → list_any is_primary_rank (map (λ (other : KeyText). other.rank) (before ++ key ∷ [])) ≡ (list_any is_primary_rank (map (λ (other : KeyText). other.rank) before) || is_primary_rank key.rank)
any-more [] key = or-false (is_primary_rank key.rank)
any-more (other ∷ before) key = ap (λ b. is_primary_rank other.rank || b) (any-more before key) ∙ sym (or-or (is_primary_rank other.rank) (list_any is_primary_rank (map (λ (other : KeyText). other.rank) before)) (is_primary_rank key.rank))

turns : (columns : List Column) (before keys : List KeyText) → bad_keys_after columns (list_any is_primary_rank (map (λ (other : KeyText). other.rank) before)) keys ≡ in_turn_from (bad_written_key columns) before keys
turns columns before [] = refl
turns columns before (key ∷ keys) =
    ap (λ r. option_or (option_or (bad_list columns key.columns) r) (bad_keys_after columns (list_any is_primary_rank (map (λ (other : KeyText). other.rank) before) || is_primary_rank key.rank) keys)) (sym (or_end (refused_if (is_primary_rank key.rank && list_any is_primary_rank (map (λ (other : KeyText). other.rank) before)) (refusal.DuplicateColumn arg.Primary))))
    ∙ ap (option_or (bad_written_key columns before key)) (ap (λ seen. bad_keys_after columns seen keys) (sym (any-more before key)) ∙ turns columns (before ++ key ∷ []) keys)

pub in_turns : (columns : List Column) (keys : List KeyText) → bad_keys_after columns false keys ≡ in_turn (bad_written_key columns) keys
in_turns columns keys = turns columns [] keys

after-append : (columns : List Column) (seen : Bool) (xs ys : List KeyText) → bad_keys_after columns seen (xs ++ ys) ≡ option_or (bad_keys_after columns seen xs) (bad_keys_after columns (seen || has_primary_text xs) ys)
after-append columns seen [] ys = ap (λ b. bad_keys_after columns b ys) (sym (or-false seen))
after-append columns seen (key ∷ xs) ys =
    ap (option_or (bad_key_after columns seen key.rank key.columns)) (after-append columns (seen || is_primary_rank key.rank) xs ys ∙ ap (λ b. option_or (bad_keys_after columns (seen || is_primary_rank key.rank) xs) (bad_keys_after columns b ys)) (or-or seen (is_primary_rank key.rank) (has_primary_text xs)))
    ∙ sym (or_assoc (bad_key_after columns seen key.rank key.columns) (bad_keys_after columns (seen || is_primary_rank key.rank) xs) (bad_keys_after columns (seen || has_primary_text (key ∷ xs)) ys))

module _ (columns : List Column) (items : List Item) (i : ℕ) (seen : Bool) (item : Item) (within : i < length items) (is : item ≡ get_or items i item) (all : Option Refusal) (kept : bad_keys_after columns seen (keys_written (drop i items)) ≡ all) where
  item-step : option_or (bad_keys_after columns seen (keys_in item)) (bad_keys_after columns (seen || has_primary_text (keys_in item)) (keys_written (drop (i + 1) items))) ≡ all
  item-step =
      sym (after-append columns seen (keys_in item) (keys_written (drop (i + 1) items)))
      ∙ ap (λ x. bad_keys_after columns seen (keys_in x ++ keys_written (drop (i + 1) items))) is
      ∙ sym (at_drop_more (λ xs. bad_keys_after columns seen (keys_written xs)) items i item within) ∙ kept

  pub item_found : (r : Refusal) → bad_keys_after columns seen (keys_in item) ≡ Some r → Some r ≡ all
  item_found r found = sym (or-some _ _ r found) ∙ item-step

  pub item_more : bad_keys_after columns seen (keys_in item) ≡ None → bad_keys_after columns (seen || has_primary_text (keys_in item)) (keys_written (drop (i + 1) items)) ≡ all
  item_more none = sym (or-none _ _ none) ∙ item-step

pub items_end : (columns : List Column) (items : List Item) (i : ℕ) (seen : Bool) (all : Option Refusal) → length items ≤ i → bad_keys_after columns seen (keys_written (drop i items)) ≡ all → None ≡ all
items_end columns items i seen all past kept = sym (at_drop_all (λ xs. bad_keys_after columns seen (keys_written xs)) items i past) ∙ kept

pub primary_own : (name : List ℕ) (options : List ColOption) → list_any is_primary_option options ≡ has_primary_text (filter_map (key_option name) options)
primary_own name [] = refl
primary_own name (option.NotNull ∷ options) = primary_own name options
primary_own name (option.Null ∷ options) = primary_own name options
primary_own name (option.Default literal ∷ options) = primary_own name options
primary_own name (option.Primary ∷ options) = refl
primary_own name (option.Unique ∷ options) = primary_own name options

pub primary_in : (own : Item) (name : List ℕ) (written : KindSpec) (options : List ColOption) → own ≡ text.Column name written options → list_any is_primary_option options ≡ has_primary_text (keys_in own)
primary_in own name written options is = primary_own name options ∙ ap (λ (i : Item). has_primary_text (keys_in i)) (sym is)
