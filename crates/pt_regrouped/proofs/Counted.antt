-- How many subpartitions the new partitions have, and how many leaves there are then.
use Rattle.std.proofs.Common.{◌≡◌, ℕ, ◌+◌, ◌*◌, ◌<◌, ◌≤◌, Bool, true, false, not, ◌&&◌, ◌||◌, ◌==◌, List, [], ◌∷◌, ◌++◌, map, length, Option, Some, None, refl, sym, ap, ◌∙◌, arith, All}
use Rattle.std.specs.Prelude.{IfSome, if◌then◌else◌, unwrap_or}
use Rattle.std.specs.Option.{option_map_or}
use Rattle.std.proofs.lemmas.Bool.{eqb-true, or_from, or_parts}
use Rattle.std.proofs.lemmas.List.{length-append, length-map}
use Rattle.std.proofs.lemmas.List.Elements.{All-head, All-tail}
use Rattle.pt_ast.specs.Storable.{HasAtLeast}
use Rattle.pt_ast.specs.StorableSpec.{IsStorablePart}
use Rattle.pt_ast.specs.declared.written.PartItem.{PartItem}
use Rattle.pt_ast.specs.declared.table.PartBy.{PartBy}
use Rattle.pt_ast.specs.declared.table.PartDef.{PartDef}
use Rattle.pt_ast.specs.declared.table.TableDef.{TableDef}
use Rattle.pt_place.specs.Checks.{is_whole}
use Rattle.pt_place.specs.First.{first_in}
use Rattle.pt_place.specs.Valid.{first_subs, is_without_parts, leaf_count}
use Rattle.pt_place.proofs.Firsts.{none_first, none_next, passes}
use Rattle.pt_written.specs.WrittenParts.{sub_names}
use Rattle.pt_complete.proofs.Order.{least, not_zero}
use Rattle.pt_complete.proofs.Storable.{names_counted}
use Rattle.pt_complete.proofs.ValidCounts.{AllHave, and_none, second_true, zero_not}
use Rattle.pt_regrouped.specs.NewParts.{new_part, new_subs, other_new_subs, parts_among}

-- ---- a new partition

-- names that are written are none, or as many as they should be
pub named_many : (n first : ℕ) (name : List ℕ) (written : Option (List (List ℕ))) → IfSome written (HasAtLeast 1)
    → (not (option_map_or (λ (names : List (List ℕ)). length names) written 0 == first) || not (option_map_or (λ (names : List (List ℕ)). length names) written 0 == 0) && not (option_map_or (λ (names : List (List ℕ)). length names) written 0 == n)) ≡ false
    → length (unwrap_or written (sub_names name n)) ≡ n
named_many n first name None some e = names_counted name n
named_many n first name (Some names) some e = eqb-true (length names) n (second_true (length names == 0) (length names == n) (or_parts _ _ e).1 (zero_not (length names) some.0))

pub new_many : (whole : Bool) (n first : ℕ) (name : List ℕ) (written : Option (List (List ℕ))) → (whole ≡ true → n ≡ 0) → IfSome written (HasAtLeast 1)
    → (if whole then not (option_map_or (λ (names : List (List ℕ)). length names) written 0 == 0) else (not (option_map_or (λ (names : List (List ℕ)). length names) written 0 == first) || not (option_map_or (λ (names : List (List ℕ)). length names) written 0 == 0) && not (option_map_or (λ (names : List (List ℕ)). length names) written 0 == n))) ≡ false
    → length (if whole then [] else (unwrap_or written (sub_names name n))) ≡ n
new_many true n first name written none some e = sym (none refl)
new_many false n first name written none some e = named_many n first name written some e

pub new_none : (whole : Bool) (names : List (List ℕ)) → whole ≡ true → (if whole then [] else names) ≡ []
new_none true names is = refl
new_none false names is = cc

module _ (def : TableDef) (none : is_whole def.sub ≡ true → first_subs def.parts ≡ 0) (all : List PartItem) where
  pub new_length : (item : PartItem) → IsStorablePart item → other_new_subs def all item ≡ None → length (new_subs def item) ≡ first_subs def.parts
  new_length item so passed = new_many (is_whole def.sub) (first_subs def.parts) _ item.name item.subs none so.subs (passes _ _ passed)

  pub new_have : (items : List PartItem) → All IsStorablePart items → first_in (other_new_subs def all) items ≡ None → AllHave (first_subs def.parts) (map (new_part def) items)
  new_have [] so passed = tt
  new_have (item ∷ items) so passed = (new_length item (All-head IsStorablePart item items so) (none_first _ _ passed), new_have items (All-tail IsStorablePart item items so) (none_next _ _ passed))

-- ---- all partitions

pub length_among : (def : TableDef) (front : List PartDef) (items : List PartItem) (behind : List PartDef) → length (parts_among def front items behind) ≡ length front + length items + length behind
length_among def front items behind =
    length-append (front ++ map (new_part def) items) behind
    ∙ ap (λ n. n + length behind) (length-append front (map (new_part def) items) ∙ ap (λ n. length front + n) (length-map items (new_part def)))

pub leaf_same : (sub : PartBy) (n many : ℕ) (parts : List PartDef) → length parts ≡ many → first_subs parts ≡ n → leaf_count sub parts ≡ many * (if is_whole sub then 1 else n)
leaf_same sub n many parts counted first = ap (λ k. k * (if is_whole sub then 1 else (first_subs parts))) counted ∙ ap (λ k. many * (if is_whole sub then 1 else k)) first

-- no more partitions than leaves
pub few_parts : (whole : Bool) (n many : ℕ) → (not whole && n == 0) ≡ false → many * (if whole then 1 else n) ≤ 8192 → many ≤ 8192
few_parts true n many some few = omega (arith, few)
few_parts false n many some few = omega (arith, few, least many n (not_zero n some))

pub none_without : (main sub : PartBy) (n many : ℕ) (parts : List PartDef) → length parts ≡ many → 0 < many → first_subs parts ≡ n → (not (is_whole sub) && n == 0) ≡ false → is_without_parts main sub parts ≡ false
none_without main sub n many parts counted some first e =
    or_from _ _
    (ap (λ k. not (is_whole main) && k == 0) counted ∙ ap (λ b. not (is_whole main) && b) (zero_not many (omega (arith, some))) ∙ and_none (not (is_whole main)))
    (ap (λ k. not (is_whole sub) && k == 0) first ∙ e)
