-- VALUES as written, form by form.
use Rattle.std.proofs.Common.{◌≡◌, ◌⊎◌, inl, inr, ℕ, Bool, not, ◌||◌, List, [], ◌∷◌, Option, Some, None, refl, sym, ap}
use Rattle.std.specs.Prelude.{is_none}
use Rattle.std.specs.List.{list_any}
use Rattle.pt_value.specs.declared.value.Kind.{Kind}
use Rattle.pt_ast.specs.declared.table.PartBy.{PartBy}
use Rattle.pt_ast.specs.declared.table.PartBy.TheVariants as by
use Rattle.pt_ast.specs.declared.written.BoundSpec.{BoundSpec}
use Rattle.pt_ast.specs.declared.written.PartItem.{PartItem}
use Rattle.pt_ast.specs.declared.written.ValuesSpec.{ValuesSpec}
use Rattle.pt_ast.specs.declared.written.ValuesSpec.TheVariants as values
use Rattle.pt_ast.specs.declared.refusal.Arg.TheVariants as arg
use Rattle.pt_ast.specs.declared.refusal.Refusal.TheVariants as refusal
use Rattle.pt_place.specs.Checks.{is_range}
use Rattle.pt_written.specs.Complete.{bad_tuples, bad_written_values, has_item, is_out_item, is_wide_item, is_wrong_written}
use Rattle.pt_place.specs.First.{first_of, refused_if}
use Rattle.pt_written.specs.ReadingValues.{tuples_written, values_refusal}
use Rattle.pt_written.specs.WrittenParts.{list_tuples, no_tuples, range_tuples, tuples_in}

-- none, or those that are written
abbrev pub Either : Option (List (List BoundSpec)) → Option ValuesSpec → Type 0
Either found v = (found ≡ None) ⊎ (found ≡ Some (tuples_written v))

range-either : (v : Option ValuesSpec) → Either (range_tuples v) v
range-either (Some values.LessMax) = inr refl
range-either (Some (values.Less items)) = inr refl
range-either (Some (values.Among entries)) = inl refl
range-either None = inl refl

list-either : (v : Option ValuesSpec) → Either (list_tuples v) v
list-either (Some values.LessMax) = inl refl
list-either (Some (values.Less items)) = inl refl
list-either (Some (values.Among entries)) = inr refl
list-either None = inl refl

no-either : (v : Option ValuesSpec) → Either (no_tuples v) v
no-either (Some values.LessMax) = inl refl
no-either (Some (values.Less items)) = inl refl
no-either (Some (values.Among entries)) = inl refl
no-either None = inr refl

pub form : (kind : PartBy) (v : Option ValuesSpec) → Either (tuples_in kind v) v
form by.Whole v = no-either v
form (by.Range expr) v = range-either v
form (by.List expr) v = list-either v
form (by.RangeColumns numbers) v = range-either v
form (by.ListColumns numbers) v = list-either v
form (by.Hash linear expr) v = no-either v
form (by.Key linear numbers) v = no-either v

same : (table : List ℕ) (kinds : List Kind) (less : Bool) (name : List ℕ) (tuples : List (List BoundSpec)) (found : Option (List (List BoundSpec))) → (found ≡ None) ⊎ (found ≡ Some tuples)
    → first_of (
    refused_if (not (not (is_none found)) || list_any (is_wrong_written less kinds) tuples) (refusal.WrongValues name)
    ∷ refused_if (list_any (has_item is_wide_item kinds) tuples) (refusal.TooWide (arg.Name table))
    ∷ refused_if (list_any (has_item is_out_item kinds) tuples) (refusal.OutOfRange (arg.Name name))
    ∷ []) ≡ bad_tuples table kinds less name found
same table kinds less name tuples None e = refl
same table kinds less name tuples (Some own) (inl e) = cc
same table kinds less name tuples (Some own) (inr e) =
    let is : own ≡ tuples = cc in
    ap (λ found. bad_tuples table kinds less name (Some found)) (sym is)

pub by_form : (table : List ℕ) (kinds : List Kind) (kind : PartBy) (part : PartItem) → values_refusal table kinds kind part ≡ bad_written_values table kinds kind part
by_form table kinds kind part = same table kinds (is_range kind) part.name (tuples_written part.values) (tuples_in kind part.values) (form kind part.values)
