-- In the shape of the code: VALUES of a text, form by form. Nothing public cites these.
use Rattle.std.specs.Prelude.{ℕ, Bool, not, ◌||◌, List, [], ◌∷◌, map, is_none, Option, Some, None}
use Rattle.std.specs.List.{list_any}
use Rattle.pt_value.specs.declared.value.Kind.{Kind}
use Rattle.pt_ast.specs.declared.table.PartBy.{PartBy}
use Rattle.pt_ast.specs.declared.written.BoundSpec.{BoundSpec}
use Rattle.pt_ast.specs.declared.written.BoundSpec.TheVariants as written
use Rattle.pt_ast.specs.declared.written.PartItem.{PartItem}
use Rattle.pt_ast.specs.declared.written.ValuesSpec.{ValuesSpec}
use Rattle.pt_ast.specs.declared.written.ValuesSpec.TheVariants as values
use Rattle.pt_ast.specs.declared.refusal.Arg.TheVariants as arg
use Rattle.pt_ast.specs.declared.refusal.Refusal.{Refusal}
use Rattle.pt_ast.specs.declared.refusal.Refusal.TheVariants as refusal
use Rattle.pt_place.specs.Checks.{is_range}
use Rattle.pt_written.specs.Complete.{has_item, is_out_item, is_wide_item, is_wrong_written}
use Rattle.pt_place.specs.First.{first_of, refused_if}
use Rattle.pt_written.specs.WrittenParts.{entry_items, list_tuples, no_tuples, range_tuples, tuples_in}

-- the tuples of VALUES, whatever the table is partitioned by
abbrev pub tuples_written : Option ValuesSpec → List (List BoundSpec)
tuples_written (Some values.LessMax) = (written.Max ∷ []) ∷ []
tuples_written (Some (values.Less items)) = items ∷ []
tuples_written (Some (values.Among entries)) = map entry_items entries
tuples_written None = []

-- VALUES are of the form
abbrev pub is_form : PartBy → Option ValuesSpec → Bool
is_form by values = not (is_none (tuples_in by values))

abbrev pub is_less_form : Option ValuesSpec → Bool
is_less_form values = not (is_none (range_tuples values))

abbrev pub is_among_form : Option ValuesSpec → Bool
is_among_form values = not (is_none (list_tuples values))

abbrev pub is_no_form : Option ValuesSpec → Bool
is_no_form values = not (is_none (no_tuples values))

abbrev pub values_refusal : List ℕ → List Kind → PartBy → PartItem → Option Refusal
values_refusal table kinds by part = first_of (
    refused_if (not (is_form by part.values) || list_any (is_wrong_written (is_range by) kinds) (tuples_written part.values)) (refusal.WrongValues part.name)
    ∷ refused_if (list_any (has_item is_wide_item kinds) (tuples_written part.values)) (refusal.TooWide (arg.Name table))
    ∷ refused_if (list_any (has_item is_out_item kinds) (tuples_written part.values)) (refusal.OutOfRange (arg.Name part.name))
    ∷ [])
