-- What ADD PARTITION and REORGANIZE PARTITION make is storable and valid.
use Rattle.std.proofs.Common.{◌≡◌, ℕ, List, [], ◌++◌, None, Ok, false, sym, ap, subst, ◌∙◌}
use Rattle.std.specs.List.{position_or_len, prefix_len}
use Rattle.std.proofs.lemmas.List.{append-nil, append_assoc, take-append-drop}
use Rattle.pt_ast.specs.StorableDef.{IsStorableDef}
use Rattle.pt_ast.specs.StorableSpec.{AreStorableParts}
use Rattle.pt_ast.specs.declared.written.PartItem.{PartItem}
use Rattle.pt_ast.specs.declared.table.PartBy.{PartBy}
use Rattle.pt_ast.specs.declared.table.TableDef.{TableDef}
use Rattle.pt_ast.specs.declared.refusal.Refusal.TheVariants as refusal
use Rattle.pt_place.specs.Checks.{is_whole}
use Rattle.pt_place.specs.Valid.{IsValid}
use Rattle.pt_place.proofs.Firsts.{none_first, passes}
use Rattle.pt_complete.proofs.Naming.{made_ok}
use Rattle.pt_regrouped.specs.NewParts.{bad_kind, bad_new, parts_among, with_parts}
use Rattle.pt_regrouped.specs.Regrouped.{add_refusal, added_of, behind_of, front_of, group_of, is_named, regroup_refusal, regrouped_of, rest_of}
use Rattle.pt_regrouped.proofs.Ordered.{add_both, regroup_both}
use Rattle.pt_regrouped.proofs.Sound.{stays_storable, stays_valid}

pub some_kind : (table : List ℕ) (own : PartBy) → bad_kind table own ≡ None → is_whole own ≡ false
some_kind table own none = passes (is_whole own) (refusal.NotPartitioned table) (none_first _ _ none)

module _ (table : List ℕ) (items : List PartItem) (def made : TableDef) (written : AreStorableParts items) (so : IsStorableDef def) (valid : IsValid def) where
  module _ (is : Ok made ≡ added_of table items def) where
    whole : def.parts ++ [] ++ [] ≡ def.parts
    whole = append-nil (def.parts ++ []) ∙ append-nil def.parts

    both : (add_refusal table items def ≡ None) × (made ≡ with_parts def (parts_among def def.parts items []))
    both = made_ok (add_refusal table items def) (with_parts def (parts_among def def.parts items [])) made is

    passed : (bad_kind table def.by ≡ None) × (bad_new table def def.parts items [] ≡ None)
    passed = add_both table items def both.0

    pub added_storable : IsStorableDef made
    added_storable = subst IsStorableDef (sym both.1) (stays_storable table def def.parts [] items [] whole written so valid passed.1 (some_kind table def.by passed.0))

    pub added_valid : IsValid made
    added_valid = subst IsValid (sym both.1) (stays_valid table def def.parts [] items [] whole written so valid passed.1)

  module _ (names : List (List ℕ)) (is : Ok made ≡ regrouped_of table names items def) where
    again : front_of names def.parts ++ group_of names def.parts ++ behind_of names def.parts ≡ def.parts
    again =
        append_assoc (front_of names def.parts) (group_of names def.parts) (behind_of names def.parts)
        ∙ ap (λ l. front_of names def.parts ++ l) (take-append-drop (prefix_len (is_named names) (rest_of names def.parts)) (rest_of names def.parts))
        ∙ take-append-drop (position_or_len (is_named names) def.parts) def.parts

    own : (regroup_refusal table names items def ≡ None) × (made ≡ with_parts def (parts_among def (front_of names def.parts) items (behind_of names def.parts)))
    own = made_ok (regroup_refusal table names items def) (with_parts def (parts_among def (front_of names def.parts) items (behind_of names def.parts))) made is

    none : (bad_kind table def.by ≡ None) × (bad_new table def (front_of names def.parts) items (behind_of names def.parts) ≡ None)
    none = regroup_both table names items def own.0

    pub regrouped_storable : IsStorableDef made
    regrouped_storable =
        subst IsStorableDef (sym own.1)
        (stays_storable table def (front_of names def.parts) (group_of names def.parts) items (behind_of names def.parts) again written so valid none.1 (some_kind table def.by none.0))

    pub regrouped_valid : IsValid made
    regrouped_valid = subst IsValid (sym own.1) (stays_valid table def (front_of names def.parts) (group_of names def.parts) items (behind_of names def.parts) again written so valid none.1)
