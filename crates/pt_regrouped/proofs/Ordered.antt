-- The checks of new partitions, one after the other.
use Rattle.std.proofs.Common.{◌≡◌, ℕ, ◌+◌, ◌*◌, List, [], length, map, Option, Some, None, refl, sym, ap, ◌∙◌}
use Rattle.std.specs.Option.{option_or}
use Rattle.pt_ast.specs.declared.written.PartItem.{PartItem}
use Rattle.pt_ast.specs.declared.table.PartDef.{PartDef}
use Rattle.pt_ast.specs.declared.table.TableDef.{TableDef}
use Rattle.pt_ast.specs.declared.refusal.Refusal.{Refusal}
use Rattle.pt_place.specs.Checks.{too_many}
use Rattle.pt_place.specs.First.{first_in}
use Rattle.pt_place.specs.Fitting.{kinds_of}
use Rattle.pt_place.proofs.Firsts.{none_first, none_next, or-none, or-some, or_assoc, or_end}
use Rattle.pt_written.specs.Complete.{bad_written_values}
use Rattle.pt_regrouped.specs.NewParts.{bad_kind, bad_new, leaves_each, new_part, other_new_subs}
use Rattle.pt_regrouped.specs.Regrouped.{add_refusal, behind_of, front_of, group_of, no_part, not_adjacent, own_names, range_changed, regroup_refusal}
use Rattle.pt_regrouped.specs.Steps.{bad_bounds_or_names, bad_new_counts, bad_replacing}

pub then_last : (a b : Option Refusal) → a ≡ None → option_or a (option_or b None) ≡ b
then_last a b none = or-none a (option_or b None) none ∙ or_end b

module _ (table : List ℕ) (def : TableDef) (front : List PartDef) (items : List PartItem) (behind : List PartDef) where
  abbrev values : Option Refusal
  values = first_in (bad_written_values table (kinds_of def.columns def.by) def.by) items

  chain : bad_new table def front items behind ≡ option_or (bad_new_counts def front items behind) (option_or values (bad_bounds_or_names def front items behind))
  chain =
      let counts = too_many ((length front + length items + length behind) * leaves_each def) in
      let subs = first_in (other_new_subs def items) items in
      let rest = option_or values (bad_bounds_or_names def front items behind) in
      sym (or_assoc counts (option_or subs None) rest ∙ ap (option_or counts) (or_assoc subs None rest))

  pub counts_refused : (r : Refusal) → Some r ≡ bad_new_counts def front items behind → bad_new table def front items behind ≡ Some r
  counts_refused r found = chain ∙ or-some _ _ r (sym found)

  module _ (counted : None ≡ bad_new_counts def front items behind) where
    pub values_refused : (r : Refusal) → Some r ≡ first_in (bad_written_values table (kinds_of def.columns def.by) def.by) items → bad_new table def front items behind ≡ Some r
    values_refused r found = chain ∙ or-none _ _ (sym counted) ∙ or-some _ _ r (sym found)

    pub bounds_or_names : None ≡ first_in (bad_written_values table (kinds_of def.columns def.by) def.by) items → bad_new table def front items behind ≡ bad_bounds_or_names def front items behind
    bounds_or_names valued = chain ∙ or-none _ _ (sym counted) ∙ or-none _ _ (sym valued)

-- ---- ADD PARTITION

pub add_kind : (table : List ℕ) (items : List PartItem) (def : TableDef) (r : Refusal) → Some r ≡ bad_kind table def.by → add_refusal table items def ≡ Some r
unfolding add_refusal
add_kind table items def r found = or-some (bad_kind table def.by) (option_or (bad_new table def def.parts items []) None) r (sym found)

pub add_new : (table : List ℕ) (items : List PartItem) (def : TableDef) → None ≡ bad_kind table def.by → add_refusal table items def ≡ bad_new table def def.parts items []
unfolding add_refusal
add_new table items def none = then_last (bad_kind table def.by) (bad_new table def def.parts items []) (sym none)

pub add_both : (table : List ℕ) (items : List PartItem) (def : TableDef) → add_refusal table items def ≡ None → (bad_kind table def.by ≡ None) × (bad_new table def def.parts items [] ≡ None)
unfolding add_refusal
add_both table items def none = both (bad_kind table def.by) (bad_new table def def.parts items []) none
  where
    both : (a b : Option Refusal) → option_or a (option_or b None) ≡ None → (a ≡ None) × (b ≡ None)
    both (Some r) b e = absurd (cc)
    both None b e = (refl, sym (or_end b) ∙ e)

-- ---- REORGANIZE PARTITION

module _ (table : List ℕ) (names : List (List ℕ)) (items : List PartItem) (def : TableDef) where
  abbrev kind : Option Refusal
  kind = bad_kind table def.by

  abbrev known : Option Refusal
  known = first_in (no_part (own_names def.parts)) names

  abbrev apart : Option Refusal
  apart = not_adjacent table names def.parts

  abbrev listed : Option Refusal
  listed = bad_new table def (front_of names def.parts) items (behind_of names def.parts)

  abbrev kept : Option Refusal
  kept = range_changed table def.by (group_of names def.parts) (map (new_part def) items) (behind_of names def.parts)

  pub regroup_kind : (r : Refusal) → Some r ≡ bad_kind table def.by → regroup_refusal table names items def ≡ Some r
  unfolding regroup_refusal
  regroup_kind r found = or-some kind (option_or known (option_or apart (option_or listed (option_or kept None)))) r (sym found)

  pub regroup_known : (r : Refusal) → None ≡ bad_kind table def.by → Some r ≡ first_in (no_part (own_names def.parts)) names → regroup_refusal table names items def ≡ Some r
  unfolding regroup_refusal
  regroup_known r none found =
      or-none kind (option_or known (option_or apart (option_or listed (option_or kept None)))) (sym none)
      ∙ or-some known (option_or apart (option_or listed (option_or kept None))) r (sym found)

  pub regroup_replaced : None ≡ bad_kind table def.by → None ≡ first_in (no_part (own_names def.parts)) names → regroup_refusal table names items def ≡ bad_replacing table names items def
  unfolding regroup_refusal
  regroup_replaced none there =
      or-none kind (option_or known (option_or apart (option_or listed (option_or kept None)))) (sym none)
      ∙ or-none known (option_or apart (option_or listed (option_or kept None))) (sym there)

  pub regroup_both : regroup_refusal table names items def ≡ None → (bad_kind table def.by ≡ None) × (bad_new table def (front_of names def.parts) items (behind_of names def.parts) ≡ None)
  unfolding regroup_refusal
  regroup_both none =
      let from_known = none_next kind (option_or known (option_or apart (option_or listed (option_or kept None)))) none in
      let from_apart = none_next known (option_or apart (option_or listed (option_or kept None))) from_known in
      let from_listed = none_next apart (option_or listed (option_or kept None)) from_apart in
      (none_first kind (option_or known (option_or apart (option_or listed (option_or kept None)))) none, none_first listed (option_or kept None) from_listed)
