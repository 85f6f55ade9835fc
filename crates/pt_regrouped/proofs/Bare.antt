-- Bounds don't depend on the names of subpartitions.
use Rattle.std.proofs.Common.{◌≡◌, ℕ, zero, suc, List, [], ◌∷◌, ◌++◌, map, length, take, Option, Some, None, refl, sym, ap, ◌∙◌}
use Rattle.std.specs.Prelude.{◌==◌, if◌then◌else◌, slice_index_or}
use Rattle.std.specs.List.{position, range_with_len}
use Rattle.std.proofs.lemmas.List.{length-map, map-append}
use Rattle.pt_ast.specs.Lists.{entries, is_list_fault, list_fault, repeats}
use Rattle.pt_ast.specs.Ranges.{bound_of, bounds_fault, range_fault}
use Rattle.pt_ast.specs.declared.table.PartBy.{PartBy}
use Rattle.pt_ast.specs.declared.table.PartBy.TheVariants as by
use Rattle.pt_ast.specs.declared.table.PartDef.{PartDef}
use Rattle.pt_ast.specs.declared.refusal.Refusal.TheVariants as refusal
use Rattle.pt_place.specs.Checks.{bad_bounds, of_list_fault, of_range_fault}
use Rattle.pt_complete.proofs.Order.{position_same}
use Rattle.pt_regrouped.specs.Steps.{bare}

pub mapped_same : {B : Type 0} (h : PartDef → B) → ((part : PartDef) → h (bare part) ≡ h part) → (parts : List PartDef) → map h (map bare parts) ≡ map h parts
mapped_same h so [] = refl
mapped_same h so (part ∷ parts) = rw (so part, mapped_same h so parts) refl

pub entries_same : (i : ℕ) (parts : List PartDef) → entries (take i (map bare parts)) ≡ entries (take i parts)
entries_same zero parts = refl
entries_same (suc i) [] = refl
entries_same (suc i) (part ∷ parts) = ap (λ l. part.bounds ++ l) (entries_same i parts)

module _ (parts : List PartDef) where
  names_same : map (λ (part : PartDef). part.name) (map bare parts) ≡ map (λ (part : PartDef). part.name) parts
  names_same = mapped_same (λ (part : PartDef). part.name) (λ part. refl) parts

  fault_same : (i : ℕ) → is_list_fault (map bare parts) i ≡ is_list_fault parts i
  fault_same i =
      ap (λ l. repeats l (slice_index_or (map (λ (part : PartDef). part.bounds) (map bare parts)) i [])) (entries_same i parts)
      ∙ ap (λ l. repeats (entries (take i parts)) (slice_index_or l i [])) (mapped_same (λ (part : PartDef). part.bounds) (λ part. refl) parts)

  list_same : list_fault (map bare parts) ≡ list_fault parts
  list_same =
      position_same (is_list_fault (map bare parts)) (is_list_fault parts) fault_same (range_with_len 0 (length (map bare parts)))
      ∙ ap (λ n. position (is_list_fault parts) (range_with_len 0 n)) (length-map parts bare)

  range_same : range_fault (map bare parts) ≡ range_fault parts
  range_same = ap bounds_fault (mapped_same bound_of (λ part. refl) parts)

  of_range_same : (fault : Option (ℕ × ℕ)) → of_range_fault (map bare parts) fault ≡ of_range_fault parts fault
  of_range_same None = refl
  of_range_same (Some fault) =
      ap (λ l. Some (if fault.1 == 31 then refusal.MaxvalueNotLast (slice_index_or l fault.0 []) else refusal.NotIncreasing (slice_index_or l fault.0 []))) names_same

  of_list_same : (fault : Option ℕ) → of_list_fault (map bare parts) fault ≡ of_list_fault parts fault
  of_list_same None = refl
  of_list_same (Some i) = ap (λ l. Some (refusal.ValueTwice (slice_index_or l i []))) names_same

  pub bounds_bare : (own : PartBy) → bad_bounds own (map bare parts) ≡ bad_bounds own parts
  bounds_bare by.Whole = refl
  bounds_bare (by.Range expr) = of_range_same (range_fault (map bare parts)) ∙ ap (of_range_fault parts) range_same
  bounds_bare (by.RangeColumns numbers) = of_range_same (range_fault (map bare parts)) ∙ ap (of_range_fault parts) range_same
  bounds_bare (by.List expr) = of_list_same (list_fault (map bare parts)) ∙ ap (of_list_fault parts) list_same
  bounds_bare (by.ListColumns numbers) = of_list_same (list_fault (map bare parts)) ∙ ap (of_list_fault parts) list_same
  bounds_bare (by.Hash linear expr) = refl
  bounds_bare (by.Key linear numbers) = refl

-- old partitions, new ones, and old ones again, one list behind the other
pub bare_all : (front new behind a b c d : List PartDef) → a ≡ [] → b ≡ a ++ map bare front → c ≡ b ++ map bare new → d ≡ c ++ map bare behind → d ≡ map bare (front ++ new ++ behind)
bare_all front new behind a b c d is_a is_b is_c is_d =
    is_d
    ∙ ap (λ l. l ++ map bare behind) (is_c ∙ ap (λ l. l ++ map bare new) (is_b ∙ ap (λ l. l ++ map bare front) is_a) ∙ sym (map-append bare front new))
    ∙ sym (map-append bare (front ++ new) behind)
