-- A position that a check of bounds or lists gives is one of the partitions'.
use Rattle.std.proofs.Common.{◌≡◌, ℕ, ◌<◌, Bool, List, length, map, Option, Some, None, arith, refl}
use Rattle.std.proofs.lemmas.List.{length-map}
use Rattle.std.specs.Option.{option_map}
use Rattle.std.specs.List.{position, range_with_len}
use Rattle.std.proofs.lemmas.List.FromFn.{length-range_with_len}
use Rattle.std.proofs.lemmas.List.Quantifiers.{position-Some}
use Rattle.pt_ast.specs.declared.table.Bound.{Bound}
use Rattle.pt_ast.specs.declared.table.PartDef.{PartDef}
use Rattle.pt_ast.specs.Lists.{is_list_fault, list_fault}
use Rattle.pt_ast.specs.Ranges.{bound_of, fault_code, is_range_fault, range_fault}

number_below : (p : ℕ → Bool) (n i : ℕ) → position p (range_with_len 0 n) ≡ Some i → i < n
number_below p n i e =
    let within = (position-Some p (range_with_len 0 n) i 0 e).0 in
    omega (arith, within, length-range_with_len 0 n)

told_below : (bounds : List (List Bound)) (n : ℕ) (found : Option ℕ) (fault : ℕ × ℕ) → ((k : ℕ) → found ≡ Some k → k < n)
    → option_map (fault_code bounds) found ≡ Some fault → fault.0 < n
told_below bounds n (Some k) fault below e =
    let within = below k refl in
    let same : k ≡ fault.0 = cc in
    omega (arith, within, same)
told_below bounds n None fault below e = let wrong : ⊥ = cc in absurd wrong

pub range_fault_below : (parts : List PartDef) (fault : ℕ × ℕ) → range_fault parts ≡ Some fault → fault.0 < length parts
range_fault_below parts fault e =
    let bounds = map bound_of parts in
    let within = told_below bounds (length bounds) (position (is_range_fault bounds) (range_with_len 0 (length bounds))) fault (λ k found. number_below (is_range_fault bounds) (length bounds) k found) e in
    omega (arith, within, length-map parts bound_of)

pub list_fault_below : (parts : List PartDef) (i : ℕ) → list_fault parts ≡ Some i → i < length parts
list_fault_below parts i e = number_below (is_list_fault parts) (length parts) i e
