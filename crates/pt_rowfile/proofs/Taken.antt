-- What a step took, by cases; and the numbers of short parts.
use Rattle.std.proofs.Common.{◌≡◌, ℕ, ◌+◌, ◌-◌, ◌*◌, ◌≤◌, List, [], ◌∷◌, length, drop, get_or, Option, Some, None, ap, ◌∙◌, arith, length-drop}
use Rattle.std.specs.Option.{option_map}
use Rattle.std.proofs.lemmas.List.{take_all}
use Rattle.pt_bytes.specs.Numbers.{number_of, part_at}
use Rattle.pt_bytes.proofs.Parts.{part_there}
use Rattle.pt_rowfile.specs.Counter.{last_number}
use Rattle.pt_rowfile.specs.Taking.{Takes}

pub takes_some : {A : Type 0} (o : Option A) (x : A) (rest : List ℕ) (read : Option (A × List ℕ)) → o ≡ Some x → Takes o rest read → read ≡ Some (x, rest)
takes_some None x rest read e h = absurd cc
takes_some {A = A} (Some y) x rest read e h = let same : y ≡ x = cc in h ∙ ap (λ (z : A). Some (z, rest)) same

pub takes_none : {A : Type 0} (o : Option A) (rest : List ℕ) (read : Option (A × List ℕ)) → o ≡ None → Takes o rest read → read ≡ None
takes_none None rest read e h = h
takes_none (Some y) rest read e h = absurd cc

-- the number of all the bytes
pub whole_part : (part : List ℕ) (n : ℕ) → length part ≡ n → option_map number_of (part_at part 0 n) ≡ Some (number_of part)
whole_part part n len = ap (option_map number_of) (part_there part 0 n (omega arith)) ∙ ap (λ (x : List ℕ). Some (number_of x)) (take_all n part (omega arith))

pub two_bytes : (part : List ℕ) → length part ≡ 2 → get_or part 0 0 + 256 * get_or part 1 0 ≡ number_of part
unfolding number_of
two_bytes [] len = absurd (omega (arith, len))
two_bytes (a ∷ []) len = absurd (omega (arith, len))
two_bytes (a ∷ b ∷ []) len = omega arith
two_bytes (a ∷ b ∷ d ∷ part) len = absurd (omega (arith, len))

-- the number of the last eight bytes
pub last_part : (looked bytes : List ℕ) → looked ≡ bytes → 8 ≤ length bytes → option_map number_of (part_at looked (length bytes - 8) 8) ≡ Some (last_number bytes)
last_part looked bytes same enough =
    ap (λ (xs : List ℕ). option_map number_of (part_at xs (length bytes - 8) 8)) same
    ∙ ap (option_map number_of) (part_there bytes (length bytes - 8) 8 (omega arith))
    ∙ ap (λ (x : List ℕ). Some (number_of x)) (take_all 8 (drop (length bytes - 8) bytes) (omega (arith, length-drop (length bytes - 8) bytes)))
