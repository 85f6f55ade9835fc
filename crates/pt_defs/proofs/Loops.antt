-- Items read one after the other, as a loop does.
use Rattle.std.proofs.Common.{◌≡◌, ℕ, suc, ◌+◌, ◌-◌, ◌<◌, ◌≤◌, List, [], ◌∷◌, ◌++◌, refl, sym, ap, ◌∙◌, append_assoc, arith}
use Rattle.std.specs.Prelude.{Ok, Err}
use Rattle.std.proofs.lemmas.List.{append-nil}
use Rattle.pt_defs.specs.declared.fault.Stop.{Stop}
use Rattle.pt_defs.specs.declared.fault.Stop.TheVariants as why
use Rattle.pt_defs.specs.Given.{Fails, with_front}
use Rattle.pt_defs.specs.Reading.{◌>>=◌, Read, Reader, many}

regroup : {A : Type 0} (front : List A) (x : A) (read : Read (List A)) → with_front front (read >>= λ others. Ok (x ∷ others.0, others.1)) ≡ with_front (front ++ x ∷ []) read
regroup {A = A} front x (Ok others) = ap (λ (items : List A). Ok (items, others.1)) (sym (append_assoc front (x ∷ []) others.0))
regroup front x (Err left) = refl

module _ {A : Type 0} (item : Reader A) (front : List A) (count i : ℕ) (bytes : List ℕ) (total : Read (List A)) where
  pub goes_on : (x : A) (after : List ℕ) (longer : List A) → i < count → item bytes ≡ Ok (x, after) → with_front front (many item (count - i) bytes) ≡ total → longer ≡ front ++ x ∷ []
      → with_front longer (many item (count - (i + 1)) after) ≡ total
  unfolding many
  goes_on x after longer lt h so_far pushed =
      let k : count - i ≡ suc (count - (i + 1)) = omega arith in
      let one : with_front front (many item (count - i) bytes) ≡ with_front (front ++ x ∷ []) (many item (count - (i + 1)) after) = rw (k, h) (regroup front x (many item (count - (i + 1)) after)) in
      ap (λ (items : List A). with_front items (many item (count - (i + 1)) after)) pushed ∙ sym one ∙ so_far

  pub ends : (e : Stop) → i < count → Fails e (item bytes) → with_front front (many item (count - i) bytes) ≡ total → Fails e total
  unfolding many
  ends why.NoMemory lt h so_far = tt
  ends (why.Left left) lt h so_far =
      let k : count - i ≡ suc (count - (i + 1)) = omega arith in
      let one : with_front front (many item (count - i) bytes) ≡ Err left = rw (k, h) refl in
      sym so_far ∙ one

  pub is_done : count ≤ i → with_front front (many item (count - i) bytes) ≡ total → total ≡ Ok (front, bytes)
  unfolding many
  is_done le so_far =
      let k : count - i ≡ 0 = omega arith in
      let one : with_front front (many item (count - i) bytes) ≡ Ok (front, bytes) = rw k (ap (λ (items : List A). Ok (items, bytes)) (append-nil front)) in
      sym so_far ∙ one
