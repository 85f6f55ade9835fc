-- An entry that goes behind the others of a map.
use Rattle.std.proofs.Common.{◌≡◌, ◌-◌, ◌<◌, Bool, false, List, [], ◌∷◌, ◌++◌, length, None, refl, sym, ap, ap₂, ◌∙◌, subst, arith, append_assoc, append-nil}
use Rattle.std.proofs.Math.Seq.{drop-length, take-length}
use Rattle.std.specs.Cmp.{IsEquivalence}
use Rattle.std.specs.List.{AllByRecursion, IsDistinct, insert}
use Rattle.std.specs.Map.{keys_of, lookup}
use Rattle.std.proofs.lemmas.Map.{none_passes_from_lookup}
use Rattle.indexmap.specs.IndexMap.{insert_all, move_index}
use Rattle.indexmap.proofs.MapLemmas.{absent_before, absent_from_lookup, insert_entry-absent}

-- without entries there is none to move
pub none_moved : {X : Type 0} (xs : List X) → length xs < 1 → xs ≡ move_index xs 0 (length xs - 1)
none_moved [] none = refl
none_moved (x ∷ xs) none = absurd (omega (arith, none))

moved : {X : Type 0} (x : X) (xs : List X) → move_index (x ∷ xs) 0 (length (x ∷ xs) - 1) ≡ xs ++ x ∷ []
moved x xs = let end : length (x ∷ xs) - 1 ≡ length xs = omega arith in ap (λ n. insert xs n x) end ∙ ap₂ (λ (front rest : List _). front ++ x ∷ rest) (take-length xs) (drop-length xs)

module _ {K X : Type 0} {eq : K → K → Bool} (laws : IsEquivalence eq) where
  all_new : (es xs : List (K × X)) → IsDistinct eq (keys_of (es ++ xs)) → insert_all eq es xs ≡ es ++ xs
  all_new es [] once = sym (append-nil es)
  all_new es (x ∷ xs) once =
      ap (λ made. insert_all eq made xs) (insert_entry-absent eq x.0 x.1 es (absent_from_lookup (eq x.0) es (absent_before laws es xs x once)))
      ∙ all_new (es ++ x ∷ []) xs (subst (λ all. IsDistinct eq (keys_of all)) (sym (append_assoc es (x ∷ []) xs)) once)
      ∙ append_assoc es (x ∷ []) xs

  once_first : (e : K × X) (es : List (K × X)) → IsDistinct eq (keys_of es) → lookup (eq e.0) es ≡ None → IsDistinct eq (keys_of (e ∷ es))
  unfolding IsDistinct
  once_first e es once none = (go es (none_passes_from_lookup (eq e.0) es none), once)
    where
      go : (fs : List (K × X)) → AllByRecursion (λ f. eq e.0 f.0 ≡ false) fs → AllByRecursion (λ y. eq e.0 y ≡ false) (keys_of fs)
      go [] h = tt
      go (f ∷ fs) h = (h.0, go fs h.1)

  -- an entry whose others were added behind it, and which was moved behind them
  pub goes_last : (e : K × X) (own es all made : List (K × X)) → own ≡ e ∷ [] → IsDistinct eq (keys_of es) → lookup (eq e.0) es ≡ None → all ≡ insert_all eq own es → made ≡ move_index all 0 (length all - 1) → made ≡ es ++ own
  goes_last e own es all made alone once none added last =
      last
      ∙ ap (λ (xs : List (K × X)). move_index xs 0 (length xs - 1)) (added ∙ ap (λ first. insert_all eq first es) alone ∙ all_new (e ∷ []) es (once_first e es once none))
      ∙ moved e es ∙ ap (λ first. es ++ first) (sym alone)
