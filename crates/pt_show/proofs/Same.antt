-- Columns and keys compared one after the other.
use Rattle.std.proofs.Common.{◌≡◌, ℕ, zero, suc, ◌+◌, ◌-◌, ◌<◌, ◌≤◌, Bool, true, false, cond, eqb, leb, List, [], ◌∷◌, length, drop, get_or, refl, sym, ap, ap₂, ◌∙◌, arith}
use Rattle.std.specs.Prelude.{◌&&◌, nat_eq}
use Rattle.std.specs.Cmp.Lexicographic.{pointwise}
use Rattle.std.proofs.lemmas.Bool.{and_right, eq-eqb, leb-false, leb-true, ne_eqb}
use Rattle.std.proofs.lemmas.List.{drop_all, drop_more, at_drop_more}
use Rattle.pt_ast.specs.declared.table.Rank.{Rank}
use Rattle.pt_ast.specs.declared.table.KeyDef.{KeyDef}
use Rattle.pt_defs.specs.Spelling.{rank_code}
use Rattle.pt_show.specs.Structure.{columns_of, same_keys}

-- ---- lists, place by place

pub other_length : {A : Type 0} (same : A → A → Bool) (a b : List A) → (length a ≡ length b → ⊥) → pointwise same a b ≡ false
other_length same [] [] other = absurd (other refl)
other_length same [] (y ∷ ys) other = refl
other_length same (x ∷ xs) [] other = refl
other_length same (x ∷ xs) (y ∷ ys) other = and_right (same x y) (pointwise same xs ys) (other_length same xs ys (λ e. other (ap suc e)))

module _ {A : Type 0} (same : A → A → Bool) (a b : List A) (i : ℕ) (long : length a ≡ length b) where
  at_place : (x y d : A) → i < length a → x ≡ get_or a i d → y ≡ get_or b i d → pointwise same (drop i a) (drop i b) ≡ (same x y && pointwise same (drop (i + 1) a) (drop (i + 1) b))
  at_place x y d below is_x is_y =
      ap₂ (pointwise same) (drop_more a i d below) (drop_more b i d (omega arith)) ∙ ap₂ (λ (u v : A). same u v && pointwise same (drop (i + 1) a) (drop (i + 1) b)) (sym is_x) (sym is_y)

  pub agree : (x y d : A) → i < length a → x ≡ get_or a i d → y ≡ get_or b i d → same x y ≡ true → pointwise same (drop i a) (drop i b) ≡ pointwise same a b → pointwise same (drop (i + 1) a) (drop (i + 1) b) ≡ pointwise same a b
  agree x y d below is_x is_y yes_same so_far = ap (λ t. t && pointwise same (drop (i + 1) a) (drop (i + 1) b)) (sym yes_same) ∙ sym (at_place x y d below is_x is_y) ∙ so_far

  pub differ : (x y d : A) → i < length a → x ≡ get_or a i d → y ≡ get_or b i d → same x y ≡ false → pointwise same (drop i a) (drop i b) ≡ pointwise same a b → false ≡ pointwise same a b
  differ x y d below is_x is_y not_same so_far = sym (ap (λ t. t && pointwise same (drop (i + 1) a) (drop (i + 1) b)) not_same) ∙ sym (at_place x y d below is_x is_y) ∙ so_far

  pub agreed : length a ≤ i → pointwise same (drop i a) (drop i b) ≡ pointwise same a b → true ≡ pointwise same a b
  agreed all so_far = sym (ap₂ (pointwise same) (drop_all i a all) (drop_all i b (omega arith))) ∙ so_far

-- ---- keys of a rank

module _ (wanted : Rank) where
  pub of_rank : (key : KeyDef) (keys : List KeyDef) → rank_code key.rank ≡ rank_code wanted → columns_of wanted (key ∷ keys) ≡ key.columns ∷ columns_of wanted keys
  unfolding columns_of
  of_rank key keys is = ap (λ b. cond b (key.columns ∷ columns_of wanted keys) (columns_of wanted keys)) (eq-eqb (rank_code key.rank) (rank_code wanted) is)

  pub of_other : (key : KeyDef) (keys : List KeyDef) → (rank_code key.rank ≡ rank_code wanted → ⊥) → columns_of wanted (key ∷ keys) ≡ columns_of wanted keys
  unfolding columns_of
  of_other key keys other = ap (λ b. cond b (key.columns ∷ columns_of wanted keys) (columns_of wanted keys)) (ne_eqb (rank_code key.rank) (rank_code wanted) other)

  pub none_left : (keys : List KeyDef) → columns_of wanted (drop (length keys) keys) ≡ []
  unfolding columns_of
  none_left keys = ap (columns_of wanted) (drop_all (length keys) keys (omega arith))

  -- a key of another rank is passed
  pub passed : (b : List KeyDef) (at next : ℕ) (key : KeyDef) → next < length b → (rank_code (get_or b next key).rank ≡ rank_code wanted → ⊥) → columns_of wanted (drop next b) ≡ columns_of wanted (drop at b)
      → columns_of wanted (drop (next + 1) b) ≡ columns_of wanted (drop at b)
  passed b at next key below other so_far =
      sym (ap (columns_of wanted) (drop_more b next key below) ∙ of_other (get_or b next key) (drop (next + 1) b) other) ∙ so_far

  module _ (key : KeyDef) (b : List KeyDef) (at : ℕ) where
    pub other_rank : (rank_code key.rank ≡ rank_code wanted → ⊥) → (more : List KeyDef) → same_keys wanted (key ∷ more) (drop at b) ≡ same_keys wanted more (drop at b)
    other_rank other more = ap (λ (xs : List (List ℕ)). pointwise (pointwise nat_eq) xs (columns_of wanted (drop at b))) (of_other key more other)

    module _ (is : rank_code key.rank ≡ rank_code wanted) (next : ℕ) (same : columns_of wanted (drop next b) ≡ columns_of wanted (drop at b)) where
      none_behind : length b ≤ next → columns_of wanted (drop at b) ≡ []
      unfolding columns_of
      none_behind past = sym same ∙ ap (columns_of wanted) (drop_all next b past)

      pub no_key : length b ≤ next → (more : List KeyDef) → same_keys wanted (key ∷ more) (drop at b) ≡ false
      no_key past more = ap₂ (pointwise (pointwise nat_eq)) (of_rank key more is) (none_behind past)

      module _ (d : KeyDef) (there : next < length b) (found : rank_code (get_or b next d).rank ≡ rank_code wanted) where
        both : (more : List KeyDef) → same_keys wanted (key ∷ more) (drop at b) ≡ (pointwise nat_eq key.columns (get_or b next d).columns && same_keys wanted more (drop (next + 1) b))
        both more =
            ap₂ (pointwise (pointwise nat_eq)) (of_rank key more is)
            (sym same ∙ ap (columns_of wanted) (drop_more b next d there) ∙ of_rank (get_or b next d) (drop (next + 1) b) found)

        pub equal_key : pointwise nat_eq key.columns (get_or b next d).columns ≡ true → (more : List KeyDef) → same_keys wanted (key ∷ more) (drop at b) ≡ same_keys wanted more (drop (next + 1) b)
        equal_key e more = both more ∙ ap (λ t. t && same_keys wanted more (drop (next + 1) b)) e

        pub other_key : pointwise nat_eq key.columns (get_or b next d).columns ≡ false → (more : List KeyDef) → same_keys wanted (key ∷ more) (drop at b) ≡ false
        other_key e more = both more ∙ ap (λ t. t && same_keys wanted more (drop (next + 1) b)) e

  -- behind the last key of the one table
  pub ended : (a b : List KeyDef) (i at next : ℕ) → length a ≤ i → columns_of wanted (drop next b) ≡ columns_of wanted (drop at b)
      → ((key : KeyDef) → next < length b → rank_code (get_or b next key).rank ≡ rank_code wanted) → same_keys wanted (drop i a) (drop at b) ≡ same_keys wanted a b → leb (length b) next ≡ same_keys wanted a b
  unfolding columns_of
  ended a b i at next all same found so_far = go b same found so_far (leb (length b) next) refl
    where
      go : (b : List KeyDef) → columns_of wanted (drop next b) ≡ columns_of wanted (drop at b) → ((key : KeyDef) → next < length b → rank_code (get_or b next key).rank ≡ rank_code wanted)
          → same_keys wanted (drop i a) (drop at b) ≡ same_keys wanted a b → (t : Bool) → leb (length b) next ≡ t → leb (length b) next ≡ same_keys wanted a b
      go b same found so_far true e =
          e ∙ sym (ap₂ (λ (x y : List (List ℕ)). pointwise (pointwise nat_eq) x y) (ap (columns_of wanted) (drop_all i a all)) (sym same ∙ ap (columns_of wanted) (drop_all next b (leb-true (length b) next e)))) ∙ so_far
      go [] same found so_far false e = absurd (omega (arith, leb-false 0 next e))
      go (k ∷ ks) same found so_far false e =
          let there : next < length (k ∷ ks) = leb-false (length (k ∷ ks)) next e in
          e ∙ sym (ap₂ (λ (x y : List (List ℕ)). pointwise (pointwise nat_eq) x y) (ap (columns_of wanted) (drop_all i a all))
          (sym same ∙ ap (columns_of wanted) (drop_more (k ∷ ks) next k there) ∙ of_rank (get_or (k ∷ ks) next k) (drop (next + 1) (k ∷ ks)) (found k there))) ∙ so_far
