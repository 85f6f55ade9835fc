-- Where the values that are left are few, the parts where they are placed are those that are kept; where they are many, all are.
use Rattle.std.proofs.Common.{inl, inr, ◌≡◌, ℕ, ◌<◌, ◌≤◌, arith, Bool, true, false, List, [], ◌∷◌, length, map, Option, Some, None, refl, sym, ap, subst, ◌∙◌}
use Rattle.std.specs.Prelude.{◌↔◌, replicate, slice_index_or}
use Rattle.std.specs.List.{list_any, range_with_len}
use Rattle.std.proofs.lemmas.Bool.{eq-eqb, false≢true, or_cases, or_left, or_right}
use Rattle.std.proofs.lemmas.List.{get_or-replicate, length-replicate}
use Rattle.std.proofs.lemmas.List.FromFn.{get_or-map-range_with_len, length-map-range_with_len}
use Rattle.pt_value.specs.Value.{value_cmp, value_cmp_total}
use Rattle.pt_value.specs.declared.value.Value.{Value}
use Rattle.pt_ast.specs.declared.table.Column.{Column}
use Rattle.pt_ast.specs.declared.tree.Cond.{Cond}
use Rattle.pt_interval.specs.Counting.{AreAll, AreValues, IsAmong}
use Rattle.pt_interval.proofs.Lists.{all_map, few}
use Rattle.pt_reach.specs.Kept.{IsKeptOf, IsReached, cell_at}
use Rattle.pt_reach.specs.May.{is_at}
use Rattle.pt_reach.proofs.Constants.{placed_at}
use Rattle.pt_followed.specs.Marks.{AreMarked}
use Rattle.pt_prune.specs.Marks.{is_left, row_with}
use Rattle.pt_prune.proofs.Rows.{cell_left, cell_with, row_left}

module _ (columns : List Column) (c : ℕ) (cond : Option Cond) (within : c < length columns) (placed : List Value → Option ℕ)
    (same : (a b : List Value) → cell_at a c ≡ cell_at b c → placed a ≡ placed b) where
  abbrev place : Value → Option ℕ
  place v = placed (row_with columns c v)

  some_placed : (i : ℕ) (vs : List Value) → list_any (is_at i) (map place vs) ≡ true → AreAll (λ v. (true ≡ true) × (is_left columns c cond v ≡ true)) vs → IsReached columns c cond placed i
  some_placed i [] e all = absurd (false≢true e)
  some_placed i (v ∷ vs) e all = elim (or_cases (is_at i (place v)) (list_any (is_at i) (map place vs)) e) [
    | inl h ↦ (row_with columns c v, row_left columns c cond within v all.0.1, placed_at i (place v) h)
    | inr h ↦ some_placed i vs h all.1
  ]

  place_found : (i : ℕ) (cells : List Value) (vs : List Value) → placed cells ≡ Some i → IsAmong (cell_at cells c) vs → list_any (is_at i) (map place vs) ≡ true
  place_found i cells [] e h = absurd h
  place_found i cells (v ∷ vs) e (inl is) =
      or_left (is_at i (place v)) (list_any (is_at i) (map place vs))
      (ap (is_at i) (same (row_with columns c v) cells (cell_with columns c v within ∙ sym is) ∙ e) ∙ eq-eqb i i refl)
  place_found i cells (v ∷ vs) e (inr h) = or_right (is_at i (place v)) (list_any (is_at i) (map place vs)) (place_found i cells vs e h)

  few_kept : (vs : List Value) → AreValues value_cmp (λ v. true) (is_left columns c cond) 64 (Some vs) → (i : ℕ)
      → (list_any (is_at i) (map place vs) ≡ true) ↔ IsKeptOf columns cond false (Some c) placed i
  few_kept vs (are, all, short) i = (
    λ e. (λ h. some_placed i vs e are.inside),
    λ h. (
        let r = h (vs, short, λ cells left. all (cell_at cells c) refl (cell_left columns c cond within cells left)) in
        place_found i r.0 vs r.2 (all (cell_at r.0 c) refl (cell_left columns c cond within r.0 r.1))),
  )

  -- marks at the places of few values
  pub few_marked : (count : ℕ) (vs : List Value) (marks : List Bool) → AreValues value_cmp (λ v. true) (is_left columns c cond) 64 (Some vs)
      → marks ≡ map (λ i. list_any (is_at i) (map place vs)) (range_with_len 0 count) → AreMarked count (IsKeptOf columns cond false (Some c) placed) marks
  few_marked count vs marks values is = record {
    as_many = ap length is ∙ length-map-range_with_len (λ i. list_any (is_at i) (map place vs)) 0 count;
    each = λ i below.
        (let own : slice_index_or marks i false ≡ list_any (is_at i) (map place vs) =
        ap (λ (l : List Bool). slice_index_or l i false) is ∙ get_or-map-range_with_len (λ i. list_any (is_at i) (map place vs)) 0 count i i false below (omega arith) in
        let both = few_kept vs values i in
        (λ e. both.0 (sym own ∙ e), λ k. own ∙ both.1 k));
  }

  pub many_kept : AreValues value_cmp (λ v. true) (is_left columns c cond) 64 None → (i : ℕ) → IsKeptOf columns cond false (Some c) placed i
  many_kept (vs, are, many) i = λ fewer.
      (let ys = fewer.0 in
      let short : length vs ≤ length ys =
      few value_cmp_total vs ys are.rising
      (all_map (λ v. (true ≡ true) × (is_left columns c cond v ≡ true)) (λ v. IsAmong v ys) vs
      (λ v h. subst (λ w. IsAmong w ys) (cell_with columns c v within) (fewer.2 (row_with columns c v) (row_left columns c cond within v h.1))) are.inside) in
      absurd (omega (arith, short, fewer.1, many)))

-- all marks are set, where all parts are so
pub all_marked : (count : ℕ) (IsSo : ℕ → Type 0) (marks : List Bool) → marks ≡ replicate count true → ((i : ℕ) → i < count → IsSo i) → AreMarked count IsSo marks
all_marked count IsSo marks is so = record {
  as_many = ap length is ∙ length-replicate count true;
  each = λ i below. (λ e. so i below, λ k. ap (λ (l : List Bool). slice_index_or l i false) is ∙ get_or-replicate count i true false below);
}
