-- A row for which the condition is TRUE is one that it leaves, and its spot is kept.
use Rattle.std.proofs.Common.{inl, inr, ◌≡◌, ℕ, Bool, true, false, ◌&&◌, ◌||◌, List, [], ◌∷◌, map, Option, Some, None, refl, sym, ap, subst, ◌∙◌}
use Rattle.std.specs.Prelude.{fold, slice_index_or, is_some, unwrap_or}
use Rattle.std.specs.Option.{option_map}
use Rattle.std.specs.List.{list_all, list_any}
use Rattle.std.proofs.lemmas.Bool.{false≢true, and_from, and_parts, or_cases, or_left, or_right}
use Rattle.pt_value.specs.Truth.{greatest, least}
use Rattle.pt_value.specs.declared.truth.Truth.{Truth}
use Rattle.pt_value.specs.declared.truth.Truth.TheVariants.{False, Unknown, True}
use Rattle.pt_value.specs.declared.value.Value.{Value}
use Rattle.pt_value.specs.declared.value.Value.TheVariants.{Null}
use Rattle.pt_ast.specs.declared.tree.Cond.{Cond, map-Cond}
use Rattle.pt_ast.specs.declared.tree.Cond.TheOpen.{Cond-F}
use Rattle.pt_ast.specs.declared.tree.Cond.TheFolds.{fold-roll-Cond, ind-Cond}
use Rattle.pt_ast.specs.declared.table.Column.{Column}
use Rattle.pt_ast.specs.declared.table.PartBy.{PartBy}
use Rattle.pt_ast.specs.declared.table.TableDef.{TableDef}
use Rattle.pt_ast.specs.declared.database.Spot.{Spot}
use Rattle.pt_expr.specs.Truths.{is_null, negated, truth, truth_of, truth_step}
use Rattle.pt_place.specs.Place.{part_of, spot_in}
use Rattle.pt_reach.specs.May.{if_atom, is_true, may, may_hold, may_step}
use Rattle.pt_reach.specs.Kept.{AreOfKinds, IsKeptOf, IsKeptPart, IsLeft, follows_all, level_column, sub_in}
use Rattle.pt_reach.specs.Laws.{PruningIsSound, passes}
use Rattle.pt_reach.proofs.Truths.{true_both, true_either}
use Rattle.pt_reach.proofs.Constants.{among_same, between_same, compare_same, null_same}

-- ---- a condition that is TRUE may hold

atom_from : (b : Bool) (s t : Truth) → is_true s ≡ true → (b ≡ true → s ≡ t) → if_atom b t ≡ true
atom_from true s t e same = ap is_true (sym (same refl)) ∙ e
atom_from false s t e same = refl

module _ (columns : List Column) (c : ℕ) (cells : List Value) where
  abbrev cell : Value
  cell = slice_index_or cells c Null

  abbrev MayHold : Cond → Type 0
  MayHold cond = is_true (truth columns cells cond) ≡ true → may columns c cell cond ≡ true

  abbrev Proved : Type 0
  Proved = (cond : Cond) × MayHold cond

  abbrev truths : List Proved → List Truth
  truths ps = map (truth columns cells) (map {B = Cond} (λ (p : Proved). p.0) ps)

  abbrev mays : List Proved → List Bool
  mays ps = map (may columns c cell) (map {B = Cond} (λ (p : Proved). p.0) ps)

  some_may : (ps : List Proved) (before : Truth) → is_true (fold greatest before (truths ps)) ≡ true → (is_true before || list_any (λ part. part) (mays ps)) ≡ true
  some_may [] before e = or_left (is_true before) false e
  some_may (p ∷ ps) before e =
      elim (or_cases (is_true (greatest before (truth columns cells p.0))) (list_any (λ part. part) (mays ps)) (some_may ps (greatest before (truth columns cells p.0)) e)) [
        | inl h ↦ elim (or_cases (is_true before) (is_true (truth columns cells p.0)) (sym (true_either before (truth columns cells p.0)) ∙ h)) [
          | inl k ↦ or_left (is_true before) _ k
          | inr k ↦ or_right (is_true before) _ (or_left (may columns c cell p.0) _ (p.1 k))
        ]
        | inr h ↦ or_right (is_true before) _ (or_right (may columns c cell p.0) _ h)
      ]

  all_may : (ps : List Proved) (before : Truth) → is_true (fold least before (truths ps)) ≡ true → (is_true before ≡ true) × (list_all (λ part. part) (mays ps) ≡ true)
  all_may [] before e = (e, refl)
  all_may (p ∷ ps) before e =
      let rest = all_may ps (least before (truth columns cells p.0)) e in
      let both = and_parts (is_true before) (is_true (truth columns cells p.0)) (sym (true_both before (truth columns cells p.0)) ∙ rest.0) in
      (both.0, and_from (may columns c cell p.0) _ (p.1 both.1) rest.1)

  abbrev NodeMay : Cond-F Cond → Type 0
  NodeMay x =
      is_true (truth_step columns cells (map-Cond Cond Truth (truth columns cells) x)) ≡ true
      → may_step columns c cell (map-Cond Cond Bool (may columns c cell) x) ≡ true

  node : (y : Cond-F Proved) → NodeMay (map-Cond Proved Cond (λ (p : Proved). p.0) y)
  node (Cond-F.Or parts) e = some_may parts False e
  node (Cond-F.And parts) e = (all_may parts True e).1
  node (Cond-F.Not part) e = refl
  node (Cond-F.Compare cmp left right) e = atom_from _ _ _ e (compare_same columns c cells cmp left right)
  node (Cond-F.IsNull is_not expr) e = atom_from _ _ _ e (λ h. ap (λ (v : Value). negated is_not (truth_of (is_null v))) (null_same columns c cells expr h))
  node (Cond-F.In is_not expr list) e = atom_from _ _ _ e (λ h. ap (negated is_not) (among_same columns c cells expr list h))
  node (Cond-F.Between is_not expr low high) e = atom_from _ _ _ e (λ h. ap (negated is_not) (between_same columns c cells expr low high h))

  pub true_may : (cond : Cond) → MayHold cond
  true_may = ind-Cond MayHold (λ x y is e.
      fold-roll-Cond Bool (may_step columns c cell) x
      ∙ subst NodeMay is (node y) (sym (ap is_true (fold-roll-Cond Truth (truth_step columns cells) x)) ∙ e))

  pub passes_may : (cond : Option Cond) → passes columns cond cells ≡ true → may_hold columns c cond cell ≡ true
  passes_may (Some cond) e = true_may cond e
  passes_may None e = refl

-- ---- a level, and both

module _ (columns : List Column) (cells : List Value) (cond : Option Cond) (kinds : AreOfKinds columns cells) (passing : passes columns cond cells ≡ true) where
  left : (c : ℕ) → IsLeft columns c cond cells
  left c = record { kinds = kinds; may = passes_may columns c cells cond passing }

  kept_of : (all : Bool) (column : Option ℕ) (placed : List Value → Option ℕ) (part : ℕ) → placed cells ≡ Some part → IsKeptOf columns cond all column placed part
  kept_of true None placed part e = tt
  kept_of false None placed part e = tt
  kept_of true (Some c) placed part e = (cells, left c, e)
  kept_of false (Some c) placed part e = λ few. (cells, left c, e)

  kept_part : (kind : PartBy) (placed : List Value → Option ℕ) (part : ℕ) → placed cells ≡ Some part → IsKeptPart columns cond kind placed part
  kept_part kind placed part e = kept_of (follows_all kind) (level_column columns kind) placed part e

in_part : (def : TableDef) (cells : List Value) (o : Option ℕ) (spot : Spot) → option_map (spot_in def cells) o ≡ Some spot
    → (o ≡ Some spot.part) × (spot_in def cells spot.part ≡ spot)
in_part def cells None spot e = absurd (false≢true (ap is_some e))
in_part def cells (Some part) spot e =
    let same : spot_in def cells part ≡ spot = ap (λ (o : Option Spot). unwrap_or o spot) e in
    (ap (λ (s : Spot). Some s.part) same, ap (λ (s : Spot). spot_in def cells s.part) (sym same) ∙ same)

pub sound : PruningIsSound
sound def names cond cells spot kinds placed named passing =
    let both = in_part def cells (part_of def.columns def.by def.parts cells) spot placed in
    record {
      part = kept_part def.columns cells cond kinds passing def.by (part_of def.columns def.by def.parts) spot.part both.0;
      sub = kept_part def.columns cells cond kinds passing def.sub (sub_in def spot.part) spot.sub (ap (λ (s : Spot). Some s.sub) both.1);
      named = named;
    }
