-- Entries of a list, item by item; and sets, column by column.
use Rattle.std.proofs.Common.{◌≡◌, ◌≢◌, ℕ, ◌+◌, ◌<◌, ◌≤◌, arith, Bool, true, false, ◌&&◌, List, [], ◌∷◌, ◌++◌, length, drop, take, get_or, map, Option, refl, sym, ap, subst, ◌∙◌}
use Rattle.std.specs.Prelude.{MatchBool}
use Rattle.std.specs.Cmp.{tied_itself}
use Rattle.std.specs.Ordering.{is_eq}
use Rattle.std.proofs.lemmas.Bool.{and_right, false≢true}
use Rattle.std.proofs.lemmas.List.{at_drop_all, at_drop_more, get_or-map, take_all, take_more}
use Rattle.pt_value.specs.Value.{value_cmp, value_cmp_total}
use Rattle.pt_value.specs.declared.value.Value.{Value}
use Rattle.pt_ast.specs.declared.tree.Cond.{Cond}
use Rattle.pt_ast.specs.declared.table.Bound.{Bound}
use Rattle.pt_ast.specs.declared.table.Column.{Column}
use Rattle.pt_ast.specs.declared.table.PartDef.{PartDef}
use Rattle.pt_reach.specs.declared.domain.Domain.{Domain}
use Rattle.pt_reach.specs.Domains.{IsSome, has_in}
use Rattle.pt_followed.specs.Steps.{AreSetsOf, IsDecided, IsListed, IsSetOf, has_entry, has_item, is_listed}
use Rattle.pt_followed.proofs.Edges.{one_value}

-- ---- an item

pub item_told : (b : Bool) (set : Domain) (k v : Value) → k ≡ v → MatchBool b (IsSome (has_in set) (λ w. is_eq (value_cmp w k)) (λ w. true)) (¬ (IsSome (has_in set) (λ w. is_eq (value_cmp w k)) (λ w. true)))
    → b ≡ has_in set v
item_told true set k v same (w, held, equal, any) = sym (ap (has_in set) (sym (one_value w k equal ∙ same)) ∙ held)
item_told false set k v same none = by (has_in set v) refl
  where
    by : (t : Bool) → has_in set v ≡ t → false ≡ t
    by true e = absurd (none (v, e, ap (λ u. is_eq (value_cmp v u)) same ∙ ap is_eq (tied_itself value_cmp_total v), refl))
    by false e = refl

-- ---- an entry

pub unlike_entry : (sets : List Domain) (entry : List Bound) → length sets ≢ length entry → has_entry sets entry ≡ false
unlike_entry [] [] unlike = absurd (unlike refl)
unlike_entry [] (item ∷ items) unlike = refl
unlike_entry (set ∷ sets) [] unlike = refl
unlike_entry (set ∷ sets) (item ∷ items) unlike = and_right (has_item set item) (has_entry sets items) (unlike_entry sets items (λ same. unlike (omega (arith, same))))

module _ (sets : List Domain) (entry : List Bound) (i : ℕ) where
  entry_step : (set : Domain) (item : Bound) → i < length sets → i < length entry → set ≡ get_or sets i set → item ≡ get_or entry i item
      → has_entry (drop i sets) (drop i entry) ≡ (has_item set item && has_entry (drop (i + 1) sets) (drop (i + 1) entry))
  entry_step set item within here is own =
      at_drop_more (λ (ss : List Domain). has_entry ss (drop i entry)) sets i set within
      ∙ at_drop_more (λ (items : List Bound). has_entry (get_or sets i set ∷ drop (i + 1) sets) items) entry i item here
      ∙ ap (λ (s : Domain). has_item s (get_or entry i item) && has_entry (drop (i + 1) sets) (drop (i + 1) entry)) (sym is)
      ∙ ap (λ (b : Bound). has_item set b && has_entry (drop (i + 1) sets) (drop (i + 1) entry)) (sym own)

  pub entry_lacks : (set : Domain) (item : Bound) (all : Bool) → i < length sets → i < length entry → set ≡ get_or sets i set → item ≡ get_or entry i item → has_item set item ≡ false
      → has_entry (drop i sets) (drop i entry) ≡ all → false ≡ all
  entry_lacks set item all within here is own lacks kept = ap (λ b. b && has_entry (drop (i + 1) sets) (drop (i + 1) entry)) (sym lacks) ∙ sym (entry_step set item within here is own) ∙ kept

  pub entry_more : (set : Domain) (item : Bound) (all : Bool) → i < length sets → i < length entry → set ≡ get_or sets i set → item ≡ get_or entry i item → has_item set item ≡ true
      → has_entry (drop i sets) (drop i entry) ≡ all → has_entry (drop (i + 1) sets) (drop (i + 1) entry) ≡ all
  entry_more set item all within here is own has kept = ap (λ b. b && has_entry (drop (i + 1) sets) (drop (i + 1) entry)) (sym has) ∙ sym (entry_step set item within here is own) ∙ kept

  pub entry_end : (all : Bool) → length sets ≤ i → length entry ≤ i → has_entry (drop i sets) (drop i entry) ≡ all → true ≡ all
  entry_end all past over kept =
      sym (at_drop_all (λ (ss : List Domain). has_entry ss (drop i entry)) sets i past ∙ at_drop_all (λ (items : List Bound). has_entry [] items) entry i over) ∙ kept

-- ---- a part

pub listed_told : (sets : List Domain) (parts : List PartDef) (i : ℕ) (part : PartDef) (b : Bool) → i < length parts → part ≡ get_or parts i part → b ≡ is_listed sets part → IsDecided b (IsListed sets parts i)
listed_told sets parts i part b within is told = by b (told ∙ ap (is_listed sets) is ∙ sym (get_or-map (is_listed sets) parts i part false within))
  where
    by : (t : Bool) → t ≡ get_or (map (is_listed sets) parts) i false → IsDecided t (IsListed sets parts i)
    by true e = sym e
    by false e = λ h. false≢true (e ∙ h)

-- ---- sets

module _ (columns : List Column) (at : ℕ) (cond : Option Cond) where
  set_last : (ns : List ℕ) (sets : List Domain) (n : ℕ) (set : Domain) → AreSetsOf columns at cond ns sets → IsSetOf columns at cond n set → AreSetsOf columns at cond (ns ++ n ∷ []) (sets ++ set ∷ [])
  set_last [] [] n set are is = (is, tt)
  set_last [] (own ∷ sets) n set are is = absurd are
  set_last (m ∷ ns) [] n set are is = absurd are
  set_last (m ∷ ns) (own ∷ sets) n set are is = (are.0, set_last ns sets n set are.1 is)

  pub sets_more : (numbers : List ℕ) (i n d : ℕ) (sets after : List Domain) (set : Domain) → i < length numbers → n ≡ get_or numbers i d → AreSetsOf columns at cond (take i numbers) sets → IsSetOf columns at cond n set
      → after ≡ sets ++ set ∷ [] → AreSetsOf columns at cond (take (i + 1) numbers) after
  sets_more numbers i n d sets after set within is so_far own now =
      subst (λ (ns : List ℕ). AreSetsOf columns at cond ns after) (sym (take_more numbers i d within))
      (subst (λ (ss : List Domain). AreSetsOf columns at cond (take i numbers ++ get_or numbers i d ∷ []) ss) (sym now)
      (subst (λ (m : ℕ). AreSetsOf columns at cond (take i numbers ++ m ∷ []) (sets ++ set ∷ [])) is (set_last (take i numbers) sets n set so_far own)))

  pub no_sets : (sets : List Domain) → sets ≡ [] → AreSetsOf columns at cond [] sets
  no_sets sets none = subst (λ (ss : List Domain). AreSetsOf columns at cond [] ss) (sym none) tt

  pub all_sets : (numbers : List ℕ) (i : ℕ) (sets : List Domain) → length numbers ≤ i → AreSetsOf columns at cond (take i numbers) sets → AreSetsOf columns at cond numbers sets
  all_sets numbers i sets past are = subst (λ (ns : List ℕ). AreSetsOf columns at cond ns sets) (take_all i numbers past) are
