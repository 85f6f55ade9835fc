-- What was added is found, and nothing else.
use Rattle.std.proofs.Common.{◌≡◌, ℕ, Bool, true, false, cond, ◌||◌, List, [], ◌∷◌, ◌++◌, refl, sym, ap, ap₂, ◌∙◌}
use Rattle.std.specs.Str.{bytes_eq}
use Rattle.std.specs.declared.cmp.Ordering.{Ordering}
use Rattle.std.specs.declared.cmp.Ordering.TheVariants.{Less, Equal, Greater}
use Rattle.std.specs.Ordering.{is_eq, nat_cmp, ordering_reverse}
use Rattle.std.specs.Cmp.Lexicographic.{slice_cmp, nat_list_cmp_total}
use Rattle.std.proofs.lemmas.Map.Text.{is_eq-slice_cmp}
use Rattle.std.proofs.lemmas.List.Folds.{list_any-append}
use Rattle.pt_ast.specs.declared.table.Bound.{Bound}
use Rattle.pt_ast.specs.Bounds.{tuple_cmp}
use Rattle.pt_ast.specs.Lists.{stands_among}
use Rattle.pt_distinct.specs.Names.{lowered, is_form_of}

either : (b x : Bool) → cond b true x ≡ (x || (b || false))
either true true = refl
either true false = refl
either false true = refl
either false false = refl

turned : (o : Ordering) → is_eq (ordering_reverse o) ≡ is_eq o
turned Less = refl
turned Equal = refl
turned Greater = refl

same_bytes : (own key : List ℕ) → is_eq (slice_cmp nat_cmp own key) ≡ bytes_eq key own
same_bytes own key = ap is_eq (nat_list_cmp_total.antisymm own key) ∙ turned (slice_cmp nat_cmp key own) ∙ is_eq-slice_cmp key own

pub name_added : (key own name : List ℕ) (old new : List (List ℕ)) (before after : Bool) → own ≡ lowered name → new ≡ old ++ name ∷ [] → before ≡ is_form_of key old
    → after ≡ cond (is_eq (slice_cmp nat_cmp own key)) true before → after ≡ is_form_of key new
name_added key own name old new before after low pushed had has =
    has ∙ ap₂ (λ (b x : Bool). cond b true x) (same_bytes own key ∙ ap (bytes_eq key) low) had
    ∙ either (bytes_eq key (lowered name)) (is_form_of key old)
    ∙ sym (list_any-append (λ (n : List ℕ). bytes_eq key (lowered n)) old (name ∷ []))
    ∙ ap (is_form_of key) (sym pushed)

pub tuple_added : (tuple own : List Bound) (old : List (List Bound)) (before after : Bool) → before ≡ stands_among old tuple
    → after ≡ cond (is_eq (tuple_cmp own tuple)) true before → after ≡ stands_among (old ++ own ∷ []) tuple
tuple_added tuple own old before after had has =
    has ∙ ap (λ (x : Bool). cond (is_eq (tuple_cmp own tuple)) true x) had
    ∙ either (is_eq (tuple_cmp own tuple)) (stands_among old tuple)
    ∙ sym (list_any-append (λ (other : List Bound). is_eq (tuple_cmp other tuple)) old (own ∷ []))
