-- Texts with a separator between them, one more at a time.
use Rattle.std.proofs.Common.{◌≡◌, ℕ, zero, suc, ◌+◌, ◌<◌, ◌≤◌, List, [], ◌∷◌, ◌++◌, length, map, take, get_or, refl, sym, ap, ap₂, ◌∙◌, append_assoc, arith}
use Rattle.std.specs.List.{flat_map}
use Rattle.std.proofs.lemmas.List.{append-nil, flat_map_more, length-map, length-take-le, map_more, take_all}
use Rattle.std.proofs.Common.{Bool, subst}
use Rattle.std.specs.Prelude.{Result, OnOk}
use Rattle.pt_ast.specs.declared.tree.Op.{Op}
use Rattle.pt_ast.specs.declared.tree.Expr.{fold-roll-Expr}
use Rattle.pt_ast.specs.declared.tree.Expr.TheOpen.{Expr-F}
use Rattle.pt_ast.specs.declared.tree.Expr.TheVariants as tree
use Rattle.pt_ast.specs.declared.tree.Expr.TheVariants.{rolls-Product}
use Rattle.pt_defs.proofs.Texts.{behind_text}
use Rattle.pt_ast.specs.declared.tree.Expr.{Expr}
use Rattle.pt_show.specs.Show.{factors_shown, gap, joined, node_shown, operand, product_shown, parts_of, shown_expr, sum_shown, term_at, term_shown}

joined_push : (between : List ℕ) (texts : List (List ℕ)) (text : List ℕ) → joined between (texts ++ text ∷ []) ≡ (joined between texts ++ gap between (length texts)) ++ text
joined_push between [] text = append-nil text
joined_push between (first ∷ more) text =
    ap (λ (t : List ℕ). first ++ t) (sym (flat_map_more (λ (t : List ℕ). between ++ t) [] more text))
    ∙ sym (append_assoc first (flat_map (λ (t : List ℕ). between ++ t) more) (between ++ text))
    ∙ sym (append_assoc (first ++ flat_map (λ (t : List ℕ). between ++ t) more) between text)

-- an item more
pub shown_more : {A : Type 0} (start out mid new between : List ℕ) (f : A → List ℕ) (items : List A) (i : ℕ) (x d : A) → i < length items → x ≡ get_or items i d → out ≡ start ++ joined between (map f (take i items))
    → mid ≡ out ++ gap between i → new ≡ mid ++ f x → new ≡ start ++ joined between (map f (take (i + 1) items))
shown_more {A = A} start out mid new between f items i x d below is so_far gapped shown =
    let many : length (map f (take i items)) ≡ i = length-map (take i items) f ∙ length-take-le i items (omega arith) in
    shown ∙ ap₂ (λ (m : List ℕ) (y : A). m ++ f y) (gapped ∙ ap (λ (o : List ℕ). o ++ gap between i) so_far) is
    ∙ ap (λ (t : List ℕ). t ++ f (get_or items i d)) (append_assoc start (joined between (map f (take i items))) (gap between i))
    ∙ append_assoc start (joined between (map f (take i items)) ++ gap between i) (f (get_or items i d))
    ∙ ap (λ n. start ++ ((joined between (map f (take i items)) ++ gap between n) ++ f (get_or items i d))) (sym many)
    ∙ ap (λ (t : List ℕ). start ++ t) (sym (joined_push between (map f (take i items)) (f (get_or items i d))))
    ∙ ap (λ (ts : List (List ℕ)). start ++ joined between ts) (sym (map_more f items i d below))

-- all items
pub shown_all : {A : Type 0} (start new between : List ℕ) (f : A → List ℕ) (items xs : List A) (i : ℕ) → items ≡ xs → length items ≤ i → new ≡ start ++ joined between (map f (take i items)) → new ≡ start ++ joined between (map f xs)
shown_all {A = A} start new between f items xs i same all shown = shown ∙ ap (λ (ys : List A). start ++ joined between (map f ys)) (take_all i items all ∙ same)

-- ---- sums

sum_push : (parts : List (Bool × (Bool × List ℕ))) (part : Bool × (Bool × List ℕ)) → sum_shown (parts ++ part ∷ []) ≡ sum_shown parts ++ term_at (length parts) part
unfolding sum_shown term_at
sum_push [] part = append-nil part.1.1
sum_push (first ∷ more) part = sym (flat_map_more term_shown first.1.1 more part)

-- a part of a sum more
pub sum_more : (start out new : List ℕ) (items : List (Bool × Expr)) (i : ℕ) (x d : Bool × Expr) → i < length items → x ≡ get_or items i d → out ≡ start ++ sum_shown (parts_of (take i items))
    → new ≡ out ++ term_at i (x.0, shown_expr x.1) → new ≡ start ++ sum_shown (parts_of (take (i + 1) items))
sum_more start out new items i x d below is so_far shown =
    let f : Bool × Expr → Bool × (Bool × List ℕ) = λ part. (part.0, shown_expr part.1) in
    let many : length (map f (take i items)) ≡ i = length-map (take i items) f ∙ length-take-le i items (omega arith) in
    shown ∙ ap₂ (λ (o : List ℕ) (y : Bool × Expr). o ++ term_at i (f y)) so_far is
    ∙ append_assoc start (sum_shown (parts_of (take i items))) (term_at i (f (get_or items i d)))
    ∙ ap (λ n. start ++ (sum_shown (parts_of (take i items)) ++ term_at n (f (get_or items i d)))) (sym many)
    ∙ ap (λ (t : List ℕ). start ++ t) (sym (sum_push (map f (take i items)) (f (get_or items i d))) ∙ ap sum_shown (sym (map_more f items i d below)))

pub sum_none : (start : List ℕ) → start ≡ start ++ sum_shown []
unfolding sum_shown
sum_none start = sym (append-nil start)

pub sum_all : (start new : List ℕ) (items xs : List (Bool × Expr)) (i : ℕ) → items ≡ xs → length items ≤ i → new ≡ start ++ sum_shown (parts_of (take i items)) → new ≡ start ++ sum_shown (parts_of xs)
sum_all start new items xs i same all shown = shown ∙ ap (λ (ys : List (Bool × Expr)). start ++ sum_shown (parts_of ys)) (take_all i items all ∙ same)

-- ---- products

product_node : (first : Expr) (parts : List (Op × Expr)) → (shown_expr (tree.Product first parts)).1 ≡ operand (shown_expr first) ++ factors_shown (parts_of parts)
unfolding product_shown
product_node first parts = ap (λ e. (shown_expr e).1) (sym (rolls-Product first parts)) ∙ ap (λ (p : Bool × List ℕ). p.1) (fold-roll-Expr (Bool × List ℕ) node_shown (Expr-F.Product first parts))

pub product_done : {A E : Type 0} (r : Result A E) (expr first f : Expr) (parts : List (Op × Expr)) (old mid new : List ℕ) → expr ≡ tree.Product first parts → f ≡ first → mid ≡ old ++ operand (shown_expr f)
    → OnOk r (new ≡ mid ++ factors_shown (parts_of parts)) → OnOk r (new ≡ old ++ (shown_expr expr).1)
product_done r expr first f parts old mid new is same one two =
    let text : (shown_expr expr).1 ≡ operand (shown_expr f) ++ factors_shown (parts_of parts) =
    ap (λ e. (shown_expr e).1) is ∙ product_node first parts ∙ ap (λ e. operand (shown_expr e) ++ factors_shown (parts_of parts)) (sym same) in
    subst (λ (t : List ℕ). OnOk r (new ≡ old ++ t)) (sym text) (behind_text r old mid new (operand (shown_expr f)) (factors_shown (parts_of parts)) one two)
