-- Operands that are compared, one by one.
use Rattle.std.proofs.Common.{◌≡◌, ℕ, ◌+◌, ◌<◌, ◌≤◌, Bool, List, [], ◌∷◌, length, drop, get_or, map, Result, Ok, Err, sym, ap, ◌∙◌}
use Rattle.std.specs.Prelude.{◌&&◌, ◌||◌}
use Rattle.std.specs.List.{list_all, list_any}
use Rattle.std.proofs.Math.Bool.{or_assoc, or-false, and_assoc, and-true}
use Rattle.std.proofs.lemmas.List.{at_drop_more, at_drop_all}
use Rattle.pt_ast.specs.declared.table.Column.{Column}
use Rattle.pt_ast.specs.declared.tree.Expr.{Expr}
use Rattle.pt_expr.specs.declared.kind.CheckFault.{CheckFault}
use Rattle.pt_expr.specs.declared.found.Shape.{Shape}
use Rattle.pt_expr.specs.declared.found.Found.{Found}
use Rattle.pt_expr.specs.declared.operands.Operands.{Operands}
use Rattle.pt_expr.specs.Found.{after, all_found, finding, may_be_wide, may_be_day, may_be_bytes}
use Rattle.pt_expr.specs.FoundCond.{Verdict, alike_verdict, is_day, is_other_text}
use Rattle.pt_expr.proofs.Gathering.{after-same, after-twice, gather}
use Rattle.pt_expr.specs.Stepping.{compared_verdict, no_operands, operands_after, operands_rest, with_operand}

-- ---- the steps of a loop over operands

operands_next : (columns : List Column) (operands : Operands) (exprs : List Expr) (i : ℕ) (expr : Expr) → i < length exprs → expr ≡ get_or exprs i expr
    → operands_rest columns operands (drop i exprs) ≡ after (operands_after columns operands expr) (λ next. operands_rest columns next (drop (i + 1) exprs))
unfolding operands_rest
operands_next columns operands exprs i expr h is =
    at_drop_more (operands_rest columns operands) exprs i expr h
    ∙ ap (λ (e : Expr). after (operands_after columns operands e) (λ next. operands_rest columns next (drop (i + 1) exprs))) (sym is)

pub operands_more : (whole : Verdict) (columns : List Column) (operands next : Operands) (exprs : List Expr) (i : ℕ) (expr : Expr) → i < length exprs → expr ≡ get_or exprs i expr
    → operands_rest columns operands (drop i exprs) ≡ whole → Ok next ≡ operands_after columns operands expr → operands_rest columns next (drop (i + 1) exprs) ≡ whole
operands_more whole columns operands next exprs i expr h is so_far here =
    ap (λ (r : Result Operands CheckFault). after r (λ next. operands_rest columns next (drop (i + 1) exprs))) here ∙ sym (operands_next columns operands exprs i expr h is) ∙ so_far

pub operands_fault : (whole : Verdict) (columns : List Column) (operands : Operands) (exprs : List Expr) (i : ℕ) (expr : Expr) (fault : CheckFault) → i < length exprs → expr ≡ get_or exprs i expr
    → operands_rest columns operands (drop i exprs) ≡ whole → Err fault ≡ operands_after columns operands expr → Err fault ≡ whole
operands_fault whole columns operands exprs i expr fault h is so_far here =
    ap (λ (r : Result Operands CheckFault). after r (λ next. operands_rest columns next (drop (i + 1) exprs))) here ∙ sym (operands_next columns operands exprs i expr h is) ∙ so_far

pub operands_end : (whole : Verdict) (columns : List Column) (operands : Operands) (exprs : List Expr) (i : ℕ) → length exprs ≤ i
    → operands_rest columns operands (drop i exprs) ≡ whole → compared_verdict operands ≡ whole
unfolding operands_rest
operands_end whole columns operands exprs i h so_far = sym (at_drop_all (operands_rest columns operands) exprs i h) ∙ so_far

-- ---- what it comes to

made : Bool → Bool → Bool → Bool → Bool → Operands
made a b c d e = record { is_date = a; is_bad = b; wide = c; day = d; bytes = e }

made-same : (a b c d e a' b' c' d' e' : Bool) → a ≡ a' → b ≡ b' → c ≡ c' → d ≡ d' → e ≡ e' → made a b c d e ≡ made a' b' c' d' e'
made-same a b c d e a' b' c' d' e' p q r s t = cc

-- operands, with those of these shapes behind them
all_of : Operands → List Shape → Operands
all_of operands shapes =
    made (operands.is_date || list_any is_day shapes) (operands.is_bad || list_any is_other_text shapes)
    (operands.wide && list_all may_be_wide shapes) (operands.day && list_all may_be_day shapes) (operands.bytes && list_all may_be_bytes shapes)

all_of-none : (operands : Operands) → operands ≡ all_of operands []
unfolding all_of made
all_of-none operands =
    made-same operands.is_date operands.is_bad operands.wide operands.day operands.bytes _ _ _ _ _
    (sym (or-false operands.is_date)) (sym (or-false operands.is_bad)) (sym (and-true operands.wide)) (sym (and-true operands.day)) (sym (and-true operands.bytes))

all_of-more : (operands : Operands) (shape : Shape) (shapes : List Shape) → all_of (with_operand operands shape) shapes ≡ all_of operands (shape ∷ shapes)
unfolding all_of
all_of-more operands shape shapes =
    made-same _ _ _ _ _ _ _ _ _ _
    (or_assoc operands.is_date (is_day shape) (list_any is_day shapes)) (or_assoc operands.is_bad (is_other_text shape) (list_any is_other_text shapes))
    (and_assoc operands.wide (may_be_wide shape) (list_all may_be_wide shapes)) (and_assoc operands.day (may_be_day shape) (list_all may_be_day shapes))
    (and_assoc operands.bytes (may_be_bytes shape) (list_all may_be_bytes shapes))

shapes_of : List Found → List Shape
shapes_of founds = map (λ (found : Found). found.shape) founds

operands_gathered : (columns : List Column) (operands : Operands) (exprs : List Expr)
    → operands_rest columns operands exprs ≡ after (all_found (map (finding columns) exprs)) (λ founds. compared_verdict (all_of operands (shapes_of founds)))
unfolding operands_rest shapes_of
operands_gathered columns operands [] = ap compared_verdict (all_of-none operands)
operands_gathered columns operands (expr ∷ exprs) =
    after-twice (finding columns expr) (λ (found : Found). with_operand operands found.shape) (λ next. operands_rest columns next exprs)
    ∙ gather (finding columns expr) (all_found (map (finding columns) exprs)) _ (λ founds. compared_verdict (all_of operands (shapes_of founds)))
    (λ found. operands_gathered columns (with_operand operands found.shape) exprs
    ∙ after-same (all_found (map (finding columns) exprs)) _ _ (λ founds. ap compared_verdict (all_of-more operands found.shape (shapes_of founds))))

operands_whole : (columns : List Column) (exprs : List Expr) → operands_rest columns no_operands exprs ≡ alike_verdict columns exprs
unfolding shapes_of all_of made
operands_whole columns exprs = operands_gathered columns no_operands exprs

-- three operands
three_operands : (columns : List Column) (a b c : Expr)
    → after (operands_after columns no_operands a) (λ one. after (operands_after columns one b) (λ two. after (operands_after columns two c) compared_verdict)) ≡ alike_verdict columns (a ∷ b ∷ c ∷ [])
unfolding operands_rest
three_operands columns a b c = operands_whole columns (a ∷ b ∷ c ∷ [])

pub three_found : (columns : List Column) (a b c : Expr) (one two three : Operands) → Ok one ≡ operands_after columns no_operands a → Ok two ≡ operands_after columns one b
    → Ok three ≡ operands_after columns two c → compared_verdict three ≡ alike_verdict columns (a ∷ b ∷ c ∷ [])
three_found columns a b c one two three first second third =
    ap (λ (r : Result Operands CheckFault). after r compared_verdict) third
    ∙ ap (λ (r : Result Operands CheckFault). after r (λ two. after (operands_after columns two c) compared_verdict)) second
    ∙ ap (λ (r : Result Operands CheckFault). after r (λ one. after (operands_after columns one b) (λ two. after (operands_after columns two c) compared_verdict))) first
    ∙ three_operands columns a b c

pub some_operands : (columns : List Column) (expr : Expr) (exprs : List Expr) (operands : Operands) → Ok operands ≡ operands_after columns no_operands expr
    → operands_rest columns operands exprs ≡ alike_verdict columns (expr ∷ exprs)
unfolding operands_rest
some_operands columns expr exprs operands here =
    ap (λ (r : Result Operands CheckFault). after r (λ next. operands_rest columns next exprs)) here ∙ operands_whole columns (expr ∷ exprs)
