use Rattle.std.proofs.Common.{ℕ, Bool, List, [], ◌∷◌, ◌++◌, ◌∙◌, ap₂, arith, sym}
use Rattle.std.specs.List.{list_any}
use Rattle.std.proofs.lemmas.List.FromFn.{map-range_with_len_more}
use Rattle.pt_reach.specs.May.{is_at}
use Rattle.pt_prune.proofs.marks.marked.Goals as goal

pub loop-part-preserved : goal.loop-part-preserved
loop-part-preserved c =
    let part = c.loop-part.part in
    c.in_ok-push.ensures.items
    ∙ ap₂ (λ (l : List Bool) (mark : Bool). l ++ mark ∷ []) c.loop-part.invariant c.is_place.ensures
    ∙ sym (map-range_with_len_more (λ (p : ℕ). list_any (is_at p) c.args.places.now) 0 part part (omega arith))
