use Rattle.std.proofs.Common.{◌≡◌, ◌+◌, ◌∷◌, ◌++◌, [], map, sym, ap, ◌∙◌, refl}
use Rattle.std.specs.List.{range_with_len}
use Rattle.std.proofs.lemmas.List.FromFn.{map-range_with_len_more}
use Rattle.pt_gen.specs.Script.{values}
use Rattle.pt_gen.proofs.rows.rows_of.Goals as goal

pub loop-at-preserved : goal.loop-at-preserved
loop-at-preserved c =
    let more : map values (range_with_len c.args.first (c.loop-at.at + 1)) ≡ map values (range_with_len c.args.first c.loop-at.at) ++ values (c.args.first + c.loop-at.at) ∷ [] =
    map-range_with_len_more values c.args.first c.loop-at.at (c.args.first + c.loop-at.at) refl in
    let before : c.loop-at.rows ≡ map values (range_with_len c.args.first c.loop-at.at) = c.loop-at.invariant in
    let pushed : c.push.new.self ≡ c.loop-at.rows ++ c.in_ok-values_of.field-0 ∷ [] = c.in_ok-push.ensures.ok in
    pushed ∙ ap (λ row. c.loop-at.rows ++ row ∷ []) c.in_ok-values_of.ensures ∙ ap (λ rows. rows ++ values (c.args.first + c.loop-at.at) ∷ []) before ∙ sym more
