use Rattle.std.proofs.Common.{ℕ, false, List, map, Option, Some, ap, ◌∙◌}
use Rattle.std.specs.List.{list_any, range_with_len}
use Rattle.pt_reach.specs.Kept.{IsKeptOf}
use Rattle.pt_reach.specs.May.{is_at}
use Rattle.pt_prune.specs.Marks.{placed}
use Rattle.pt_prune.proofs.Leaving.{all_marked, few_marked, many_kept}
use Rattle.pt_prune.proofs.Resting.{placed_same, with_column}
use Rattle.pt_prune.proofs.levels.placed_marks.Goals as goal

pub returns-in_default : goal.returns-in_default
returns-in_default c =
    let columns = c.args.columns.now in
    let kind = c.args.by.now in
    let cond = c.args.cond.now in
    let at = c.args.at in
    let count = c.args.count in
    let own = placed columns kind c.args.parts.now count in
    with_column columns cond kind own count at false c.in_ok-marks.marks.items c.requires.column c.requires.other
    (all_marked count (IsKeptOf columns cond false (Some at) own) c.in_ok-marks.marks.items c.in_ok-marks.ensures (λ i below.
    many_kept columns at cond c.requires.within own (λ a b same. placed_same columns c.args.parts.now count at a b same kind c.requires.column) (rw c.in_default.is at c.in_ok-values.ensures) i))

pub returns : goal.returns
returns c =
    let columns = c.args.columns.now in
    let kind = c.args.by.now in
    let cond = c.args.cond.now in
    let at = c.args.at in
    let count = c.args.count in
    let own = placed columns kind c.args.parts.now count in
    with_column columns cond kind own count at false c.in_ok-marks-2.marks.items c.requires.column c.requires.other
    (few_marked columns at cond c.requires.within own (λ a b same. placed_same columns c.args.parts.now count at a b same kind c.requires.column) count c.in-Some.values.items c.in_ok-marks-2.marks.items
    (rw c.in-Some.is at c.in_ok-values.ensures)
    (c.in_ok-marks-2.ensures ∙ ap (λ (l : List (Option ℕ)). map (λ part. list_any (is_at part) l) (range_with_len 0 count)) (c.as_slice.ensures.value ∙ c.in_ok-places.ensures)))
