use Rattle.std.proofs.Common.{drop, map}
use Rattle.std.specs.List.{list_all, list_any}
use Rattle.std.specs.Prelude.{All, IsOk}
use Rattle.pt_expr.specs.FoundCond.{checked_cond}
use Rattle.pt_reach.specs.May.{may}
use Rattle.pt_reach.specs.Steps.{IsJoining, IsMeeting}
use Rattle.pt_reach.proofs.conditions.+reach.Given as goal

abbrev pub invariant-any_of-loop-part : goal.invariant-any_of-loop-part
invariant-any_of-loop-part g l =
    IsJoining g.T.Line.cmp g.T.Line.is_value g.T.Scale.value l.null l.sets.items (λ w. list_any (λ part. part) (map (may l.columns l.at w) (drop l.part-index l.part-items)))
    (λ w. list_any (λ part. part) (map (may l.columns l.at w) l.parts))
    × All (λ cond. IsOk (checked_cond l.columns cond)) l.part-items

abbrev pub invariant-all_of-loop-part : goal.invariant-all_of-loop-part
invariant-all_of-loop-part g l =
    IsMeeting g.T.Line.cmp g.T.Line.is_value g.T.Scale.value l.null l.gaps.items (λ w. list_all (λ part. part) (map (may l.columns l.at w) (drop l.part-index l.part-items)))
    (λ w. list_all (λ part. part) (map (may l.columns l.at w) l.parts))
    × All (λ cond. IsOk (checked_cond l.columns cond)) l.part-items
