use Rattle.std.proofs.Common.{ap, false, refl, subst, sym, true, List, map, ◌∙◌}
use Rattle.std.specs.Prelude.{All, IsOk}
use Rattle.pt_ast.specs.declared.tree.Cond.{Cond}
use Rattle.pt_expr.specs.FoundCond.{checked_cond}
use Rattle.pt_reach.specs.Steps.{IsJoining, IsMeeting}
use Rattle.pt_ast.specs.declared.tree.Cond.TheVariants.{And, Or}
use Rattle.std.specs.List.{list_all, list_any}
use Rattle.pt_expr.proofs.Deciding.{and_ok, or_ok}
use Rattle.pt_interval.specs.Spans.{has}
use Rattle.pt_reach.specs.May.{may}
use Rattle.pt_reach.proofs.Folding.{joining_begins, joining_end, joining_more, meeting_begins, meeting_end, meeting_more}
use Rattle.pt_reach.proofs.Parting.{between_reach, compare_reach, in_reach, is_null_reach}
use Rattle.pt_reach.proofs.conditions.+reach.Goals as goal

pub any_of-loop-part-init : goal.any_of-loop-part-init
any_of-loop-part-init g t c =
    subst (λ (items : List Cond). IsJoining g.T.Line.cmp g.T.Line.is_value g.T.Scale.value false c.new-sets.result.items (λ w. list_any (λ part. part) (map (may c.args.columns.now c.args.at w) items))
    (λ w. list_any (λ part. part) (map (may c.args.columns.now c.args.at w) c.args.parts.now)) × All (λ cond. IsOk (checked_cond c.args.columns.now cond)) items) (sym c.items-part-items.ensures)
    (joining_begins g.T.Line.cmp g.T.Line.is_value g.T.Scale.value _ _ c.new-sets.ensures.items, or_ok c.args.columns.now (Or c.args.parts.now) c.args.parts.now refl c.requires.checked)

pub all_of-loop-part-init : goal.all_of-loop-part-init
all_of-loop-part-init g t c =
    subst (λ (items : List Cond). IsMeeting g.T.Line.cmp g.T.Line.is_value g.T.Scale.value true c.new-gaps.result.items (λ w. list_all (λ part. part) (map (may c.args.columns.now c.args.at w) items))
    (λ w. list_all (λ part. part) (map (may c.args.columns.now c.args.at w) c.args.parts.now)) × All (λ cond. IsOk (checked_cond c.args.columns.now cond)) items) (sym c.items-part-items.ensures)
    (meeting_begins g.T.Line.cmp g.T.Line.is_value g.T.Scale.value _ _ c.new-gaps.ensures.items, and_ok c.args.columns.now (And c.args.parts.now) c.args.parts.now refl c.requires.checked)

pub any_of-loop-part-preserved : goal.any_of-loop-part-preserved
any_of-loop-part-preserved g t c = (
  joining_more g.T.Line.cmp g.T.Line.is_value g.T.Scale.value (may c.args.columns.now c.args.at) c.items-part-items.result.now c.loop-part.part-index c.part-item.result c.loop-part.null _ c.loop-part.sets.items _ c.in_ok-own.own _
      c.loop-part-test.true c.part-item.is c.loop-part.invariant.0 c.in_ok-own.ensures c.either-null.ensures c.in_ok-push.ensures.items,
  c.loop-part.invariant.1,
)

pub any_of-returns : goal.any_of-returns
any_of-returns g t c =
    joining_end g.T.Line.cmp g.T.Line.is_value g.T.Scale.value (may c.args.columns.now c.args.at) c.items-part-items.result.now c.loop-part.part-index c.loop-part.null c.loop-part.sets.items c.in_ok-spans.spans _ c.loop-part-test.false c.loop-part.invariant.0
    (λ v value. c.in_ok-spans.ensures v value ∙ ap (λ sets. list_any (λ set. has g.T.Line.cmp set v) sets) c.as_slice.ensures.value)

pub all_of-loop-part-preserved : goal.all_of-loop-part-preserved
all_of-loop-part-preserved g t c = (
  meeting_more g.T.Line.cmp g.T.Line.is_value g.T.Scale.value (may c.args.columns.now c.args.at) c.items-part-items.result.now c.loop-part.part-index c.part-item.result c.loop-part.null _ c.loop-part.gaps.items _ c.in_ok-own.own c.in_ok-gap.gap _
      c.loop-part-test.true c.part-item.is c.loop-part.invariant.0 c.in_ok-own.ensures c.both-null.ensures c.in_ok-gap.ensures c.in_ok-push.ensures.items,
  c.loop-part.invariant.1,
)

pub all_of-returns : goal.all_of-returns
all_of-returns g t c =
    meeting_end g.T.Line.cmp g.T.Line.is_value g.T.Scale.value (may c.args.columns.now c.args.at) c.items-part-items.result.now c.loop-part.part-index c.loop-part.null c.loop-part.gaps.items c.in_ok-gone.gone c.in_ok-spans.spans _ c.loop-part-test.false c.loop-part.invariant.0
    (λ v value. c.in_ok-gone.ensures v value ∙ ap (λ sets. list_any (λ set. has g.T.Line.cmp set v) sets) c.as_slice.ensures.value) c.in_ok-spans.ensures

pub reach_of-returns-in_ok-reach-in-Compare : goal.reach_of-returns-in_ok-reach-in-Compare
reach_of-returns-in_ok-reach-in-Compare g t c =
    compare_reach c.args.columns.now c.args.at c.args.cond.now c.in_ok-reach-in-Compare.reach c.in-Compare.cmp c.in-Compare.left c.in-Compare.right c.in-Compare.is c.in_ok-reach-in-Compare.ensures

pub reach_of-returns-in_ok-reach-in-IsNull : goal.reach_of-returns-in_ok-reach-in-IsNull
reach_of-returns-in_ok-reach-in-IsNull g t c =
    is_null_reach c.args.columns.now c.args.at c.args.cond.now c.in_ok-reach-in-IsNull.reach c.in-IsNull.is_not c.in-IsNull.expr c.in-IsNull.is c.in_ok-reach-in-IsNull.ensures

pub reach_of-returns-in_ok-reach-in-In : goal.reach_of-returns-in_ok-reach-in-In
reach_of-returns-in_ok-reach-in-In g t c =
    in_reach c.args.columns.now c.args.at c.args.cond.now c.in_ok-reach-in-In.reach c.in-In.is_not c.in-In.expr c.in-In.list c.in-In.is c.in_ok-reach-in-In.ensures

pub reach_of-returns-in_ok-reach-in-Between : goal.reach_of-returns-in_ok-reach-in-Between
reach_of-returns-in_ok-reach-in-Between g t c =
    between_reach c.args.columns.now c.args.at c.args.cond.now c.in_ok-reach-in-Between.reach c.in-Between.is_not c.in-Between.expr c.in-Between.low c.in-Between.high c.in-Between.is c.in_ok-reach-in-Between.ensures
