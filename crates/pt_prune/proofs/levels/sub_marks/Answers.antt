use Rattle.std.proofs.Common.{sym, subst, ◌∙◌}
use Rattle.pt_prune.specs.Placing.{CanPlace}
use Rattle.pt_prune.proofs.Resting.{can_sub, column_below, sub_none, sub_other, sub_unfollowed}
use Rattle.pt_prune.proofs.levels.sub_marks.Goals as goal

pub returns-in_default : goal.returns-in_default
returns-in_default c =
    λ part below. sub_none c.args.def.now c.args.cond.now c.in_ok-marks.marks.items c.sub_count-count.result part c.requires.storable c.requires.valid below c.sub_count-count.ensures (sym c.in_default.is ∙ c.level_column.ensures) c.in_ok-marks.ensures

pub placed_marks-requires-clause-can : goal.placed_marks-requires-clause-can
placed_marks-requires-clause-can c =
    let def = c.args.def.now in
    subst (CanPlace def.columns def.sub def.parts) (sym c.sub_count-count.ensures) (can_sub def c.requires.storable c.requires.valid)

pub placed_marks-requires-clause-within : goal.placed_marks-requires-clause-within
placed_marks-requires-clause-within c = column_below c.args.def.now.columns c.args.def.now.sub c.in-Some.at c.requires.storable.sub.0 (sym c.level_column.ensures ∙ c.in-Some.is)

pub placed_marks-requires-clause-other : goal.placed_marks-requires-clause-other
placed_marks-requires-clause-other c = sub_unfollowed c.args.def.now.sub c.requires.storable.sub.1

pub returns : goal.returns
returns c =
    λ part below. sub_other c.args.def.now c.args.cond.now c.in_ok-marks-2.marks.items c.in-Some.at c.sub_count-count.result part c.requires.storable c.requires.valid below (sym c.level_column.ensures ∙ c.in-Some.is) c.sub_count-count.ensures c.in_ok-marks-2.ensures
