use Rattle.std.proofs.Common.{sym, subst, ◌∙◌}
use Rattle.pt_prune.specs.Placing.{CanPlace}
use Rattle.pt_prune.proofs.Resting.{can_part, column_below, part_followed, part_none, part_other, parts_count}
use Rattle.pt_prune.proofs.levels.part_marks.Goals as goal

pub returns-in_default : goal.returns-in_default
returns-in_default c = part_none c.args.def.now c.args.cond.now c.in_ok-marks.marks.items c.part_count-count.result c.part_count-count.ensures (sym c.in_default.is ∙ c.level_column.ensures) c.in_ok-marks.ensures

pub returns-then-follows_all : goal.returns-then-follows_all
returns-then-follows_all c =
    part_followed c.args.def.now c.args.cond.now c.in_ok-marks-2.marks.items c.in-Some.at (sym c.level_column.ensures ∙ c.in-Some.is) (sym c.follows_all.ensures ∙ c.if-follows_all.true) c.in_ok-marks-2.ensures

pub placed_marks-requires-clause-can : goal.placed_marks-requires-clause-can
placed_marks-requires-clause-can c =
    let def = c.args.def.now in
    subst (CanPlace def.columns def.by def.parts) (sym (c.part_count-count.ensures ∙ parts_count def c.in-Some.at (sym c.level_column.ensures ∙ c.in-Some.is))) (can_part def c.requires.valid)

pub placed_marks-requires-clause-within : goal.placed_marks-requires-clause-within
placed_marks-requires-clause-within c = column_below c.args.def.now.columns c.args.def.now.by c.in-Some.at c.requires.storable.by (sym c.level_column.ensures ∙ c.in-Some.is)

pub returns : goal.returns
returns c =
    part_other c.args.def.now c.args.cond.now c.in_ok-marks-3.marks.items c.in-Some.at c.part_count-count.result (sym c.level_column.ensures ∙ c.in-Some.is) (sym c.follows_all.ensures ∙ c.if-follows_all.false) c.part_count-count.ensures c.in_ok-marks-3.ensures
