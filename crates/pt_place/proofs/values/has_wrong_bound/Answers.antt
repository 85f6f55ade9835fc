use Rattle.std.proofs.Common.{sym, ap, ◌∙◌}
use Rattle.pt_place.specs.Checks.{is_range}
use Rattle.pt_place.specs.Fitting.{kinds_of}
use Rattle.pt_place.specs.Valid.{is_wrong_bound}
use Rattle.pt_place.proofs.Tuples.{tuple_end, tuple_found, tuple_more, tuple_short}
use Rattle.pt_place.proofs.values.has_wrong_bound.Goals as goal

pub returns-in_default : goal.returns-in_default
returns-in_default c = tuple_short (is_wrong_bound (is_range c.args.def.now.by)) (kinds_of c.args.def.now.columns c.args.def.now.by) c.args.tuple.now c.loop-at.at _ (sym c.in_default.ensures) c.loop-at.invariant

pub returns-then-is_wrong_bound : goal.returns-then-is_wrong_bound
returns-then-is_wrong_bound c =
    tuple_found (is_wrong_bound (is_range c.args.def.now.by)) (kinds_of c.args.def.now.columns c.args.def.now.by) c.args.tuple.now c.loop-at.at c.in-Some.kind c.index-tuple-at.result _ c.loop-at-test.true (sym c.in-Some.ensures) c.index-tuple-at.is c.loop-at.invariant
    (ap (λ less. is_wrong_bound less c.in-Some.kind c.index-tuple-at.result) (sym c.is_range-less.ensures) ∙ sym c.is_wrong_bound.ensures ∙ c.if-is_wrong_bound.true)

pub loop-at-preserved : goal.loop-at-preserved
loop-at-preserved c =
    tuple_more (is_wrong_bound (is_range c.args.def.now.by)) (kinds_of c.args.def.now.columns c.args.def.now.by) c.args.tuple.now c.loop-at.at c.in-Some.kind c.index-tuple-at.result _ c.loop-at-test.true (sym c.in-Some.ensures) c.index-tuple-at.is c.loop-at.invariant
    (ap (λ less. is_wrong_bound less c.in-Some.kind c.index-tuple-at.result) (sym c.is_range-less.ensures) ∙ sym c.is_wrong_bound.ensures ∙ c.if-is_wrong_bound.false)

pub returns : goal.returns
returns c = tuple_end (is_wrong_bound (is_range c.args.def.now.by)) (kinds_of c.args.def.now.columns c.args.def.now.by) c.args.tuple.now c.loop-at.at _ c.loop-at-test.false c.loop-at.invariant
