use Rattle.std.proofs.Common.{sym, ◌∙◌}
use Rattle.pt_place.specs.Fitting.{kinds_of}
use Rattle.pt_place.specs.Valid.{is_bound_out}
use Rattle.pt_place.proofs.Tuples.{tuple_end, tuple_found, tuple_more, tuple_short}
use Rattle.pt_place.proofs.values.has_bound_out.Goals as goal

pub returns-in_default : goal.returns-in_default
returns-in_default c = tuple_short is_bound_out (kinds_of c.args.def.now.columns c.args.def.now.by) c.args.tuple.now c.loop-at.at _ (sym c.in_default.ensures) c.loop-at.invariant

pub returns-then-is_bound_out : goal.returns-then-is_bound_out
returns-then-is_bound_out c =
    tuple_found is_bound_out (kinds_of c.args.def.now.columns c.args.def.now.by) c.args.tuple.now c.loop-at.at c.in-Some.kind c.index-tuple-at.result _ c.loop-at-test.true (sym c.in-Some.ensures) c.index-tuple-at.is c.loop-at.invariant
    (sym c.is_bound_out.ensures ∙ c.if-is_bound_out.true)

pub loop-at-preserved : goal.loop-at-preserved
loop-at-preserved c =
    tuple_more is_bound_out (kinds_of c.args.def.now.columns c.args.def.now.by) c.args.tuple.now c.loop-at.at c.in-Some.kind c.index-tuple-at.result _ c.loop-at-test.true (sym c.in-Some.ensures) c.index-tuple-at.is c.loop-at.invariant
    (sym c.is_bound_out.ensures ∙ c.if-is_bound_out.false)

pub returns : goal.returns
returns c = tuple_end is_bound_out (kinds_of c.args.def.now.columns c.args.def.now.by) c.args.tuple.now c.loop-at.at _ c.loop-at-test.false c.loop-at.invariant
