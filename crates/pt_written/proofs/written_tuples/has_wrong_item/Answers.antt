use Rattle.std.proofs.Common.{sym, ◌∙◌}
use Rattle.pt_place.specs.Fitting.{kinds_of}
use Rattle.pt_written.specs.Complete.{is_wrong_item}
use Rattle.pt_written.proofs.WrittenTuples.{items_end, items_found, items_more, items_short}
use Rattle.pt_written.proofs.written_tuples.has_wrong_item.Goals as goal

pub returns-in_default : goal.returns-in_default
returns-in_default c = items_short (is_wrong_item c.args.less) (kinds_of c.args.columns.now c.args.by.now) c.args.tuple.now c.loop-at.at _ (sym c.in_default.ensures) c.loop-at.invariant

pub returns-then-is_wrong_item : goal.returns-then-is_wrong_item
returns-then-is_wrong_item c =
    items_found (is_wrong_item c.args.less) (kinds_of c.args.columns.now c.args.by.now) c.args.tuple.now c.loop-at.at c.in-Some.kind c.index-tuple-at.result _ c.loop-at-test.true (sym c.in-Some.ensures) c.index-tuple-at.is c.loop-at.invariant
    (sym c.is_wrong_item.ensures ∙ c.if-is_wrong_item.true)

pub loop-at-preserved : goal.loop-at-preserved
loop-at-preserved c =
    items_more (is_wrong_item c.args.less) (kinds_of c.args.columns.now c.args.by.now) c.args.tuple.now c.loop-at.at c.in-Some.kind c.index-tuple-at.result _ c.loop-at-test.true (sym c.in-Some.ensures) c.index-tuple-at.is c.loop-at.invariant
    (sym c.is_wrong_item.ensures ∙ c.if-is_wrong_item.false)

pub returns : goal.returns
returns c = items_end (is_wrong_item c.args.less) (kinds_of c.args.columns.now c.args.by.now) c.args.tuple.now c.loop-at.at _ c.loop-at-test.false c.loop-at.invariant
