use Rattle.std.proofs.Common.{ap, ◌∙◌}
use Rattle.std.specs.List.{list_any}
use Rattle.pt_ast.specs.declared.tree.Cmp.TheVariants.{Eq}
use Rattle.pt_expr.specs.Truths.{compared, operand}
use Rattle.pt_interval.specs.Spans.{has}
use Rattle.pt_reach.specs.May.{is_true}
use Rattle.pt_reach.proofs.Membership.{equal_end, equal_more}
use Rattle.pt_reach.proofs.atoms.equal_to_some.Goals as goal

pub loop-item-preserved : goal.loop-item-preserved
loop-item-preserved g c = λ v value.
    equal_more g.T.Line.cmp (g.T.Scale.value v) v (operand c.args.columns.now c.args.nulls.now c.args.dates) c.items-item-items.result.now c.loop-item.item-index _ c.item-item.result c.loop-item.sets.items _ _
    c.loop-item-test.true c.item-item.is (c.in_ok-set.ensures v value ∙ ap (λ k. is_true (compared Eq (g.T.Scale.value v) k)) c.operand.ensures) c.in_ok-push.ensures.items (c.loop-item.invariant v value)

pub returns : goal.returns
returns g c = λ v value.
    c.in_ok-all.ensures v value
    ∙ ap (λ sets. list_any (λ set. has g.T.Line.cmp set v) sets) c.as_slice.ensures.value
    ∙ equal_end g.T.Line.cmp (g.T.Scale.value v) v (operand c.args.columns.now c.args.nulls.now c.args.dates) c.items-item-items.result.now c.loop-item.item-index _ c.loop-item.sets.items c.loop-item-test.false (c.loop-item.invariant v value)
