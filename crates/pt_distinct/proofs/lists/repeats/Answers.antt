use Rattle.std.proofs.Common.{◌∙◌, ◌++◌, ap, arith, List}
use Rattle.std.specs.BTreeSet as set
use Rattle.std.proofs.lemmas.List.{take_all}
use Rattle.pt_ast.specs.declared.table.Bound.{Bound}
use Rattle.pt_ast.specs.Bounds.{tuple_cmp}
use Rattle.pt_ast.specs.Lists.{stands_among}
use Rattle.pt_distinct.proofs.Told.{tuple_seen}
use Rattle.pt_distinct.proofs.lists.repeats.Goals as goal

pub loop-tuple-preserved : goal.loop-tuple-preserved
loop-tuple-preserved c before seen =
    let so_far = c.loop-tuple.invariant before seen in
    tuple_seen before c.args.tuples.now c.loop-tuple.tuple-index c.tuple-item.result c.of.result (set.contains tuple_cmp c.loop-tuple.seen) (set.contains tuple_cmp c.insert.new.self) c.in_ok-insert.field-0
    c.loop-tuple-test.true c.tuple-item.is (c.of.ensures ∙ c.items.ensures) so_far.0 c.in_ok-insert.ensures.updates.0 c.in_ok-insert.ensures.added c.if-not-branch.false so_far.1

pub returns-clause-seen : goal.returns-clause-seen
returns-clause-seen c before seen none tuple =
    (c.loop-tuple.invariant before seen).0 tuple
    ∙ ap (λ (l : List (List Bound)). stands_among (before ++ l) tuple) (take_all c.loop-tuple.tuple-index c.args.tuples.now (omega (arith, c.loop-tuple-test.false)))
