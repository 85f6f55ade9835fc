use Rattle.std.proofs.Common.{◌-◌, ◌++◌, length, subst, ap, ◌∙◌}
use Rattle.std.proofs.lemmas.List.{take_all}
use Rattle.pt_interval.specs.Counting.{AreUpTo}
use Rattle.pt_interval.specs.Spans.{has}
use Rattle.pt_interval.specs.Walk.{walk}
use Rattle.pt_interval.proofs.Places.{from_at, list_at}
use Rattle.pt_interval.proofs.listing.values.Goals as goal

pub walk_into-requires : goal.walk_into-requires
walk_into-requires g c = from_at g.met.T.Line.laws c.args.spans.now c.loop-span.span-index c.span-item.result c.requires c.loop-span-test.true c.span-item.is

pub loop-span-preserved : goal.loop-span-preserved
loop-span-preserved g c =
    list_at g.met.T.Line.laws c.args.spans.now c.loop-span.span-index c.span-item.result c.args.limit c.loop-span.values.items c.walk_into.new.values.items
    c.requires c.loop-span-test.true c.span-item.is
    (c.in_ok-walk_into.ensures ∙ ap (λ slice. c.loop-span.values.items ++ walk g.T.Line.cmp g.T.Line.next g.T.Line.is_greatest (c.args.limit - length slice) c.span-item.result.from c.span-item.result.to) c.as_slice.ensures.value)
    c.loop-span.invariant

pub returns : goal.returns
returns g c =
    subst (λ spans. AreUpTo g.T.Line.cmp g.T.Line.is_value (has g.T.Line.cmp spans) c.args.limit c.loop-span.values.items) (take_all c.loop-span.span-index c.args.spans.now c.loop-span-test.false) c.loop-span.invariant
