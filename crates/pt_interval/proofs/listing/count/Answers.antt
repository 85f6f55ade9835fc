use Rattle.std.proofs.Common.{subst}
use Rattle.std.specs.Option.{option_copied}
use Rattle.std.proofs.lemmas.List.{take_all}
use Rattle.pt_interval.specs.Counting.{IsCount}
use Rattle.pt_interval.specs.Spans.{has}
use Rattle.pt_interval.proofs.Places.{count_at, from_at, to_at}
use Rattle.pt_interval.proofs.listing.count.Goals as goal

pub gap-count-requires-clause-from : goal.gap-count-requires-clause-from
gap-count-requires-clause-from g c = from_at g.met.T.Line.laws c.args.spans.now c.loop-span.span-index c.span-item.result c.requires c.loop-span-test.true c.span-item.is

pub gap-count-requires-clause-to : goal.gap-count-requires-clause-to
gap-count-requires-clause-to g c =
    to_at g.met.T.Line.laws c.args.spans.now c.loop-span.span-index c.span-item.result (option_copied c.as_ref.result) c.requires c.loop-span-test.true c.span-item.is c.as_ref.ensures.value

pub loop-span-preserved : goal.loop-span-preserved
loop-span-preserved g c =
    count_at g.met.T.Line.laws c.args.spans.now c.loop-span.span-index c.span-item.result (option_copied c.as_ref.result) c.args.limit c.loop-span.count c.gap-count.result
    c.requires c.loop-span-test.true c.span-item.is c.as_ref.ensures.value c.loop-span.invariant c.gap-count.ensures

pub returns : goal.returns
returns g c =
    subst (λ spans. IsCount g.T.Line.cmp g.T.Line.is_value (has g.T.Line.cmp spans) c.args.limit c.loop-span.count) (take_all c.loop-span.span-index c.args.spans.now c.loop-span-test.false) c.loop-span.invariant
