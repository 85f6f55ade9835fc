use Rattle.std.proofs.Common.{◌-◌, ◌++◌, sym, ap, ◌∙◌}
use Rattle.pt_interval.specs.Line.{is_past}
use Rattle.pt_interval.specs.Walk.{walk}
use Rattle.pt_interval.proofs.Places.{walked, walked_last, walked_on}
use Rattle.pt_interval.proofs.listing.walk_into.Goals as goal

pub returns-then-is_past : goal.returns-then-is_past
returns-then-is_past g c =
    walked g.T.Line.cmp g.T.Line.next g.T.Line.is_greatest _ c.loop-left.values.items c.loop-left.left c.loop-left.at c.args.span.now.to c.loop-left.invariant.whole
    (sym (c.is_past.ensures ∙ ap (is_past g.T.Line.cmp c.loop-left.at) c.as_ref.ensures.value) ∙ c.if-is_past.true)

pub returns-then-is_greatest : goal.returns-then-is_greatest
returns-then-is_greatest g c =
    c.in_ok-push.ensures.items
    ∙ walked_last g.T.Line.cmp g.T.Line.next g.T.Line.is_greatest _ c.loop-left.values.items c.loop-left.left c.loop-left.at c.args.span.now.to c.loop-left.invariant.whole c.loop-left-test.true
    (sym (c.is_past.ensures ∙ ap (is_past g.T.Line.cmp c.loop-left.at) c.as_ref.ensures.value) ∙ c.if-is_past.false)
    (sym c.is_greatest.ensures ∙ c.if-is_greatest.true)

pub loop-left-preserved : goal.loop-left-preserved
loop-left-preserved g c =
    let inner = sym c.is_greatest.ensures ∙ c.if-is_greatest.false in
    record {
      whole =
          walked_on g.T.Line.cmp g.T.Line.next g.T.Line.is_greatest _ c.loop-left.values.items c.loop-left.left c.loop-left.at c.args.span.now.to c.loop-left.invariant.whole c.loop-left-test.true
          (sym (c.is_past.ensures ∙ ap (is_past g.T.Line.cmp c.loop-left.at) c.as_ref.ensures.value) ∙ c.if-is_past.false) inner
          ∙ ap (λ front. front ++ walk g.T.Line.cmp g.T.Line.next g.T.Line.is_greatest (c.loop-left.left - 1) (g.T.Line.next c.loop-left.at) c.args.span.now.to) (sym c.in_ok-push-2.ensures.items)
          ∙ ap (λ at. c.push-in-loop-left.new.self.items ++ walk g.T.Line.cmp g.T.Line.next g.T.Line.is_greatest (c.loop-left.left - 1) at c.args.span.now.to) (sym c.in_ok-next.ensures);
      value = ap g.T.Line.is_value c.in_ok-next.ensures ∙ g.met.T.Line.laws.next_value c.loop-left.at c.loop-left.invariant.value inner;
    }
