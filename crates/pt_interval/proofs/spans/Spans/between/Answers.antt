use Rattle.std.proofs.Common.{sym, ap, ◌∙◌}
use Rattle.pt_interval.specs.Line.{is_past}
use Rattle.pt_interval.specs.Spans.{has}
use Rattle.pt_interval.proofs.Rising.{none_within}
use Rattle.pt_interval.proofs.spans.Spans.between.Goals as goal

pub returns-then-is_past : goal.returns-then-is_past
returns-then-is_past g c = λ v value.
    ap (λ set. has g.T.Line.cmp set v) c.none.ensures
    ∙ sym (none_within g.met.T.Line.laws.order (record { from = c.args.from; to = c.args.to }) v (sym (c.is_past.ensures ∙ ap (is_past g.T.Line.cmp c.args.from) c.as_ref.ensures.value) ∙ c.if-is_past.true))
