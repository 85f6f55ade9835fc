use Rattle.pt_interval.proofs.Places.{join_halves}
use Rattle.pt_interval.proofs.spans.Spans.+join_all.Goals as goal

pub returns-in_ok-all-in_default : goal.returns-in_ok-all-in_default
returns-in_ok-all-in_default g t c = λ v value.
    join_halves g.T.Line.cmp c.args.sets.now c.split_at.result.0.now c.split_at.result.1.now _ c.in_ok-front-in_default.front c.in_ok-back-in_default.back c.in_ok-all-in_default.all v
    c.split_at.ensures.front c.split_at.ensures.back (c.in_ok-all-in_default.ensures v value) (c.in_ok-front-in_default.ensures v value) (c.in_ok-back-in_default.ensures v value)
