use Rattle.std.proofs.Common.{Some, add-one, ap, arith, sym, ◌∙◌}
use Rattle.pt_interval.specs.Line.{is_past}
use Rattle.pt_interval.proofs.Skips.{done_up_to}
use Rattle.pt_interval.proofs.meeting.+first_past.Goals as goal

pub first_past-requires : goal.first_past-requires
first_past-requires g t c =
    λ κs lives. (
      omega arith,
      (
        lives,
        (
          c.requires.rises,
          (
            c.requires.high,
            rw add-one
                (done_up_to g.met.T.Line.laws.order g.T.Line.is_value (Some g.T.Line.least) c.args.spans.now c.middle_of-middle.result c.index-spans-middle.result c.args.value.now c.requires.rises
                (let before = c.middle_of-middle.ensures.before in let high = c.requires.high in omega (arith, before, high)) c.index-spans-middle.is
                (ap (is_past g.T.Line.cmp c.args.value.now) (sym c.as_ref.ensures.value) ∙ sym c.is_past.ensures ∙ c.if-is_past.true)),
          ),
        ),
      ),
    )
